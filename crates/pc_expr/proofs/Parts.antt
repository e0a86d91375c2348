-- A rule with a repetition reads as its parts do.
use Rattle.std.proofs.Common.{◌≡◌, ℕ, zero, suc, ◌-◌, ◌<◌, Bool, true, false, List, [], ◌∷◌, ◌++◌, Option, Some, None, Result, Ok, Err, refl, sym, ap, ◌∙◌, if◌then◌else◌, rules}
use Rattle.pc_tree.specs.Tree as t
use Rattle.pc_tree.specs.{View.seq_view, declared.expression.Expr.the_lemmas, declared.expression.Seq.Seq, declared.kinds.Op.Op, Parts.{exprs_of, arms_of, seq_span}}
use Rattle.pc_token.specs.{declared.kinds.Token.Token, Words.{is_sign, is_word}, declared.words.Word.Word}
use Rattle.pc_token.specs.declared.words.Word.TheVariants as w
use Rattle.pc_token.specs.declared.signs.Sign.TheVariants as s
use Rattle.pc_grammar.specs.{Spells.{span_from_to, op_of}, Reading.{ReadingOutcome, Parser, Inner, and_then, pure, ◌>>=◌, ◌>>◌, peek, deeper, take_if, all, next_item, after, at, is_op, begins_suffix, item, expr_in, seq_of, seq_in, seq_with, arm, other, if_, term, infix_of, infix_by, infix_in, infix_with, atom, suffix, postfix, chain_of, arg_list, assigns, becomes, expr_by, expr_with, too_deep, inner, maybe_cap, while_, recover_}}
use Rattle.pc_grammar.proofs.Levels.{no_deeper, one_deeper, inner_seq}
use Rattle.pc_base.specs.declared.span.Span.{Span}
use Rattle.pc_expr.specs.{Onto.{onto, seq_parts, more_items, some_args, arg_list_by, arg_list_parts, chain_terms, chain_by, infix_parts, postfix_parts, arms, first_arm, if_parts}, Gives.{Stops, GivesReading}, declared.stop.ParseStop.ParseStop}
use Rattle.pc_expr.specs.declared.stop.ParseStop.TheVariants as stop

-- the same is read if the same is read first, and then the same after whatever that is
pub same_behind : {A B : Type 0} (o : ReadingOutcome A) (f g : A → Parser B) → ((x : A) (rest : List Token) → f x rest ≡ g x rest) → and_then o f ≡ and_then o g
same_behind (Ok r) f g same = same r.0 r.1
same_behind (Err e) f g same = refl

-- what stops first stops the whole
pub stops_first : {A B : Type 0} (tokens : List Token) (e : ParseStop) (o : ReadingOutcome A) (f : A → Parser B) → Stops tokens e o → Stops tokens e (and_then o f)
stops_first tokens (stop.Unexpected n) o f s = (ap (λ r. and_then r f) s.0, s.1)
stops_first tokens (stop.TooDeep n) o f s = (ap (λ r. and_then r f) s.0, s.1)
stops_first tokens stop.Memory o f s = tt

pub grouped : {A B C : Type 0} (o : ReadingOutcome A) (f : A → Parser B) (g : B → Parser C) → and_then o (λ x rest. and_then (f x rest) g) ≡ and_then (and_then o f) g
grouped (Ok r) f g = refl
grouped (Err e) f g = refl

same_deeper : {A : Type 0} (n : ℕ) (p q : Parser A) (ts : List Token) → p ts ≡ q ts → deeper n p ts ≡ deeper n q ts
unfolding deeper
same_deeper zero p q ts same = refl
same_deeper (suc n) p q ts same = same

made_after : {A B : Type 0} (xs : List A) (f : List A → Parser B) (o : ReadingOutcome (List A)) → and_then o (λ more. f (xs ++ more)) ≡ and_then (and_then o (λ more. pure (xs ++ more))) f
made_after xs f (Ok r) = refl
made_after xs f (Err e) = refl

-- first what is read is appended to a list, then the result is made of it
pub onto_first : {A B : Type 0} (next : List Token → Option (List Token)) (p : Parser A) (xs : List A) (f : List A → Parser B) (ts : List Token)
    → and_then (all next p ts) (λ more. f (xs ++ more)) ≡ and_then (onto next p xs ts) f
unfolding onto
onto_first next p xs f ts = made_after xs f (all next p ts)

seq_by_parts : (n : ℕ) (i : Inner) (ts : List Token) → seq_in n i ts ≡ seq_parts n i ts
unfolding seq_in seq_with seq_parts
seq_by_parts n i ts = same_behind (item (expr_in n i) ts) _ _ (λ x rest. onto_first next_item (item (expr_in n i)) (x ∷ []) (λ is. pure (seq_of is)) rest)

-- the items are read, and then the sequence is made of them
pub seq_by_items : (n : ℕ) (i : Inner) (ts : List Token) → seq_in n i ts ≡ and_then (and_then (item (expr_in n i) ts) (λ x. more_items n i (x ∷ []))) (λ is. pure (seq_of is))
unfolding seq_parts
seq_by_items n i ts = seq_by_parts n i ts ∙ grouped (item (expr_in n i) ts) (λ x. more_items n i (x ∷ [])) (λ is. pure (seq_of is))

args_some : (e : Parser t.Expr) (ts : List Token) → (e >>= λ first. all (after (is_sign s.Comma)) e >>= λ more. pure (exprs_of (first ∷ more))) ts ≡ (some_args e >>= λ es. pure (exprs_of es)) ts
unfolding some_args
args_some e ts =
    same_behind (e ts) _ _ (λ x rest. onto_first (after (is_sign s.Comma)) e (x ∷ []) (λ es. pure (exprs_of es)) rest)
    ∙ grouped (e ts) (λ x. onto (after (is_sign s.Comma)) e (x ∷ [])) (λ es. pure (exprs_of es))

args_at : (e : Parser t.Expr) (b : Bool) (ts : List Token)
    → (if b then pure t.no_exprs else (e >>= λ first. all (after (is_sign s.Comma)) e >>= λ more. pure (exprs_of (first ∷ more)))) ts ≡ (if b then pure t.no_exprs else (some_args e >>= λ es. pure (exprs_of es))) ts
args_at e true ts = refl
args_at e false ts = args_some e ts

pub args_by_parts : (e : Parser t.Expr) (ts : List Token) → arg_list e ts ≡ arg_list_parts e ts
unfolding arg_list arg_list_parts
args_by_parts e ts = same_behind (peek ts) _ _ (λ x rest. args_at e (is_sign s.CloseParen x) rest)

terms_by : (n : ℕ) (i : Inner) (e : t.Expr) (o : Option Op) (ts : List Token) → infix_by (term n i) e o ts ≡ chain_by n i e o ts
unfolding chain_terms
terms_by n i e None ts = refl
terms_by n i e (Some o) ts = onto_first (after (is_op o)) (term n i) (e ∷ []) (λ es. pure (infix_of o es)) ts

pub infix_by_parts : (n : ℕ) (i : Inner) (ts : List Token) → infix_in n i ts ≡ infix_parts n i ts
unfolding infix_in infix_with infix_parts
infix_by_parts n i ts = same_behind (term n i ts) _ _ (λ e rest. same_behind (peek rest) _ _ (λ x more. terms_by n i e (op_of x) more))

pub postfix_by_parts : (n : ℕ) (i : Inner) (ts : List Token) → postfix n i ts ≡ postfix_parts n i ts
unfolding postfix postfix_parts
postfix_by_parts n i ts = same_behind (atom n i.seq ts) _ _ (λ e rest. onto_first (at begins_suffix) (suffix n i.expr) [] (λ ss. pure (chain_of e ss)) rest)

behind_arms : Parser t.Seq → List t.Arm → Parser t.Expr
behind_arms body as' = other body >>= λ o. take_if (is_word w.EndWord) >>= λ close. pure (t.if_ (arms_of as') o (span_from_to (first_arm as') close.span))

arms_first : (body : Parser t.Seq) (ts : List Token)
    → (arm w.IfWord body >>= λ a. all (at (is_word w.ElseifWord)) (arm w.ElseifWord body) >>= λ more. behind_arms body (a ∷ more)) ts ≡ (arms body >>= behind_arms body) ts
unfolding arms
arms_first body ts =
    same_behind (arm w.IfWord body ts) _ _ (λ a rest. onto_first (at (is_word w.ElseifWord)) (arm w.ElseifWord body) (a ∷ []) (behind_arms body) rest)
    ∙ grouped (arm w.IfWord body ts) (λ a. onto (at (is_word w.ElseifWord)) (arm w.ElseifWord body) (a ∷ [])) (behind_arms body)

pub if_by_parts : (n : ℕ) (body : Parser t.Seq) (ts : List Token) → if_ n body ts ≡ if_parts n body ts
unfolding if_ if_parts behind_arms
if_by_parts n body ts = same_deeper n _ _ ts (arms_first body ts)

taken_first : {B : Type 0} (o : ReadingOutcome Token) (b : t.Seq) (f : t.Seq → Span → Parser B) → and_then o (λ close. f b close.span) ≡ and_then {A = t.Seq × Span} (and_then o (λ close. pure (b, close.span))) (λ p. f p.0 p.1)
taken_first (Ok r) b f = refl
taken_first (Err e) b f = refl

-- a sequence and a word after it
abbrev closed_by : Parser t.Seq → Word → Parser (t.Seq × Span)
closed_by body word = body >>= λ b. take_if (is_word word) >>= λ close. pure (b, close.span)

closed_first : {B : Type 0} (o : ReadingOutcome t.Seq) (word : Word) (f : t.Seq → Span → Parser B)
    → and_then o (λ b. take_if (is_word word) >>= λ close. f b close.span) ≡ and_then {A = t.Seq × Span} (and_then o (λ b. take_if (is_word word) >>= λ close. pure (b, close.span))) (λ p. f p.0 p.1)
closed_first (Ok r) word f = taken_first (take_if (is_word word) r.1) r.0 f
closed_first (Err e) word f = refl

pub arm_reads : (word : Word) (body : Parser t.Seq) (ts : List Token)
    → arm word body ts ≡ and_then (take_if (is_word word) ts) (λ opener rest. and_then (closed_by body w.ThenWord rest) (λ c. body >>= λ b. pure (t.arm_of c.0 b (span_from_to opener.span (seq_span b)))))
unfolding arm
arm_reads word body ts = same_behind (take_if (is_word word) ts) _ _ (λ opener rest.
    same_behind (body rest) _ _ (λ c more. sym (grouped (take_if (is_word w.ThenWord) more) (λ _. body) (λ b. pure (t.arm_of c b (span_from_to opener.span (seq_span b))))))
    ∙ closed_first (body rest) w.ThenWord (λ c _. body >>= λ b. pure (t.arm_of c b (span_from_to opener.span (seq_span b)))))

pub seq_spans : (b : Seq) → seq_span (seq_view b) ≡ b.span
seq_spans b = search (rules, the_lemmas)

-- an arm made of parts that are read
pub arm_made : (word : Word) (body : Parser t.Seq) (ts us vs rest : List Token) (x : Token) (c : t.Seq × Span) (b : t.Seq)
    → take_if (is_word word) ts ≡ Ok (x, us) → closed_by body w.ThenWord us ≡ Ok (c, vs) → body vs ≡ Ok (b, rest) → arm word body ts ≡ Ok (t.arm_of c.0 b (span_from_to x.span (seq_span b)), rest)
arm_made word body ts us vs rest x c b opened closed read =
    arm_reads word body ts
    ∙ ap (λ o. and_then o (λ opener more. and_then (closed_by body w.ThenWord more) (λ d. body >>= λ e. pure (t.arm_of d.0 e (span_from_to opener.span (seq_span e)))))) opened
    ∙ ap (λ o. and_then o (λ d. body >>= λ e. pure (t.arm_of d.0 e (span_from_to x.span (seq_span e))))) closed
    ∙ ap (λ o. and_then o (λ e. pure (t.arm_of c.0 e (span_from_to x.span (seq_span e))))) read

while_first : (body : Parser t.Seq) (opener : Token) (rest : List Token)
    → and_then (body rest) (λ c. take_if (is_word w.DoWord) >> body >>= λ b. take_if (is_word w.EndWord) >>= λ close. pure (t.while_ c b (span_from_to opener.span close.span)))
    ≡ and_then (closed_by body w.DoWord rest) (λ c. closed_by body w.EndWord >>= λ p. pure (t.while_ c.0 p.0 (span_from_to opener.span p.1)))
while_first body opener rest =
    same_behind (body rest) _ _ (λ c more. sym (grouped (take_if (is_word w.DoWord) more) (λ _. body) (λ b. take_if (is_word w.EndWord) >>= λ close. pure (t.while_ c b (span_from_to opener.span close.span)))))
    ∙ closed_first (body rest) w.DoWord
    (λ c _. body >>= λ b. take_if (is_word w.EndWord) >>= λ close. pure (t.while_ c b (span_from_to opener.span close.span)))
    ∙ same_behind (closed_by body w.DoWord rest) _ _
    (λ c more. closed_first (body more) w.EndWord (λ b sp. pure (t.while_ c.0 b (span_from_to opener.span sp))))

pub while_deep : (n : ℕ) (body : Parser t.Seq) (ts : List Token) → n ≡ 0 → while_ n body ts ≡ Err (too_deep, ts)
unfolding while_
while_deep n body ts none = no_deeper n _ ts none

pub while_reads : (n : ℕ) (ts : List Token) → 0 < n
    → while_ n (inner n).seq ts ≡ and_then (take_if (is_word w.WhileWord) ts) (λ opener rest. and_then (closed_by (seq_in (n - 1) (inner (n - 1))) w.DoWord rest) (λ c. closed_by (seq_in (n - 1) (inner (n - 1))) w.EndWord >>= λ p. pure (t.while_ c.0 p.0 (span_from_to opener.span p.1))))
unfolding while_
while_reads n ts some =
    let body = seq_in (n - 1) (inner (n - 1)) in
    ap (λ b. while_ n b ts) (inner_seq n some)
    ∙ one_deeper n (take_if (is_word w.WhileWord) >>= λ opener. body >>= λ c. take_if (is_word w.DoWord) >> body >>= λ b. take_if (is_word w.EndWord) >>= λ close. pure (t.while_ c b (span_from_to opener.span close.span))) ts some
    ∙ same_behind (take_if (is_word w.WhileWord) ts) _ _ (λ opener rest. while_first body opener rest)

pub recover_deep : (n : ℕ) (body : Parser t.Seq) (ts : List Token) → n ≡ 0 → recover_ n body ts ≡ Err (too_deep, ts)
unfolding recover_
recover_deep n body ts none = no_deeper n _ ts none

pub recover_reads : (n : ℕ) (ts : List Token) → 0 < n
    → recover_ n (inner n).seq ts ≡ and_then (take_if (is_word w.RecoverWord) ts) (λ opener rest. and_then (maybe_cap rest) (λ k. closed_by (seq_in (n - 1) (inner (n - 1))) w.EndWord >>= λ p. pure (t.recover k p.0 (span_from_to opener.span p.1))))
unfolding recover_
recover_reads n ts some =
    let body = seq_in (n - 1) (inner (n - 1)) in
    ap (λ b. recover_ n b ts) (inner_seq n some)
    ∙ one_deeper n (take_if (is_word w.RecoverWord) >>= λ opener. maybe_cap >>= λ k. body >>= λ b. take_if (is_word w.EndWord) >>= λ close. pure (t.recover k b (span_from_to opener.span close.span))) ts some
    ∙ same_behind (take_if (is_word w.RecoverWord) ts) _ _ (λ opener rest. same_behind (maybe_cap rest) _ _ (λ k more. closed_first (body more) w.EndWord (λ b sp. pure (t.recover k b (span_from_to opener.span sp)))))

-- what is assigned is read, and then the assignment is made of it
becomes_by_parts : (n : ℕ) (inner : Parser t.Expr) (e : t.Expr) (ts : List Token)
    → becomes n inner e ts
    ≡ and_then (deeper n (take_if (is_sign s.Assign) >> inner) ts) (λ r. pure (t.assign e r (span_from_to (t.span_of e) (t.span_of r))))
unfolding becomes deeper
becomes_by_parts zero inner e ts = refl
becomes_by_parts (suc n) inner e ts = refl

-- if a place is read and an "=" follows
pub reads_becomes : (n : ℕ) (i : Inner) (e : t.Expr) (x : Token) (ts rest more : List Token) → infix_in n i ts ≡ Ok (e, rest) → rest ≡ x ∷ more → assigns x e ≡ true
    → expr_in n i ts ≡ and_then (deeper n (λ us. and_then (take_if (is_sign s.Assign) us) (λ _. i.expr)) rest) (λ r. pure (t.assign e r (span_from_to (t.span_of e) (t.span_of r))))
unfolding expr_in expr_with peek
reads_becomes n i e x ts rest more read here follows =
    let by = λ (b : Bool). (if b then becomes n i.expr e else pure e) in
    ap (λ o. and_then o (λ y. peek >>= λ z. expr_by n i.expr y z)) read
    ∙ ap (λ l. and_then (peek l) (λ z. expr_by n i.expr e z)) here
    ∙ ap (λ b. by b (x ∷ more)) follows
    ∙ ap (becomes n i.expr e) (sym here)
    ∙ becomes_by_parts n i.expr e rest

-- what is made of a list, given the list
pub gives_made : {X Y Z : Type 0} (view : X → Y) (make : Y → Z) (tokens : List Token) (r : Result (X × ℕ) ParseStop) (read : ReadingOutcome Y)
    → GivesReading view tokens r read → GivesReading (λ x. make (view x)) tokens r (and_then read (λ y. pure (make y)))
gives_made view make tokens (Ok r) read gives = ap (λ o. and_then o (λ y. pure (make y))) gives
gives_made view make tokens (Err (stop.Unexpected p)) read gives = (ap (λ o. and_then o (λ y. pure (make y))) gives.0, gives.1)
gives_made view make tokens (Err (stop.TooDeep p)) read gives = (ap (λ o. and_then o (λ y. pure (make y))) gives.0, gives.1)
gives_made view make tokens (Err stop.Memory) read gives = tt

-- if there is no ")", there are arguments
pub not_closed : (e : Parser t.Expr) (x : Token) (ts rest : List Token) → ts ≡ x ∷ rest → is_sign s.CloseParen x ≡ false → arg_list_parts e ts ≡ and_then (some_args e ts) (λ es. pure (exprs_of es))
unfolding arg_list_parts peek
not_closed e x ts rest here other =
    let p = λ (b : Bool). (if b then pure t.no_exprs else (some_args e >>= λ es. pure (exprs_of es))) in
    ap (λ l. and_then (peek l) (arg_list_by e)) here ∙ ap (λ b. p b (x ∷ rest)) other ∙ ap (λ l. and_then (some_args e l) (λ es. pure (exprs_of es))) (sym here)
