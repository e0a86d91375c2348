-- The result of reading is right if it is complete, has one token of lookahead, is explained, and agrees with reading
-- with more levels.
use Rattle.std.proofs.Common.{◌≡◌, ℕ, ◌≤◌, max, Bool, true, false, List, [], ◌∷◌, ◌++◌, length, Ok, Err, refl, sym, ap, ◌∙◌, subst, arith, inl, inr, append_assoc, length-append}
use Rattle.pc_tree.specs.Tree as t
use Rattle.pc_tree.specs.Depths.{depth, seq_depth}
use Rattle.pc_token.specs.declared.kinds.Token.{Token}
use Rattle.pc_grammar.specs.{Spells.{Spells, SpellsInfix, SpellsSeq}, FileAnswers.{Begins, IsTooDeep}, Parsing.{SpellsNoTree, IsOne}, Reading.{ReadingFault, unexpected, too_deep, ReadingOutcome, Parser, seq, expr, infix_, inner}, Laws.{ReadsRight, RefusesRight, DeepRight, SeqIsOne, ExprIsOne, SeqReadsRight, SeqRefusesRight, SeqDeepRight, ExprReadsRight, ExprRefusesRight, ExprDeepRight, InfixReadsRight, InfixRefusesRight, InfixDeepRight}}
use Rattle.pc_grammar.proofs.{Follow.{last_stops, to_expr, to_infix}, Complete.{complete, complete_seq, as_expr, as_infix}, Local.{rest_of, with_rest, Local, cut}, LocalRules.{good_inner, good_seq, good_expr, good_infix}, Agree.{Agrees, inner_agrees, seq_agrees, expr_agrees, infix_agrees}, Steady.{the_end, Plain, Steady}, SteadyRules.{fine_inner, fine_seq, fine_expr, fine_infix}, Explained.{Fits, Explained, explained_weaker}, ExplainedParts.InfixIn, ExplainedExprs.{explained_expr, explained_infix}, ExplainedSeqs.{explained_inner, explained_seq}}

pub rest_with : {A : Type 0} (ts : List Token) (o : ReadingOutcome A) → rest_of (with_rest ts o) ≡ ts
rest_with ts (Ok r) = refl
rest_with ts (Err e) = refl

pub ok_apart : {A : Type 0} (b : A) (rest r : List Token) → ◌≡◌ {A = ReadingOutcome A} (Ok (b, rest)) (Err (too_deep, r)) → ⊥
ok_apart b rest r e = cc

pub fault_apart : {A : Type 0} (rest r : List Token) → ◌≡◌ {A = ReadingOutcome A} (Err (unexpected, rest)) (Err (too_deep, r)) → ⊥
fault_apart rest r e = let f : ◌≡◌ {A = ReadingFault × List Token} (unexpected, rest) (too_deep, r) = cc in let g : unexpected ≡ too_deep = ap (λ p. p.0) f in cc

module _ {A : Type 0} (spells : A → List Token → Type 0) (depth_of : A → ℕ) where
  abbrev pub In : Bool → ℕ → A → List Token → Type 0
  In u n tree ts = spells tree ts × Fits u n (depth_of tree)

  -- a level too many, if no tree within the levels continues with its token
  pub deep_by : (n : ℕ) (ts rest : List Token) → Explained true (In true n) ts (Err (too_deep, rest)) → Explained false (In false n) ts (Err (too_deep, rest))
      → ((pre : List Token) (x : Token) (more others : List Token) (b : A) → ts ≡ pre ++ x ∷ more → rest ≡ x ∷ more → spells b (pre ++ x ∷ others) → depth_of b ≤ n → ⊥) → IsTooDeep spells depth_of n ts rest
  deep_by n ts [] h g none = absurd h.5
  deep_by n ts (x ∷ more) h g none =
      let same : g.0 ≡ h.0 = cut g.0 h.0 (x ∷ more) (sym g.3 ∙ h.3) in
      let P : List Token → Type 0 = λ l. spells g.2 (l ++ x ∷ g.1) in
      let spelled : spells g.2 (h.0 ++ x ∷ g.1) = subst P same g.4.0 in
      let Q : List Token → Type 0 = λ l. spells g.2 l in
      let begun : spells g.2 ((h.0 ++ x ∷ []) ++ g.1) = subst Q (sym (append_assoc h.0 (x ∷ []) g.1)) spelled in
      (h.0, more, x, refl, h.3, (h.1, h.2, h.4.0, h.4.1), (g.1, g.2, begun), λ b. let R : List Token → Type 0 = λ l. spells b.1 l in none h.0 x more b.0 b.1 h.3 refl (subst R (append_assoc h.0 (x ∷ []) b.0) b.2) b.3)

module _ {A : Type 0} (spells : A → List Token → Type 0) (depth_of : A → ℕ) (reading : ℕ → Parser A) where
  module _ (whole : (tree : A) (n : ℕ) (ts : List Token) → spells tree ts → depth_of tree ≤ n → reading n (ts ++ the_end ∷ []) ≡ Ok (tree, the_end ∷ []))
      (ahead : (n : ℕ) → Local (reading n)) (steadies : (n : ℕ) → Steady (reading n)) (agrees : (n m : ℕ) → n ≤ m → Agrees (reading n) (reading m)) (explained : (u : Bool) (n : ℕ) (ts : List Token) → Explained u (In spells depth_of u n) ts (reading n ts)) where
    not_within : (n : ℕ) (pre : List Token) (x : Token) (more others : List Token) (b : A) → rest_of (reading n (pre ++ x ∷ more)) ≡ x ∷ more → spells b (pre ++ x ∷ others) → depth_of b ≤ n → ⊥
    not_within n pre x more others b ends spelled fits =
        let tail = others ++ the_end ∷ [] in
        let read : reading n (pre ++ x ∷ tail) ≡ Ok (b, the_end ∷ []) = ap (reading n) (sym (append_assoc pre (x ∷ others) (the_end ∷ []))) ∙ whole b n (pre ++ x ∷ others) spelled fits in
        let here = (ahead n).local pre x more tail ends in
        let lists : the_end ∷ [] ≡ x ∷ tail = sym (ap rest_of read) ∙ ap rest_of here ∙ rest_with (x ∷ tail) (reading n (pre ++ x ∷ more)) in
        omega (arith, ap length lists, length-append others (the_end ∷ []))

    -- with as many levels as the tree has
    nothing_begins : (n : ℕ) (pre : List Token) (x : Token) (more : List Token) (o : ReadingOutcome A) → reading n (pre ++ x ∷ more) ≡ o → ((r : List Token) → o ≡ Err (too_deep, r) → ⊥) → rest_of o ≡ x ∷ more → Begins spells (pre ++ x ∷ []) → ⊥
    nothing_begins n pre x more o e apart ends begins =
        let m = max n (depth_of begins.1) in
        let spelled : spells begins.1 (pre ++ x ∷ begins.0) = subst (λ l. spells begins.1 l) (append_assoc pre (x ∷ []) begins.0) begins.2 in
        elim (agrees n m (omega arith) (pre ++ x ∷ more)) [
          | inl f ↦ not_within m pre x more begins.0 begins.1 (ap rest_of (sym f ∙ e) ∙ ends) spelled (omega arith)
          | inr f ↦ apart f.0 (sym e ∙ f.1)
        ]

    pub reads_right : ReadsRight spells depth_of reading
    reads_right n ts rest tree e =
        let h = subst (λ o. Explained true (In spells depth_of true n) ts o) e (explained true n ts) in
        (h.0, h.1, h.2.0, h.2.1, λ x more eq begins. nothing_begins n h.0 x more _ (ap (reading n) (ap (λ l. h.0 ++ l) (sym eq) ∙ sym h.1) ∙ e) (ok_apart tree rest) eq begins)

    -- what is refused at a token would be refused at the end as well
    none_by : (m : ℕ) (pre : List Token) (x : Token) (more : List Token) (b : A) → reading m (pre ++ x ∷ more) ≡ Err (unexpected, x ∷ more) → spells b pre → depth_of b ≤ m → ⊥
    none_by m pre x more b e spelled fits =
        let P : ReadingOutcome A → Type 0 = λ o. Plain o in
        let read = whole b m pre spelled fits in
        let here = (steadies m).steady pre x more [] (ap rest_of e) (subst P (sym e) tt) ∙ ap (with_rest (the_end ∷ [])) e in
        let same : ◌≡◌ {A = ReadingOutcome A} (Ok (b, the_end ∷ [])) (Err (unexpected, the_end ∷ [])) = sym read ∙ here in
        cc

    is_none : (n : ℕ) (pre : List Token) (x : Token) (more : List Token) → reading n (pre ++ x ∷ more) ≡ Err (unexpected, x ∷ more) → SpellsNoTree spells pre
    is_none n pre x more e b spelled =
        let m = max n (depth_of b) in
        elim (agrees n m (omega arith) (pre ++ x ∷ more)) [
          | inl f ↦ none_by m pre x more b (sym f ∙ e) spelled (omega arith)
          | inr f ↦ fault_apart (x ∷ more) f.0 (sym e ∙ f.1)
        ]

    pub refuses_right : RefusesRight spells depth_of reading
    refuses_right n ts x rest e =
        let h = subst (λ o. Explained true (In spells depth_of true n) ts o) e (explained true n ts) in
        let read : reading n (h.0 ++ x ∷ rest) ≡ Err (unexpected, x ∷ rest) = ap (reading n) (sym h.3) ∙ e in
        (h.0, h.3, (h.1, h.2, h.4.0, h.4.1), is_none n h.0 x rest read, λ y more eq begins. nothing_begins n h.0 y more _ (ap (reading n) (ap (λ l. h.0 ++ l) (sym eq) ∙ sym h.3) ∙ e) (fault_apart (x ∷ rest)) eq begins)

    pub deep_right : DeepRight spells depth_of reading
    deep_right n ts rest e =
        deep_by spells depth_of n ts rest (subst (λ o. Explained true (In spells depth_of true n) ts o) e (explained true n ts)) (subst (λ o. Explained false (In spells depth_of false n) ts o) e (explained false n ts))
        (λ pre x more others b cuts ends spelled fits. not_within n pre x more others b (ap rest_of (ap (reading n) (sym cuts) ∙ e) ∙ ends) spelled fits)

    pub is_one : IsOne spells
    is_one ts b c one two =
        let n = max (depth_of b) (depth_of c) in
        let e = sym (whole b n ts one (omega arith)) ∙ whole c n ts two (omega arith) in
        let f : ◌≡◌ {A = A × List Token} (b, the_end ∷ []) (c, the_end ∷ []) = cc in
        ap (λ p. p.0) f

-- ---- the three readings

seq_whole : (b : t.Seq) (n : ℕ) (ts : List Token) → SpellsSeq b ts → seq_depth b ≤ n → seq n (ts ++ the_end ∷ []) ≡ Ok (b, the_end ∷ [])
seq_whole b n ts h d = complete_seq b n ts the_end [] h d (last_stops the_end refl)

expr_whole : (e : t.Expr) (n : ℕ) (ts : List Token) → Spells e ts → depth e ≤ n → expr n (ts ++ the_end ∷ []) ≡ Ok (e, the_end ∷ [])
expr_whole e n ts h d = as_expr n (ts ++ the_end ∷ []) the_end [] e (to_expr the_end (last_stops the_end refl)) (complete e n ts the_end [] h d)

infix_whole : (e : t.Expr) (n : ℕ) (ts : List Token) → SpellsInfix e ts → depth e ≤ n → infix_ n (ts ++ the_end ∷ []) ≡ Ok (e, the_end ∷ [])
infix_whole e n ts h d = as_infix n (ts ++ the_end ∷ []) the_end [] e h.0 (to_infix the_end (to_expr the_end (last_stops the_end refl))) (complete e n ts the_end [] h.1 d)

seq_ahead : (n : ℕ) → Local (seq n)
seq_ahead n = (good_seq n (inner n) (good_inner n)).local

expr_ahead : (n : ℕ) → Local (expr n)
expr_ahead n = (good_expr n (inner n) (good_inner n)).local

infix_ahead : (n : ℕ) → Local (infix_ n)
infix_ahead n = (good_infix n (inner n) (good_inner n)).local

seq_steady : (n : ℕ) → Steady (seq n)
seq_steady n = (fine_seq n (inner n) (fine_inner n) (good_inner n)).steady

expr_steady : (n : ℕ) → Steady (expr n)
expr_steady n = (fine_expr n (inner n) (fine_inner n) (good_inner n)).steady

infix_steady : (n : ℕ) → Steady (infix_ n)
infix_steady n = (fine_infix n (inner n) (fine_inner n) (good_inner n)).steady

seqs_agree : (n m : ℕ) → n ≤ m → Agrees (seq n) (seq m)
seqs_agree n m le = seq_agrees n m le (inner n) (inner m) (inner_agrees n m le)

exprs_agree : (n m : ℕ) → n ≤ m → Agrees (expr n) (expr m)
exprs_agree n m le = expr_agrees n m le (inner n) (inner m) (inner_agrees n m le)

infixes_agree : (n m : ℕ) → n ≤ m → Agrees (infix_ n) (infix_ m)
infixes_agree n m le = infix_agrees n m le (inner n) (inner m) (inner_agrees n m le)

seqs_explained : (u : Bool) (n : ℕ) (ts : List Token) → Explained u (In SpellsSeq seq_depth u n) ts (seq n ts)
seqs_explained u n ts = explained_seq u n (inner n) (explained_inner u n) ts

exprs_explained : (u : Bool) (n : ℕ) (ts : List Token) → Explained u (In Spells depth u n) ts (expr n ts)
exprs_explained u n ts = explained_expr u n (inner n) (explained_inner u n) ts

infixes_explained : (u : Bool) (n : ℕ) (ts : List Token) → Explained u (In SpellsInfix depth u n) ts (infix_ n ts)
infixes_explained u n ts = explained_weaker u (InfixIn u n) (In SpellsInfix depth u n) ts (infix_ n ts) (λ e a h. ((h.0, h.1), h.2)) (explained_infix u n (inner n) (explained_inner u n) ts)

pub seq_reads : SeqReadsRight
seq_reads = reads_right SpellsSeq seq_depth seq seq_whole seq_ahead seq_steady seqs_agree seqs_explained

pub seq_refuses : SeqRefusesRight
seq_refuses = refuses_right SpellsSeq seq_depth seq seq_whole seq_ahead seq_steady seqs_agree seqs_explained

pub seq_deep : SeqDeepRight
seq_deep = deep_right SpellsSeq seq_depth seq seq_whole seq_ahead seq_steady seqs_agree seqs_explained

pub seq_one : SeqIsOne
seq_one = is_one SpellsSeq seq_depth seq seq_whole seq_ahead seq_steady seqs_agree seqs_explained

pub expr_reads : ExprReadsRight
expr_reads = reads_right Spells depth expr expr_whole expr_ahead expr_steady exprs_agree exprs_explained

pub expr_refuses : ExprRefusesRight
expr_refuses = refuses_right Spells depth expr expr_whole expr_ahead expr_steady exprs_agree exprs_explained

pub expr_deep : ExprDeepRight
expr_deep = deep_right Spells depth expr expr_whole expr_ahead expr_steady exprs_agree exprs_explained

pub expr_one : ExprIsOne
expr_one = is_one Spells depth expr expr_whole expr_ahead expr_steady exprs_agree exprs_explained

pub infix_reads : InfixReadsRight
infix_reads = reads_right SpellsInfix depth infix_ infix_whole infix_ahead infix_steady infixes_agree infixes_explained

pub infix_refuses : InfixRefusesRight
infix_refuses = refuses_right SpellsInfix depth infix_ infix_whole infix_ahead infix_steady infixes_agree infixes_explained

pub infix_deep : InfixDeepRight
infix_deep = deep_right SpellsInfix depth infix_ infix_whole infix_ahead infix_steady infixes_agree infixes_explained
