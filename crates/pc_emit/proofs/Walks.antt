-- Laws of the walk's loops.
use Rattle.std.proofs.{Common.{◌≡◌, rules, ℕ, zero, suc, ◌+◌, ◌<◌, ◌≤◌, drop, take, map, length, Bool, true, false, Option, List, [], ◌∷◌, ◌++◌, Some, None, refl, ap, ◌∙◌, sym, Result, Ok, Err, arith}, lemmas.Option.{same_Some, none-some, slice_get_read, slice_get-map}, lemmas.List.{length-append, length-take, take-append-le}, lemmas.Bool.true≢false}
use Rattle.std.specs.{Prelude.{◌-◌, slice_get, slice_index_or, option_map}, Result.OnOk}
use Rattle.pc_base.proofs.Lasts.{ends_nowhere, ends_with}
use Rattle.pc_base.specs.declared.span.Span.{Span}
use Rattle.pc_core.specs.{declared.nodes.Node.Node, declared.nodes.NodeKind.NodeKind}
use Rattle.pc_core.specs.declared.nodes.NodeKind.TheVariants as node
use Rattle.pc_tree.specs.{declared.kinds.Op.Op, declared.written_names.Name.Name, View.{expr_view, exprs_view, arm_view, arms_view, seq_view, item_view, items_view}, declared.expression.Expr.{Expr, the_lemmas}, declared.expression.Arm.Arm, declared.expression.Item.Item, declared.expression.Seq.Seq}
use Rattle.pc_tree.specs.Tree as t
use Rattle.pc_body_spec.specs.{Bodies.{Rose, Roses, rose, more, no_roses, two, three, and_last, expr_of, roses_of_exprs, assign_of, chain_of, named_of, write_name, read_field, call_named, apply, Start, chain_start, with_value, write, operands_of, operation, joined_span, or_added_none, sequence, if_of, Context, Scope, Meaning, local, field, method, nothing, resolve, scope_after, number_of_text}, Fold.{Numbered, and_then, put, puts, push}}
use Rattle.pc_emit.specs.{declared.stop.EmitStop.EmitStop, declared.waiting.Link.Link, Giving.GivesNodes, Closing.{TakesLast, closing, arm_after, arm_closes, none_closes, seq_closes, name_closes, names_none, is_missing, written_end, written_kind, begun_by, OpensInnerPart, OpensChain, OpensOne}}
use Rattle.pc_emit.specs.declared.stop.EmitStop.TheVariants as stop

pub on_ok : {A P : Type 0} (r : Result A EmitStop) → P → OnOk r P
on_ok (Ok a) h = h
on_ok (Err e) h = tt

-- The children so far have their nodes.
abbrev pub Going : ℕ → Numbered (List ℕ) → Roses → List ℕ → List Node → Type 0
Going m whole rest tops ns = whole ≡ and_then (puts m rest ns) (λ more. λ ns. Some (tops ++ more, ns))

-- The left part so far has its nodes.
pub record Left (m : ℕ) (whole : Numbered ℕ) (all : Rose → Rose) (n : ℕ) (begin ns : List Node) : Type 0 where
  pub left : Rose
  pub there : put m left begin ≡ Some (n, ns)
  pub same : whole ≡ put m (all left) begin

pub assoc : {A B C : Type 0} (o : Numbered A) (f : A → List Node → Numbered B) (g : B → List Node → Numbered C) → and_then (and_then o f) g ≡ and_then o (λ a. λ ns. and_then (f a ns) g)
assoc None f g = refl
assoc (Some r) f g = refl

pub just : {A : Type 0} (o : Numbered A) → o ≡ and_then o (λ a. λ ns. Some (a, ns))
just None = refl
just (Some r) = refl

-- The node that was added last is completed first.
pub closing_last : {P : Type 0} (step : P → ℕ → List Node → Numbered ℕ) (ps : List P) (p : P) (n : ℕ) (ns : List Node) → closing step (ps ++ p ∷ []) n ns ≡ and_then (step p n ns) (closing step ps)
closing_last step [] p n ns = just (step p n ns)
closing_last step (q ∷ ps) p n ns = ap (λ o. and_then o (step q)) (closing_last step ps p n ns) ∙ assoc (step p n ns) (closing step ps) (step q)

-- So completing it leaves the others to be completed.
pub closed_last : {P : Type 0} (step : P → ℕ → List Node → Numbered ℕ) (xs ps : List P) (p : P) (n n2 : ℕ) (ns ns2 : List Node) → xs ≡ ps ++ p ∷ [] → step p n ns ≡ Some (n2, ns2) → closing step ps n2 ns2 ≡ closing step xs n ns
closed_last step xs ps p n n2 ns ns2 h g = sym (ap (λ l. closing step l n ns) h ∙ closing_last step ps p n ns ∙ ap (λ o. and_then o (closing step ps)) g)

-- What a list promises of its last value.
pub takes_last : {P : Type 0} (before after : List P) (given : Option P) → given ≡ slice_get before (length before - 1) → after ≡ take (length before - 1) before → TakesLast before after given
takes_last before after None e f = let empty : before ≡ [] = ends_nowhere before (sym e) in (empty, f ∙ ap (λ l. take (length l - 1) l) empty)
takes_last before after (Some p) e f = ends_with before p (sym e) ∙ ap (λ l. l ++ p ∷ []) (sym f)

pub shorter : {P : Type 0} (xs ps : List P) (p : P) → xs ≡ ps ++ p ∷ [] → length ps < length xs
shorter xs ps p h = omega (arith, ap length h, length-append ps (p ∷ []))

-- The node that is pending on an inner part is added to the pending ones.
pub waits : {P : Type 0} (step : P → ℕ → List Node → Numbered ℕ) (ps : List P) (p : P) (o : Numbered ℕ) → and_then (and_then o (step p)) (closing step ps) ≡ and_then o (closing step (ps ++ p ∷ []))
waits step ps p None = refl
waits step ps p (Some r) = sym (closing_last step ps p r.0 r.1)

-- What the list of views has at a place.
pub at_view : {A B : Type 0} → (f : A → B) (xs : List A) (i : ℕ) (x : A) (y : B) → i < length xs → x ≡ slice_index_or xs i x → f x ≡ y → slice_get (map f xs) i ≡ Some y
at_view f xs i x y l e v = slice_get-map f xs i ∙ ap (option_map f) (slice_get_read xs _ i x refl l e) ∙ ap (λ z. Some z) v

-- ---- what children of several kinds come to

pub one_part : (o : Numbered ℕ) (f : List ℕ → List Node → Numbered ℕ) → and_then (and_then o (λ a. λ ns. Some (a ∷ [], ns))) f ≡ and_then o (λ a. f (a ∷ []))
one_part None f = refl
one_part (Some r) f = refl

then_last : (a : ℕ) (q : Numbered (List ℕ)) (g : List Node → Numbered ℕ) → and_then (and_then q (λ tops. λ ns. and_then (g ns) (λ n. λ ns. Some (tops ++ n ∷ [], ns)))) (λ b. λ ns. Some (a ∷ b, ns)) ≡ and_then (and_then q (λ b. λ ns. Some (a ∷ b, ns))) (λ tops. λ ns. and_then (g ns) (λ n. λ ns. Some (tops ++ n ∷ [], ns)))
then_last a None g = refl
then_last a (Some r) g = inner (g r.1)
  where
    inner : (o : Numbered ℕ) → and_then (and_then o (λ n. λ ns. Some (r.0 ++ n ∷ [], ns))) (λ b. λ ns. Some (a ∷ b, ns)) ≡ and_then o (λ n. λ ns. Some (a ∷ r.0 ++ n ∷ [], ns))
    inner None = refl
    inner (Some x) = refl

more_first : (m : ℕ) (o : Numbered ℕ) (front : List Node → Numbered (List ℕ)) (last : List Node → Numbered ℕ) (all : List Node → Numbered (List ℕ)) → ((ns : List Node) → all ns ≡ and_then (front ns) (λ tops. λ ns. and_then (last ns) (λ n. λ ns. Some (tops ++ n ∷ [], ns)))) → and_then o (λ a. λ ns. and_then (all ns) (λ b. λ ns. Some (a ∷ b, ns))) ≡ and_then (and_then o (λ a. λ ns. and_then (front ns) (λ b. λ ns. Some (a ∷ b, ns)))) (λ tops. λ ns. and_then (last ns) (λ n. λ ns. Some (tops ++ n ∷ [], ns)))
more_first m None front last all h = refl
more_first m (Some y) front last all h = ap (λ q. and_then q (λ b. λ ns. Some (y.0 ∷ b, ns))) (h y.1) ∙ then_last y.0 (front y.1) last

pub and_last_put : (m : ℕ) (rs : Roses) (r : Rose) (ns : List Node) → puts m (and_last rs r) ns ≡ and_then (puts m rs ns) (λ tops. λ ns. and_then (put m r ns) (λ n. λ ns. Some (tops ++ n ∷ [], ns)))
and_last_put m no_roses r ns = refl
and_last_put m (more x xs) r ns = more_first m (put m x ns) (puts m xs) (put m r) (puts m (and_last xs r)) (λ ns. and_last_put m xs r ns)

call_last : (q : Numbered (List ℕ)) (g : List Node → Numbered ℕ) (f : List ℕ → List Node → Numbered ℕ) → and_then (and_then q (λ tops. λ ns. and_then (g ns) (λ n. λ ns. Some (tops ++ n ∷ [], ns)))) f ≡ and_then q (λ tops. λ ns. and_then (g ns) (λ n. f (tops ++ n ∷ [])))
call_last None g f = refl
call_last (Some r) g f = inner (g r.1)
  where
    inner : (o : Numbered ℕ) → and_then (and_then o (λ n. λ ns. Some (r.0 ++ n ∷ [], ns))) f ≡ and_then o (λ n. f (r.0 ++ n ∷ []))
    inner None = refl
    inner (Some x) = refl

-- The arguments come first, then the receiver.
pub called_is : (m d : ℕ) (k : NodeKind) (s : Span) (rs : Roses) (receiver : Rose) (ns : List Node) → put m (rose k s d (and_last rs receiver)) ns ≡ and_then (puts m rs ns) (λ tops. λ ns. and_then (put m receiver ns) (λ r. push m k s d (tops ++ r ∷ [])))
called_is m d k s rs receiver ns = ap (λ o. and_then o (push m k s d)) (and_last_put m rs receiver ns) ∙ call_last (puts m rs ns) (put m receiver) (push m k s d)

-- Condition and body come first, then the `else`.
three_is : (m : ℕ) (x y z : Rose) (a b : ℕ) (ns n1 n2 : List Node) (f : List ℕ → List Node → Numbered ℕ) → put m x ns ≡ Some (a, n1) → put m y n1 ≡ Some (b, n2) → and_then (puts m (three x y z) ns) f ≡ and_then (put m z n2) (λ e. f (a ∷ b ∷ e ∷ []))
three_is m x y z a b ns n1 n2 f ex ey = rw (ex, ey) (inner (put m z n2))
  where
    inner : (q : Numbered ℕ) → and_then (and_then (and_then (and_then q (λ e. λ ns. Some (e ∷ [], ns))) (λ l. λ ns. Some (b ∷ l, ns))) (λ l. λ ns. Some (a ∷ l, ns))) f ≡ and_then q (λ e. f (a ∷ b ∷ e ∷ []))
    inner None = refl
    inner (Some e) = refl

pub arm_is : (m d : ℕ) (first : Bool) (reach : Span) (x y z : Rose) (a b : ℕ) (ns n1 n2 : List Node) → put m x ns ≡ Some (a, n1) → put m y n1 ≡ Some (b, n2) → put m (if_of first reach d (three x y z)) ns ≡ and_then (put m z n2) (arm_closes m d (record { cond = a; body = b; first = first; span = reach }))
unfolding arm_closes
arm_is m d true reach x y z a b ns n1 n2 ex ey = three_is m x y z a b ns n1 n2 (push m node.If reach d) ex ey ∙ inner (put m z n2)
  where
    inner : (q : Numbered ℕ) → and_then q (λ e. push m node.If reach d (a ∷ b ∷ e ∷ [])) ≡ and_then q (λ n. λ ns. and_then (push m node.If reach d (a ∷ b ∷ n ∷ []) ns) (arm_after true m d reach))
    inner None = refl
    inner (Some e) = just (push m node.If reach d (a ∷ b ∷ e.0 ∷ []) e.1)
arm_is m d false reach x y z a b ns n1 n2 ex ey =
    one_part (and_then (puts m (three x y z) ns) (push m node.If reach d)) (push m node.Seq reach d) ∙ ap (λ o. and_then o (λ a. push m node.Seq reach d (a ∷ []))) (three_is m x y z a b ns n1 n2 (push m node.If reach d) ex ey) ∙ assoc (put m z n2) (λ e. push m node.If reach d (a ∷ b ∷ e ∷ [])) (λ a. push m node.Seq reach d (a ∷ []))

-- An arm fails with its condition, or with its body.
pub cond_none : (m d : ℕ) (first : Bool) (reach : Span) (x y z : Rose) (ns : List Node) → put m x ns ≡ None → put m (if_of first reach d (three x y z)) ns ≡ None
cond_none m d true reach x y z ns h = rw h refl
cond_none m d false reach x y z ns h = rw h refl

pub body_none : (m d : ℕ) (first : Bool) (reach : Span) (x y z : Rose) (a : ℕ) (ns n1 : List Node) → put m x ns ≡ Some (a, n1) → put m y n1 ≡ None → put m (if_of first reach d (three x y z)) ns ≡ None
body_none m d true reach x y z a ns n1 h g = rw (h, g) refl
body_none m d false reach x y z a ns n1 h g = rw (h, g) refl

-- A sequence without items gets the value None.
none_first : (m d : ℕ) (s : Span) (o : Numbered ℕ) (rest : List Node → Numbered (List ℕ)) → and_then o (λ a. λ ns. and_then (rest ns) (λ b. λ ns. Some (a ∷ b, ns))) ≡ and_then (and_then o (λ a. λ ns. and_then (rest ns) (λ b. λ ns. Some (a ∷ b, ns)))) (none_closes m d s)
unfolding none_closes
none_first m d s None rest = refl
none_first m d s (Some r) rest = inner (rest r.1)
  where
    inner : (q : Numbered (List ℕ)) → and_then q (λ b. λ ns. Some (r.0 ∷ b, ns)) ≡ and_then (and_then q (λ b. λ ns. Some (r.0 ∷ b, ns))) (none_closes m d s)
    inner None = refl
    inner (Some b) = refl

or_none_is : (m d : ℕ) (s : Span) (rs : Roses) (ns : List Node) → puts m (or_added_none s d rs) ns ≡ and_then (puts m rs ns) (none_closes m d s)
unfolding none_closes
or_none_is m d s no_roses ns = refl
or_none_is m d s (more r rs) ns = none_first m d s (put m r ns) (puts m rs)

pub sequence_is : (m d : ℕ) (s : Span) (rs : Roses) (ns : List Node) → put m (sequence s d rs) ns ≡ and_then (puts m rs ns) (seq_closes m d s)
unfolding seq_closes
sequence_is m d s rs ns = ap (λ o. and_then o (push m node.Seq s d)) (or_none_is m d s rs ns) ∙ assoc (puts m rs ns) (none_closes m d s) (push m node.Seq s d)

-- The left side is numbered first.
pub operands_none : (c : Context) (sc : Scope) (d : ℕ) (o : Op) (s : Span) (m : ℕ) (es : t.Exprs) (r : Rose) (ns : List Node) → put m r ns ≡ None → put m (operands_of c sc d o s r es) ns ≡ None
operands_none c sc d o s m t.no_exprs r ns h = h
operands_none c sc d o s m (t.expr e es) r ns h = operands_none c sc d o s m es (rose (operation o) (joined_span s (t.span_of e)) d (two r (expr_of c sc d e))) ns (rw h refl)

pub right_none : (c : Context) (sc : Scope) (d : ℕ) (o : Op) (s : Span) (m : ℕ) (e : t.Expr) (es : t.Exprs) (r : Rose) (n : ℕ) (ns n1 : List Node) → put m r ns ≡ Some (n, n1) → put m (expr_of c sc d e) n1 ≡ None → put m (operands_of c sc d o s r (t.expr e es)) ns ≡ None
right_none c sc d o s m e es r n ns n1 h g = operands_none c sc d o s m es (rose (operation o) (joined_span s (t.span_of e)) d (two r (expr_of c sc d e))) ns (rw (h, g) refl)

pub push_none : (c : Context) (sc : Scope) (d : ℕ) (o : Op) (s : Span) (m : ℕ) (e : t.Expr) (es : t.Exprs) (r : Rose) (n a : ℕ) (ns n1 n2 : List Node) → put m r ns ≡ Some (n, n1) → put m (expr_of c sc d e) n1 ≡ Some (a, n2) → push m (operation o) (joined_span s (t.span_of e)) d (n ∷ a ∷ []) n2 ≡ None → put m (operands_of c sc d o s r (t.expr e es)) ns ≡ None
push_none c sc d o s m e es r n a ns n1 n2 h g i = operands_none c sc d o s m es (rose (operation o) (joined_span s (t.span_of e)) d (two r (expr_of c sc d e))) ns (rw (h, g, i) refl)

-- ---- stops

-- The code stops where a part does.
pub stops : {A B : Type 0} (e : EmitStop) (ns n2 : List Node) (part : Numbered A) (whole : Numbered B) → GivesNodes (Err e) ns part → (part ≡ None → whole ≡ None) → GivesNodes (Err e) n2 whole
stops stop.Full ns n2 part whole h f = f h
stops stop.Memory ns n2 part whole h f = tt

pub stops_one : {P A : Type 0} (e : EmitStop) (ns n2 : List Node) (part : Numbered A) (step : P → ℕ → List Node → Numbered ℕ) (inner : List Node → Numbered ℕ) (whole : Numbered ℕ) → GivesNodes (Err e) ns part → (part ≡ None → whole ≡ None) → OpensOne (Err e) n2 step inner whole
stops_one stop.Full ns n2 part step inner whole h f = f h
stops_one stop.Memory ns n2 part step inner whole h f = tt

pub stops_still : {P : Type 0} (e : EmitStop) (ns n2 : List Node) (step : P → ℕ → List Node → Numbered ℕ) (i1 i2 : List Node → Numbered ℕ) (part whole : Numbered ℕ) → OpensOne (Err e) ns step i1 part → (part ≡ None → whole ≡ None) → OpensInnerPart (Err e) n2 step i2 whole
stops_still stop.Full ns n2 step i1 i2 part whole h f = f h
stops_still stop.Memory ns n2 step i1 i2 part whole h f = tt

-- The whole fails with an inner part, and otherwise is completed around it.
pub inner_stops : {A B : Type 0} (e : EmitStop) (ns n2 : List Node) (inner : Numbered A) (f : A → List Node → Numbered B) (whole : Numbered B) → whole ≡ and_then inner f → GivesNodes (Err e) ns inner → GivesNodes (Err e) n2 whole
inner_stops stop.Full ns n2 inner f whole h g = h ∙ ap (λ o. and_then o f) g
inner_stops stop.Memory ns n2 inner f whole h g = tt

pub inner_gives : {A B : Type 0} (r : Result B EmitStop) (n1 n2 : List Node) (a : A) (inner : Numbered A) (f : A → List Node → Numbered B) (whole : Numbered B) → whole ≡ and_then inner f → inner ≡ Some (a, n1) → GivesNodes r n2 (f a n1) → GivesNodes r n2 whole
inner_gives r n1 n2 a inner f whole h g i = rw (h, g) i

-- The whole fails with a part of an arm around which others are pending.
pub arm_stops : {P : Type 0} (e : EmitStop) (ns n2 : List Node) (step : P → ℕ → List Node → Numbered ℕ) (ps : List P) (inner : List Node → Numbered ℕ) (part arm whole : Numbered ℕ) → whole ≡ and_then arm (closing step ps) → GivesNodes {A = ℕ} (Err e) ns part → (part ≡ None → arm ≡ None) → OpensInnerPart (Err e) n2 step inner whole
arm_stops stop.Full ns n2 step ps inner part arm whole w h f = w ∙ ap (λ o. and_then o (closing step ps)) (f h)
arm_stops stop.Memory ns n2 step ps inner part arm whole w h f = tt

pub opens_stop : {P : Type 0} (e : EmitStop) (ns n2 : List Node) (step : P → ℕ → List Node → Numbered ℕ) (inner : List Node → Numbered ℕ) (whole : Numbered ℕ) → OpensInnerPart (Err e) ns step inner whole → GivesNodes {A = ℕ} (Err e) n2 whole
opens_stop stop.Full ns n2 step inner whole h = h
opens_stop stop.Memory ns n2 step inner whole h = tt

-- ---- lists and what they represent

pub exprs_at : (xs : List Expr) (i : ℕ) (x : Expr) → slice_get xs i ≡ Some x → exprs_view (drop i xs) ≡ t.expr (expr_view x) (exprs_view (drop (suc i) xs))
exprs_at [] i x h = absurd (none-some x h)
exprs_at (y ∷ xs) zero x h = ap (λ z. t.expr (expr_view z) (exprs_view xs)) (same_Some _ _ h)
exprs_at (y ∷ xs) (suc i) x h = exprs_at xs i x h

pub exprs_from : (xs : List Expr) (i j : ℕ) (x : Expr) → slice_get xs i ≡ Some x → j ≡ i + 1 → exprs_view (drop i xs) ≡ t.expr (expr_view x) (exprs_view (drop j xs))
exprs_from xs i j x h e = let n : suc i ≡ j = omega (arith, e) in exprs_at xs i x h ∙ ap (λ k. t.expr (expr_view x) (exprs_view (drop k xs))) n

-- What was visible stays visible after an item.
pub scope_kept : (c : Context) (sc old : Scope) (i : t.Item) → take (length old) sc ≡ old → take (length old) (scope_after c sc i) ≡ old
scope_kept c sc old (t.plain e) h = h
scope_kept c sc old (t.local fixed n ty v s) h = let within : length old ≤ length sc = omega (arith, length-take (length old) sc, ap length h) in take-append-le (length old) sc _ within ∙ h

items_at : (xs : List Item) (i : ℕ) (x : Item) → slice_get xs i ≡ Some x → items_view (drop i xs) ≡ t.item (item_view x) (items_view (drop (suc i) xs))
items_at [] i x h = absurd (none-some x h)
items_at (y ∷ xs) zero x h = ap (λ z. t.item (item_view z) (items_view xs)) (same_Some _ _ h)
items_at (y ∷ xs) (suc i) x h = items_at xs i x h

pub items_from : (xs : List Item) (i j : ℕ) (x : Item) → slice_get xs i ≡ Some x → j ≡ i + 1 → items_view (drop i xs) ≡ t.item (item_view x) (items_view (drop j xs))
items_from xs i j x h e = let n : suc i ≡ j = omega (arith, e) in items_at xs i x h ∙ ap (λ k. t.item (item_view x) (items_view (drop k xs))) n

pub map_take : {A B : Type 0} → (f : A → B) (n : ℕ) (xs : List A) → map f (take n xs) ≡ take n (map f xs)
map_take f zero xs = refl
map_take f (suc n) [] = refl
map_take f (suc n) (x ∷ xs) = ap (λ l. f x ∷ l) (map_take f n xs)

pub map_drop : {A B : Type 0} → (f : A → B) (n : ℕ) (xs : List A) → map f (drop n xs) ≡ drop n (map f xs)
map_drop f zero xs = refl
map_drop f (suc n) [] = refl
map_drop f (suc n) (x ∷ xs) = map_drop f n xs

pub wait_on : {P : Type 0} (step : P → ℕ → List Node → Numbered ℕ) (ps qs : List P) (p : P) (whole part inner : Numbered ℕ) → whole ≡ and_then part (closing step ps) → part ≡ and_then inner (step p) → qs ≡ ps ++ p ∷ [] → whole ≡ and_then inner (closing step qs)
wait_on step ps qs p whole part inner h g e = h ∙ ap (λ o. and_then o (closing step ps)) g ∙ waits step ps p inner ∙ ap (λ l. and_then inner (closing step l)) (sym e)

arms_at : (xs : List Arm) (i : ℕ) (x : Arm) → slice_get xs i ≡ Some x → arms_view (drop i xs) ≡ t.arm (arm_view x) (arms_view (drop (suc i) xs))
arms_at [] i x h = absurd (none-some x h)
arms_at (y ∷ xs) zero x h = ap (λ z. t.arm (arm_view z) (arms_view xs)) (same_Some _ _ h)
arms_at (y ∷ xs) (suc i) x h = arms_at xs i x h

pub arms_from : (xs : List Arm) (i j : ℕ) (x : Arm) → slice_get xs i ≡ Some x → j ≡ i + 1 → arms_view (drop i xs) ≡ t.arm (arm_view x) (arms_view (drop j xs))
arms_from xs i j x h e = let n : suc i ≡ j = omega (arith, e) in arms_at xs i x h ∙ ap (λ k. t.arm (arm_view x) (arms_view (drop k xs))) n

pub arm_parts : (a : Arm) → arm_view a ≡ t.arm_of (seq_view a.cond) (seq_view a.body) a.span
arm_parts a = search (rules, the_lemmas)

pub seq_parts : (x : Seq) → seq_view x ≡ t.seq (items_view x.items) x.span
seq_parts x = search (rules, the_lemmas)

-- ---- how a chain begins

-- A chain fails with what opens its suffixes, or with its beginning.
pub links_stop : (e : EmitStop) (ns n2 : List Node) (step : Link → ℕ → List Node → Numbered ℕ) (begins atom : List Node → Numbered ℕ) (whole : Numbered ℕ) → OpensInnerPart (Err e) ns step begins whole → OpensChain (Err e) n2 step atom whole
links_stop stop.Full ns n2 step begins atom whole h = h
links_stop stop.Memory ns n2 step begins atom whole h = tt

pub beginning_stops : (e : EmitStop) (m : ℕ) (n1 n2 n3 : List Node) (step : Link → ℕ → List Node → Numbered ℕ) (ps : List Link) (begins first : Rose) (atom : List Node → Numbered ℕ) (whole : Numbered ℕ)
    → whole ≡ and_then (put m begins n1) (closing step ps) → begins ≡ first → GivesNodes {A = ℕ} (Err e) n2 (put m first n1) → OpensChain (Err e) n3 step atom whole
beginning_stops stop.Full m n1 n2 n3 step ps begins first atom whole h b g = h ∙ ap (λ r. and_then (put m r n1) (closing step ps)) b ∙ ap (λ o. and_then o (closing step ps)) g
beginning_stops stop.Memory m n1 n2 n3 step ps begins first atom whole h b g = tt

-- It begins with the atom, or with what has a number.
pub begins_with_atom : (m : ℕ) (n1 : List Node) (step : Link → ℕ → List Node → Numbered ℕ) (ps : List Link) (begins atom : Rose) (whole : Numbered ℕ)
    → whole ≡ and_then (put m begins n1) (closing step ps) → begins ≡ atom → whole ≡ and_then (begun_by None (put m atom) n1) (closing step ps)
begins_with_atom m n1 step ps begins atom whole h b = h ∙ ap (λ r. and_then (put m r n1) (closing step ps)) b

pub begins_with_first : (m n : ℕ) (n1 n2 : List Node) (step : Link → ℕ → List Node → Numbered ℕ) (ps : List Link) (begins first : Rose) (atom : List Node → Numbered ℕ) (whole : Numbered ℕ)
    → whole ≡ and_then (put m begins n1) (closing step ps) → begins ≡ first → put m first n1 ≡ Some (n, n2) → whole ≡ and_then (begun_by (Some n) atom n2) (closing step ps)
begins_with_first m n n1 n2 step ps begins first atom whole h b g = h ∙ ap (λ r. and_then (put m r n1) (closing step ps)) b ∙ ap (λ o. and_then o (closing step ps)) g

pub chain_stops : (e : EmitStop) (ns n2 : List Node) (step : Link → ℕ → List Node → Numbered ℕ) (atom : List Node → Numbered ℕ) (whole : Numbered ℕ) → OpensChain (Err e) ns step atom whole → GivesNodes {A = ℕ} (Err e) n2 whole
chain_stops stop.Full ns n2 step atom whole h = h
chain_stops stop.Memory ns n2 step atom whole h = tt

-- ---- writes

pub two_last : (a : ℕ) (q : Numbered ℕ) (f : List ℕ → List Node → Numbered ℕ) → and_then (and_then (and_then q (λ t. λ ns. Some (t ∷ [], ns))) (λ b. λ ns. Some (a ∷ b, ns))) f ≡ and_then q (λ t. f (a ∷ t ∷ []))
two_last a None f = refl
two_last a (Some r) f = refl

-- The value comes first.
pub write_start : (m d : ℕ) (s : Span) (n : Option ℕ) (v r whole : Rose) (value : ℕ) (before ns : List Node) → whole ≡ written_end d s n v r → put m v before ≡ Some (value, ns)
    → put m whole before ≡ and_then (put m r ns) (λ top. push m (written_kind n) s d (value ∷ top ∷ []))
write_start m d s n v r whole value before ns w h = rw (w, h) (two_last value (put m r ns) (push m (written_kind n) s d))

pub name_written : (c : Context) (m d : ℕ) (s : Span) (n : Name) (w : Meaning) (v : Rose) (value : ℕ) (before ns : List Node) → names_none w ≡ false → put m v before ≡ Some (value, ns)
    → put m (write_name c s n d v w) before ≡ name_closes c m d s n w value ns
unfolding name_closes
name_written c m d s n (local x) v value before ns o h = rw h refl
name_written c m d s n field v value before ns o h =
    rw h (two_last value (push m node.This n.span d [] ns) (push m (node.SetField (number_of_text c n.text)) s d))
name_written c m d s n method v value before ns o h = absurd (true≢false o)
name_written c m d s n nothing v value before ns o h = absurd (true≢false o)

module _ (c : Context) (sc : Scope) (m d : ℕ) (s place : Span) (v : Rose) (ns : List Node) (h : put m v ns ≡ None) where
  mutual
    chain_none : (st : Start) (origin : Rose) (ss : t.Suffixes) → put m (chain_of c sc d s (write place v) st origin ss) ns ≡ None
    chain_none st origin t.no_suffixes = rw h refl
    chain_none st origin (t.suffix (t.dot n) ss) = named_none st origin n ss
    chain_none st origin (t.suffix (t.args es sp) ss) = chain_none with_value (apply c st (joined_span s sp) d (roses_of_exprs c sc d es) origin) ss

    named_none : (st : Start) (origin : Rose) (n : Name) (ss : t.Suffixes) → put m (named_of c sc d s (write place v) st origin n ss) ns ≡ None
    named_none st origin n t.no_suffixes = rw h refl
    named_none st origin n (t.suffix (t.dot k) ss) = named_none with_value (read_field c (joined_span s n.span) n d origin) k ss
    named_none st origin n (t.suffix (t.args es sp) ss) = chain_none with_value (call_named c st (joined_span s sp) n d (roses_of_exprs c sc d es) origin) ss

name_none : (c : Context) (m d : ℕ) (s : Span) (n : Name) (w : Meaning) (v : Rose) (ns : List Node) → names_none w ≡ false → put m v ns ≡ None → put m (write_name c s n d v w) ns ≡ None
name_none c m d s n (local x) v ns o h = rw h refl
name_none c m d s n field v ns o h = rw h refl
name_none c m d s n method v ns o h = absurd (true≢false o)
name_none c m d s n nothing v ns o h = absurd (true≢false o)

-- So if there are no nodes for the value, there are none for the whole.
pub assign_none : (c : Context) (sc : Scope) (m d : ℕ) (s : Span) (v l : Rose) (e : t.Expr) (ns : List Node) → is_missing c sc e ≡ false → put m v ns ≡ None → put m (assign_of c sc d s v l e) ns ≡ None
assign_none c sc m d s v l (t.name n) ns o h = name_none c m d s n (resolve c sc n.text) v ns o h
assign_none c sc m d s v l (t.chain f ss whole) ns o h = chain_none c sc m d whole s v ns h (chain_start c sc f) (expr_of c sc d f) ss
assign_none c sc m d s v l (t.number n sp) ns o h = rw h refl
assign_none c sc m d s v l (t.truth n sp) ns o h = rw h refl
assign_none c sc m d s v l (t.text n sp) ns o h = rw h refl
assign_none c sc m d s v l (t.type_name n) ns o h = rw h refl
assign_none c sc m d s v l (t.this sp) ns o h = rw h refl
assign_none c sc m d s v l (t.consume n sp) ns o h = rw h refl
assign_none c sc m d s v l (t.not_ e sp) ns o h = rw h refl
assign_none c sc m d s v l (t.infix_ k es sp) ns o h = rw h refl
assign_none c sc m d s v l (t.group b sp) ns o h = rw h refl
assign_none c sc m d s v l (t.if_ as' x sp) ns o h = rw h refl
assign_none c sc m d s v l (t.while_ x b sp) ns o h = rw h refl
assign_none c sc m d s v l (t.recover k b sp) ns o h = rw h refl
assign_none c sc m d s v l (t.assign x y sp) ns o h = rw h refl
