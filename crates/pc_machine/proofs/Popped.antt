-- Arguments that are popped.
use Rattle.std.proofs.{Common.{Bor, ◌≡◌, ℕ, zero, suc, ◌-◌, ◌<◌, ◌≤◌, List, [], ◌∷◌, ◌++◌, length, take, drop, Option, Some, None, refl, sym, ap, ◌∙◌, inl, inr, arith, append_assoc}, lemmas.List.{append-nil, reverse-append, length-drop}, lemmas.Bool.{cases_lt, true≢false}}
use Rattle.std.specs.Prelude.{slice_get, reverse, IsSome, IfSome, ◌↔◌, MatchOption}
use Rattle.pc_heap.specs.declared.value.Value.{Value}
use Rattle.pc_core.specs.CoreData.{CoreData}
use Rattle.pc_core.specs.declared.nodes.NodeKind.TheVariants as node
use Rattle.pc_semantics.specs.{declared.frames.Frame.Frame, Configurations.{Around, given, pop_arguments, popped, value_entity, with_stack}, Calls.invoke_task, Parts.{invoke_on, with_popped}}
use Rattle.pc_semantics.specs.declared.outcome.Lack.TheVariants as lack

pub popped_enough : (k : ℕ) (xs arguments : List Value) → k ≤ length xs → popped k xs arguments ≡ Some (reverse (take k xs) ++ arguments, drop k xs)
popped_enough zero xs arguments l = refl
popped_enough (suc k) [] arguments l = absurd (omega (arith, l))
popped_enough (suc k) (x ∷ xs) arguments l =
    let m : k ≤ length xs = omega (arith, l) in
    popped_enough k xs (x ∷ arguments) m ∙ ap (λ zs. Some (zs, drop k xs)) (sym (ap (λ zs. zs ++ arguments) (reverse-append (x ∷ []) (take k xs)) ∙ append_assoc (reverse (take k xs)) (x ∷ []) arguments))

pub popped_short : (k : ℕ) (xs arguments : List Value) → length xs < k → popped k xs arguments ≡ None
popped_short zero xs arguments l = absurd (omega (arith, l))
popped_short (suc k) [] arguments l = refl
popped_short (suc k) (x ∷ xs) arguments l = let m : length xs < k = omega (arith, l) in popped_short k xs (x ∷ arguments) m

-- the values of the arguments, if there are this many
pub popped_is : (r : Option (Bor (List Value))) (k : ℕ) (xs : List Value) → IsSome r ↔ (k ≤ length xs) → IfSome r (λ values. values.now ≡ reverse (take k xs)) → MatchOption r (popped k xs [] ≡ None) (λ values. popped k xs [] ≡ Some (values.now, drop k xs))
popped_is None k xs enough values =
    elim (cases_lt (length xs) k) [
      | inl l ↦ popped_short k xs [] l
      | inr l ↦ absurd (true≢false (sym (enough.1 l)))
    ]
popped_is (Some v) k xs enough values = popped_enough k xs [] (enough.0 refl) ∙ ap (λ zs. Some (zs, drop k xs)) (append-nil (reverse (take k xs)) ∙ sym values)

-- ---- the values below the top

-- two lists with one more at the end
fronts_same : (xs ys : List Value) (x y : Value) → xs ++ x ∷ [] ≡ ys ++ y ∷ [] → xs ≡ ys
fronts_same [] [] x y e = refl
fronts_same [] (b ∷ []) x y e = absurd (omega (arith, ap length e))
fronts_same [] (b ∷ c ∷ bs) x y e = absurd (omega (arith, ap length e))
fronts_same (a ∷ []) [] x y e = absurd (omega (arith, ap length e))
fronts_same (a ∷ c ∷ cs) [] x y e = absurd (omega (arith, ap length e))
fronts_same (a ∷ cs) (b ∷ bs) x y e =
    let first : a ≡ b = cc e in
    let rest : cs ++ x ∷ [] ≡ bs ++ y ∷ [] = cc e in
    let others : cs ≡ bs = fronts_same cs bs x y rest in
    cc (first, others)

below_one : (k : ℕ) (x : Value) (xs : List Value) (arguments : List Value) (last : Value) → k ≤ length xs → reverse (take (suc k) (x ∷ xs)) ≡ arguments ++ last ∷ [] → popped k xs [] ≡ Some (arguments, drop k xs)
below_one k x xs arguments last l e =
    let turned : reverse (take k xs) ++ x ∷ [] ≡ arguments ++ last ∷ [] = sym (reverse-append (x ∷ []) (take k xs)) ∙ e in
    let same : reverse (take k xs) ≡ arguments = fronts_same (reverse (take k xs)) arguments x last turned in
    popped_enough k xs [] l ∙ ap (λ zs. Some (zs, drop k xs)) (append-nil (reverse (take k xs)) ∙ same)

pub below_is : (count : ℕ) (xs arguments : List Value) (last : Value) → 0 < count → count ≤ length xs → reverse (take count xs) ≡ arguments ++ last ∷ [] → popped (count - 1) (drop 1 xs) [] ≡ Some (arguments, drop count xs)
below_is count [] arguments last some l e = absurd (omega (arith, some, l))
below_is zero (x ∷ xs) arguments last some l e = absurd (omega (arith, some))
below_is (suc k) (x ∷ xs) arguments last some l e =
    let n : suc k - 1 ≡ k = omega arith in
    let m : k ≤ length xs = omega (arith, l) in
    ap (λ j. popped j xs []) n ∙ below_one k x xs arguments last m e

pub below_short : (count : ℕ) (xs : List Value) → 0 < count → 0 < length xs → length xs < count → popped (count - 1) (drop 1 xs) [] ≡ None
below_short count xs some top l =
    let m : length (drop 1 xs) < count - 1 = omega (arith, length-drop 1 xs, some, top, l) in
    popped_short (count - 1) (drop 1 xs) [] m

-- ---- a call, by what is popped

pub invokes : (core : CoreData) (a : Around) (name : ℕ) (f : Frame) (cs : List ℕ) (this : Value) (vs rest : List Value) → slice_get f.stack 0 ≡ Some this → popped (length cs - 1) (drop 1 f.stack) [] ≡ Some (vs, rest)
    → invoke_task core a f cs (node.Call name) ≡ invoke_on core a name this vs (with_stack f rest) (value_entity a.objects this)
invokes core a name f cs this vs rest top below =
    ap (λ (o : Option Value). given lack.Value o (λ v. pop_arguments (with_stack f (drop 1 f.stack)) (length cs - 1) (λ us g. invoke_on core a name v us g (value_entity a.objects v)))) top
    ∙ ap (λ (o : Option (List Value × List Value)). with_popped (with_stack f (drop 1 f.stack)) o (λ us g. invoke_on core a name this us g (value_entity a.objects this))) below
