-- Methods without a fault.
use Rattle.std.proofs.{Common.{◌≡◌, ℕ, ◌+◌, ◌≤◌, length, List, [], ◌∷◌, Option, Some, None, refl, sym, ap, ◌∙◌, subst, arith, inl, inr}, lemmas.Bool.cases_lt, lemmas.Option.{same_Some, none-some}}
use Rattle.std.specs.Prelude.{slice_get, Ok, Err}
use Rattle.pc_base.specs.declared.span.Span.{Span}
use Rattle.pc_base.proofs.Gets.{get_within}
use Rattle.pc_tree.specs.declared.written_names.Name.{Name}
use Rattle.pc_core.specs.declared.nodes.Node.{Node}
use Rattle.pc_body_spec.specs.{Bodies.{Rose, body_of, added_body}, Fold.{Numbered, put}, Faults.{BodyNameFault, body_faults, initial_faults}, Slots.initial_locals, Methods.{MethodOutcome, slot_names, local_names, unless_fault, unless_name, unless_full, numbered_or_full, put_body}, Laws.{MethodsStand, AddedMethodsStand}}
use Rattle.pc_body_spec.proofs.Bodies.{bodies_stand, added_bodies_stand}

abbrev IsOk : MethodOutcome → Type 0
IsOk (Ok a) = Unit {0}
IsOk (Err e) = ⊥

-- What has an outcome has no fault of its body, few enough slots, and its nodes.
record Passed (fs : List BodyNameFault) (names : List Name) (rest : MethodOutcome) (n : ℕ) (after : List Node) : Type 0 where
  no_fault : fs ≡ []
  few : 1 + length names ≤ 64
  put_is : rest ≡ Ok (Some n, after)

few_names : (names : List Name) → slice_get names 63 ≡ None → 1 + length names ≤ 64
few_names names e = elim (cases_lt 63 (length names)) [
  | inl l ↦ let g = get_within names 63 l in absurd (none-some g.0 (sym e ∙ g.1))
  | inr l ↦ omega (arith, l)
]

passed : (fs : List BodyNameFault) (names : List Name) (rest : MethodOutcome) (n : ℕ) (after : List Node) → unless_fault fs (unless_full names rest) ≡ Ok (Some n, after) → Passed fs names rest n after
passed (f ∷ fs) names rest n after h = absurd (subst IsOk (sym h) tt)
passed [] names rest n after h = by (slice_get names 63) refl h
  where
    by : (o : Option Name) → slice_get names 63 ≡ o → unless_name o rest ≡ Ok (Some n, after) → Passed [] names rest n after
    by None e g = record { no_fault = refl; few = few_names names e; put_is = g }
    by (Some x) e g = absurd (subst IsOk (sym g) tt)

abbrev outcome : MethodOutcome → Option (Option ℕ × List Node)
outcome (Ok a) = Some a
outcome (Err e) = None

abbrev number : Option ℕ → ℕ
number None = 0
number (Some n) = n

abbrev IsBody : Option ℕ → Type 0
IsBody None = ⊥
IsBody (Some n) = Unit {0}

numbered_is : (name : Span) (o : Numbered ℕ) (n : ℕ) (after : List Node) → numbered_or_full name o ≡ Ok (Some n, after) → o ≡ Some (n, after)
numbered_is name None n after h = absurd (subst IsOk (sym h) tt)
numbered_is name (Some r) n after h =
    let same : (Some r.0, r.1) ≡ (Some n, after) = same_Some _ _ (ap outcome h) in
    ap (λ (p : Option ℕ × List Node). Some (number p.0, p.1)) same

put_is : (m : ℕ) (name : Span) (o : Option Rose) (n : ℕ) (before after : List Node) → put_body m name o before ≡ Ok (Some n, after) → (r : Rose) × (o ≡ Some r) × (put m r before ≡ Some (n, after))
put_is m name None n before after h =
    let same : (None, before) ≡ (Some n, after) = same_Some _ _ (ap outcome h) in
    absurd (subst IsBody (sym (ap (λ (p : Option ℕ × List Node). p.0) same)) tt)
put_is m name (Some r) n before after h = (r, refl, numbered_is name (put m r before) n after h)

pub methods_stand : MethodsStand
methods_stand c m fs x n before after some_text h =
    let p : Passed (body_faults c fs x) (slot_names fs x) (put_body m x.name.span (body_of c fs x) before) n after = passed (body_faults c fs x) (slot_names fs x) (put_body m x.name.span (body_of c fs x) before) n after h in
    let r = put_is m x.name.span (body_of c fs x) n before after p.put_is in
    (p.few, bodies_stand c fs x r.0 m n before after some_text p.no_fault r.1 r.2)

pub added_methods_stand : AddedMethodsStand
added_methods_stand c m fs name n before after some_text h =
    let p : Passed (initial_faults c fs) (local_names (initial_locals fs)) (put_body m name (Some (added_body c fs name)) before) n after = passed (initial_faults c fs) (local_names (initial_locals fs)) (put_body m name (Some (added_body c fs name)) before) n after h in
    (p.few, added_bodies_stand c fs name m n before after some_text p.no_fault (numbered_is name (put m (added_body c fs name) before) n after p.put_is))
