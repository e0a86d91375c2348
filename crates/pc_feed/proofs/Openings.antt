-- The first line and the lines of slots.
use Rattle.std.specs.Prelude.{◌≡◌, ℕ, ◌<◌, List, [], ◌∷◌, ◌++◌, length, map, Some, None, Result, Ok, Err, OnOk, slice_get, refl}
use Rattle.std.proofs.{Common.{inl, inr, ap, sym, subst, ◌∙◌, arith, append-nil, length-append}, lemmas.Bool.cases_lt, lemmas.Option.same_Some}
use Rattle.pc_caps.specs.declared.capability.Cap.{Cap}
use Rattle.pc_base.proofs.Gets.{get_within, get_front, get_behind}
use Rattle.pc_core.specs.{declared.nodes.Slot.Slot, CoreData.CoreData}
use Rattle.pc_ann.specs.{declared.annotation.Note.Note, declared.annotation.Ann.Ann}
use Rattle.pc_deriv.specs.{declared.line.Line.Line, Lines.line_of_slot}
use Rattle.pc_deriv.specs.declared.line.Line.TheVariants as line
use Rattle.pc_judge.specs.declared.faults.JudgeFault.TheVariants as fault
use Rattle.pc_judge.specs.Faults.{KeepsType, HasShape}
use Rattle.pc_feed.specs.{declared.judging.Judging.Judging, Lines.{slots_in, so_far}, Streams.{after_head, NothingWrong, FoundRightUpTo, Wrong, JudgedBy, JudgedSoFar}, Steps.{MayFollow, MayHave, SameFound}}
use Rattle.pc_feed.proofs.{Sayings.{map_push, count_push, slots_app}, Beginnings.{head_of, slots_begin}, Places.{head_at, SlotAt}}

none_found : (core : CoreData) (ls : List Line) (right : ℕ) → right ≡ 0 → FoundRightUpTo core ls right
none_found core ls right e = record { few = omega (arith, e); each = λ more k l. absurd (omega (arith, l, e)) }

no_notes : (core : CoreData) (ls : List Line) (j : Judging) (so : NothingWrong core ls j) → so.notes ≡ [] → j.right ≡ 0
no_notes core ls j so e = so.count ∙ ap (λ (ts : List Note). length ts) e

-- ---- the first line

module _ (core : CoreData) (ls : List Line) (j : Judging) (so : NothingWrong core ls j) (v a b : ℕ) (c : MayFollow ls (line.Head v a b)) where
  pub head_right : a ≡ length core.slots → b ≡ length core.nodes → NothingWrong core (ls ++ line.Head v a b ∷ []) j
  head_right p q =
      let h = head_at core ls j so v a b c in
      let slots : length j.slots ≡ 0 = ap (λ (xs : List (ℕ × Cap)). length xs) h.1 in
      let notes : length so.notes ≡ 0 = ap (λ (ts : List Note). length ts) h.2 in
      let left : ls ++ line.Head v a b ∷ [] ≡ line.Head v a b ∷ [] = ap (λ (x : List Line). x ++ line.Head v a b ∷ []) h.0 in
      let right : line.Head v (length core.slots) (length core.nodes) ∷ (map line_of_slot j.slots ++ map line.Node so.notes) ≡ line.Head v (length core.slots) (length core.nodes) ∷ [] =
      ap (λ (xs : List (ℕ × Cap)). line.Head v (length core.slots) (length core.nodes) ∷ (map line_of_slot xs ++ map line.Node so.notes)) h.1
      ∙ ap (λ (ts : List Note). line.Head v (length core.slots) (length core.nodes) ∷ map line.Node ts) h.2 in
      record {
        notes = so.notes;
        lines = after_head v (left ∙ ap (λ x. line.Head v x b ∷ []) p ∙ ap (λ x. line.Head v (length core.slots) x ∷ []) q ∙ sym right)
            (omega (arith, slots)) (omega (arith, notes)) (inl h.2);
        count = so.count;
        numbers = so.numbers;
        waits = so.waits;
        waiting = so.waiting;
        written = so.written;
        passed = so.passed;
      }

  wrong_head : ((a ≡ length core.slots) × (b ≡ length core.nodes) → ⊥) → Wrong core (line.Head v a b ∷ []) j.right fault.Shape
  wrong_head not =
      let h = head_at core ls j so v a b c in
      record {
        found = none_found core (line.Head v a b ∷ []) j.right (no_notes core ls j so h.2);
        stops = λ more k l r.
            let e : (a, b) ≡ (length core.slots, length core.nodes) = r.opens.counts (a, b) refl in
            not (ap (λ (x : ℕ × ℕ). x.0) e, ap (λ (x : ℕ × ℕ). x.1) e);
        first = λ w ann more e ok.
            let g = head_of w ann v a b more e in
            (ok, λ (s : HasShape core ann). not (sym g.0 ∙ s.0, sym g.1 ∙ s.1));
      }

  pub head_wrong : ((a ≡ length core.slots) × (b ≡ length core.nodes) → ⊥) → Wrong core (ls ++ line.Head v a b ∷ []) j.right fault.Shape
  head_wrong not =
      let h = head_at core ls j so v a b c in
      let left : ls ++ line.Head v a b ∷ [] ≡ line.Head v a b ∷ [] = ap (λ (x : List Line). x ++ line.Head v a b ∷ []) h.0 in
      subst (λ x. Wrong core x j.right fault.Shape) (sym left) (wrong_head not)

-- ---- a slot

module _ (core : CoreData) (ls : List Line) (j : Judging) (so : NothingWrong core ls j) (ty : ℕ × Cap) (at : SlotAt core ls j so) where
  abbrev slots : List (ℕ × Cap)
  slots = j.slots ++ ty ∷ []

  abbrev top : Line
  top = line.Head at.version (length core.slots) (length core.nodes)

  longer : ls ++ line_of_slot ty ∷ [] ≡ top ∷ map line_of_slot slots
  longer = ap (λ (x : List Line). x ++ line_of_slot ty ∷ []) at.lines ∙ ap (λ (x : List Line). top ∷ x) (sym (map_push line_of_slot j.slots ty))

  kept_at : (k : ℕ) (y : Slot) → MayHave core (length j.slots) ty → k < length slots → slice_get core.slots k ≡ Some y → KeepsType (record { slots = slots; notes = so.notes }) k y
  kept_at k y may l g = elim (cases_lt k (length j.slots)) [
    | inl m ↦ λ w e. get_front j.slots (ty ∷ []) k w (so.written k y m g w e)
    | inr m ↦
        let size = count_push j.slots ty in
        let here : length j.slots ≡ k = omega (arith, l, m, size) in
        λ w e.
        let same : w ≡ ty = may y (ap (slice_get core.slots) here ∙ g) w e in
        ap (slice_get slots) (sym here) ∙ get_behind j.slots ty [] ∙ ap Some (sym same)
  ]

  pub slot_right : MayHave core (length j.slots) ty → NothingWrong core (ls ++ line_of_slot ty ∷ []) (record { slots = slots; waiting = j.waiting; right = j.right; fault = j.fault })
  slot_right may =
      let size = count_push j.slots ty in
      let less = at.fewer in
      let none : length so.notes ≡ 0 = ap (λ (ts : List Note). length ts) at.none in
      record {
        notes = so.notes;
        lines = after_head at.version (longer ∙ ap (λ x. top ∷ x) (sym (append-nil (map line_of_slot slots)) ∙ ap (λ (ts : List Note). map line_of_slot slots ++ map line.Node ts) (sym at.none)))
            (omega (arith, size, less)) (omega (arith, none)) (inl at.none);
        count = so.count;
        numbers = so.numbers;
        waits = so.waits;
        waiting = so.waiting;
        written = λ k y l g. kept_at k y may l g;
        passed = λ ann b k l. absurd (omega (arith, l, none));
      }

  abbrev wrong_at : ℕ
  wrong_at = length j.slots

  -- if the type there is this one, it is not the written one
  not_kept : (ann : Ann) → slice_get ann.slots wrong_at ≡ Some ty → (y : Slot) → slice_get core.slots wrong_at ≡ Some y → KeepsType ann wrong_at y → MayHave core wrong_at ty
  not_kept ann has y g keeps z h w e =
      let one : y ≡ z = same_Some y z (sym g ∙ h) in
      let there : slice_get ann.slots wrong_at ≡ Some w = keeps w (ap (λ (x : Slot). x.written) one ∙ e) in
      same_Some w ty (sym there ∙ has)

  wrong_slot : (MayHave core (length j.slots) ty → ⊥) → Wrong core (top ∷ map line_of_slot slots) j.right (fault.Slot (length j.slots))
  wrong_slot not =
      let size = count_push j.slots ty in
      let less = at.fewer in
      let y = get_within core.slots wrong_at less in
      let here : (rest : List (ℕ × Cap)) → slice_get (slots ++ rest) wrong_at ≡ Some ty = λ rest. get_front slots rest wrong_at ty (get_behind j.slots ty []) in
      record {
        found = none_found core (top ∷ map line_of_slot slots) j.right (no_notes core ls j so at.none);
        stops = λ more k l r.
            let said : slots_in ((top ∷ map line_of_slot slots) ++ more) ≡ slots ++ slots_in more = slots_app slots more in
            let both = length-append slots (slots_in more) in
            let count : length (slots_in ((top ∷ map line_of_slot slots) ++ more)) ≡ length (slots ++ slots_in more) = ap (λ (xs : List (ℕ × Cap)). length xs) said in
            let within : wrong_at < length (slots_in ((top ∷ map line_of_slot slots) ++ more)) = omega (arith, size, both, count) in
            not (not_kept (so_far ((top ∷ map line_of_slot slots) ++ more)) (ap (λ (xs : List (ℕ × Cap)). slice_get xs wrong_at) said ∙ here (slots_in more)) y.0 y.1 (r.opens.written wrong_at y.0 within y.1));
        first = λ w ann more e ok.
            let g = head_of w ann at.version (length core.slots) (length core.nodes) (map line_of_slot slots ++ more) e in
            let shape = g.0 in
            let b = slots_begin ann slots more g.2 (omega (arith, size, less, shape)) in (
              ok,
              (g.0, g.1),
              (
                y.0,
                (
                  y.1,
                  (λ keeps. not (not_kept ann (ap (λ (xs : List (ℕ × Cap)). slice_get xs wrong_at) b.1 ∙ here b.0) y.0 y.1 keeps)),
                  λ i z m h w q. ap (λ (xs : List (ℕ × Cap)). slice_get xs i) b.1 ∙ get_front slots b.0 i w (get_front j.slots (ty ∷ []) i w (so.written i z m h w q)),
                ),
              ),
            );
      }

  pub slot_wrong : (n : ℕ) → n ≡ length j.slots → (MayHave core n ty → ⊥) → Wrong core (ls ++ line_of_slot ty ∷ []) j.right (fault.Slot n)
  slot_wrong n e not =
      subst (λ i. Wrong core (ls ++ line_of_slot ty ∷ []) j.right (fault.Slot i)) (sym e)
      (subst (λ x. Wrong core x j.right (fault.Slot (length j.slots))) (sym longer) (wrong_slot (λ may. not (subst (λ i. MayHave core i ty) (sym e) may))))

  -- If memory runs out, no node has been asked about.
  pub slot_lost : FoundRightUpTo core (ls ++ line_of_slot ty ∷ []) j.right
  slot_lost = none_found core (ls ++ line_of_slot ty ∷ []) j.right (no_notes core ls j so at.none)

  -- How the push of its type ended.
  pub slot_pushed : {E : Type 0} → (n : ℕ) → n ≡ length j.slots → MayHave core n ty → j.fault ≡ None → (s : List (ℕ × Cap)) (r : Result (Unit {0}) E) → OnOk r (s ≡ slots)
      → SameFound core ls (line_of_slot ty) j (record { slots = s; waiting = j.waiting; right = j.right; fault = j.fault }) r
  slot_pushed n e may none s (Ok u) same =
      let right = slot_right (subst (λ i. MayHave core i ty) e may) in
      let pushed : Judging = record { slots = slots; waiting = j.waiting; right = j.right; fault = j.fault } in
      let judged : JudgedSoFar core (ls ++ line_of_slot ty ∷ []) pushed =
      subst (λ o. JudgedBy core (ls ++ line_of_slot ty ∷ []) pushed o) (sym none) right in
      (subst (λ (q : List (ℕ × Cap)). JudgedSoFar core (ls ++ line_of_slot ty ∷ []) (record { slots = q; waiting = j.waiting; right = j.right; fault = j.fault })) (sym same) judged, refl)
  slot_pushed n e may none s (Err f) same = (slot_lost, refl)
