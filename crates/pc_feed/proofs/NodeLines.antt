-- The lines of nodes.
use Rattle.std.specs.Prelude.{◌≡◌, ◌↔◌, ℕ, ◌+◌, ◌<◌, ◌≤◌, true, false, List, [], ◌∷◌, ◌++◌, length, map, Option, Some, None, Result, Ok, Err, OnOk, OnErr, slice_get, refl}
use Rattle.std.proofs.{Common.{inl, inr, ap, sym, subst, ◌∙◌, arith, append-nil, append_assoc}, lemmas.Bool.cases_lt, lemmas.Option.same_Some}
use Rattle.pc_caps.specs.declared.capability.Cap.{Cap}
use Rattle.pc_base.proofs.Gets.{get_below, get_behind}
use Rattle.pc_core.specs.{declared.nodes.Node.Node, CoreData.CoreData, Formed.Formed}
use Rattle.pc_ann.specs.{declared.annotation.Note.Note, declared.annotation.Ann.Ann}
use Rattle.pc_sub.specs.Declarations.{DeclOk}
use Rattle.pc_valid.specs.{Valid.MeetsRule, NoRule.Holds}
use Rattle.pc_deriv.specs.{declared.version.Version.Version, declared.line.Line.Line, Lines.{line_of_slot, lines_of}}
use Rattle.pc_deriv.specs.declared.line.Line.TheVariants as line
use Rattle.pc_judge.specs.declared.faults.JudgeFault.TheVariants as fault
use Rattle.pc_judge.specs.{Computed.unset_of, Faults.{NothingWrongBefore, FirstAnnotationFault}, AtNodes.{FailsAt, NodePasses}}
use Rattle.pc_judge.proofs.AtNode.{passes, fails_set}
use Rattle.pc_feed.specs.{Waiting.BeginsAnnotation, declared.judging.Judging.Judging, Lines.{notes_in, so_far}, Asked.{OpeningFits, IsFoundRight}, Streams.{after_head, NothingWrong, FoundRightUpTo, Wrong, JudgedBy, JudgedSoFar}, Steps.{last_of, waits_after, OneFound}}
use Rattle.pc_feed.proofs.{Noted.waiting_tells, Sayings.{map_push, count_push, notes_behind, slots_behind}, Beginnings.{head_of, notes_begin}, Places.NodeAt, Waitings.{behind, back_is}}

-- ---- the content of the lines of slots and of nodes

abbrev pub top_of : CoreData → ℕ → Line
top_of core v = line.Head v (length core.slots) (length core.nodes)

abbrev pub lines_with : CoreData → ℕ → List (ℕ × Cap) → List Note → List Line
lines_with core v slots notes = top_of core v ∷ (map line_of_slot slots ++ map line.Node notes)

-- the annotation given by lines with a node among them
module _ (core : CoreData) (v : ℕ) (slots : List (ℕ × Cap)) (t : Note) (notes : List Note) (more : List Line) where
  pub so_far_begins : BeginsAnnotation (so_far (lines_with core v slots (t ∷ notes) ++ more)) slots (t ∷ notes)
  so_far_begins = (notes_in more, slots_behind v (length core.slots) (length core.nodes) slots t notes more, notes_behind v (length core.slots) (length core.nodes) slots (t ∷ notes) more)

push_is_some : (notes : List Note) (own : Note) → (t : Note) × (rest : List Note) × (notes ++ own ∷ [] ≡ t ∷ rest)
push_is_some [] own = (own, [], refl)
push_is_some (t ∷ notes) own = (t, notes ++ own ∷ [], refl)

-- the same where the last node is named
begins_push : (core : CoreData) (v : ℕ) (slots : List (ℕ × Cap)) (notes : List Note) (own : Note) (more : List Line) → BeginsAnnotation (so_far (lines_with core v slots (notes ++ own ∷ []) ++ more)) slots (notes ++ own ∷ [])
begins_push core v slots notes own more =
    let s = push_is_some notes own in
    subst (λ (ts : List Note). BeginsAnnotation (so_far (lines_with core v slots ts ++ more)) slots ts) (sym s.2) (so_far_begins core v slots s.0 s.1 more)

-- An annotation that begins with one more note begins with those before it.
pub begins_less : (ann : Ann) (slots : List (ℕ × Cap)) (notes : List Note) (own : Note) → BeginsAnnotation ann slots (notes ++ own ∷ [])
    → BeginsAnnotation ann slots notes
begins_less ann slots notes own b = (own ∷ b.0, b.1, b.2 ∙ append_assoc notes (own ∷ []) b.0)

own_at : (ann : Ann) (slots : List (ℕ × Cap)) (notes : List Note) (own : Note) → BeginsAnnotation ann slots (notes ++ own ∷ []) → slice_get ann.notes (length notes) ≡ Some own
own_at ann slots notes own b = ap (λ (ts : List Note). slice_get ts (length notes)) (b.2 ∙ append_assoc notes (own ∷ []) b.0) ∙ get_behind notes own b.0

-- ---- a node's line

module _ (core : CoreData) (formed : Formed core) (ls : List Line) (j : Judging) (so : NothingWrong core ls j) (own : Note) (at : NodeAt core ls j so) (x : Node) (g : slice_get core.nodes j.right ≡ Some x) where
  abbrev n : ℕ
  n = length so.notes

  abbrev notes : List Note
  notes = so.notes ++ own ∷ []

  abbrev after : List Line
  after = lines_with core at.version j.slots notes

  longer : ls ++ line.Node own ∷ [] ≡ after
  longer =
      ap (λ (l : List Line). l ++ line.Node own ∷ []) at.lines
      ∙ ap (λ (l : List Line). top_of core at.version ∷ l) (append_assoc (map line_of_slot j.slots) (map line.Node so.notes) (line.Node own ∷ []) ∙ ap (λ (l : List Line). map line_of_slot j.slots ++ l) (sym (map_push line.Node so.notes own)))

  is_here : slice_get core.nodes n ≡ Some x
  is_here = ap (slice_get core.nodes) (sym so.count) ∙ g

  abbrev children : List Note
  children = last_of j.waiting (length x.children)

  -- The referee's answer holds for every annotation that begins like this.
  tells : (ann : Ann) → BeginsAnnotation ann j.slots notes → (Holds core j.slots own children j.right) ↔ (MeetsRule core ann n)
  tells ann b =
      let t = waiting_tells core j.slots so.notes j.waiting so.numbers own x formed so.waits so.waiting is_here in
      let same : children ≡ t.1 = back_is j.waiting t.0 t.1 (length x.children) t.2 t.3 in
      let h = t.4 ann b in
      let asked : (Holds core j.slots own t.1 n) ↔ (MeetsRule core ann n) = h in
      subst (λ k. (Holds core j.slots own children k) ↔ (MeetsRule core ann n)) (sym so.count)
      (subst (λ (cs : List Note). (Holds core j.slots own cs n) ↔ (MeetsRule core ann n)) (sym same) asked)

  passed_before : (ann : Ann) → BeginsAnnotation ann j.slots notes → (k : ℕ) → k < n → NodePasses core ann k
  passed_before ann b k l = so.passed ann (begins_less ann j.slots so.notes own b) k l

  -- for an annotation whose lines begin like this
  ann_begins : (v : Version) (ann : Ann) (more : List Line) → lines_of v ann ≡ after ++ more → (BeginsAnnotation ann j.slots notes) × (length ann.slots ≡ length core.slots) × (length ann.notes ≡ length core.nodes)
  ann_begins v ann more e =
      let h = head_of v ann at.version (length core.slots) (length core.nodes) ((map line_of_slot j.slots ++ map line.Node notes) ++ more) e in
      let cut = h.2 ∙ append_assoc (map line_of_slot j.slots) (map line.Node notes) more in
      let b = notes_begin ann j.slots notes more cut (at.full ∙ sym h.0) in
      (b, h.0, h.1)

  before_here : (v : Version) (ann : Ann) (more : List Line) → lines_of v ann ≡ after ++ more → DeclOk core → NothingWrongBefore core ann n
  before_here v ann more e ok =
      let b = ann_begins v ann more e in
      record {
        declarations = ok;
        shape = (b.1, b.2);
        written = λ k y h w q.
            let l = get_below core.slots k y h in
            let full = at.full in
            ap (λ (xs : List (ℕ × Cap)). slice_get xs k) b.0.1 ∙ so.written k y (omega (arith, l, full)) h w q;
        rules = λ k l. (passed_before ann b.0 k l).0;
        sets = λ k l. (passed_before ann b.0 k l).1;
      }

  opens : (more : List Line) → OpeningFits core (after ++ more)
  opens more =
      let b = begins_push core at.version j.slots so.notes own more in
      record {
        counts = λ c e. sym (same_Some (length core.slots, length core.nodes) c e);
        written = λ k y l h w q.
            let low = get_below core.slots k y h in
            let full = at.full in
            ap (λ (xs : List (ℕ × Cap)). slice_get xs k) b.1 ∙ so.written k y (omega (arith, low, full)) h w q;
      }

  -- the earlier ones are found right
  found_before : (more : List Line) (k : ℕ) → k < n → IsFoundRight core (after ++ more) k
  found_before more k l =
      let b = begins_push core at.version j.slots so.notes own more in
      record {
        opens = opens more;
        before = λ i m. passed_before (so_far (after ++ more)) b i (omega (arith, l, m));
        meets = (passed_before (so_far (after ++ more)) b k l).0;
      }

  size : length (notes_in after) ≡ n + 1
  size = ap (λ (ts : List Note). length ts) (ap notes_in (sym (append-nil after)) ∙ notes_behind at.version (length core.slots) (length core.nodes) j.slots notes [] ∙ append-nil notes) ∙ count_push so.notes own

  -- ---- it does not satisfy its rule

  -- As far as nodes were found right before it.
  pub found_so_far : FoundRightUpTo core (ls ++ line.Node own ∷ []) j.right
  found_so_far =
      let count = so.count in
      subst (λ l. FoundRightUpTo core l j.right) (sym longer)
      (record { few = omega (arith, count, size); each = λ more k l. found_before more k (omega (arith, l, count)) })

  pub node_wrong : (Holds core j.slots own children j.right → ⊥) → Wrong core (ls ++ line.Node own ∷ []) j.right (fault.Node j.right)
  node_wrong not =
      let count = so.count in
      subst (λ l. Wrong core l j.right (fault.Node j.right)) (sym longer)
      (record {
        found = subst (λ l. FoundRightUpTo core l j.right) longer found_so_far;
        stops = λ more k l r.
            let b = begins_push core at.version j.slots so.notes own more in
            not ((tells (so_far (after ++ more)) b).1 (meets_here more k (omega (arith, l, count)) r));
        first = λ v ann more e ok.
            let b = ann_begins v ann more e in
            let low : n < length core.nodes = at.below in
            subst (λ i. FirstAnnotationFault core ann (fault.Node i)) (sym count) (low, before_here v ann more e ok, λ m. not ((tells ann b.0).1 m));
      })
    where
      meets_here : (more : List Line) (k : ℕ) → n ≤ k → IsFoundRight core (after ++ more) k → MeetsRule core (so_far (after ++ more)) n
      meets_here more k l r = elim (cases_lt n k) [
        | inl m ↦ (r.before n m).0
        | inr m ↦ let same : k ≡ n = omega (arith, l, m) in subst (MeetsRule core (so_far (after ++ more))) same r.meets
      ]

  -- ---- it satisfies its rule

  module _ (right : Holds core j.slots own children j.right) where
    meets : (ann : Ann) → BeginsAnnotation ann j.slots notes → MeetsRule core ann n
    meets ann b = (tells ann b).0 right

    found_here : (more : List Line) (k : ℕ) → k < n + 1 → IsFoundRight core (after ++ more) k
    found_here more k l = elim (cases_lt k n) [
      | inl m ↦ found_before more k m
      | inr m ↦
          let b = begins_push core at.version j.slots so.notes own more in
          let same : n ≡ k = omega (arith, l, m) in
          subst (IsFoundRight core (after ++ more)) same
          (record { opens = opens more; before = λ i h. passed_before (so_far (after ++ more)) b i h; meets = meets (so_far (after ++ more)) b })
    ]

    found_after : (r : ℕ) → r ≡ j.right + 1 → FoundRightUpTo core after r
    found_after r e =
        let count = so.count in
        record { few = omega (arith, e, count, size); each = λ more k l. found_here more k (omega (arith, l, e, count)) }

    pub found_one : (r : ℕ) → r ≡ j.right + 1 → FoundRightUpTo core (ls ++ line.Node own ∷ []) r
    found_one r e = subst (λ l. FoundRightUpTo core l r) (sym longer) (found_after r e)

    -- what is computed about the fields after it, in every annotation
    unset_in : (ann : Ann) → BeginsAnnotation ann j.slots notes → unset_of core n (slice_get core.methods x.method) (slice_get ann.notes n) ≡ unset_of core j.right (slice_get core.methods x.method) (Some own)
    unset_in ann b =
        ap (λ (o : Option Note). unset_of core n (slice_get core.methods x.method) o) (own_at ann j.slots so.notes own b)
        ∙ ap (λ k. unset_of core k (slice_get core.methods x.method) (Some own)) (sym so.count)

    module _ (unset : unset_of core j.right (slice_get core.methods x.method) (Some own) ≡ true) where
      fails_here : (ann : Ann) → BeginsAnnotation ann j.slots notes → FailsAt core ann n (fault.Unset x.method)
      fails_here ann b = fails_set core ann n x.method formed (meets ann b) (unset_in ann b ∙ unset)

      pub node_unset : (r : ℕ) → r ≡ j.right + 1 → Wrong core (ls ++ line.Node own ∷ []) r (fault.Unset x.method)
      node_unset r e =
          let count = so.count in
          subst (λ l. Wrong core l r (fault.Unset x.method)) (sym longer)
          (record {
            found = found_after r e;
            stops = λ more k l f.
                let b = begins_push core at.version j.slots so.notes own more in
                let h = fails_here (so_far (after ++ more)) b in
                let low : n < k = omega (arith, l, e, count) in
                h.1.3 ((f.before n low).1 x.method h.1.0 h.1.1 h.1.2);
            first = λ v ann more q ok.
                let b = ann_begins v ann more q in
                let h = fails_here ann b.0 in
                (h.1.0, n, h.1.1, h.1.2, before_here v ann more q ok, h.0, h.1.3);
          })

    module _ (all_set : unset_of core j.right (slice_get core.methods x.method) (Some own) ≡ false) where
      passes_here : (ann : Ann) → BeginsAnnotation ann j.slots notes → NodePasses core ann n
      passes_here ann b = passes core ann n x formed is_here (meets ann b) (unset_in ann b ∙ all_set)

      pub node_right : (r : ℕ) → r ≡ j.right + 1 → NothingWrong core (ls ++ line.Node own ∷ []) (record { slots = j.slots; waiting = waits_after j.waiting x own; right = r; fault = j.fault })
      node_right r e =
          let count = so.count in
          let below = at.below in
          let full = at.full in
          let pushed = count_push so.notes own in
          let b = behind core formed so.notes j.waiting so.numbers own x so.waits so.waiting is_here in
          record {
            notes = notes;
            lines = after_head at.version longer (omega (arith, full)) (omega (arith, pushed, below)) (inr full);
            count = omega (arith, e, count, pushed);
            numbers = b.numbers;
            waits = b.waits;
            waiting = b.kept;
            written = so.written;
            passed = λ ann q k l. elim (cases_lt k n) [
              | inl m ↦ passed_before ann q k m
              | inr m ↦ let same : n ≡ k = omega (arith, l, m, pushed) in subst (NodePasses core ann) same (passes_here ann q)
            ];
          }

      -- How keeping its note ended.
      pub node_kept : {E : Type 0} → j.fault ≡ None → (old new : Judging) (r : Result (Unit {0}) E) → old ≡ record { slots = j.slots; waiting = j.waiting; right = j.right + 1; fault = j.fault }
          → OnOk r (new ≡ record old { waiting = waits_after old.waiting x own }) → OnErr r (new.right ≡ old.right) → OneFound core ls own j new r
      node_kept none old new (Ok u) e ok err =
          let after_all : Judging = record { slots = j.slots; waiting = waits_after j.waiting x own; right = j.right + 1; fault = j.fault } in
          let judged : JudgedSoFar core (ls ++ line.Node own ∷ []) after_all = subst (λ o. JudgedBy core (ls ++ line.Node own ∷ []) after_all o) (sym none) (node_right (j.right + 1) refl) in
          let same : new ≡ after_all = ok ∙ ap (λ (q : Judging). record q { waiting = waits_after q.waiting x own }) e in
          (subst (JudgedSoFar core (ls ++ line.Node own ∷ [])) (sym same) judged, ap (λ (q : Judging). q.right) same)
      node_kept none old new (Err f) e ok err =
          let count : new.right ≡ j.right + 1 = err ∙ ap (λ (q : Judging). q.right) e in
          (found_one new.right count, count)
