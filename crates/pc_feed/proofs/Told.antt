-- Which nodes a referee was asked about, in terms of the state.
use Rattle.std.specs.Prelude.{◌≡◌, ◌⊎◌, ◌↔◌, ℕ, ◌+◌, ◌-◌, ◌<◌, ◌≤◌, List, [], ◌∷◌, ◌++◌, length, take, drop, Option, Some, None, slice_get, refl}
use Rattle.std.proofs.{Common.{inl, inr, ap, sym, subst, ◌∙◌, arith, append-nil, length-append}, Math.Seq.take-add, lemmas.Bool.cases_lt, lemmas.Option.same_Some}
use Rattle.pc_caps.specs.declared.capability.Cap.{Cap}
use Rattle.pc_base.proofs.Gets.{get_below}
use Rattle.pc_core.specs.CoreData.{CoreData}
use Rattle.pc_ann.specs.declared.annotation.Note.{Note}
use Rattle.pc_deriv.specs.declared.line.Line.{Line}
use Rattle.pc_judge.specs.declared.faults.JudgeFault.{JudgeFault}
use Rattle.pc_referee.specs.Asked.{Pairs}
use Rattle.pc_feed.specs.{Waiting.BeginsAnnotation, declared.judging.Judging.Judging, Lines.{counts_in, notes_in, so_far}, Asked.{IsFoundRight, IsAsked, Grew, GrewPart}, Numbered.numbered_notes, Streams.{StandsForLines, no_line, after_head, NothingWrong, FoundRightUpTo, JudgedBy, JudgedSoFar}, Steps.{GrewBy, first_nodes}}
use Rattle.pc_feed.proofs.{Sayings.{notes_app, first_nodes_more}, Places.{notes_are, right_within}, NodeLines.{lines_with, so_far_begins}}

-- ---- all of them, if there is no fault

first_of : (notes : List Note) (k : ℕ) → k < length notes → (t : Note) × (rest : List Note) × (notes ≡ t ∷ rest)
first_of [] k l = absurd (omega (arith, l))
first_of (t ∷ rest) k l = (t, rest, refl)

full_of : (core : CoreData) (slots : List (ℕ × Cap)) (notes : List Note) (k : ℕ) → k < length notes → (notes ≡ []) ⊎ (length slots ≡ length core.slots) → length slots ≡ length core.slots
full_of core slots notes k l (inl e) = let none : length notes ≡ 0 = ap (λ (ts : List Note). length ts) e in absurd (omega (arith, l, none))
full_of core slots notes k l (inr e) = e

all_found : (core : CoreData) (ls : List Line) (j : Judging) (so : NothingWrong core ls j) → StandsForLines core ls j.slots so.notes → (k : ℕ) → k < length so.notes → IsFoundRight core ls k
all_found core ls j so (no_line p q r) k l = let none : length so.notes ≡ 0 = ap (λ (ts : List Note). length ts) r in absurd (omega (arith, l, none))
all_found core ls j so (after_head v p m n o) k l =
    let f = first_of so.notes k l in
    let whole : lines_with core v j.slots so.notes ++ [] ≡ ls = append-nil (lines_with core v j.slots so.notes) ∙ sym p in
    let b : BeginsAnnotation (so_far ls) j.slots so.notes =
    subst (λ x. BeginsAnnotation (so_far x) j.slots so.notes) whole
    (subst (λ (ts : List Note). BeginsAnnotation (so_far (lines_with core v j.slots ts ++ [])) j.slots ts) (sym f.2)
    (so_far_begins core v j.slots f.0 f.1 [])) in
    let full = full_of core j.slots so.notes k l o in
    record {
      opens = record {
        counts = subst (λ x. (c : ℕ × ℕ) → counts_in x ≡ Some c → c ≡ (length core.slots, length core.nodes)) (sym p) (λ c e. sym (same_Some (length core.slots, length core.nodes) c e));
        written = λ i y m h w q.
            let low = get_below core.slots i y h in
            ap (λ (xs : List (ℕ × Cap)). slice_get xs i) b.1 ∙ so.written i y (omega (arith, low, full)) h w q;
      };
      before = λ i m. so.passed (so_far ls) b i (omega (arith, l, m));
      meets = (so.passed (so_far ls) b k l).0;
    }

-- ---- in each case

found_by : (core : CoreData) (ls : List Line) (j : Judging) (o : Option JudgeFault) → JudgedBy core ls j o → (k : ℕ) → k < length (notes_in ls) → (k < j.right) ↔ IsFoundRight core ls k
found_by core ls j None so k l =
    let e : length (notes_in ls) ≡ length so.notes = ap (λ (ts : List Note). length ts) (notes_are core ls j so) in
    let n = so.count in
    (λ m. all_found core ls j so so.lines k (omega (arith, n, m)), λ r. omega (arith, l, e, n))
found_by core ls j (Some f) w k l = (
  λ m. subst (λ x. IsFoundRight core x k) (append-nil ls) (w.found.each [] k m),
  λ r. elim (cases_lt k j.right) [ inl m ↦ m | inr m ↦ absurd (w.stops [] k m (subst (λ x. IsFoundRight core x k) (sym (append-nil ls)) r)) ],
)

pub asked_of : (core : CoreData) (ls : List Line) (j : Judging) → JudgedSoFar core ls j → IsAsked core ls (first_nodes ls j.right)
asked_of core ls j h = record { count = j.right; within = right_within core ls j j.fault h; exact = found_by core ls j j.fault h; are = refl }

-- ---- the growth of a list

pub grew_of : (core : CoreData) (old new : List Line) (j k : Judging) (a b : Option Pairs) → JudgedSoFar core old j → JudgedSoFar core new k → GrewBy (first_nodes old j.right) (first_nodes new k.right) a b → Grew core old new a b
grew_of core old new j k None b h i g = g
grew_of core old new j k (Some p) b h i g = (first_nodes old j.right, g.0, asked_of core old j h, subst (IsAsked core new) g.1 (asked_of core new k i), g.2)

-- What was found right first is asked about, whatever follows.
asked_front : (core : CoreData) (taken rest : List Line) (right : ℕ) (all : Pairs) → FoundRightUpTo core taken right → IsAsked core (taken ++ rest) all → (more : Pairs) × (all ≡ first_nodes taken right ++ more)
asked_front core taken rest right all found asked =
    let app : length (notes_in (taken ++ rest)) ≡ length (notes_in taken ++ notes_in rest) = ap (λ (ts : List Note). length ts) (notes_app taken rest) in
    let both = length-append (notes_in taken) (notes_in rest) in
    let few = found.few in
    let xs = numbered_notes 0 (notes_in (taken ++ rest)) in
    let enough : right ≤ asked.count = elim (cases_lt asked.count right) [
      | inl m ↦
          let again = (asked.exact asked.count (omega (arith, m, few, app, both))).1 (found.each rest asked.count m) in
          absurd (omega (arith, again))
      | inr m ↦ m
    ] in
    let cut : right + (asked.count - right) ≡ asked.count = omega (arith, enough) in (
      take (asked.count - right) (drop right xs),
      asked.are ∙ ap (λ n. take n xs) (sym cut) ∙ take-add right (asked.count - right) xs ∙ ap (λ ps. ps ++ take (asked.count - right) (drop right xs)) (first_nodes_more taken rest right few),
    )

pub grew_part_of : (core : CoreData) (old new taken rest : List Line) (j : Judging) (right : ℕ) (a b : Option Pairs) → JudgedSoFar core old j → new ≡ taken ++ rest → FoundRightUpTo core taken right
    → GrewBy (first_nodes old j.right) (first_nodes taken right) a b → GrewPart core old new a b
grew_part_of core old new taken rest j right None b h e f g = g
grew_part_of core old new taken rest j right (Some p) b h e f g = (
  first_nodes old j.right,
  g.0,
  asked_of core old j h,
  g.2,
  λ all asked. let k = asked_front core taken rest right all f (subst (λ x. IsAsked core x all) e asked) in (k.0, k.1 ∙ ap (λ (ps : Pairs). ps ++ k.0) g.1),
)
