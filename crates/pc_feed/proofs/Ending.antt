-- The end of all lines of an annotation.
use Rattle.std.specs.Prelude.{◌≡◌, ℕ, suc, List, [], ◌∷◌, ◌++◌, length, map, Some, None, slice_get, refl}
use Rattle.std.proofs.{Common.{ap, sym, subst, ◌∙◌, arith, append-nil, length-append}, lemmas.List.length-map}
use Rattle.pc_caps.specs.declared.capability.Cap.{Cap}
use Rattle.pc_base.proofs.Gets.{get_below}
use Rattle.pc_core.specs.{CoreData.CoreData, Formed.Formed}
use Rattle.pc_ann.specs.{declared.annotation.Note.Note, declared.annotation.Ann.Ann}
use Rattle.pc_sub.specs.Declarations.{DeclOk}
use Rattle.pc_valid.specs.Valid.{Valid}
use Rattle.pc_deriv.specs.{declared.version.Version.Version, declared.line.Line.Line, Lines.{line_of_slot, lines_of}}
use Rattle.pc_deriv.specs.declared.line.Line.TheVariants as line
use Rattle.pc_judge.specs.{declared.faults.JudgeFault.JudgeFault, Faults.FirstAnnotationFault}
use Rattle.pc_judge.proofs.Exact.{before_all}
use Rattle.pc_feed.specs.{Waiting.BeginsAnnotation, declared.judging.Judging.Judging, Streams.{StandsForLines, no_line, after_head, NothingWrong, JudgedBy, JudgedSoFar}}
use Rattle.pc_feed.proofs.Beginnings.{no_lines, head_of, notes_begin}

-- Among an annotation's lines, the slots and the nodes are all of them.
all_stand : (core : CoreData) (v : Version) (ann : Ann) (slots : List (ℕ × Cap)) (notes : List Note) → StandsForLines core (lines_of v ann) slots notes
    → (ann.slots ≡ slots) × (ann.notes ≡ notes) × (length slots ≡ length core.slots) × (length notes ≡ length core.nodes)
all_stand core v ann slots notes (no_line p q r) = absurd (no_lines v ann p)
all_stand core v ann slots notes (after_head w p l k o) =
    let h = head_of v ann w (length core.slots) (length core.nodes) (map line_of_slot slots ++ map line.Node notes) p in
    let left = length-append (map line_of_slot ann.slots) (map line.Node ann.notes) in
    let right = length-append (map line_of_slot slots) (map line.Node notes) in
    let count : length (map line_of_slot ann.slots ++ map line.Node ann.notes) ≡ length (map line_of_slot slots ++ map line.Node notes) = ap (λ (x : List Line). length x) h.2 in
    let a = length-map ann.slots line_of_slot in
    let b = length-map ann.notes line.Node in
    let c = length-map slots line_of_slot in
    let d = length-map notes line.Node in
    let first = h.0 in
    let second = h.1 in
    let full : length slots ≡ length core.slots = omega (arith, left, right, count, a, b, c, d, first, second, l, k) in
    let all : length notes ≡ length core.nodes = omega (arith, left, right, count, a, b, c, d, first, second, l, k, full) in
    let cut : map line_of_slot ann.slots ++ map line.Node ann.notes ≡ map line_of_slot slots ++ (map line.Node notes ++ []) = h.2 ∙ ap (λ (x : List Line). map line_of_slot slots ++ x) (sym (append-nil (map line.Node notes))) in
    let n = notes_begin ann slots notes [] cut (full ∙ sym first) in
    (n.1, no_more ann.notes notes n.0 n.2 (second ∙ sym all), full, all)
  where
    empty : (rest xs : List Note) → length (xs ++ rest) ≡ length xs → xs ++ rest ≡ xs
    empty [] xs e = append-nil xs
    empty (t ∷ rest) xs e = absurd (let both = length-append xs (t ∷ rest) in let size : length (t ∷ rest) ≡ suc (length rest) = refl in omega (arith, e, both, size))

    no_more : (xs ys rest : List Note) → xs ≡ ys ++ rest → length xs ≡ length ys → xs ≡ ys
    no_more xs ys rest e l = e ∙ empty rest ys (ap (λ (x : List Note). length x) (sym e) ∙ l)

pub valid_end : (core : CoreData) → Formed core → (v : Version) (ann : Ann) (j : Judging) → DeclOk core → j.fault ≡ None → JudgedSoFar core (lines_of v ann) j → Valid core ann
valid_end core formed v ann j ok none h =
    let so : NothingWrong core (lines_of v ann) j = subst (JudgedBy core (lines_of v ann) j) none h in
    let a = all_stand core v ann j.slots so.notes so.lines in
    let begins : BeginsAnnotation ann j.slots so.notes = ([], a.0, a.1 ∙ sym (append-nil so.notes)) in
    before_all core ann (length so.notes) formed a.3 (record {
      declarations = ok;
      shape = (ap (λ (x : List (ℕ × Cap)). length x) a.0 ∙ a.2, ap (λ (x : List Note). length x) a.1 ∙ a.3);
      written = λ k y g w e.
          let l = get_below core.slots k y g in
          let full = a.2 in
          ap (λ (x : List (ℕ × Cap)). slice_get x k) a.0 ∙ so.written k y (omega (arith, l, full)) g w e;
      rules = λ k l. (so.passed ann begins k l).0;
      sets = λ k l. (so.passed ann begins k l).1;
    })

pub wrong_end : (core : CoreData) (v : Version) (ann : Ann) (j : Judging) (f : JudgeFault) → DeclOk core → j.fault ≡ Some f → JudgedSoFar core (lines_of v ann) j → FirstAnnotationFault core ann f
wrong_end core v ann j f ok is h =
    let w = subst (JudgedBy core (lines_of v ann) j) is h in
    w.first v ann [] (sym (append-nil (lines_of v ann))) ok
