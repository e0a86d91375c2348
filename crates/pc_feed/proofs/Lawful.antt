-- The laws of what is asked about and of how bytes end.
use Rattle.std.specs.Prelude.{◌≡◌, ℕ, ◌<◌, ◌≤◌, List, [], ◌∷◌, ◌++◌, length, map, take, Ok, Err, refl}
use Rattle.std.proofs.{Common.{inl, inr, ap, ap₂, sym, append-nil, subst, ◌∙◌, arith}, lemmas.Bool.cases_lt, lemmas.Option.same_Some}
use Rattle.pc_core.specs.{CoreData.CoreData, Formed.Formed}
use Rattle.pc_ann.specs.{declared.annotation.Note.Note, declared.annotation.Ann.Ann}
use Rattle.pc_valid.specs.{Words.Slots, Valid.{MeetsRule, Valid}}
use Rattle.pc_referee.specs.Asked.{Pairs}
use Rattle.pc_deriv.specs.{declared.version.Version.Version, declared.line.Line.Line, declared.line.LineFault.LineFault, Lines.lines_of, Text.IsText, Laws.as_read}
use Rattle.pc_deriv.specs.declared.line.Line.TheVariants as line
use Rattle.pc_deriv.specs.declared.line.LineFault.TheVariants as line_fault
use Rattle.pc_deriv.proofs.{Outcome.{one_annotation, one_fault, no_fault}, Whole.texts_are_taken}
use Rattle.pc_judge.specs.{declared.faults.JudgeFault.JudgeFault, Faults.{FirstAnnotationFault, KeepsType}, AtNodes.NodePasses}
use Rattle.pc_judge.proofs.Exact.{not_valid, one_first}
use Rattle.pc_feed.specs.declared.fault.StreamFault.TheVariants as fault
use Rattle.pc_feed.specs.{Lines.{slots_in, notes_in, so_far}, Asked.{IsFoundRight, IsAsked}, Numbered.numbered_notes, Laws.{OneIsAsked, OneEnd, ValidAsksAll}}
use Rattle.pc_feed.proofs.Sayings.{notes_of_nodes, notes_of_slots, slots_app, numbered_length, take_all}

not_more : (core : CoreData) (ls : List Line) (a b : Pairs) (x : IsAsked core ls a) (y : IsAsked core ls b) → x.count < y.count → ⊥
not_more core ls a b x y l =
    let few = y.within in
    let within : x.count < length (notes_in ls) = omega (arith, l, few) in
    let again = (x.exact x.count within).1 ((y.exact x.count within).0 l) in
    omega (arith, again)

pub one_list : OneIsAsked
one_list core ls a b x y =
    let same : x.count ≡ y.count = elim (cases_lt x.count y.count) [
      | inl l ↦ absurd (not_more core ls a b x y l)
      | inr m ↦ elim (cases_lt y.count x.count) [ inl l ↦ absurd (not_more core ls b a y x l) | inr k ↦ omega (arith, m, k) ]
    ] in
    x.are ∙ ap (λ n. take n (numbered_notes 0 (notes_in ls))) same ∙ sym y.are

-- ---- only one end

same_fault : (f g : LineFault) → as_read f ≡ as_read g → f ≡ g
same_fault (line_fault.BadLine n) (line_fault.BadLine m) e = let same : n ≡ m = cc in ap line_fault.BadLine same
same_fault (line_fault.BadLine n) line_fault.TooMany e = cc
same_fault line_fault.TooMany (line_fault.BadLine m) e = cc
same_fault line_fault.TooMany line_fault.TooMany e = refl

-- a text of a valid annotation, and of one that is not
valid_and_not : (core : CoreData) (bytes : List ℕ) (a b : Ann) (f : JudgeFault) → Formed core → IsText bytes a → Valid core a → IsText bytes b → FirstAnnotationFault core b f → ⊥
valid_and_not core bytes a b f formed s v t w = not_valid core b f formed w (subst (Valid core) (one_annotation bytes a b s t) v)

pub one_end : OneEnd
one_end core bytes (Ok u) (Ok v) formed x y = refl
one_end core bytes (Ok u) (Err (fault.Text f)) formed x y = absurd (no_fault bytes x.0 (as_read f) x.1 y)
one_end core bytes (Ok u) (Err (fault.Invalid f)) formed x y = absurd (valid_and_not core bytes x.0 y.0 f formed x.1 x.2 y.1 y.2)
one_end core bytes (Ok u) (Err fault.Memory) formed x y = absurd y
one_end core bytes (Err (fault.Text f)) (Ok u) formed x y = absurd (no_fault bytes y.0 (as_read f) y.1 x)
one_end core bytes (Err (fault.Text f)) (Err (fault.Text g)) formed x y = ap (λ h. Err (fault.Text h)) (same_fault f g (one_fault bytes (as_read f) (as_read g) x y))
one_end core bytes (Err (fault.Text f)) (Err (fault.Invalid g)) formed x y = absurd (no_fault bytes y.0 (as_read f) y.1 x)
one_end core bytes (Err (fault.Text f)) (Err fault.Memory) formed x y = absurd y
one_end core bytes (Err (fault.Invalid f)) (Ok u) formed x y = absurd (valid_and_not core bytes y.0 x.0 f formed y.1 y.2 x.1 x.2)
one_end core bytes (Err (fault.Invalid f)) (Err (fault.Text g)) formed x y = absurd (no_fault bytes x.0 (as_read g) x.1 y)
one_end core bytes (Err (fault.Invalid f)) (Err (fault.Invalid g)) formed x y =
    ap (λ h. Err (fault.Invalid h))
    (one_first core x.0 f g formed x.2 (subst (λ a. FirstAnnotationFault core a g) (one_annotation bytes y.0 x.0 y.1 x.1) y.2))
one_end core bytes (Err (fault.Invalid f)) (Err fault.Memory) formed x y = absurd y
one_end core bytes (Err fault.Memory) b formed x y = absurd x

-- ---- a valid annotation

no_slots_in : (notes : List Note) → slots_in (map line.Node notes) ≡ []
no_slots_in [] = refl
no_slots_in (t ∷ notes) = refl

so_far_all : (w : Version) (ann : Ann) → so_far (lines_of w ann) ≡ ann
so_far_all w ann =
    let slots : slots_in (lines_of w ann) ≡ ann.slots = slots_app ann.slots (map line.Node ann.notes) ∙ ap (λ (s : Slots). ann.slots ++ s) (no_slots_in ann.notes) ∙ append-nil ann.slots in
    let notes : notes_in (lines_of w ann) ≡ ann.notes = notes_of_slots ann.slots (map line.Node ann.notes) ∙ notes_of_nodes ann.notes in
    ap₂ (λ (s : Slots) (ts : List Note). record { slots = s; notes = ts }) slots notes

valid_found : (core : CoreData) (w : Version) (ann : Ann) → Valid core ann → (k : ℕ) → k < length core.nodes → IsFoundRight core (lines_of w ann) k
valid_found core w ann v k l =
    let same = sym (so_far_all w ann) in
    record {
      opens = record {
        counts = λ c e. sym (same_Some (length ann.slots, length ann.notes) c e) ∙ ap₂ (λ (a : ℕ) (b : ℕ). (a, b)) v.slots v.notes;
        written = λ i y m g. subst (λ (a : Ann). KeepsType a i y) same (v.written i y g);
      };
      before = λ i m. subst (λ (a : Ann). NodePasses core a i) same (v.rules i (omega (arith, l, m)), λ n x g body. v.sets n x g);
      meets = subst (λ (a : Ann). MeetsRule core a k) same (v.rules k l);
    }

pub valid_asks_all : ValidAsksAll
valid_asks_all core bytes ann pairs formed text v asked =
    let w = text.version in
    let read = texts_are_taken bytes ann text in
    let x : IsAsked core (lines_of w ann) pairs = subst (λ l. IsAsked core l pairs) read.0 asked in
    let notes : notes_in (lines_of w ann) ≡ ann.notes = ap (λ (a : Ann). a.notes) (so_far_all w ann) in
    let size : length (notes_in (lines_of w ann)) ≡ length ann.notes = ap (λ (ts : List Note). length ts) notes in
    let all : length ann.notes ≡ length core.nodes = v.notes in
    let count : length ann.notes ≤ x.count = elim (cases_lt x.count (length ann.notes)) [
      | inl m ↦ let again = (x.exact x.count (omega (arith, m, size))).1 (valid_found core w ann v x.count (omega (arith, m, all))) in absurd (omega (arith, again))
      | inr m ↦ m
    ] in
    let long = numbered_length 0 (notes_in (lines_of w ann)) in
    x.are ∙ take_all (numbered_notes 0 (notes_in (lines_of w ann))) x.count (omega (arith, long, size, count)) ∙ ap (numbered_notes 0) notes
