-- If there is no fault, what may come next, and what is there for it.
use Rattle.std.specs.Prelude.{◌≡◌, ℕ, ◌+◌, ◌<◌, ◌≤◌, List, [], ◌∷◌, ◌++◌, length, map, Option, Some, None}
use Rattle.std.proofs.Common.{inl, inr, ap, sym, subst, ◌∙◌, arith, append-nil}
use Rattle.pc_caps.specs.declared.capability.Cap.{Cap}
use Rattle.pc_core.specs.CoreData.{CoreData}
use Rattle.pc_ann.specs.declared.annotation.Note.{Note}
use Rattle.pc_deriv.specs.{declared.line.Line.Line, Lines.line_of_slot}
use Rattle.pc_deriv.specs.declared.line.Line.TheVariants as line
use Rattle.pc_judge.specs.declared.faults.JudgeFault.{JudgeFault}
use Rattle.pc_feed.specs.{declared.judging.Judging.Judging, Lines.notes_in, Streams.{StandsForLines, no_line, after_head, NothingWrong, JudgedBy}, Steps.{LineFits, Counted, MayFollow, HasRoom}}
use Rattle.pc_feed.proofs.{Sayings.{notes_of_nodes, notes_of_slots}, Counting.counted_behind}

-- ---- the notes

pub notes_stand : (core : CoreData) (ls : List Line) (slots : List (ℕ × Cap)) (notes : List Note) → StandsForLines core ls slots notes
    → notes_in ls ≡ notes
notes_stand core ls slots notes (no_line p q r) = ap notes_in p ∙ sym r
notes_stand core ls slots notes (after_head v p l k o) = ap notes_in p ∙ notes_of_slots slots (map line.Node notes) ∙ notes_of_nodes notes

pub notes_are : (core : CoreData) (ls : List Line) (j : Judging) (so : NothingWrong core ls j) → notes_in ls ≡ so.notes
notes_are core ls j so = notes_stand core ls j.slots so.notes so.lines

-- No more nodes are found right than have come.
pub right_within : (core : CoreData) (ls : List Line) (j : Judging) (o : Option JudgeFault) → JudgedBy core ls j o → j.right ≤ length (notes_in ls)
right_within core ls j None so =
    let e : length (notes_in ls) ≡ length so.notes = ap (λ (ts : List Note). length ts) (notes_are core ls j so) in
    let n = so.count in
    omega (arith, e, n)
right_within core ls j (Some f) so = so.found.few

-- ---- the first line

head_stands : (core : CoreData) (ls : List Line) (slots : List (ℕ × Cap)) (notes : List Note) (n a b : ℕ) → StandsForLines core ls slots notes → MayFollow ls (line.Head n a b) → (ls ≡ []) × (slots ≡ []) × (notes ≡ [])
head_stands core ls slots notes n a b (no_line p q r) c = (p, q, r)
head_stands core ls slots notes n a b (after_head v p l k o) c =
    let h = counted_behind v (length core.slots) (length core.nodes) c.counts c.ended slots notes (subst (λ x. Counted None 0 x c.counts c.ended) p c.counted) in
    absurd (subst (λ x. LineFits x c.ended (line.Head n a b)) (sym h.0) c.fits)

pub head_at : (core : CoreData) (ls : List Line) (j : Judging) (so : NothingWrong core ls j) (n a b : ℕ) → MayFollow ls (line.Head n a b) → (ls ≡ []) × (j.slots ≡ []) × (so.notes ≡ [])
head_at core ls j so n a b c = head_stands core ls j.slots so.notes n a b so.lines c

-- ---- a slot

pub record SlotAt (core : CoreData) (ls : List Line) (j : Judging) (so : NothingWrong core ls j) : Type 0 where
  pub version : ℕ
  pub lines : ls ≡ line.Head version (length core.slots) (length core.nodes) ∷ map line_of_slot j.slots
  pub none : so.notes ≡ []
  pub fewer : length j.slots < length core.slots

nothing_comes : (ls : List Line) (l : Line) (c : MayFollow ls l) → ls ≡ [] → LineFits None 0 l
nothing_comes ls l c p =
    let h : (None ≡ c.counts) × (0 ≡ c.ended) = subst (λ x. Counted None 0 x c.counts c.ended) p c.counted in
    subst (λ x. LineFits x 0 l) (sym h.0) (subst (λ n. LineFits c.counts n l) (sym h.1) c.fits)

slot_stands : (core : CoreData) (ls : List Line) (slots : List (ℕ × Cap)) (notes : List Note) (e : ℕ) (k : Cap) → StandsForLines core ls slots notes → MayFollow ls (line.Slot e k)
    → (v : ℕ) × (ls ≡ line.Head v (length core.slots) (length core.nodes) ∷ map line_of_slot slots) × (notes ≡ [])
    × (length slots < length core.slots)
slot_stands core ls slots notes e k (no_line p q r) c = absurd (nothing_comes ls (line.Slot e k) c p)
slot_stands core ls slots notes e k (after_head v p l m o) c =
    let h = counted_behind v (length core.slots) (length core.nodes) c.counts c.ended slots notes (subst (λ x. Counted None 0 x c.counts c.ended) p c.counted) in
    let fits : c.ended ≤ length core.slots = subst (λ x. LineFits x c.ended (line.Slot e k)) (sym h.0) c.fits in
    let number = h.1 in
    let less : length slots < length core.slots = omega (arith, fits, number) in
    let none : notes ≡ [] = elim o [ inl n ↦ n | inr full ↦ absurd (omega (arith, full, less)) ] in
    let empty : map line_of_slot slots ++ map line.Node notes ≡ map line_of_slot slots = ap (λ (ts : List Note). map line_of_slot slots ++ map line.Node ts) none ∙ append-nil (map line_of_slot slots) in
    (v, p ∙ ap (λ x. line.Head v (length core.slots) (length core.nodes) ∷ x) empty, none, less)

pub slot_at : (core : CoreData) (ls : List Line) (j : Judging) (so : NothingWrong core ls j) (e : ℕ) (k : Cap) → MayFollow ls (line.Slot e k) → SlotAt core ls j so
slot_at core ls j so e k c = let h = slot_stands core ls j.slots so.notes e k so.lines c in record { version = h.0; lines = h.1; none = h.2; fewer = h.3 }

-- ---- a node

pub record NodeAt (core : CoreData) (ls : List Line) (j : Judging) (so : NothingWrong core ls j) : Type 0 where
  pub version : ℕ
  pub lines : ls ≡ line.Head version (length core.slots) (length core.nodes) ∷ (map line_of_slot j.slots ++ map line.Node so.notes)
  pub full : length j.slots ≡ length core.slots
  pub below : length so.notes < length core.nodes

node_stands : (core : CoreData) (ls : List Line) (slots : List (ℕ × Cap)) (notes : List Note) (t : Note) → StandsForLines core ls slots notes → MayFollow ls (line.Node t)
    → (v : ℕ) × (ls ≡ line.Head v (length core.slots) (length core.nodes) ∷ (map line_of_slot slots ++ map line.Node notes)) × (length slots ≡ length core.slots) × (length notes < length core.nodes)
node_stands core ls slots notes t (no_line p q r) c = absurd (nothing_comes ls (line.Node t) c p)
node_stands core ls slots notes t (after_head v p l m o) c =
    let h = counted_behind v (length core.slots) (length core.nodes) c.counts c.ended slots notes (subst (λ x. Counted None 0 x c.counts c.ended) p c.counted) in
    let fits : (length core.slots < c.ended) × (c.ended ≤ length core.slots + length core.nodes) = subst (λ x. LineFits x c.ended (line.Node t)) (sym h.0) c.fits in
    let number = h.1 in
    let low = fits.0 in
    let high = fits.1 in
    let full : length slots ≡ length core.slots = elim o [
      | inl n ↦ let none : length notes ≡ 0 = ap (λ (ts : List Note). length ts) n in omega (arith, number, low, l, none)
      | inr f ↦ f
    ] in
    (v, p, full, omega (arith, number, high, full))

pub node_at : (core : CoreData) (ls : List Line) (j : Judging) (so : NothingWrong core ls j) (t : Note) → MayFollow ls (line.Node t) → NodeAt core ls j so
node_at core ls j so t c = let h = node_stands core ls j.slots so.notes t so.lines c in record { version = h.0; lines = h.1; full = h.2; below = h.3 }

-- ---- room

pub has_room : (core : CoreData) (ls : List Line) (l : Line) (j : Judging) → NothingWrong core ls j → MayFollow ls l → HasRoom core j l
has_room core ls (line.Head n a b) j so c = tt
has_room core ls (line.Slot e k) j so c = (slot_at core ls j so e k c).fewer
has_room core ls (line.Node t) j so c = let h = node_at core ls j so t c in let n = so.count in let b = h.below in (h.full, omega (arith, n, b))
