-- An annotation whose lines begin with these.
use Rattle.std.specs.Prelude.{◌≡◌, ℕ, suc, ◌≤◌, List, [], ◌∷◌, ◌++◌, length, map, refl}
use Rattle.std.proofs.Common.{ap, sym, ◌∙◌, arith, append-nil}
use Rattle.pc_caps.specs.declared.capability.Cap.{Cap}
use Rattle.pc_ann.specs.{declared.annotation.Note.Note, declared.annotation.Ann.Ann}
use Rattle.pc_valid.specs.Words.{Slots}
use Rattle.pc_deriv.specs.{declared.version.Version.Version, declared.line.Line.Line, Parts.version_number, Lines.{line_of_slot, lines_of}}
use Rattle.pc_deriv.specs.declared.line.Line.TheVariants as line

same_head : (x y : Line) (xs ys : List Line) → ◌≡◌ {A = List Line} (x ∷ xs) (y ∷ ys) → x ≡ y
same_head x y xs ys e = cc

same_tail : (x y : Line) (xs ys : List Line) → ◌≡◌ {A = List Line} (x ∷ xs) (y ∷ ys) → xs ≡ ys
same_tail x y xs ys e = cc

none_some : (x : Line) (xs : List Line) → ◌≡◌ {A = List Line} [] (x ∷ xs) → ⊥
none_some x xs e = cc

pub no_lines : (v : Version) (ann : Ann) → lines_of v ann ≡ [] → ⊥
no_lines v ann e = none_some _ _ (sym e)

-- ---- nodes

nodes_cut : (all notes : List Note) (more : List Line) → map line.Node all ≡ map line.Node notes ++ more → (rest : List Note) × (all ≡ notes ++ rest) × (map line.Node rest ≡ more)
nodes_cut all [] more e = (all, refl, e)
nodes_cut [] (t ∷ notes) more e = absurd (none_some _ _ e)
nodes_cut (s ∷ all) (t ∷ notes) more e =
    let h : line.Node s ≡ line.Node t = same_head _ _ _ _ e in
    let one : s ≡ t = cc in
    let k = nodes_cut all notes more (same_tail _ _ _ _ e) in
    (k.0, ap (λ x. x ∷ all) one ∙ ap (λ xs. t ∷ xs) k.1, k.2)

-- ---- slots

same_slot : (a b : ℕ × Cap) → line_of_slot a ≡ line_of_slot b → a ≡ b
same_slot (a, k) (b, j) e = let p : a ≡ b = cc in let q : k ≡ j = cc in ap (λ x. (x, k)) p ∙ ap (λ x. (b, x)) q

-- If there are fewer slots than in the core, more follow.
slots_cut : (all slots : Slots) (notes : List Note) (more : List Line) → map line_of_slot all ++ map line.Node notes ≡ map line_of_slot slots ++ more → length slots ≤ length all
    → (rest : Slots) × (all ≡ slots ++ rest) × (map line_of_slot rest ++ map line.Node notes ≡ more)
slots_cut all [] notes more e l = (all, refl, e)
slots_cut [] (y ∷ slots) notes more e l = absurd (let size : length (y ∷ slots) ≡ suc (length slots) = refl in omega (arith, l, size))
slots_cut (x ∷ all) (y ∷ slots) notes more e l =
    let one = same_slot x y (same_head _ _ _ _ e) in
    let few : length slots ≤ length all = omega (arith, l) in
    let k = slots_cut all slots notes more (same_tail _ _ _ _ e) few in
    (k.0, ap (λ z. z ∷ all) one ∙ ap (λ zs. y ∷ zs) k.1, k.2)

-- ---- whole annotations

pub head_of : (v : Version) (ann : Ann) (n a b : ℕ) (ls : List Line) → lines_of v ann ≡ line.Head n a b ∷ ls → (length ann.slots ≡ a) × (length ann.notes ≡ b) × (map line_of_slot ann.slots ++ map line.Node ann.notes ≡ ls)
head_of v ann n a b ls e =
    let h : line.Head (version_number v) (length ann.slots) (length ann.notes) ≡ line.Head n a b = same_head _ _ _ _ e in
    let p : length ann.slots ≡ a = cc in
    let q : length ann.notes ≡ b = cc in
    (p, q, same_tail _ _ _ _ e)

no_rest : {A : Type 0} → (xs rest : List A) → length (xs ++ rest) ≡ length xs → rest ≡ []
no_rest [] [] e = refl
no_rest [] (y ∷ ys) e = absurd (let size : length (y ∷ ys) ≡ suc (length ys) = refl in let none : length (y ∷ ys) ≡ 0 = e in omega (arith, size, none))
no_rest (x ∷ xs) rest e = let k : length (xs ++ rest) ≡ length xs = omega (arith, e) in no_rest xs rest k

-- It begins with these slots.
pub slots_begin : (ann : Ann) (slots : Slots) (more : List Line) → map line_of_slot ann.slots ++ map line.Node ann.notes ≡ map line_of_slot slots ++ more → length slots ≤ length ann.slots
    → (rest : Slots) × (ann.slots ≡ slots ++ rest)
slots_begin ann slots more e l = let k = slots_cut ann.slots slots ann.notes more e l in (k.0, k.1)

-- It has these slots, and begins with these nodes.
pub notes_begin : (ann : Ann) (slots : Slots) (notes : List Note) (more : List Line) → map line_of_slot ann.slots ++ map line.Node ann.notes ≡ map line_of_slot slots ++ (map line.Node notes ++ more) → length slots ≡ length ann.slots
    → (rest : List Note) × (ann.slots ≡ slots) × (ann.notes ≡ notes ++ rest)
notes_begin ann slots notes more e l =
    let k = slots_cut ann.slots slots ann.notes (map line.Node notes ++ more) e (omega (arith, l)) in
    let size : length (slots ++ k.0) ≡ length slots = ap (λ (xs : Slots). length xs) (sym k.1) ∙ sym l in
    let none = no_rest slots k.0 size in
    let nodes : map line.Node ann.notes ≡ map line.Node notes ++ more =
    ap (λ (r : Slots). map line_of_slot r ++ map line.Node ann.notes) (sym none) ∙ k.2 in
    let n = nodes_cut ann.notes notes more nodes in
    (n.0, k.1 ∙ ap (λ r. slots ++ r) none ∙ append-nil slots, n.1)
