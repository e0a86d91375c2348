-- What lines say, with more lines after them.
use Rattle.std.specs.Prelude.{◌≡◌, ℕ, zero, suc, ◌+◌, ◌≤◌, List, [], ◌∷◌, ◌++◌, length, map, take, refl}
use Rattle.std.proofs.{Common.{ap, sym, ◌∙◌, arith, append_assoc, append-nil, length-append}, lemmas.List.take-append-le}
use Rattle.pc_ann.specs.declared.annotation.Note.{Note}
use Rattle.pc_valid.specs.Words.{Slots}
use Rattle.pc_referee.specs.Asked.{Pairs}
use Rattle.pc_deriv.specs.{declared.line.Line.Line, Lines.line_of_slot}
use Rattle.pc_deriv.specs.declared.line.Line.TheVariants as line
use Rattle.pc_feed.specs.{Lines.{slots_in, notes_in}, Numbered.numbered_notes, Steps.first_nodes}

-- ---- notes

pub notes_app : (a b : List Line) → notes_in (a ++ b) ≡ notes_in a ++ notes_in b
notes_app [] b = refl
notes_app (line.Head v s n ∷ a) b = notes_app a b
notes_app (line.Slot e k ∷ a) b = notes_app a b
notes_app (line.Node t ∷ a) b = ap (λ ts. t ∷ ts) (notes_app a b)

pub notes_of_nodes : (notes : List Note) → notes_in (map line.Node notes) ≡ notes
notes_of_nodes [] = refl
notes_of_nodes (t ∷ ts) = ap (λ us. t ∷ us) (notes_of_nodes ts)

pub notes_of_slots : (slots : Slots) (ls : List Line) → notes_in (map line_of_slot slots ++ ls) ≡ notes_in ls
notes_of_slots [] ls = refl
notes_of_slots ((e, k) ∷ slots) ls = notes_of_slots slots ls

-- the notes after the first line, slots and nodes
pub notes_behind : (v a b : ℕ) (slots : Slots) (notes : List Note) (more : List Line)
    → notes_in ((line.Head v a b ∷ (map line_of_slot slots ++ map line.Node notes)) ++ more) ≡ notes ++ notes_in more
notes_behind v a b slots notes more =
    notes_app (map line_of_slot slots ++ map line.Node notes) more
    ∙ ap (λ ts. ts ++ notes_in more) (notes_of_slots slots (map line.Node notes) ∙ notes_of_nodes notes)

-- ---- slots

pub slots_app : (slots : Slots) (ls : List Line) → slots_in (map line_of_slot slots ++ ls) ≡ slots ++ slots_in ls
slots_app [] ls = refl
slots_app ((e, k) ∷ slots) ls = ap (λ ts. (e, k) ∷ ts) (slots_app slots ls)

-- After a node no further slot counts.
pub slots_behind : (v a b : ℕ) (slots : Slots) (t : Note) (notes : List Note) (more : List Line)
    → slots_in ((line.Head v a b ∷ (map line_of_slot slots ++ map line.Node (t ∷ notes))) ++ more) ≡ slots
slots_behind v a b slots t notes more =
    ap slots_in (append_assoc (map line_of_slot slots) (map line.Node (t ∷ notes)) more)
    ∙ slots_app slots (map line.Node (t ∷ notes) ++ more) ∙ append-nil slots

-- ---- pushes

pub map_push : {A B : Type 0} → (f : A → B) (xs : List A) (x : A) → map f (xs ++ x ∷ []) ≡ map f xs ++ f x ∷ []
map_push f [] x = refl
map_push f (y ∷ ys) x = ap (λ l. f y ∷ l) (map_push f ys x)

pub count_push : {A : Type 0} → (xs : List A) (x : A) → length (xs ++ x ∷ []) ≡ length xs + 1
count_push xs x = length-append xs (x ∷ [])

-- ---- numbered notes

pub numbered_app : (n : ℕ) (a b : List Note) → numbered_notes n (a ++ b) ≡ numbered_notes n a ++ numbered_notes (n + length a) b
numbered_app n [] b = let e : n ≡ n + 0 = omega arith in ap (λ k. numbered_notes k b) e
numbered_app n (t ∷ a) b =
    let e : n + 1 + length a ≡ n + suc (length a) = omega arith in
    ap (λ ps. (n, t) ∷ ps) (numbered_app (n + 1) a b ∙ ap (λ k. numbered_notes (n + 1) a ++ numbered_notes k b) e)

pub numbered_length : (n : ℕ) (a : List Note) → length (numbered_notes n a) ≡ length a
numbered_length n [] = refl
numbered_length n (t ∷ a) = ap suc (numbered_length (n + 1) a)

-- More lines do not change the first nodes.
pub first_nodes_more : (ls more : List Line) (n : ℕ) → n ≤ length (notes_in ls) → first_nodes (ls ++ more) n ≡ first_nodes ls n
first_nodes_more ls more n l =
    let size = numbered_length 0 (notes_in ls) in
    let few : n ≤ length (numbered_notes 0 (notes_in ls)) = omega (arith, size, l) in
    ap (λ ts. take n (numbered_notes 0 ts)) (notes_app ls more)
    ∙ ap (take n) (numbered_app 0 (notes_in ls) (notes_in more))
    ∙ take-append-le n (numbered_notes 0 (notes_in ls)) (numbered_notes (0 + length (notes_in ls)) (notes_in more)) few

pub take_all : {A : Type 0} → (xs : List A) (n : ℕ) → length xs ≤ n → take n xs ≡ xs
take_all [] zero l = refl
take_all [] (suc n) l = refl
take_all (x ∷ xs) zero l = absurd (omega (arith, l))
take_all (x ∷ xs) (suc n) l = let k : length xs ≤ n = omega (arith, l) in ap (λ ys. x ∷ ys) (take_all xs n k)

-- All nodes, and one more.
pub first_nodes_push : (ls : List Line) (t : Note) (n : ℕ) → n ≡ length (notes_in ls)
    → first_nodes (ls ++ line.Node t ∷ []) (n + 1) ≡ first_nodes ls n ++ (n, t) ∷ []
first_nodes_push ls t n e =
    let notes = notes_in ls in
    let size = numbered_length 0 notes in
    let last : Pairs = (n, t) ∷ [] in
    let both = length-append (numbered_notes 0 notes) last in
    let one : length last ≡ 1 = refl in
    let at : 0 + length notes ≡ n = omega (arith, e) in
    let all : numbered_notes 0 (notes ++ t ∷ []) ≡ numbered_notes 0 notes ++ last =
    numbered_app 0 notes (t ∷ []) ∙ ap (λ k. numbered_notes 0 notes ++ (k, t) ∷ []) at in
    ap (λ ts. take (n + 1) (numbered_notes 0 ts)) (notes_app ls (line.Node t ∷ []))
    ∙ ap (take (n + 1)) all
    ∙ take_all (numbered_notes 0 notes ++ last) (n + 1) (omega (arith, both, one, size, e))
    ∙ ap (λ ps. ps ++ last) (sym (take_all (numbered_notes 0 notes) n (omega (arith, size, e))))
