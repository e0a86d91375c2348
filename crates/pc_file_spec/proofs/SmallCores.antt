-- The small files have names without a fault, and their trees are as texts spell them; so they have these cores, which
-- are formed.
use Rattle.std.proofs.{Common.{◌≡◌, ℕ, zero, suc, ◌<◌, ◌^◌, List, [], ◌∷◌, length, Some, Bool, true, false, refl, sym, subst, arith, if◌then◌else◌}, lemmas.Bool.ltb-true, lemmas.Option.{same_Some, none-some}}
use Rattle.std.specs.Prelude.{slice_get, nat_lt, Ok}
use Rattle.pc_tree.specs.{Kinds.may_stand, Members.{MayHaveFields, HasBody}}
use Rattle.pc_tree.specs.Tree as t
use Rattle.pc_core.specs.CoreData.{CoreData}
use Rattle.pc_base.specs.Lists.{Has, Ascends}
use Rattle.pc_members.specs.{Members.entity_names, Edges.{above_all, edges_of}}
use Rattle.pc_names.specs.Faults.{Collected, name_faults}
use Rattle.pc_members.proofs.Closings.{closes}
use Rattle.pc_base.proofs.{Bools.true_false, Elements.differ_none}
use Rattle.pc_body_spec.specs.{Fold.push, Places.{body_places, initial_places}}
use Rattle.pc_file_spec.specs.{Cores.{texts_of_file, core_of, Stands}, Order.{NamesInOrder, InPlace}, Example.{FirstStands, SecondStands, ThirdIsRefused, first_file, first_core, second_file, second_core, third_file, trait_a, trait_b, trait_t, trait_u, class_c, main, class_d, primitive_p, second_main, FourthStands, fourth_file, fourth_core, trait_with_bodies, trait_above, class_with_field, fourth_main}}
use Rattle.pc_file_spec.proofs.Formation.{stands_is_formed}

-- ---- properties of all elements

abbrev All : {T : Type 0} → (T → Type 0) → List T → Type 0
All P [] = Unit {0}
All P (x ∷ xs) = P x × All P xs

all_has : {T : Type 0} (P : T → Type 0) (xs : List T) → All P xs → (x : T) → Has xs x → P x
all_has P [] a x h = absurd (none-some x h.1)
all_has P (y ∷ xs) a x (zero, h) = subst P (same_Some y x h) a.0
all_has P (y ∷ xs) a x (suc i, h) = all_has P xs a.1 x (i, h)

-- Each number is less than the next one.
abbrev rises : List ℕ → Bool
rises [] = true
rises (a ∷ []) = true
rises (a ∷ b ∷ xs) = if nat_lt a b then rises (b ∷ xs) else false

step : (a b : ℕ) (xs : List ℕ) → rises (a ∷ b ∷ xs) ≡ true → (a < b) × (rises (b ∷ xs) ≡ true)
step a b xs h = by (nat_lt a b) refl h
  where
    by : (c : Bool) → nat_lt a b ≡ c → (if c then rises (b ∷ xs) else false) ≡ true → (a < b) × (rises (b ∷ xs) ≡ true)
    by true e g = (ltb-true a b e, g)
    by false e g = absurd (true_false (sym g))

above_head : (a : ℕ) (xs : List ℕ) → rises (a ∷ xs) ≡ true → (i b : ℕ) → slice_get xs i ≡ Some b → a < b
above_head a [] h i b e = absurd (none-some b e)
above_head a (x ∷ xs) h zero b e = let s = step a x xs h in let l = s.0 in let same : x ≡ b = same_Some x b e in omega (arith, l, same)
above_head a (x ∷ xs) h (suc i) b e = let s = step a x xs h in let l = s.0 in let g = above_head x xs s.1 i b e in omega (arith, l, g)

tail_rises : (a : ℕ) (xs : List ℕ) → rises (a ∷ xs) ≡ true → rises xs ≡ true
tail_rises a [] h = refl
tail_rises a (x ∷ xs) h = (step a x xs h).1

ascends : (xs : List ℕ) → rises xs ≡ true → Ascends xs
ascends [] h i j a b l e f = absurd (none-some a e)
ascends (x ∷ xs) h i zero a b l e f = absurd (omega (arith, l))
ascends (x ∷ xs) h zero (suc j) a b l e f = let same : x ≡ a = same_Some x a e in let g = above_head x xs h j b f in omega (arith, same, g)
ascends (x ∷ xs) h (suc i) (suc j) a b l e f = ascends xs (tail_rises x xs h) i j a b (omega (arith, l)) e f

-- ---- entities as texts spell them

abbrev Ordered : t.Entity → Type 0
Ordered e = Ascends (initial_places e.fields) × ((m : t.Method) → Has e.methods m → Ascends (body_places e.fields m))

ordered : (e : t.Entity) → rises (initial_places e.fields) ≡ true → All (λ m. rises (body_places e.fields m) ≡ true) e.methods → Ordered e
ordered e h ms = (ascends (initial_places e.fields) h, λ m g. ascends (body_places e.fields m) (all_has (λ x. rises (body_places e.fields x) ≡ true) e.methods ms m g))

abbrev Placed : t.Entity → Type 0
Placed e = MayHaveFields e.kind e.fields × ((m : t.Method) → Has e.methods m → (may_stand e.kind m.word ≡ true) × HasBody e.kind m.body)

placed : (e : t.Entity) → MayHaveFields e.kind e.fields → All (λ m. (may_stand e.kind m.word ≡ true) × HasBody e.kind m.body) e.methods → Placed e
placed e h ms = (h, λ m g. all_has (λ x. (may_stand e.kind x.word ≡ true) × HasBody e.kind x.body) e.methods ms m g)

first_ordered : NamesInOrder first_file
first_ordered = all_has Ordered first_file.entities
    (ordered trait_a refl (refl, (refl, tt)), (ordered trait_b refl (refl, (refl, tt)), (ordered trait_t refl (refl, tt), (ordered trait_u refl tt, (ordered class_c refl tt, (ordered main refl (refl, tt), tt))))))

first_placed : InPlace first_file
first_placed = all_has Placed first_file.entities
    (placed trait_a refl ((refl, tt), ((refl, tt), tt)), (placed trait_b refl ((refl, tt), ((refl, tt), tt)), (placed trait_t refl ((refl, tt), tt), (placed trait_u refl tt, (placed class_c tt tt, (placed main tt ((refl, tt), tt), tt))))))

second_ordered : NamesInOrder second_file
second_ordered = all_has Ordered second_file.entities (ordered class_d refl (refl, (refl, (refl, tt))), (ordered primitive_p refl tt, (ordered second_main refl (refl, tt), tt)))

second_placed : InPlace second_file
second_placed = all_has Placed second_file.entities (placed class_d tt ((refl, tt), ((refl, tt), ((refl, tt), tt))), (placed primitive_p refl tt, (placed second_main tt ((refl, tt), tt), tt)))

fourth_ordered : NamesInOrder fourth_file
fourth_ordered = all_has Ordered fourth_file.entities (ordered trait_with_bodies refl (refl, (refl, tt)), (ordered trait_above refl (refl, (refl, tt)), (ordered class_with_field refl (refl, tt), (ordered fourth_main refl (refl, tt), tt))))

fourth_placed : InPlace fourth_file
fourth_placed = all_has Placed fourth_file.entities
    (placed trait_with_bodies refl ((refl, tt), ((refl, tt), tt)), (placed trait_above refl ((refl, tt), ((refl, tt), tt)), (placed class_with_field tt ((refl, tt), tt), (placed fourth_main tt ((refl, tt), tt), tt))))

-- ---- their cores

abbrev above_of : t.File → List (List ℕ)
above_of file = above_all (edges_of file)

collected : (file : t.File) → name_faults file (above_of file) ≡ [] → Collected file (record { entities = entity_names file; texts = []; above = above_of file })
collected file f = record { faults = f; entities = refl; above = closes file; texts = differ_none }

stands : (file : t.File) (core : CoreData) → name_faults file (above_of file) ≡ [] → core_of (above_of file) file ≡ Ok core → length (texts_of_file file) < 2 ^ 32 → Stands file core
stands file core f h few = (record { entities = entity_names file; texts = []; above = above_of file }, collected file f, h, few)

pub first_stands : FirstStands
unfolding push
first_stands =
    let count : length (texts_of_file first_file) ≡ 11 = refl in
    let s : Stands first_file first_core = stands first_file first_core refl refl (omega (arith, count)) in
    (s, stands_is_formed first_file first_core first_ordered first_placed s)

pub second_stands : SecondStands
unfolding push
second_stands =
    let count : length (texts_of_file second_file) ≡ 7 = refl in
    let s : Stands second_file second_core = stands second_file second_core refl refl (omega (arith, count)) in
    (s, stands_is_formed second_file second_core second_ordered second_placed s)

pub third_is_refused : ThirdIsRefused
unfolding push
third_is_refused = (record { entities = entity_names third_file; texts = []; above = above_of third_file }, collected third_file refl, refl)

pub fourth_stands : FourthStands
unfolding push
fourth_stands =
    let count : length (texts_of_file fourth_file) ≡ 8 = refl in
    let s : Stands fourth_file fourth_core = stands fourth_file fourth_core refl refl (omega (arith, count)) in
    (s, stands_is_formed fourth_file fourth_core fourth_ordered fourth_placed s)
