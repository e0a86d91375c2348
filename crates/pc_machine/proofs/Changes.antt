-- Lists that are changed at one place.
use Rattle.std.proofs.{Common.{◌≡◌, ℕ, zero, suc, ◌+◌, ◌-◌, ◌<◌, List, [], ◌∷◌, ◌++◌, length, drop, get_or, set, Option, Some, None, refl, sym, ap, ◌∙◌, arith, length-append, length-drop}, lemmas.List.Sums.sum_by-cons, lemmas.Option.{same_Some, none-some}}
use Rattle.std.specs.Prelude.{map, slice_get, IsSomeAnd}
use Rattle.pc_semantics.specs.{declared.actors.Actor.Actor, declared.frames.Frame.Frame, declared.mailbox.Message.Message}
use Rattle.pc_base.proofs.Gets.{get_within}
use Rattle.pc_machine.specs.Changed.{changed, framed, mailed, unmailed, frames_of, messages_in}

-- a write of the element there, changed
pub set_changed : {T : Type 0} → (xs : List T) (i : ℕ) (x : T) (g : T → T) → i < length xs → x ≡ get_or xs i x → set xs i (g x) ≡ changed xs i g
set_changed [] i x g l e = refl
set_changed (y ∷ ys) zero x g l e = ap (λ z. g z ∷ ys) e
set_changed (y ∷ ys) (suc i) x g l e = let m : i < length ys = omega arith in ap (λ zs. y ∷ zs) (set_changed ys i x g m e)

-- the element there
pub get_there : {T : Type 0} → (xs : List T) (i : ℕ) (x : T) → i < length xs → x ≡ get_or xs i x → slice_get xs i ≡ Some x
get_there [] i x l e = absurd (omega arith)
get_there (y ∷ ys) zero x l e = ap Some (sym e)
get_there (y ∷ ys) (suc i) x l e = let m : i < length ys = omega arith in get_there ys i x m e

-- the same, of the definition
pub changed_set : {T : Type 0} → (xs : List T) (i : ℕ) (x : T) (g : T → T) → slice_get xs i ≡ Some x → changed xs i g ≡ set xs i (g x)
changed_set [] i x g e = refl
changed_set (y ∷ ys) zero x g e = ap (λ z. g z ∷ ys) (same_Some y x e)
changed_set (y ∷ ys) (suc i) x g e = ap (λ zs. y ∷ zs) (changed_set ys i x g e)

pub length_changed : {T : Type 0} → (xs : List T) (i : ℕ) (g : T → T) → length (changed xs i g) ≡ length xs
length_changed [] i g = refl
length_changed (x ∷ xs) zero g = refl
length_changed (x ∷ xs) (suc i) g = ap suc (length_changed xs i g)

-- the place that was changed
pub get_changed : {T : Type 0} → (xs : List T) (i : ℕ) (x : T) (g : T → T) → slice_get xs i ≡ Some x → slice_get (changed xs i g) i ≡ Some (g x)
get_changed [] i x g e = absurd (none-some x e)
get_changed (y ∷ ys) zero x g e = ap (λ z. Some (g z)) (same_Some y x e)
get_changed (y ∷ ys) (suc i) x g e = get_changed ys i x g e

-- the messages that wait, by those of the changed actor
pub messages_changed : (xs : List Actor) (i : ℕ) (g : Actor → Actor) (a : Actor) → slice_get xs i ≡ Some a → messages_in (changed xs i g) + length a.mailbox ≡ messages_in xs + length (g a).mailbox
messages_changed [] i g a e = absurd (none-some a e)
messages_changed (x ∷ xs) zero g a e =
    let first : (y : Actor) → messages_in (y ∷ xs) ≡ length y.mailbox + messages_in xs = λ y. sum_by-cons (λ n. n) (length y.mailbox) (map (λ (b : Actor). length b.mailbox) xs) in
    let old : length x.mailbox ≡ length a.mailbox = ap (λ (b : Actor). length b.mailbox) (same_Some x a e) in
    let new : length (g x).mailbox ≡ length (g a).mailbox = ap (λ (b : Actor). length (g b).mailbox) (same_Some x a e) in
    omega (arith, first x, first (g x), old, new)
messages_changed (x ∷ xs) (suc i) g a e =
    let first : (ys : List Actor) → messages_in (x ∷ ys) ≡ length x.mailbox + messages_in ys = λ ys. sum_by-cons (λ n. n) (length x.mailbox) (map (λ (b : Actor). length b.mailbox) ys) in
    let rest = messages_changed xs i g a e in
    omega (arith, first xs, first (changed xs i g), rest)

-- the same if the actor's messages are unchanged
pub messages_same : (xs : List Actor) (i : ℕ) (g : Actor → Actor) → i < length xs → ((a : Actor) → length (g a).mailbox ≡ length a.mailbox) → messages_in (changed xs i g) ≡ messages_in xs
messages_same xs i g l same =
    let there = get_within xs i l in
    omega (arith, messages_changed xs i g there.0 there.1, same there.0)

-- and if one is added
pub messages_more : (xs : List Actor) (i : ℕ) (m : Message) → i < length xs → messages_in (changed xs i (mailed m)) ≡ messages_in xs + 1
messages_more xs i m l =
    let there = get_within xs i l in
    let count : length (there.0.mailbox ++ m ∷ []) ≡ length there.0.mailbox + 1 = length-append there.0.mailbox (m ∷ []) in
    omega (arith, messages_changed xs i (mailed m) there.0 there.1, count)

-- and if one is taken
pub messages_less : (xs : List Actor) (i : ℕ) (a : Actor) → slice_get xs i ≡ Some a → 0 < length a.mailbox → messages_in xs ≡ messages_in (changed xs i unmailed) + 1
messages_less xs i a e some =
    let count : length (drop 1 a.mailbox) ≡ length a.mailbox - 1 = length-drop 1 a.mailbox in
    omega (arith, messages_changed xs i unmailed a e, count, some)

-- a fact about an element that is there
pub there_with : {T : Type 0} → (o : Option T) (P : T → Type 0) → IsSomeAnd o P → (x : T) × (o ≡ Some x) × P x
there_with None P h = absurd h
there_with (Some x) P h = (x, refl, h)

-- ---- frames

-- an actor that has a frame is there
pub is_there : (xs : List Actor) (i : ℕ) → 0 < length (frames_of xs i) → i < length xs
is_there [] i l = absurd (omega arith)
is_there (x ∷ xs) zero l = omega arith
is_there (x ∷ xs) (suc i) l = let m = is_there xs i l in omega (arith, m)

-- frames that are taken out, and others put in
framed_twice : (xs : List Actor) (i : ℕ) (fs gs : List Frame) → changed (changed xs i (framed fs)) i (framed gs) ≡ changed xs i (framed gs)
framed_twice [] i fs gs = refl
framed_twice (x ∷ xs) zero fs gs = refl
framed_twice (x ∷ xs) (suc i) fs gs = ap (λ ys. x ∷ ys) (framed_twice xs i fs gs)

framed_same : (xs : List Actor) (i : ℕ) → changed xs i (framed (frames_of xs i)) ≡ xs
framed_same [] i = refl
framed_same (x ∷ xs) zero = refl
framed_same (x ∷ xs) (suc i) = ap (λ ys. x ∷ ys) (framed_same xs i)

pub swapped : (xs ys zs : List Actor) (i : ℕ) (fs gs hs : List Frame) → ys ≡ changed xs i (framed fs) → zs ≡ changed ys i (framed gs) → gs ≡ hs → zs ≡ changed xs i (framed hs)
swapped xs ys zs i fs gs hs first second same = second ∙ ap (λ ws. changed ws i (framed gs)) first ∙ framed_twice xs i fs gs ∙ ap (λ ks. changed xs i (framed ks)) same

pub swapped_back : (xs ys zs : List Actor) (i : ℕ) (fs gs : List Frame) → ys ≡ changed xs i (framed fs) → zs ≡ changed ys i (framed gs) → gs ≡ frames_of xs i → zs ≡ xs
swapped_back xs ys zs i fs gs first second same = swapped xs ys zs i fs gs (frames_of xs i) first second same ∙ framed_same xs i

-- the place is still there
pub still_there : (xs ys : List Actor) (i : ℕ) (g : Actor → Actor) → ys ≡ changed xs i g → i < length xs → i < length ys
still_there xs ys i g e l = omega (arith, ap length e, length_changed xs i g, l)

-- ---- messages and frames

pub frames_mailed : (xs : List Actor) (i j : ℕ) (m : Message) → frames_of (changed xs j (mailed m)) i ≡ frames_of xs i
frames_mailed [] i j m = refl
frames_mailed (x ∷ xs) zero zero m = refl
frames_mailed (x ∷ xs) zero (suc j) m = refl
frames_mailed (x ∷ xs) (suc i) zero m = refl
frames_mailed (x ∷ xs) (suc i) (suc j) m = frames_mailed xs i j m

-- a message that is sent before the frames change is sent after it
pub mailed_framed : (xs : List Actor) (i j : ℕ) (m : Message) (fs : List Frame) → changed (changed xs j (mailed m)) i (framed fs) ≡ changed (changed xs i (framed fs)) j (mailed m)
mailed_framed [] i j m fs = refl
mailed_framed (x ∷ xs) zero zero m fs = refl
mailed_framed (x ∷ xs) zero (suc j) m fs = refl
mailed_framed (x ∷ xs) (suc i) zero m fs = refl
mailed_framed (x ∷ xs) (suc i) (suc j) m fs = ap (λ ys. x ∷ ys) (mailed_framed xs i j m fs)
