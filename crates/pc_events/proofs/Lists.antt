-- Lists that are changed at one place.
use Rattle.std.specs.Prelude.{◌≡◌, ◌≢◌, ℕ, zero, suc, ◌<◌, List, [], ◌∷◌, ◌++◌, length, Some, slice_get, slice_set, refl}
use Rattle.std.proofs.{Common.{ap, sym, arith}, lemmas.Option.{same_Some, none-some}}
use Rattle.pc_semantics.specs.declared.actors.Actor.{Actor}
use Rattle.pc_events.proofs.Changes.{changed}

pub set_changed : (l : List Actor) (i : ℕ) (a : Actor) (g : Actor → Actor) → slice_get l i ≡ Some a → slice_set l i (g a) ≡ changed l i g
set_changed [] i a g e = refl
set_changed (b ∷ bs) zero a g e = ap (λ (c : Actor). g c ∷ bs) (sym (same_Some b a e))
set_changed (b ∷ bs) (suc i) a g e = ap (λ (cs : List Actor). b ∷ cs) (set_changed bs i a g e)

pub length_changed : (l : List Actor) (i : ℕ) (g : Actor → Actor) → length (changed l i g) ≡ length l
length_changed [] i g = refl
length_changed (b ∷ bs) zero g = refl
length_changed (b ∷ bs) (suc i) g = ap suc (length_changed bs i g)

pub get_changed : (l : List Actor) (i : ℕ) (g : Actor → Actor) (a : Actor) → slice_get l i ≡ Some a → slice_get (changed l i g) i ≡ Some (g a)
get_changed [] i g a e = absurd (none-some a e)
get_changed (b ∷ bs) zero g a e = ap (λ (c : Actor). Some (g c)) (same_Some b a e)
get_changed (b ∷ bs) (suc i) g a e = get_changed bs i g a e

pub get_unchanged : (l : List Actor) (i : ℕ) (g : Actor → Actor) (j : ℕ) → j ≢ i → slice_get (changed l i g) j ≡ slice_get l j
get_unchanged [] i g j n = refl
get_unchanged (b ∷ bs) zero g zero n = absurd (n refl)
get_unchanged (b ∷ bs) zero g (suc j) n = refl
get_unchanged (b ∷ bs) (suc i) g zero n = refl
get_unchanged (b ∷ bs) (suc i) g (suc j) n = get_unchanged bs i g j (λ e. n (ap suc e))

-- Two changes commute if they do so at one place.
pub changes_pass : (l : List Actor) (i j : ℕ) (f g : Actor → Actor) → ((a : Actor) → slice_get l i ≡ Some a → i ≡ j → g (f a) ≡ f (g a)) → changed (changed l i f) j g ≡ changed (changed l j g) i f
changes_pass [] i j f g h = refl
changes_pass (b ∷ bs) zero zero f g h = ap (λ (c : Actor). c ∷ bs) (h b refl refl)
changes_pass (b ∷ bs) zero (suc j) f g h = refl
changes_pass (b ∷ bs) (suc i) zero f g h = refl
changes_pass (b ∷ bs) (suc i) (suc j) f g h = ap (λ (cs : List Actor). b ∷ cs) (changes_pass bs i j f g (λ a e s. h a e (ap suc s)))

pub changed_front : (l r : List Actor) (i : ℕ) (g : Actor → Actor) → i < length l → changed (l ++ r) i g ≡ changed l i g ++ r
changed_front [] r i g b = absurd (omega (arith, b))
changed_front (x ∷ xs) r zero g b = refl
changed_front (x ∷ xs) r (suc i) g b = let k : i < length xs = omega (arith, b) in ap (λ (cs : List Actor). x ∷ cs) (changed_front xs r i g k)
