-- The last of the first elements of a list, as they are seen.
use Rattle.std.proofs.{Common.{◌≡◌, ◌≢◌, ℕ, zero, suc, ◌-◌, List, map, Option, Some, None, Bor, refl, sym, arith}, lemmas.Option.slice_get-map}
use Rattle.std.specs.{Prelude.slice_get, Option.{option_copied, option_map}}
use Rattle.pc_explain_names.specs.Homes.{last_of_first}

pub viewed : {T V : Type 0} (v : T → V) (o : Option (Bor T)) → option_map (λ (e : Bor T). v e.now) o ≡ option_map v (option_copied o)
viewed v None = refl
viewed v (Some e) = refl

pub last_view : {T V : Type 0} (v : T → V) (xs : List T) (n : ℕ) → n ≢ 0 → option_map v (slice_get xs (n - 1)) ≡ last_of_first n (map v xs)
last_view v xs zero d = absurd (d refl)
last_view v xs (suc n) d = let e : suc n - 1 ≡ n = omega arith in rw e (sym (slice_get-map v xs n))
