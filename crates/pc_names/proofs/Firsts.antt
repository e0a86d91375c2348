-- The first element of a list that continues.
use Rattle.std.proofs.{Common.{◌≡◌, List, [], ◌∷◌, ◌++◌, Some}, lemmas.Option.none-some}
use Rattle.std.specs.Prelude.{slice_get}
use Rattle.pc_names.specs.{declared.fault.NameFault.NameFault, Faults.IsFirstNameFault}
use Rattle.pc_names.specs.declared.fault.NameFault.TheVariants as fault

first_goes_on : {T : Type 0} → (xs ys : List T) (x : T) → slice_get xs 0 ≡ Some x → slice_get (xs ++ ys) 0 ≡ Some x
first_goes_on [] ys x e = absurd (none-some x e)
first_goes_on (y ∷ xs) ys x e = e

-- The first fault of a list is that of the list that continues it.
pub is_first_on : (f : NameFault) (xs ys : List NameFault) → IsFirstNameFault f xs → IsFirstNameFault f (xs ++ ys)
is_first_on (fault.Double s) xs ys e = first_goes_on xs ys (fault.Double s) e
is_first_on (fault.Unknown s) xs ys e = first_goes_on xs ys (fault.Unknown s) e
is_first_on fault.NoMain xs ys e = first_goes_on xs ys fault.NoMain e
is_first_on (fault.BadMain s) xs ys e = first_goes_on xs ys (fault.BadMain s) e
is_first_on (fault.Cycle s) xs ys e = first_goes_on xs ys (fault.Cycle s) e
is_first_on (fault.TooMany w s) xs ys e = first_goes_on xs ys (fault.TooMany w s) e
is_first_on fault.Memory xs ys e = tt
