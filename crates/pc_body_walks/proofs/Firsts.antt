-- The first fault of a part is the first of the whole.
use Rattle.std.proofs.Common.{List, ◌++◌, ap}
use Rattle.pc_body_spec.specs.Faults.{BodyNameFault, unknown, double, long_text}
use Rattle.pc_body_walks.specs.{declared.fault.BodyFault.BodyFault, Checking.{BeginsWithFault, IsFirstBodyFault}}
use Rattle.pc_body_walks.specs.declared.fault.BodyFault.TheVariants as fault

goes_on : (f : BodyNameFault) (xs ys : List BodyNameFault) → BeginsWithFault xs f → BeginsWithFault (xs ++ ys) f
goes_on f xs ys h = (h.0 ++ ys, ap (λ l. l ++ ys) h.1)

pub is_first_on : (f : BodyFault) (xs ys : List BodyNameFault) → IsFirstBodyFault f xs → IsFirstBodyFault f (xs ++ ys)
is_first_on (fault.Unknown s) xs ys h = goes_on (unknown s) xs ys h
is_first_on (fault.Double s) xs ys h = goes_on (double s) xs ys h
is_first_on (fault.LongText s) xs ys h = goes_on (long_text s) xs ys h
is_first_on fault.Memory xs ys h = tt
