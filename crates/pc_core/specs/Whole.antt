-- A core with what it keeps beside its lists, to look things up in.
use Rattle.std.specs.Prelude.{◌≡◌, ℕ, List, Option, IfSome, map}
use Rattle.pc_masks.specs.declared.mask.Mask.{Mask}
use Rattle.pc_core.specs.{CoreData.CoreData, Conforming.TellsConforming, Formed.Formed, MethodKeys.method_key}

-- The lists fit together, and what is kept is right: the keys of the methods, and the table of what conforms to what.
abbrev pub IsWhole : CoreData → Option (List (ℕ × ℕ)) → Option (List (List Mask)) → Type 0
IsWhole core keys sets = Formed core × IfSome keys (λ ks. ks ≡ map method_key core.methods) × IfSome sets (TellsConforming core)
