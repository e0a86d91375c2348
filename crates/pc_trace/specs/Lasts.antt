-- Some places in the list of accesses for each field.
use Rattle.std.specs.{Prelude.{ℕ, Bool, ◌&&◌, nat_eq, List, [], Option, Some, None}, Map.lookup}
use Rattle.pc_trace.specs.declared.lasts.Spot.{Spot}

abbrev pub spot_eq : Spot → Spot → Bool
spot_eq a b = nat_eq a.maker b.maker && (nat_eq a.serial b.serial && nat_eq a.field b.field)

abbrev pub RowList : Type 0
RowList = List (Spot × List ℕ)

abbrev pub row_in : Option (List ℕ) → List ℕ
row_in None = []
row_in (Some row) = row

-- The places of a field.
abbrev pub row_of : RowList → Spot → List ℕ
row_of rows spot = row_in (lookup (spot_eq spot) rows)
