-- The numbers of the objects that each maker has made.
use Rattle.std.specs.{Prelude.{ℕ, nat_eq, List, [], Option, Some, None, refl}, Map.lookup, Coded.{Coded, code_by, coded×, coded_list, coded_ℕ}}

-- the numbers, from the first object's, and how many more there is room for
pub record RowData : Type 0 where
  pub numbers : List ℕ
  pub spare : ℕ

abbrev pub row_data : List ℕ → ℕ → RowData
row_data ns n = record { numbers = ns; spare = n }

abbrev pub coded_row : Coded RowData
coded_row = code_by (List ℕ × ℕ) (coded× (coded_list coded_ℕ) coded_ℕ) (λ r. (r.numbers, r.spare)) (λ p. row_data p.0 p.1) (λ _. refl)

-- rows, each with its maker
abbrev pub RowList : Type 0
RowList = List (ℕ × RowData)

abbrev pub row_at : RowList → ℕ → Option RowData
row_at rows maker = lookup (nat_eq maker) rows

-- the row, or one without numbers
abbrev pub row_in : Option RowData → RowData
row_in None = row_data [] 0
row_in (Some row) = row

abbrev pub numbers_of : RowList → ℕ → List ℕ
numbers_of rows maker = (row_in (row_at rows maker)).numbers

abbrev pub spare_of : RowList → ℕ → ℕ
spare_of rows maker = (row_in (row_at rows maker)).spare
