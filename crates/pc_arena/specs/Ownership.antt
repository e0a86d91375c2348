-- What a row of memory owns and lends, for values of the type R.
use base.Fml.{Fml, Lft, ffalse, flt, froom, fsep}
use base.Fraction.{full_share}
use denote.Index.{row}
use denote.Memory.{lone, shared_of}
use denote.RattleType.{RattleType}
use denote.RawPtr.{Ptr, null_ptr, block_ptr}
use denote.Sharing.{beside, nothing, said}
use mir.Raw.{raw}
use mir.Syntax.{Ty, ty_array}
use Rattle.std.specs.{Prelude.{ℕ, ◌+◌, ◌-◌, ◌*◌, ◌^◌, List, [], ◌∷◌, length}, Mem.type_size}

-- how many values a row has memory for
abbrev pub row_size : ℕ
row_size = 256

module _ (R : RattleType) where
  -- a row takes up fewer bytes than this
  abbrev pub short : Fml
  short = flt (row_size * type_size R) (2 ^ 63)

  -- memory for the values that the row does not have yet, after those that it has
  abbrev pub unwritten : ℕ → ℕ → List R.Denot → Fml
  unwritten b o xs = froom (raw (ty_array (lone R.mir) (row_size - length xs))) b (o + length xs * type_size R)

  -- The row's values one after another, then the unwritten rest, and what the allocator requires when the block is
  -- given back.
  abbrev pub row_owned : (Ty → Ptr → Fml) → Ptr → List R.Denot → Fml
  row_owned token null_ptr xs = ffalse
  row_owned token (block_ptr b o) xs =
      fsep short (fsep (row R full_share xs b o) (fsep (unwritten b o xs) (token (raw (ty_array (lone R.mir) row_size)) (block_ptr b o))))

  -- values that are lent, one after another
  abbrev pub lent_from : ℕ → ℕ → List R.Denot → Lft → Fml
  lent_from b o [] = nothing
  lent_from b o (x ∷ xs) = beside (shared_of R x b o) (lent_from b (o + type_size R) xs)

  -- A row that is lent shows its values, and lends no memory to be written.
  abbrev pub row_lent : Ptr → List R.Denot → Lft → Fml
  row_lent null_ptr xs = said ffalse
  row_lent (block_ptr b o) xs = beside (said short) (lent_from b o xs)
