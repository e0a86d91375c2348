-- What is lent of a row that is lent: each of its values.
use base.Fml.{Fml, Lft, ffalse, ftrue, fsep}
use base.Fraction.{full_share}
use denote.Index.{row}
use denote.Memory.{lone, part_at, shared_of}
use denote.RattleType.{RattleType, RowLaws}
use denote.RawPtr.{Ptr, block_ptr, null_ptr}
use denote.Shares.{Shares}
use denote.Sharing.{ShrLaws, said}
use denote.SharingLaws.{beside_shr_laws, nothing_shr_laws, said_shr_laws}
use denote.Struct.Lending.{Lends, Lends-both, Lends-false, Lends-first, Lends-nothing, Lends-said}
use mir.Raw.{raw}
use mir.Syntax.{Ty, ty_array}
use seplogic.Ra.Ura.{Ura}
use types.Logic.{Logic}
use Prim.Native.Nat.{ℕ, ◌+◌}
use Rattle.std.specs.{Mem.type_size, Prelude.{List, [], ◌∷◌}}
use Rattle.pc_arena.specs.Ownership.{row_size, short, unwritten, row_owned, lent_from, row_lent}

module _ (R : RattleType) where
  -- the laws of a `&`, from those of a `&` to each value
  lent_laws : RowLaws R → (xs : List R.Denot) (b o : ℕ) → ShrLaws (lent_from R b o xs)
  lent_laws each [] b o = nothing_shr_laws
  lent_laws each (x ∷ xs) b o = beside_shr_laws (shared_of R x b o) (lent_from R b (o + type_size R) xs) (each x b o) (lent_laws each xs b (o + type_size R))

  pub row_lent_laws : RowLaws R → (xs : List R.Denot) (p : Ptr) → ShrLaws (row_lent R p xs)
  row_lent_laws each xs (block_ptr b o) = beside_shr_laws (said (short R)) (lent_from R b o xs) (said_shr_laws (short R) tt) (lent_laws each xs b o)
  row_lent_laws each xs null_ptr = said_shr_laws ffalse tt

  module _ {M : Type 1} {𝓤 : Ura M} (𝓛 : Logic 𝓤) (token : Ty → Ptr → Fml) where
    -- a borrow of the values becomes a `&` to each
    lends_values : (l : Lft) → Shares 𝓛 R l → (xs : List R.Denot) (b o : ℕ) → Lends 𝓛 (row R full_share xs b o) (lent_from R b o xs) l
    lends_values l each [] b o = Lends-nothing 𝓛 ftrue l
    lends_values l each (x ∷ xs) b o =
        let next = o + type_size R in
        Lends-both 𝓛 (part_at R full_share x b o) (row R full_share xs b next) (shared_of R x b o) (lent_from R b next xs) l (λ κ ts. each x κ ts b o) (lends_values l each xs b next)

    pub lends_row : (l : Lft) → Shares 𝓛 R l → (xs : List R.Denot) (p : Ptr) → Lends 𝓛 (row_owned R token p xs) (row_lent R p xs) l
    lends_row l each xs null_ptr = Lends-false 𝓛 (said ffalse) l
    lends_row l each xs (block_ptr b o) =
        let behind = fsep (unwritten R b o xs) (token (raw (ty_array (lone R.mir) row_size)) (block_ptr b o)) in
        Lends-both 𝓛 (short R) (fsep (row R full_share xs b o) behind) (said (short R)) (lent_from R b o xs) l (Lends-said 𝓛 (short R) tt l)
        (Lends-first 𝓛 (row R full_share xs b o) behind (lent_from R b o xs) l (lends_values l each xs b o))
