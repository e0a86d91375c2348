-- A row can be lent: its pointer is copied, and a borrow of what it owns becomes a `&` to each of its values.
use base.Fml.{Incl-trans}
use contract.BorrowLft.{meet_⊑_left}
use denote.Param.Laws.{Laws}
use denote.Param.Shared.{copy_shared}
use denote.RattleType.{RattleType}
use denote.RawPtr.{RawPtr}
use denote.Shares.{Shares-less}
use denote.Struct.Field.{RawPtr-field, usize-field}
use denote.Struct.Laws.{RawPtr-copy, usize-copy, field_copy}
use denote.Struct.Lending.{of_Lends}
use mathlib.Core.List.{[], ◌++◌}
use Rattle.std.specs.declared.alloc.Allocator.{Ghosts}
use Rattle.std.specs.contracts.marker.PhantomData as marker
use Rattle.pc_arena.specs.contracts.row.Row as own
use Rattle.pc_arena.proofs.{Lent.{row_lent_laws, lends_row}, row.Row.TheLaw.Statement.statement}

pub shares : (R Z : RattleType) (g : Ghosts Z.Denot) (L : Laws R) (K : Laws Z) → statement R Z g L K
shares R Z g L K =
    let given = own.the_row R Z g in
    of_Lends (own.struct R Z g) (own.the_codes R.Denot Z.Denot R.coded Z.coded (marker.the_row RawPtr).coded) (own.the_heap R Z g) (own.the_lent R Z g) (λ r at. row_lent_laws R L.shr_laws r.values r.first)
    (copy_shared RawPtr-field RawPtr-copy, (copy_shared usize-field usize-copy, (copy_shared (marker.the_field RawPtr) (field_copy (marker.the_type RawPtr) tt), tt)))
    (λ M 𝓤 𝓛 r at.
    let within = Incl-trans (meet_⊑_left (R.lives ++ (Z.lives ++ [])) _) (meet_⊑_left R.lives (Z.lives ++ [])) in
    lends_row R 𝓛 (g.dealloc_token r.from) given.lives (Shares-less 𝓛 R R.lives given.lives within (L.shares 𝓛)) r.values r.first)
