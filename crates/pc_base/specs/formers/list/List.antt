-- How a `List<T>` holds its values, so that a recursive type may contain itself through one: it has the shape of a
-- list, and owns, lends and encodes what the vector inside it does.
use mathlib.Core.Path.{◌≡◌, refl, sym}
use mathlib.Core.List.{List as Sequence, []}
use mathlib.Core.Former.{Former, this, list, via, children}
use base.Stored.{code_map}
use denote.RattleType.{RattleType}
use denote.HoleLaws.{Alike}
use denote.HolePlaces.{Recodes, struct_places, laid}
use denote.Hole.Carrier.{listed, list-listed}
use denote.Hole.Fix.{over}
use denote.Param.Weighed.{Weighed, w_list}
use denote.Model.Placed.{view_places}
use Rattle.std.specs.{declared.alloc.Global.Global, contracts.impls.GlobalAllocator.TheImpl.ghosts}
use Rattle.pc_base.specs.{declared.list.List.TheInside.Inside, declared.list.List.TheView.{view, invariant}}
use Rattle.std.specs.formers.vec.Vec as vector
use Rattle.std.specs.contracts.alloc.Global as global
use Rattle.pc_base.specs.contracts.list.List as contract
use Rattle.pc_base.specs.contracts.list.List.TheInside as inside

-- The values, as contracts see them.
abbrev pub the_former : Former {0} → Former {0}
the_former held = list held

abbrev pub the_items : (T : Type 0) → Sequence T → Sequence T
the_items T values = values

pub the_items_listed : (T : Type 0) (values : Sequence T) → listed _ (children (the_former this) T values) ≡ the_items T values
the_items_listed T values = list-listed T values

abbrev pub the_weighed : {held : Former {0}} → Weighed held → Weighed (the_former held)
the_weighed weight = w_list weight

abbrev pub the_empty : Sequence ⊥
the_empty = []

-- The struct around its vector.
abbrev around : Former {0}
around = via (vector.the_former this Global) Inside (λ T list. list.row) (λ T row. record { row = row }) (λ T list. refl) (λ T values. refl)

-- If two types of values have the same layout, so have lists of them.
module _ (From To : RattleType) (change : From.Denot → To.Denot) where
  pub the_places : Alike From To change → Alike (contract.the_row From) (contract.the_row To) ((the_former this).map From.Denot To.Denot change)
  the_places alike =
      let rows = struct_places (inside.the_type From) (inside.the_type To) (vector.mapped change, tt) _ (λ values. refl) refl
      (laid _ _ _ (vector.the_places global.the_row ghosts From To change alike), tt) in
      view_places around (list this) view (λ T U k list. refl) (λ T list. refl) From.Denot To.Denot change
      (contract.the_row From).coded (contract.the_row To).coded (invariant From.Denot) (invariant To.Denot)
      (λ list p q. refl) (λ list p q. refl) (λ list e. tt) (λ list e. tt) (over (inside.the_row From)) (over (inside.the_row To)) rows

  pub the_codes_placed : Recodes From To change → Recodes (contract.the_row From) (contract.the_row To) ((the_former this).map From.Denot To.Denot change)
  the_codes_placed same values = sym (code_map From.coded.code To.coded.code change (λ x. sym (same x)) values)
