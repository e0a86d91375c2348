-- How it is computed that a field is not set after a constructor's body.
use Rattle.std.specs.Prelude.{ℕ, Bool, false, ◌&&◌, not, Option, Some, None, nat_eq, slice_get}
use Rattle.pc_core.specs.{declared.declarations.Method.Method, CoreData.CoreData}
use Rattle.pc_ann.specs.{declared.annotation.Note.Note, declared.annotation.Ann.Ann}
use Rattle.pc_rules.specs.Parts.{constructs, full}

-- The body is node n.
abbrev pub ends : Option ℕ → ℕ → Bool
ends None n = false
ends (Some b) n = nat_eq b n

abbrev pub unset_behind : CoreData → ℕ → Method → Note → Bool
unset_behind core n x t = constructs x.kind && (ends x.body n && not (full core x.entity t.set_after))

abbrev pub unset_of : CoreData → ℕ → Option Method → Option Note → Bool
unset_of core n (Some x) (Some t) = unset_behind core n x t
unset_of core n x t = false

abbrev pub leaves_unset : CoreData → Ann → (node method : ℕ) → Bool
leaves_unset core ann n m = unset_of core n (slice_get core.methods m) (slice_get ann.notes n)
