-- The first fault of a member's body has the smallest start.
use Rattle.std.proofs.Common.{◌≡◌, List, ◌∷◌, ap}
use Rattle.std.specs.Prelude.{slice_get}
use Rattle.pc_base.specs.Lists.{Has, Ascends}
use Rattle.pc_tree.specs.Tree as t
use Rattle.pc_body_spec.specs.{Bodies.Context, Faults.BodyNameFault, Places.fault_start}
use Rattle.pc_members.specs.Members.{Member, written, added}
use Rattle.pc_file_spec.proofs.{Steps.member_faults, Definitions.MemberOrder}
use Rattle.pc_name_laws.proofs.{Firsts.{Least, least_of}, Walks.{member_places, member_tells}}

pub member_least : (c : Context) (e : t.Entity) (m : Member) (g : BodyNameFault) (gs : List BodyNameFault) → MemberOrder e m → member_faults c e m ≡ g ∷ gs → (h : BodyNameFault) → Has (member_faults c e m) h → Least fault_start g h
member_least c e m g gs a is h has = least_of fault_start (member_faults c e m) (member_places e m) (member_tells c e m).order (by m a) g h (ap (λ l. slice_get l 0) is) has
  where
    by : (x : Member) → MemberOrder e x → Ascends (member_places e x)
    by (written x) o = o
    by added o = o
