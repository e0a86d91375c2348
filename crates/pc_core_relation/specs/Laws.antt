-- Laws of the definitions.
use Rattle.std.specs.Prelude.{◌≡◌, ◌⊎◌, ◌↔◌, ℕ, ◌+◌, ◌<◌, ◌≤◌, ◌^◌, List, length, take, Some}
use Rattle.pc_base.specs.{Lists.Has, Limits.node_limit}
use Rattle.pc_core.specs.{declared.nodes.Node.Node, CoreData.CoreData}
use Rattle.pc_members.specs.{Members.Member, MemberLists.members}
use Rattle.pc_names.specs.{declared.fault.NameFault.NameFault, Faults.{NamesData, Collected}}
use Rattle.pc_body_spec.specs.{Bodies.Rose, Fold.put}
use Rattle.pc_file_spec.specs.Cores.{texts_of_file, Stands, IsElabFault}
use Rattle.pc_core_relation.specs.{Files.{HasMembers, IsCoreOf, IsNumbered}, MemberFaults.IsMemberFault}
use Rattle.pc_tree.specs.Tree as t

-- A rose appended to some nodes is numbered there from their count on, and its own node is the last.
abbrev pub WhatIsPutIsNumbered : Type 0
WhatIsPutIsNumbered =
    (m : ℕ) (r : Rose) (n : ℕ) (before after : List Node) → put m r before ≡ Some (n, after) → IsNumbered after m (length before) r n × (length after ≡ n + 1)

-- A rose that is numbered in a list of not too many nodes is what was appended to the nodes before it.
abbrev pub WhatIsNumberedIsPut : Type 0
WhatIsNumberedIsPut =
    (nodes : List Node) (m from : ℕ) (r : Rose) (n : ℕ) → length nodes ≤ node_limit → IsNumbered nodes m from r n → put m r (take from nodes) ≡ Some (n, take (n + 1) nodes)

-- An entity of a file whose names have no fault has one list of members: the one that is computed, with a bound on
-- chains of `is`.
abbrev pub MembersAreComputed : Type 0
MembersAreComputed = (file : t.File) (names : NamesData) → Collected file names → (e : t.Entity) (ms : List Member) → Has file.entities e → HasMembers file e ms ↔ (ms ≡ members file.entities e)

-- The core computed from a file, member by member, is its core.
abbrev pub MadeCoresStand : Type 0
MadeCoresStand = (file : t.File) (core : CoreData) → Stands file core → IsCoreOf file core

-- The core of a file is the one computed from it, and so there is no other.
abbrev pub StandingCoresAreMade : Type 0
StandingCoresAreMade = (file : t.File) (core : CoreData) → IsCoreOf file core → Stands file core

abbrev pub StandingCoresAreOne : Type 0
StandingCoresAreOne = (file : t.File) (one other : CoreData) → IsCoreOf file one → IsCoreOf file other → one ≡ other

-- A file whose names have no fault, and which does not have too many texts, has a core or a fault of its members, and
-- not both.
abbrev pub CoreStandsOrFault : Type 0
CoreStandsOrFault = (file : t.File) (names : NamesData) → Collected file names → length (texts_of_file file) < 2 ^ 32 → ((core : CoreData) × IsCoreOf file core) ⊎ ((f : NameFault) × IsElabFault file f)

abbrev pub StandingHasNoFault : Type 0
StandingHasNoFault = (file : t.File) (core : CoreData) (f : NameFault) → IsCoreOf file core → IsElabFault file f → ⊥

-- The fault at which the making of a core stops, member by member, is the first fault of the file's members.
abbrev pub MemberFaultsAreFirst : Type 0
MemberFaultsAreFirst = (file : t.File) (f : NameFault) → IsElabFault file f ↔ IsMemberFault file f
