-- What the code computes for a file before it goes through the names.
use Rattle.std.specs.Prelude.{◌≡◌, ℕ, List, [], map}
use Rattle.pc_members.specs.{Members.entity_names, Founded.IsFounded, Rounds.ClosesOwn}
use Rattle.pc_member_counts.specs.{declared.plan.Plan.Plan, Numbers.{listing, method_names}, Orders.ordered}
use Rattle.pc_tree.specs.Tree as t

-- The first argument has the entities above each entity of the file.
abbrev pub planned : List (List ℕ) → t.File → Plan
planned own file = record { names = method_names [] file.entities; listings = map (listing (entity_names file) (method_names [] file.entities)) file.entities; order = ordered own file.entities }

-- The plan is the one for the file, whose names and declarations have no fault.
abbrev pub Plans : t.File → Plan → Type 0
Plans file plan = (own : List (List ℕ)) × ClosesOwn file own × IsFounded file × (plan ≡ planned own file)
