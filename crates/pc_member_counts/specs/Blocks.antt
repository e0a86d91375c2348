-- How the code represents 64 consecutive names, by masks.
use Rattle.std.specs.Prelude.{ℕ, Bool, true, false}
use Rattle.pc_masks.specs.{declared.mask.Mask.Mask, Masks.{empty, first, with_number, without_number, meet, join}}
use Rattle.pc_tree.specs.declared.kinds.EntityKind.{EntityKind}
use Rattle.pc_members.specs.Members.{is_takable}
use Rattle.pc_member_counts.specs.declared.block.Block.{Block}
use Rattle.pc_tree.specs.declared.kinds.EntityKind.TheVariants as kind
use Rattle.pc_tree.specs.Tree as t

abbrev pub nothing : Block
nothing = record { absent = first 64; class = empty; actor = empty; primitive = empty }

abbrev pub alone_if : Bool → ℕ → Mask
alone_if true i = with_number empty i
alone_if false i = empty

-- One method, whose name is at this place.
abbrev pub single : ℕ → t.Method → Block
single i m = record { absent = without_number (first 64) i; class = alone_if (is_takable kind.Class m) i; actor = alone_if (is_takable kind.Actor m) i; primitive = alone_if (is_takable kind.Primitive m) i }

-- For each name the first method: that of the first block, or else that of the second.
abbrev pub followed : Block → Block → Block
followed b n = record { absent = meet b.absent n.absent; class = join b.class (meet b.absent n.class); actor = join b.actor (meet b.absent n.actor); primitive = join b.primitive (meet b.absent n.primitive) }

abbrev pub takable : EntityKind → Block → Mask
takable kind.Class b = b.class
takable kind.Actor b = b.actor
takable kind.Primitive b = b.primitive
takable kind.Trait b = empty
takable kind.Interface b = empty
