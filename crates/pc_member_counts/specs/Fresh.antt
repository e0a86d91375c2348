-- How the code counts, by masks, the members that each entity gets in addition to those written in it.
use Rattle.std.specs.Prelude.{ℕ, ◌+◌, ◌-◌, List, [], ◌∷◌, count_ones, if◌then◌else◌}
use Rattle.pc_masks.specs.{declared.mask.Mask.Mask, Masks.{empty, first, without_number, meet, join}}
use Rattle.pc_tree.specs.{declared.kinds.EntityKind.EntityKind, Kinds.is_abstract}
use Rattle.pc_member_counts.specs.{declared.block.Block.Block, declared.listing.Listing.Listing, Blocks.takable, Windows.{is_within, block_at, own_place}}
use Rattle.pc_tree.specs.Tree as t

abbrev pub without_one : ℕ → Mask → ℕ → Mask
without_one start m n = if is_within start n then without_number m (n - start) else m

abbrev pub without_all : ℕ → Mask → List ℕ → Mask
without_all start m [] = m
without_all start m (n ∷ ns) = without_all start (without_one start m n) ns

-- This mask, with the names added that an entity of this kind takes over from one of these, if they are new to it.
abbrev pub taken_from : EntityKind → List Block → Mask → List ℕ → Mask
taken_from k table m [] = m
taken_from k table m (a ∷ more) = taken_from k table (join m (takable k (block_at table a))) more

abbrev pub count_present : Block → ℕ → ℕ
count_present b n = n - count_ones (meet b.absent (first n)).0

abbrev pub count_taken : (start count : ℕ) → List Block → EntityKind → Listing → ℕ
count_taken start n table k l = count_ones (meet (without_all start (without_all start (first n) l.methods) l.others) (taken_from k table empty l.targets)).0

abbrev pub count_fresh : (start count : ℕ) → List Block → ℕ → t.Entity → Listing → ℕ
count_fresh start n table i e l = if is_abstract e.kind then count_present (own_place table i) n else count_taken start n table e.kind l

-- The counts of these entities, of which the first is at this place, increased for `count` more names.
abbrev pub with_fresh : (start count : ℕ) → List Block → ℕ → List t.Entity → List Listing → List ℕ → List ℕ
with_fresh start n table i (e ∷ es) (l ∷ ls) (c ∷ cs) = (c + count_fresh start n table i e l) ∷ with_fresh start n table (i + 1) es ls cs
with_fresh start n table i es ls cs = []
