-- How the code computes the blocks of a file's traits and interfaces for 64 names, from one number on.
use Rattle.std.specs.Prelude.{◌≡◌, ℕ, ◌-◌, Bool, ◌&&◌, List, [], ◌∷◌, length, Option, Some, None, slice_get, slice_set, nat_le, nat_lt, if◌then◌else◌}
use Rattle.pc_tree.specs.Kinds.{first_own}
use Rattle.pc_member_counts.specs.{declared.block.Block.Block, declared.listing.Listing.Listing, Blocks.{nothing, single, followed}}
use Rattle.pc_tree.specs.Tree as t

-- The number is one of the 64 from this one on.
abbrev pub is_within : (start number : ℕ) → Bool
is_within start n = nat_le start n && nat_lt (n - start) 64

-- ---- a trait or an interface

-- Its own methods; the first list has the numbers of their names.
abbrev pub with_own : ℕ → Block → ℕ → t.Method → Block
with_own start b n m = if is_within start n then followed b (single (n - start) m) else b

abbrev pub own_block : ℕ → Block → List ℕ → List t.Method → Block
own_block start b [] ms = b
own_block start b (n ∷ ns) [] = b
own_block start b (n ∷ ns) (m ∷ ms) = own_block start (with_own start b n m) ns ms

-- The methods of the entities that it names.
abbrev pub or_nothing : Option Block → Block
or_nothing None = nothing
or_nothing (Some b) = b

abbrev pub own_place : List Block → ℕ → Block
own_place table i = or_nothing (slice_get table i)

abbrev pub block_at : List Block → ℕ → Block
block_at table a = own_place table (a - first_own)

abbrev pub with_named : List Block → Block → List ℕ → Block
with_named table b [] = b
with_named table b (a ∷ more) = with_named table (followed b (block_at table a)) more

abbrev pub trait_block : ℕ → List Block → t.Entity → Listing → Block
trait_block start table e l = with_named table (own_block start nothing l.methods e.methods) l.targets

-- ---- all of them

-- Each listing has one number for each method.
abbrev pub ArePaired : List t.Entity → List Listing → Type 0
ArePaired es ls = (i : ℕ) (e : t.Entity) (l : Listing) → slice_get es i ≡ Some e → slice_get ls i ≡ Some l → length l.methods ≡ length e.methods

abbrev pub placed : ℕ → List Block → ℕ → Option t.Entity → Option Listing → List Block
placed start table i None l = table
placed start table i (Some e) None = table
placed start table i (Some e) (Some l) = slice_set table i (trait_block start table e l)

abbrev pub filled_at : ℕ → List t.Entity → List Listing → List Block → ℕ → List Block
filled_at start es ls table i = placed start table i (slice_get es i) (slice_get ls i)

abbrev pub filled : ℕ → List t.Entity → List Listing → List ℕ → List Block → List Block
filled start es ls [] table = table
filled start es ls (i ∷ is) table = filled start es ls is (filled_at start es ls table i)
