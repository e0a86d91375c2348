-- Sets of entities as masks: entity e is bit e % 64 of mask e / 64.
use Rattle.std.specs.Prelude.{ℕ, ◌*◌, ◌/◌, ◌%◌, ◌<◌, ◌≤◌, ◌↔◌, List, length, slice_get, unwrap_or}
use Rattle.pc_masks.specs.{Masks.{IsInMask, empty}, declared.mask.Mask.Mask}
use Rattle.pc_core.specs.CoreData.{CoreData}

-- for how many entities a mask has a bit
abbrev pub mask_bits : ℕ
mask_bits = 64

-- The mask at a place; past the last one it is empty.
abbrev pub mask_at : List Mask → ℕ → Mask
mask_at set i = unwrap_or (slice_get set i) empty

-- The entity is in the set.
abbrev pub Holds : List Mask → ℕ → Type 0
Holds set e = IsInMask (mask_at set (e / mask_bits)) (e % mask_bits)

-- The set has a bit for each of this number of entities.
abbrev pub HasRoom : ℕ → List Mask → Type 0
HasRoom count set = count ≤ length set * mask_bits

-- Of the core's entities, the set contains those with this property.
abbrev pub IsSetOf : CoreData → (ℕ → Type 0) → List Mask → Type 0
IsSetOf core P set = (e : ℕ) → e < length core.entities → (Holds set e) ↔ (P e)

-- At each place the mask has the bits that both of two others have.
abbrev pub AreMet : (first second both : List Mask) → Type 0
AreMet first second both = (i j : ℕ) → (IsInMask (mask_at both i) j) ↔ (IsInMask (mask_at first i) j × IsInMask (mask_at second i) j)
