-- The invariant inside a heap.
use Rattle.std.specs.{Prelude.{◌≡◌, ℕ, ◌*◌, ◌<◌, ◌≤◌, List, Option, Some, None, length, slice_get, ⊤}, FinMap.len}
use Rattle.pc_heap.specs.{declared.value.Address.Address, declared.entry.Entry.Entry, Objects.made_by, Heaps.{Room, object_limit, field_limit}, declared.room.Room.Room as RoomField, Rows.{RowList, numbers_of, spare_of}, Entries.{Items, objects_of, Laid}}

abbrev pub room_of : Option RoomField → Option Room
room_of None = None
room_of (Some room) = Some record { maker = room.maker; fields = room.fields }

-- The next object can be made without allocating: there is a free place for its entry, a free place for each of its
-- fields, and a free place in its maker's row.
abbrev pub Ready : (made free spare : ℕ) → RowList → Option Room → Type 0
Ready made free spare rows None = ⊤
Ready made free spare rows (Some room) = (0 < free) × (room.fields ≤ spare) × (0 < spare_of rows room.maker) × (made < object_limit) × (room.fields ≤ field_limit)

-- The rows list each entry once, by its address; its fields come in the arena after those of the entries before it; and
-- the counts are right. There are at most 2^22 entries with at most 2^9 fields each, so each place is below 2^31.
pub record Sound (made : List Entry) (free : ℕ) (items : Items) (spare : ℕ) (rows : RowList) (room : Option Room) : Type 0 where
  pub found : (a : Address) (i : ℕ) → slice_get (numbers_of rows a.maker) a.serial ≡ Some i → (e : Entry) × (slice_get made i ≡ Some e) × (e.address ≡ a)
  pub numbered : (i : ℕ) (e : Entry) → slice_get made i ≡ Some e → slice_get (numbers_of rows e.address.maker) e.address.serial ≡ Some i
  pub laid : Laid 0 made (length items)
  pub counted : (maker : ℕ) → made_by (objects_of items made) maker ≡ length (numbers_of rows maker)
  pub count : length made ≡ len (objects_of items made)
  pub few : length made ≤ object_limit
  pub small : length items ≤ length made * field_limit
  pub ready : Ready (length made) free spare rows room
