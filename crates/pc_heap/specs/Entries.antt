-- Entries of objects, and the objects that they represent.
use Rattle.std.specs.{Prelude.{◌≡◌, ℕ, ◌+◌, List, [], ◌∷◌, map, take, drop, Option, Some, None, slice_get}, FinMap.from_entries}
use Rattle.pc_heap.specs.{declared.value.Address.Address, Objects.{Object, ObjectMap}, declared.value.Value.Value, declared.entry.Entry.Entry, Rows.{RowList, numbers_of}}

abbrev pub Items : Type 0
Items = List (Option Value)

-- the object of an entry, with its values
abbrev pub object_of : Items → Entry → Object
object_of items e = record { entity = e.entity; fields = take e.fields (drop e.first items) }

abbrev pub listed : Items → List Entry → List (Address × Object)
listed items es = map (λ e. (e.address, object_of items e)) es

-- the objects of the entries
abbrev pub objects_of : Items → List Entry → ObjectMap
objects_of items es = from_entries (listed items es)

abbrev pub at_number : List Entry → Option ℕ → Option Entry
at_number es None = None
at_number es (Some i) = slice_get es i

-- the entry that the rows name
abbrev pub entry_found : RowList → List Entry → Address → Option Entry
entry_found rows es a = at_number es (slice_get (numbers_of rows a.maker) a.serial)

-- the fields of the entries lie one after another, from n to the end
abbrev pub Laid : ℕ → List Entry → ℕ → Type 0
Laid n [] end = n ≡ end
Laid n (e ∷ es) end = (e.first ≡ n) × Laid (n + e.fields) es end
