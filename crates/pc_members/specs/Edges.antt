-- The `is` lists of a file, as edges between the numbers of its entities.
use Rattle.std.specs.{Prelude.{ℕ, zero, suc, ◌+◌, Bool, true, false, List, [], ◌∷◌, ◌++◌, length, Option, Some, None, slice_get, nat_eq, if◌then◌else◌, replicate, option_to_list, position, unwrap_or}, Str.bytes_eq}
use Rattle.pc_base.specs.Lists.{IsIn, Text}
use Rattle.pc_members.specs.Members.{entity_names}
use Rattle.pc_tree.specs.{declared.written_names.Name.Name, Kinds.first_own}
use Rattle.pc_tree.specs.Tree as t

-- ---- what can be reached along edges, each number once, in the order in which it is found

-- For each number, those to which it has an edge.
abbrev pub Edges : Type 0
Edges = List (List ℕ)

abbrev pub edges_from : Edges → ℕ → List ℕ
edges_from e a = unwrap_or (slice_get e a) []

abbrev pub has_number : List ℕ → ℕ → Bool
has_number [] b = false
has_number (x ∷ xs) b = if nat_eq b x then true else has_number xs b

-- A new number is appended.
abbrev pub added_last : List ℕ → ℕ → List ℕ
added_last found b = if has_number found b then found else found ++ b ∷ []

abbrev pub add_all : List ℕ → List ℕ → List ℕ
add_all found [] = found
add_all found (b ∷ bs) = add_all (added_last found b) bs

-- From the number found at this place on, the targets of each number's edges are added. The counter bounds the
-- recursion.
abbrev pub reach_turn : Option ℕ → List ℕ → (ℕ → List ℕ) → List ℕ
reach_turn None found go = found
reach_turn (Some a) found go = go a

abbrev pub grow : ℕ → Edges → List ℕ → ℕ → List ℕ
grow zero e found at = found
grow (suc k) e found at = reach_turn (slice_get found at) found (λ a. grow k e (add_all found (edges_from e a)) (suc at))

abbrev pub reached_in : ℕ → Edges → ℕ → List ℕ
reached_in k e a = grow k e (add_all [] (edges_from e a)) 0

-- One step more than there are numbers is always enough.
abbrev pub reached : Edges → ℕ → List ℕ
reached e a = reached_in (length e + 1) e a

-- ---- in ascending order

-- Those of the `count` numbers from `at` on that were found.
abbrev pub ascending : (found : List ℕ) → (at count : ℕ) → List ℕ
ascending found at zero = []
ascending found at (suc k) = if has_number found at then at ∷ ascending found (suc at) k else ascending found (suc at) k

-- For each number, what is reached from it, in ascending order.
abbrev pub above_from : Edges → (first count : ℕ) → List (List ℕ)
above_from e a zero = []
above_from e a (suc k) = ascending (reached e a) 0 (length e) ∷ above_from e (suc a) k

abbrev pub above_all : Edges → List (List ℕ)
above_all e = above_from e 0 (length e)

-- A chain of one or more edges leads from one number to another.
pub data EdgePath (e : Edges) : (from to : ℕ) → Type 0 where
  link : {a b : ℕ} → IsIn b (edges_from e a) → EdgePath e a b
  links : {a b c : ℕ} → IsIn b (edges_from e a) → EdgePath e b c → EdgePath e a c

-- ---- the `is` lists of a file, as edges between the numbers of its entities

-- The numbers of those of these names that are entities.
abbrev pub entity_numbers : List Text → List Name → List ℕ
entity_numbers entities [] = []
entity_numbers entities (n ∷ ns) = option_to_list (position (bytes_eq n.text) entities) ++ entity_numbers entities ns

abbrev pub own_edges : List Text → List t.Entity → Edges
own_edges entities [] = []
own_edges entities (e ∷ es) = entity_numbers entities e.provides ∷ own_edges entities es

-- For each entity, those that its `is` list names. The built-in ones have no `is` list.
abbrev pub edges_of : t.File → Edges
edges_of file = replicate first_own [] ++ own_edges (entity_names file) file.entities
