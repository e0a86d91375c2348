-- Lists parallel to the entities of a file and to the table of their members.
use Rattle.std.specs.Prelude.{ℕ, suc, ◌+◌, List, [], ◌∷◌, map, length, slice_get}
use Rattle.pc_core.specs.declared.declarations.EntityDef.{EntityDef}
use Rattle.pc_names.specs.Faults.{NamesData}
use Rattle.pc_members.specs.{Edges.entity_numbers, Parts.or_nil, Members.Member}
use Rattle.pc_body_spec.specs.Bodies.{KnownEntity, Context}
use Rattle.pc_file_spec.specs.Cores.{default_cap, constructors_from, core_field}
use Rattle.pc_tree.specs.Tree as t

-- What bodies know of an entity with these members, of which the first has this number among the methods.
abbrev pub known_with : ℕ → t.Entity → List Member → KnownEntity
known_with at e ms = record { name = e.name.text; kind = e.kind; cap = default_cap e.kind e.cap; constructors = constructors_from at ms }

abbrev pub known_rows : ℕ → List t.Entity → List (List Member) → List KnownEntity
known_rows at (e ∷ es) (ms ∷ table) = known_with at e ms ∷ known_rows (at + length ms) es table
known_rows at es table = []

-- An entity of the core.
abbrev pub entity_with : Context → NamesData → (number first_method : ℕ) → t.Entity → ℕ → EntityDef
entity_with c names n first_method e methods = record {
  kind = e.kind;
  cap = default_cap e.kind e.cap;
  name = e.name.text;
  span = e.name.span;
  provides = entity_numbers names.entities e.provides;
  above = or_nil (slice_get names.above n);
  fields = map (core_field c.texts c.entities) e.fields;
  first_method = first_method;
  methods = methods;
}

abbrev pub entity_rows : Context → NamesData → (number first_method : ℕ) → List t.Entity → List (List Member) → List EntityDef
entity_rows c names n at (e ∷ es) (ms ∷ table) = entity_with c names n at e (length ms) ∷ entity_rows c names (suc n) (at + length ms) es table
entity_rows c names n at es table = []
