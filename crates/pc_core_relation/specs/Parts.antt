-- Parts of the definitions of cores, each with a name.
use Rattle.std.specs.Prelude.{ℕ, List, [], ◌∷◌, ◌++◌, flat_map, map, slice_get, unwrap_or}
use Rattle.pc_base.specs.Lists.{Text}
use Rattle.pc_tree.specs.declared.file.ParamDef.{ParamDef}
use Rattle.pc_members.specs.Members.{field_texts, method_texts}
use Rattle.pc_body_spec.specs.Bodies.{KnownEntity}
use Rattle.pc_core.specs.CoreData.{CoreData}
use Rattle.pc_core_relation.specs.Files.{seen_entity}
use Rattle.pc_tree.specs.Tree as t

-- The text with this number.
abbrev pub text_at : List Text → ℕ → Text
text_at names n = unwrap_or (slice_get names n) []

abbrev pub seen_entities : CoreData → List KnownEntity
seen_entities core = map (seen_entity core) core.entities

abbrev pub param_texts : List ParamDef → List Text
param_texts ps = map (λ (p : ParamDef). p.name.text) ps

-- For each entity of a core, those above it.
abbrev pub above_of : CoreData → List (List ℕ)
above_of core = map (λ x. x.above) core.entities

-- The names of the fields and methods, entity by entity.
abbrev pub declared_texts : List t.Entity → List Text
declared_texts es = flat_map (λ (e : t.Entity). field_texts e.fields ++ method_texts e.methods) es
