-- The places of an entity's declarations are starts of tokens that spell it.
use Rattle.std.proofs.Common.{List, [], ◌∷◌, ◌++◌, map, Option, Some, None, inl, inr}
use Rattle.pc_tree.specs.Tree as t
use Rattle.pc_tree.specs.{declared.written_names.Name.Name, declared.written_names.TypeRef.TypeRef, declared.file.ParamDef.ParamDef, declared.kinds.EntityKind.EntityKind}
use Rattle.pc_token.specs.declared.kinds.Token.{Token}
use Rattle.pc_grammar.specs.{Spells.{SpellsReturns, SpellsParam, SpellsMoreParams, SpellsParamList, SpellsParams, SpellsField, SpellsMethod, SpellsMoreNames, SpellsNames, SpellsAlone, SpellsProvides, SpellsEntity}, Parts.{SpellsFields, SpellsMethods}}
use Rattle.pc_names.specs.Laws.{name_start, result_places, field_places, param_places, method_places, declared_places}
use Rattle.pc_text_order.specs.Laws.{DeclarationsAscend}
use Rattle.pc_text_order.proofs.{Among.{Among, nothing, put, after, both, past, before, moved, among_ascends}, Files.file_in, Bodies.type_in}

-- ---- what comes after `is`

more_names_in : (ms : List Name) (ts : List Token) → SpellsMoreNames ms ts → Among (map name_start ms) ts
more_names_in [] ts h = nothing
more_names_in (m ∷ ms) ts h = moved h.3 (after (put h.5.1 (more_names_in ms h.2 h.6)))

names_in : (ms : List Name) (ts : List Token) → SpellsNames ms ts → Among (map name_start ms) ts
names_in [] ts h = nothing
names_in (m ∷ ms) ts h = moved h.2 (put h.3.1 (more_names_in ms h.1 h.4))

alone_in : (m : Name) (ms : List Name) (ts : List Token) → SpellsAlone (m ∷ ms) ts → Among (map name_start (m ∷ ms)) ts
alone_in m [] ts h = moved h.1 (put h.2.1 nothing)
alone_in m (n ∷ ms) ts h = absurd h

provides_in : (ms : List Name) (ts : List Token) → SpellsProvides ms ts → Among (map name_start ms) ts
provides_in [] ts h = nothing
provides_in (m ∷ ms) ts (x, a, is, word, inl h) = moved is (after (alone_in m ms a h))
provides_in (m ∷ ms) ts (x, a, is, word, inr h) = moved is (after (moved h.3 (after (before (h.1 ∷ []) (names_in (m ∷ ms) h.2 h.5)))))

-- ---- fields

field_in : (f : t.Field) (ts : List Token) → SpellsField f ts → Among (name_start f.name ∷ name_start f.ty.name ∷ []) ts
field_in f ts h = moved h.6 (after (put h.8.1 (after (before _ (type_in f.ty h.3 h.10)))))

fields_in : (fs : List t.Field) (ts : List Token) → SpellsFields fs ts → Among (field_places fs) ts
fields_in [] ts h = nothing
fields_in (f ∷ fs) ts h = moved h.2 (both (field_in f h.0 h.3) (fields_in fs h.1 h.4))

-- ---- methods

param_in : (p : ParamDef) (ts : List Token) → SpellsParam p ts → Among (name_start p.name ∷ name_start p.ty.name ∷ []) ts
param_in p ts h = moved h.3 (put h.4.1 (after (type_in p.ty h.2 h.6)))

more_params_in : (ps : List ParamDef) (ts : List Token) → SpellsMoreParams ps ts → Among (param_places ps) ts
more_params_in [] ts h = nothing
more_params_in (p ∷ ps) ts h = moved h.3 (after (both (param_in p h.1 h.5) (more_params_in ps h.2 h.6)))

param_list_in : (ps : List ParamDef) (ts : List Token) → SpellsParamList ps ts → Among (param_places ps) ts
param_list_in [] ts h = nothing
param_list_in (p ∷ ps) ts h = moved h.2 (both (param_in p h.0 h.3) (more_params_in ps h.1 h.4))

params_in : (ps : List ParamDef) (ts : List Token) → SpellsParams ps ts → Among (param_places ps) ts
params_in ps ts h = moved h.3 (after (before (h.1 ∷ []) (param_list_in ps h.2 h.5)))

returns_in : (r : Option TypeRef) (ts : List Token) → SpellsReturns r ts → Among (result_places r) ts
returns_in None ts h = nothing
returns_in (Some r) ts h = moved h.2 (after (moved h.4.3 (put h.4.4.1 nothing)))

method_in : (k : EntityKind) (m : t.Method) (ts : List Token) → SpellsMethod k m ts → Among (name_start m.name ∷ (param_places m.params ++ result_places m.result)) ts
method_in k m ts h = moved h.7 (after (past h.2 (put h.10.1 (both (params_in m.params h.3 h.11) (before _ (returns_in m.result h.4 h.12))))))

methods_in : (k : EntityKind) (ms : List t.Method) (ts : List Token) → SpellsMethods k ms ts → Among (method_places ms) ts
methods_in k [] ts h = nothing
methods_in k (m ∷ ms) ts h = moved h.2 (both (method_in k m h.0 h.3) (methods_in k ms h.1 h.4))

-- ---- entities

pub entity_in : (e : t.Entity) (ts : List Token) → SpellsEntity e ts → Among (declared_places e) ts
entity_in e ts h =
    moved h.7 (after (past h.2 (put h.10.1 (both (provides_in e.provides h.3 h.11) (past h.4 (both (fields_in e.fields h.5 h.13) (methods_in e.kind e.methods h.6 h.14)))))))

pub declarations_ascend : DeclarationsAscend
declarations_ascend f ts h a i e at = among_ascends (file_in e (declared_places e) (entity_in e) f i ts at h) a
