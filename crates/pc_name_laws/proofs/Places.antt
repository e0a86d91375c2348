-- The places of the declarations of a file are in the order of the text, one entity after the other.
use Rattle.std.proofs.{Common.{◌≡◌, ℕ, zero, suc, ◌+◌, ◌<◌, List, [], ◌∷◌, ◌++◌, map, length, Some, refl, sym, ap, ◌∙◌, subst, arith}, lemmas.Option.{same_Some, none-some}}
use Rattle.std.specs.Prelude.{slice_get}
use Rattle.pc_base.specs.Lists.{Has, Ascends}
use Rattle.pc_base.proofs.{Elements.{has_on, has_front, has_behind}, Gets.{get_below, get_front, get_append, get_map}}
use Rattle.pc_tree.specs.Tree as t
use Rattle.pc_tree.specs.{declared.written_names.Name.Name, declared.written_names.TypeRef.TypeRef, declared.file.ParamDef.ParamDef}
use Rattle.pc_token.specs.declared.kinds.Token.{Token}
use Rattle.pc_grammar.specs.{Spells.{SpellsEntities, SpellsFile}, Parts.SpellsMoreEntities}
use Rattle.pc_names.specs.{declared.fault.NameFault.NameFault, Laws.{fault_start, name_start, result_places, field_places, param_places, method_places, declared_places}}
use Rattle.pc_text_order.specs.Laws.{starts}
use Rattle.pc_text_order.proofs.{Among.{Among, nothing, both, past, before, moved, among_ascends}, Declarations.entity_in}
use Rattle.pc_name_laws.specs.Declared.{HasType, of_field, of_param, of_result, IsMissingName, IsTwice, IsDeclarationFault}
use Rattle.pc_name_laws.specs.Declared as law

-- ---- in the order of the tokens

abbrev pub all_places : List t.Entity → List ℕ
all_places [] = []
all_places (e ∷ es) = declared_places e ++ all_places es

more_in : (es : List t.Entity) (ts : List Token) → SpellsMoreEntities es ts → Among (all_places es) ts
more_in [] ts h = nothing
more_in (e ∷ es) ts h = moved h.2 (both (entity_in e h.0 h.3) (more_in es h.1 h.4))

some_in : (es : List t.Entity) (ts : List Token) → SpellsEntities es ts → Among (all_places es) ts
some_in [] ts h = absurd h
some_in (e ∷ es) ts h = moved h.2 (both (entity_in e h.0 h.3) (more_in es h.1 h.4))

pub places_ascend : (file : t.File) (ts : List Token) → SpellsFile file ts → Ascends (starts ts) → Ascends (all_places file.entities)
places_ascend file ts h a = among_ascends (moved h.3 (past h.0 (before (h.2 ∷ []) (some_in file.entities h.1 h.5)))) a

-- ---- from one entity to a later one

ascends_across : (xs ys : List ℕ) (a b : ℕ) → Ascends (xs ++ ys) → Has xs a → Has ys b → a < b
ascends_across xs ys a b h x y =
    let l = get_below xs x.0 a x.1 in
    h x.0 (length xs + y.0) a b (omega (arith, l)) (get_front xs ys x.0 a x.1) (get_append xs ys y.0 ∙ y.1)

ascends_right : (xs ys : List ℕ) → Ascends (xs ++ ys) → Ascends ys
ascends_right xs ys h i j a b l x y = h (length xs + i) (length xs + j) a b (omega (arith, l)) (get_append xs ys i ∙ x) (get_append xs ys j ∙ y)

has_place : (es : List t.Entity) (i : ℕ) (e : t.Entity) (a : ℕ) → slice_get es i ≡ Some e → Has (declared_places e) a → Has (all_places es) a
has_place [] i e a at h = absurd (none-some e at)
has_place (x ∷ es) zero e a at h =
    has_front (declared_places x) (all_places es) a (subst (λ (y : t.Entity). Has (declared_places y) a) (sym (same_Some x e at)) h)
has_place (x ∷ es) (suc i) e a at h = has_behind (declared_places x) (all_places es) a (has_place es i e a at h)

pub earlier_entity : (es : List t.Entity) (i j : ℕ) (e d : t.Entity) (a b : ℕ) → Ascends (all_places es) → i < j → slice_get es i ≡ Some e → slice_get es j ≡ Some d → Has (declared_places e) a → Has (declared_places d) b → a < b
earlier_entity [] i j e d a b h l he hd ha hb = absurd (none-some e he)
earlier_entity (x ∷ es) i zero e d a b h l he hd ha hb = absurd (omega (arith, l))
earlier_entity (x ∷ es) zero (suc j) e d a b h l he hd ha hb =
    ascends_across (declared_places x) (all_places es) a b h (subst (λ (y : t.Entity). Has (declared_places y) a) (sym (same_Some x e he)) ha)
    (has_place es j d b hd hb)
earlier_entity (x ∷ es) (suc i) (suc j) e d a b h l he hd ha hb = earlier_entity es i j e d a b (ascends_right (declared_places x) (all_places es) h) (omega (arith, l)) he hd ha hb

-- ---- each fault of an entity is at one of its places

field_at : (fs : List t.Field) (i : ℕ) (f : t.Field) → slice_get fs i ≡ Some f → Has (field_places fs) (name_start f.name) × Has (field_places fs) (name_start f.ty.name)
field_at [] i f at = absurd (none-some f at)
field_at (x ∷ fs) zero f at =
    let same = same_Some x f at in
    ((0, ap (λ (y : t.Field). Some (name_start y.name)) same), (1, ap (λ (y : t.Field). Some (name_start y.ty.name)) same))
field_at (x ∷ fs) (suc i) f at =
    let r = field_at fs i f at in
    let more : (n : ℕ) → Has (field_places fs) n → Has (field_places (x ∷ fs)) n = λ n h. has_on (name_start x.name) (name_start x.ty.name ∷ field_places fs) n (has_on (name_start x.ty.name) (field_places fs) n h) in
    (more (name_start f.name) r.0, more (name_start f.ty.name) r.1)

param_at : (ps : List ParamDef) (i : ℕ) (p : ParamDef) → slice_get ps i ≡ Some p → Has (param_places ps) (name_start p.name) × Has (param_places ps) (name_start p.ty.name)
param_at [] i p at = absurd (none-some p at)
param_at (x ∷ ps) zero p at =
    let same = same_Some x p at in
    ((0, ap (λ (y : ParamDef). Some (name_start y.name)) same), (1, ap (λ (y : ParamDef). Some (name_start y.ty.name)) same))
param_at (x ∷ ps) (suc i) p at =
    let r = param_at ps i p at in
    let more : (n : ℕ) → Has (param_places ps) n → Has (param_places (x ∷ ps)) n = λ n h. has_on (name_start x.name) (name_start x.ty.name ∷ param_places ps) n (has_on (name_start x.ty.name) (param_places ps) n h) in
    (more (name_start p.name) r.0, more (name_start p.ty.name) r.1)

abbrev method_part : t.Method → List ℕ
method_part m = name_start m.name ∷ (param_places m.params ++ result_places m.result)

method_at : (ms : List t.Method) (i : ℕ) (m : t.Method) (n : ℕ) → slice_get ms i ≡ Some m → Has (method_part m) n → Has (method_places ms) n
method_at [] i m n at h = absurd (none-some m at)
method_at (x ∷ ms) zero m n at h = has_front (method_part x) (method_places ms) n (subst (λ (y : t.Method). Has (method_part y) n) (sym (same_Some x m at)) h)
method_at (x ∷ ms) (suc i) m n at h = has_behind (method_part x) (method_places ms) n (method_at ms i m n at h)

result_at : (m : t.Method) (ty : TypeRef) → m.result ≡ Some ty → Has (result_places m.result) (name_start ty.name)
result_at m ty e = subst (λ r. Has (result_places r) (name_start ty.name)) (sym e) (0, refl)

module _ (e : t.Entity) where
  abbrev rest : List ℕ
  rest = map name_start e.provides ++ (field_places e.fields ++ method_places e.methods)

  in_provides : (n : ℕ) → Has (map name_start e.provides) n → Has (declared_places e) n
  in_provides n h = has_on (name_start e.name) rest n (has_front (map name_start e.provides) (field_places e.fields ++ method_places e.methods) n h)

  in_fields : (n : ℕ) → Has (field_places e.fields) n → Has (declared_places e) n
  in_fields n h = has_on (name_start e.name) rest n (has_behind (map name_start e.provides) (field_places e.fields ++ method_places e.methods) n (has_front (field_places e.fields) (method_places e.methods) n h))

  in_methods : (n : ℕ) → Has (method_places e.methods) n → Has (declared_places e) n
  in_methods n h = has_on (name_start e.name) rest n (has_behind (map name_start e.provides) (field_places e.fields ++ method_places e.methods) n (has_behind (field_places e.fields) (method_places e.methods) n h))

  in_params : (m : t.Method) (n : ℕ) → Has e.methods m → Has (param_places m.params) n → Has (declared_places e) n
  in_params m n has h = in_methods n (method_at e.methods has.0 m n has.1 (has_on (name_start m.name) (param_places m.params ++ result_places m.result) n (has_front (param_places m.params) (result_places m.result) n h)))

  type_at : (ty : TypeRef) → HasType e ty → Has (declared_places e) (name_start ty.name)
  type_at ty (of_field f has) = in_fields (name_start f.ty.name) (field_at e.fields has.0 f has.1).1
  type_at ty (of_param m p has at) = in_params m (name_start p.ty.name) has (param_at m.params at.0 p at.1).1
  type_at ty (of_result m r has is) =
      in_methods (name_start r.name) (method_at e.methods has.0 m (name_start r.name) has.1 (has_on (name_start m.name) (param_places m.params ++ result_places m.result) (name_start r.name) (has_behind (param_places m.params) (result_places m.result) (name_start r.name) (result_at m r is))))

  name_at : (i : ℕ) (n : Name) → slice_get e.provides i ≡ Some n → Has (declared_places e) (name_start n)
  name_at i n at = in_provides (name_start n) (i, get_map name_start e.provides i n at)

  missing_at : (file : t.File) (n : Name) → IsMissingName file e n → Has (declared_places e) (name_start n)
  missing_at file n (law.type_name ty has m) = type_at ty has
  missing_at file n (law.trait_name k has m) = name_at has.0 k has.1

  twice_at : (file : t.File) (n : Name) → IsTwice file e n → Has (declared_places e) (name_start n)
  twice_at file n (law.trait i k at is b) = name_at i k at
  twice_at file n (law.field i f at b) = in_fields (name_start f.name) (field_at e.fields i f at).0
  twice_at file n (law.method i m at taken) = in_methods (name_start m.name) (method_at e.methods i m (name_start m.name) at (0, refl))
  twice_at file n (law.param m i p has at taken) = in_params m (name_start p.name) has (param_at m.params i p at).0
  twice_at file n (law.added a taken) = (0, refl)

  pub fault_at : (file : t.File) (f : NameFault) → IsDeclarationFault file e f → Has (declared_places e) (fault_start f)
  fault_at file f (law.unknown n m) = missing_at file n m
  fault_at file f (law.twice n m) = twice_at file n m
  fault_at file f (law.too_many i x at fresh l) = in_fields (name_start x.name) (field_at e.fields i x at).0
