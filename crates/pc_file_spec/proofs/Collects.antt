-- Properties of a file whose names have no fault.
use Rattle.std.proofs.{Common.{◌≡◌, ℕ, zero, suc, ◌+◌, ◌<◌, ◌≤◌, ◌&&◌, ◌||◌, List, [], ◌∷◌, ◌++◌, length, Option, Some, None, Bool, true, false, not, sym, ◌∙◌, subst, arith, append-nil}, lemmas.Bool.{ltb-true, not-false}, lemmas.Option.{same_Some, none-some}, lemmas.List.{length_push, append_assoc}}
use Rattle.std.specs.Prelude.{nat_lt, codes, drop}
use Rattle.pc_tree.specs.{declared.file.ParamDef.ParamDef, declared.written_names.Name.Name, declared.written_names.TypeRef.TypeRef, Kinds.first_own}
use Rattle.pc_tree.specs.Tree as t
use Rattle.pc_base.specs.{Lists.{Has, Differ, Text}, Limits.field_limit}
use Rattle.pc_names.specs.declared.fault.NameFault.TheVariants as fault
use Rattle.pc_names.specs.declared.fault.Which.TheVariants as which
use Rattle.pc_members.specs.{MemberLists.{is_among, trait_names}, Members.{built_in_names, entity_names, has_added, field_texts, method_texts}}
use Rattle.pc_names.specs.{Faults.{either_fault, type_faults, provided_faults, field_faults, param_faults, signature_faults, method_faults, added_faults, entity_faults, entity_name_faults, declaration_faults, cycle_faults, count_faults, main_faults, NamesData, Collected}, Parts.{where_, result_faults, is_member_name, entities_faults, known_limit}}
use Rattle.pc_members.proofs.{Differences.among_has, Completed.among_parts}
use Rattle.pc_names.proofs.Founded.{where_none, either_none, Adds, adds_differ, all_differ, provided_are}
use Rattle.pc_base.proofs.{Bools.true_false, Elements.differ_none, Cuts.{nil_left, nil_right}}

-- ---- one entity

-- A type of the file is that of an entity.
abbrev pub IsType : List Text → TypeRef → Type 0
IsType entities ty = Has entities ty.name.text

type_is : (entities : List Text) (ty : TypeRef) → type_faults entities ty ≡ [] → IsType entities ty
type_is entities ty h = among_has ty.name.text entities (not-false (is_among ty.name.text entities) (where_none (not (is_among ty.name.text entities)) (fault.Unknown ty.name.span) h))

fields_add : (entities known : List Text) (fs : List t.Field) → length known ≤ field_limit → field_faults entities known fs ≡ [] → Adds known (field_texts fs) × (length known + length fs ≤ field_limit) × ((f : t.Field) → Has fs f → IsType entities f.ty)
fields_add entities known [] few h = (tt, omega (arith, few), λ f g. absurd (none-some f g.1))
fields_add entities known (x ∷ fs) few h =
    let e0 = either_none (is_among x.name.text known) (fault.Double x.name.span) (not (nat_lt (length known) field_limit)) (fault.TooMany which.Fields x.name.span) (nil_left _ _ h) in
    let tail = nil_right (either_fault (is_among x.name.text known) (fault.Double x.name.span) (not (nat_lt (length known) field_limit)) (fault.TooMany which.Fields x.name.span)) _ h in
    let low : length known < field_limit = ltb-true (length known) field_limit (not-false (nat_lt (length known) field_limit) e0.1) in
    let count : length (known ++ x.name.text ∷ []) ≡ length known + 1 = length_push known x.name.text in
    let more : length (known ++ x.name.text ∷ []) ≤ field_limit = omega (arith, low, count) in
    let rest = fields_add entities (known ++ x.name.text ∷ []) fs more (nil_right (type_faults entities x.ty) _ tail) in
    let total : length (known ++ x.name.text ∷ []) + length fs ≤ field_limit = rest.1 in
    ((e0.0, rest.0), omega (arith, total, count), first x fs (type_is entities x.ty (nil_left (type_faults entities x.ty) _ tail)) rest.2)
  where
    first : (x : t.Field) (fs : List t.Field) → IsType entities x.ty → ((f : t.Field) → Has fs f → IsType entities f.ty) → (f : t.Field) → Has (x ∷ fs) f → IsType entities f.ty
    first x fs a b f (zero, g) = subst (λ (y : t.Field). IsType entities y.ty) (same_Some x f g) a
    first x fs a b f (suc i, g) = b f (i, g)

-- The types of a method.
pub record TypesAre (entities : List Text) (m : t.Method) : Type 0 where
  pub params : (p : ParamDef) → Has m.params p → IsType entities p.ty
  pub result : (ty : TypeRef) → m.result ≡ Some ty → IsType entities ty

params_are : (entities fields known : List Text) (ps : List ParamDef) → param_faults entities fields known ps ≡ [] → (p : ParamDef) → Has ps p → IsType entities p.ty
params_are entities fields known [] h p g = absurd (none-some p g.1)
params_are entities fields known (x ∷ ps) h p g =
    let tail = nil_right (where_ (is_among x.name.text fields || is_among x.name.text known) (fault.Double x.name.span)) _ h in
    first (type_is entities x.ty (nil_left (type_faults entities x.ty) _ tail)) (params_are entities fields (known ++ x.name.text ∷ []) ps (nil_right (type_faults entities x.ty) _ tail)) p g
  where
    first : IsType entities x.ty → ((p : ParamDef) → Has ps p → IsType entities p.ty) → (p : ParamDef) → Has (x ∷ ps) p → IsType entities p.ty
    first a b p (zero, g) = subst (λ (y : ParamDef). IsType entities y.ty) (same_Some x p g) a
    first a b p (suc i, g) = b p (i, g)

result_is : (entities : List Text) (r : Option TypeRef) → result_faults entities r ≡ [] → (ty : TypeRef) → r ≡ Some ty → IsType entities ty
result_is entities None h ty e = absurd (none-some ty e)
result_is entities (Some x) h ty e = subst (IsType entities) (same_Some x ty e) (type_is entities x h)

methods_add : (entities fields known : List Text) (ms : List t.Method) → method_faults entities fields known ms ≡ [] → Adds (fields ++ known) (method_texts ms) × ((m : t.Method) → Has ms m → TypesAre entities m)
methods_add entities fields known [] h = (tt, λ m g. absurd (none-some m g.1))
methods_add entities fields known (x ∷ ms) h =
    let fresh : is_among x.name.text (fields ++ known) ≡ false = among_parts x.name.text fields known ∙ where_none (is_among x.name.text fields || is_among x.name.text known) (fault.Double x.name.span) (nil_left _ _ h) in
    let tail = nil_right (where_ (is_among x.name.text fields || is_among x.name.text known) (fault.Double x.name.span)) _ h in
    let own = nil_left (signature_faults entities fields x) _ tail in
    let rest = methods_add entities fields (known ++ x.name.text ∷ []) ms (nil_right (signature_faults entities fields x) _ tail) in
    let types : TypesAre entities x = record {
      params = params_are entities fields [] x.params (nil_left (param_faults entities fields [] x.params) _ own);
      result = result_is entities x.result (nil_right (param_faults entities fields [] x.params) _ own);
    } in
    ((fresh, subst (λ b. Adds b (method_texts ms)) (sym (append_assoc fields known (x.name.text ∷ []))) rest.0), first types rest.1)
  where
    first : TypesAre entities x → ((m : t.Method) → Has ms m → TypesAre entities m) → (m : t.Method) → Has (x ∷ ms) m → TypesAre entities m
    first a b m (zero, g) = subst (λ y. TypesAre entities y) (same_Some x m g) a
    first a b m (suc i, g) = b m (i, g)

-- An entity whose declarations have no fault.
pub record Sound (file : t.File) (e : t.Entity) : Type 0 where
  pub differ : Differ (field_texts e.fields ++ method_texts e.methods)
  pub few_fields : length e.fields ≤ field_limit
  pub fields : (f : t.Field) → Has e.fields f → IsType (entity_names file) f.ty
  pub methods : (m : t.Method) → Has e.methods m → TypesAre (entity_names file) m
  pub provides : (n : Name) → Has e.provides n → Has (trait_names file.entities) n.text
  pub added : has_added e ≡ true → is_among (codes "create") (field_texts e.fields ++ method_texts e.methods) ≡ false

sound : (file : t.File) (e : t.Entity) → entity_faults (entity_names file) (trait_names file.entities) e ≡ [] → Sound file e
sound file e h =
    let names = entity_names file in
    let traits = trait_names file.entities in
    let h1 = nil_right (added_faults e) _ h in
    let h2 = nil_right (provided_faults traits [] e.provides) _ h1 in
    let fields = fields_add names [] e.fields (omega arith) (nil_left (field_faults names [] e.fields) _ h2) in
    let methods = methods_add names (field_texts e.fields) [] e.methods (nil_right (field_faults names [] e.fields) _ h2) in
    let fields_differ : Differ (field_texts e.fields) = adds_differ [] (field_texts e.fields) differ_none fields.0 in
    let few = fields.1 in
    record {
      differ = adds_differ (field_texts e.fields) (method_texts e.methods) fields_differ (subst (λ b. Adds b (method_texts e.methods)) (append-nil (field_texts e.fields)) methods.0);
      few_fields = omega (arith, few);
      fields = fields.2;
      methods = methods.1;
      provides = provided_are traits [] e.provides (nil_left (provided_faults traits [] e.provides) _ h1);
      added = λ a. among_parts (codes "create") (field_texts e.fields) (method_texts e.methods) ∙ and_true (has_added e) (is_member_name (codes "create") e) a (where_none (has_added e && is_member_name (codes "create") e) (fault.Double e.name.span) (nil_left (added_faults e) _ h));
    }
  where
    and_true : (a b : Bool) → a ≡ true → (a && b) ≡ false → b ≡ false
    and_true true b e f = f
    and_true false b e f = absurd (true_false (sym e))

-- ---- the whole file

sounds : (file : t.File) (es : List t.Entity) → entities_faults (entity_names file) (trait_names file.entities) es ≡ [] → (e : t.Entity) → Has es e → Sound file e
sounds file [] h e g = absurd (none-some e g.1)
sounds file (x ∷ es) h e g = first (sound file x (nil_left (entity_faults (entity_names file) (trait_names file.entities) x) _ h)) (sounds file es (nil_right (entity_faults (entity_names file) (trait_names file.entities) x) _ h)) e g
  where
    first : Sound file x → ((e : t.Entity) → Has es e → Sound file e) → (e : t.Entity) → Has (x ∷ es) e → Sound file e
    first a b e (zero, g) = subst (λ y. Sound file y) (same_Some x e g) a
    first a b e (suc i, g) = b e (i, g)

pub record Collects (file : t.File) (above : List (List ℕ)) : Type 0 where
  pub names : Differ (entity_names file)
  pub few : first_own + length file.entities ≤ known_limit
  pub sound : (e : t.Entity) → Has file.entities e → Sound file e
  pub cycles : cycle_faults first_own file.entities (drop first_own above) ≡ []
  pub counts : count_faults file.entities 0 file.entities ≡ []
  pub main : main_faults file.entities ≡ []

pub collects : (file : t.File) (names : NamesData) → Collected file names → Collects file names.above
collects file names c =
    let es = file.entities in
    let a = drop first_own names.above in
    let h1 = nil_right (entity_name_faults built_in_names es) _ c.faults in
    let h2 = nil_right (declaration_faults file) _ h1 in
    let h3 = nil_right (cycle_faults first_own es a) _ h2 in
    let entities = all_differ file (nil_left (entity_name_faults built_in_names es) _ c.faults) in
    record {
      names = entities.0;
      few = entities.1;
      sound = sounds file es (nil_left (declaration_faults file) _ h1);
      cycles = nil_left (cycle_faults first_own es a) _ h2;
      counts = nil_left (count_faults es 0 es) _ h3;
      main = nil_right (count_faults es 0 es) _ h3;
    }
