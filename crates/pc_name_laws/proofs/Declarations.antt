-- The faults of the names and declarations of entities are those that are listed.
use Rattle.std.proofs.{Common.{◌≡◌, ℕ, zero, suc, ◌+◌, ◌<◌, ◌≤◌, ◌&&◌, ◌||◌, List, [], ◌∷◌, ◌++◌, map, length, take, Option, Some, None, Bool, true, false, not, refl, sym, ap, ◌∙◌, subst, inl, inr, ⊎_elim, arith, append_assoc, if◌then◌else◌}, lemmas.Bool.{ltb-true, cases_lt}, lemmas.List.length-append, lemmas.Option.{same_Some, none-some}}
use Rattle.std.specs.Prelude.{◌⊎◌, slice_get, nat_lt, codes}
use Rattle.pc_base.specs.{Limits.field_limit, Lists.{Has, Text}}
use Rattle.pc_base.proofs.{Bools.{true_false, false_true}, Elements.{has_front, has_behind, has_either}, Gets.{get_take, take_get}}
use Rattle.pc_tree.specs.{declared.file.ParamDef.ParamDef, declared.written_names.Name.Name, declared.written_names.TypeRef.TypeRef, Kinds.is_abstract}
use Rattle.pc_tree.specs.Tree as t
use Rattle.pc_names.specs.{declared.fault.NameFault.NameFault, Faults.either_fault, Parts.where_}
use Rattle.pc_names.specs.declared.fault.NameFault.TheVariants as fault
use Rattle.pc_names.specs.declared.fault.Which.TheVariants as which
use Rattle.pc_members.specs.{MemberLists.{is_among, with_name, with_traits, trait_names}, Members.{built_in_names, entity_names, texts_of, has_added, field_texts, method_texts}}
use Rattle.pc_names.specs.Faults as spec
use Rattle.pc_names.specs.Parts as parts
use Rattle.pc_members.proofs.Named.{is_trait_named}
use Rattle.pc_file_spec.proofs.Tables.{names_there, names_kept}
use Rattle.pc_name_laws.specs.{Uses.param_texts, Declared.{HasBefore, IsRepeated, IsEntityFault, IsEntity, IsTrait, HasType, IsMissingName, IsTwice, IsDeclarationFault}}
use Rattle.pc_name_laws.specs.Declared as law
use Rattle.pc_name_laws.proofs.Lists.{Lists, lists_none, lists_both, lists_turned, Tests, lists_where, lists_either, tests_not, tests_or, tests_among, tests_before, tests_turned, walk, AtOne, lists_walk, lists_each, first_count}

-- ---- the limits

tests_limit : (limit n i : ℕ) → n ≡ limit + i → (least : ℕ) → Tests (not (nat_lt n least)) (least ≤ limit + i)
tests_limit limit n i e least = by (nat_lt n least) refl
  where
    less : n < least → nat_lt n least ≡ true
    less l = search (arith, l)

    reached : nat_lt n least ≡ false → least ≤ limit + i
    reached f = elim (cases_lt n least) [
      | inl l ↦ absurd (true_false (sym (less l) ∙ f))
      | inr l ↦ omega (arith, l, e)
    ]

    by : (b : Bool) → nat_lt n least ≡ b → Tests (not b) (least ≤ limit + i)
    by true f = λ h. let l : n < least = ltb-true n least f in omega (arith, l, h, e)
    by false f = reached f

-- ---- the names of entities

abbrev entity_text : t.Entity → Text
entity_text e = e.name.text

abbrev name_part : List Text → t.Entity → List NameFault
name_part known e = either_fault (is_among e.name.text known) (fault.Double e.name.span) (not (nat_lt (length known) parts.known_limit)) (fault.TooMany which.Entities e.name.span)

-- After known names: the list is one that is traversed.
names_walk : (known : List Text) (es : List t.Entity) → spec.entity_name_faults known es ≡ walk entity_text name_part known es
names_walk known [] = refl
names_walk known (e ∷ es) = ap (λ l. name_part known e ++ l) (names_walk (known ++ e.name.text ∷ []) es)

-- An element among the built-in names and those before place i.
tests_repeated : (x : Text) (es : List t.Entity) (i : ℕ) → Tests (is_among x (built_in_names ++ take i (texts_of es))) (Has built_in_names x ⊎ HasBefore (texts_of es) i x)
tests_repeated x es i =
    let later = take i (texts_of es) in
    tests_turned (is_among x (built_in_names ++ later)) (Has (built_in_names ++ later) x) (Has built_in_names x ⊎ HasBefore (texts_of es) i x)
    (λ h. ⊎_elim (λ a. inl a) (λ b. inr (before b)) (has_either built_in_names later x h))
    (λ h. ⊎_elim (λ a. has_front built_in_names later x a) (λ b. has_behind built_in_names later x (after b)) h)
    (tests_among x (built_in_names ++ later))
  where
    before : Has (take i (texts_of es)) x → HasBefore (texts_of es) i x
    before h = let g = get_take (texts_of es) i h.0 x h.1 in (h.0, g.0, g.1)

    after : HasBefore (texts_of es) i x → Has (take i (texts_of es)) x
    after h = (h.0, take_get (texts_of es) i h.0 x h.1 h.2)

abbrev NameCases : t.File → ℕ → t.Entity → NameFault → Type 0
NameCases file i e f =
    ((f ≡ fault.Double e.name.span) × IsRepeated file i e.name.text) ⊎ ((f ≡ fault.TooMany which.Entities e.name.span) × (IsRepeated file i e.name.text → ⊥) × (1000 ≤ i))

name_lists : (file : t.File) (i : ℕ) (e : t.Entity) → slice_get file.entities i ≡ Some e → Lists (name_part (built_in_names ++ take i (texts_of file.entities)) e) (NameCases file i e)
name_lists file i e at =
    let known = built_in_names ++ take i (texts_of file.entities) in
    let count : length known ≡ 6 + i = length-append built_in_names (take i (texts_of file.entities)) ∙ ap (λ n. 6 + n) (first_count entity_text file.entities i e at) in
    lists_either (is_among e.name.text known) (not (nat_lt (length known) parts.known_limit)) (fault.Double e.name.span) (fault.TooMany which.Entities e.name.span) (IsRepeated file i e.name.text) (1000 ≤ i)
    (tests_repeated e.name.text file.entities i)
    (tests_turned (not (nat_lt (length known) parts.known_limit)) (parts.known_limit ≤ 6 + i) (1000 ≤ i) (λ l. omega (arith, l)) (λ l. omega (arith, l)) (tests_limit 6 (length known) i count parts.known_limit))

pub entities_list : (file : t.File) → Lists (spec.entity_name_faults built_in_names file.entities) (IsEntityFault file)
entities_list file = subst (λ l. Lists l (IsEntityFault file)) (sym (names_walk built_in_names file.entities)) whole
  where
    there : (f : NameFault) → AtOne entity_text name_part built_in_names file.entities f → IsEntityFault file f
    there f h = ⊎_elim
        (λ a. subst (IsEntityFault file) (sym a.0) (law.twice h.0 h.1 h.2 a.1))
        (λ a. subst (IsEntityFault file) (sym a.0) (law.too_many h.0 h.1 h.2 a.1 a.2))
        ((name_lists file h.0 h.1 h.2 f).0 h.3)

    back : (f : NameFault) → IsEntityFault file f → AtOne entity_text name_part built_in_names file.entities f
    back f (law.twice i e at r) = (i, e, at, (name_lists file i e at (fault.Double e.name.span)).1 (inl (refl, r)))
    back f (law.too_many i e at r l) = (i, e, at, (name_lists file i e at (fault.TooMany which.Entities e.name.span)).1 (inr (refl, r, l)))

    whole : Lists (walk entity_text name_part built_in_names file.entities) (IsEntityFault file)
    whole = lists_turned (walk entity_text name_part built_in_names file.entities) (AtOne entity_text name_part built_in_names file.entities) (IsEntityFault file) there back (lists_walk entity_text name_part built_in_names file.entities)

-- ---- types and traits

tests_entity : (file : t.File) (x : Text) → Tests (not (is_among x (entity_names file))) (IsEntity file x → ⊥)
tests_entity file x = tests_not (is_among x (entity_names file)) (IsEntity file x) (tests_among x (entity_names file))

abbrev Missing : t.File → TypeRef → NameFault → Type 0
Missing file ty f = (f ≡ fault.Unknown ty.name.span) × (IsEntity file ty.name.text → ⊥)

type_lists : (file : t.File) (ty : TypeRef) → Lists (spec.type_faults (entity_names file) ty) (Missing file ty)
type_lists file ty = lists_where (not (is_among ty.name.text (entity_names file))) (fault.Unknown ty.name.span) (IsEntity file ty.name.text → ⊥) (tests_entity file ty.name.text)

result_lists : (file : t.File) (r : Option TypeRef) → Lists (parts.result_faults (entity_names file) r) (λ f. (ty : TypeRef) × (r ≡ Some ty) × Missing file ty f)
result_lists file None = lists_turned [] (λ f. ⊥) (λ f. (ty : TypeRef) × (None ≡ Some ty) × Missing file ty f) (λ f h. absurd h) (λ f h. none-some h.0 h.1) lists_none
result_lists file (Some r) =
    lists_turned (spec.type_faults (entity_names file) r) (Missing file r) (λ f. (ty : TypeRef) × (Some r ≡ Some ty) × Missing file ty f)
    (λ f h. (r, refl, h)) (λ f h. subst (λ (ty : TypeRef). Missing file ty f) (sym (same_Some r h.0 h.1)) h.2) (type_lists file r)

trait_kept : (es : List t.Entity) (known : List Text) (x : Text) → Has known x → Has (with_traits known es) x
trait_kept [] known x h = h
trait_kept (e ∷ es) known x h = trait_kept es (if is_abstract e.kind then with_name known e.name.text else known) x (by (is_abstract e.kind))
  where
    by : (b : Bool) → Has (if b then with_name known e.name.text else known) x
    by true = (h.0, names_kept (e.name.text ∷ []) known h.0 x h.1)
    by false = h

trait_there : (es : List t.Entity) (known : List Text) (i : ℕ) (e : t.Entity) → slice_get es i ≡ Some e → is_abstract e.kind ≡ true → Has (with_traits known es) e.name.text
trait_there [] known i e h a = absurd (none-some e h)
trait_there (x ∷ es) known zero e h a =
    let same : x ≡ e = same_Some x e h in
    let is : is_abstract x.kind ≡ true = ap (λ (z : t.Entity). is_abstract z.kind) same ∙ a in
    subst (λ (z : Text). Has (with_traits known (x ∷ es)) z) (ap entity_text same) (subst (λ b. Has (with_traits (if b then with_name known x.name.text else known) es) x.name.text) (sym is) (trait_kept es (with_name known x.name.text) x.name.text (names_there (x.name.text ∷ []) known x.name.text 0 refl)))
trait_there (x ∷ es) known (suc i) e h a = trait_there es (if is_abstract x.kind then with_name known x.name.text else known) i e h a

tests_trait : (file : t.File) (x : Text) → Tests (is_among x (trait_names file.entities)) (IsTrait file x)
tests_trait file x =
    tests_turned (is_among x (trait_names file.entities)) (Has (trait_names file.entities) x) (IsTrait file x)
    (λ h. is_trait_named file.entities x h)
    (λ h. subst (Has (trait_names file.entities)) h.3 (trait_there file.entities [] h.1.0 h.0 h.1.1 h.2))
    (tests_among x (trait_names file.entities))

stable : (b : Bool) (A : Type 0) → Tests b A → ((A → ⊥) → ⊥) → A
stable true A a d = a
stable false A a d = absurd (d a)

-- ---- the names after `is`

abbrev name_text : Name → Text
name_text n = n.text

abbrev provided_part : List Text → List Text → Name → List NameFault
provided_part traits known n = either_fault (not (is_among n.text traits)) (fault.Unknown n.span) (is_among n.text known) (fault.Double n.span)

provided_walk : (traits known : List Text) (ns : List Name) → spec.provided_faults traits known ns ≡ walk name_text (provided_part traits) known ns
provided_walk traits known [] = refl
provided_walk traits known (n ∷ ns) = ap (λ l. provided_part traits known n ++ l) (provided_walk traits (known ++ n.text ∷ []) ns)

module _ (file : t.File) (e : t.Entity) where
  abbrev Provided : ℕ → Name → NameFault → Type 0
  Provided i n f = ((f ≡ fault.Unknown n.span) × (IsTrait file n.text → ⊥)) ⊎ ((f ≡ fault.Double n.span) × IsTrait file n.text × HasBefore (map name_text e.provides) i n.text)

  provided_lists : Lists (spec.provided_faults (trait_names file.entities) [] e.provides) (λ f. (i : ℕ) × (n : Name) × (slice_get e.provides i ≡ Some n) × Provided i n f)
  provided_lists =
      subst (λ l. Lists l (λ f. (i : ℕ) × (n : Name) × (slice_get e.provides i ≡ Some n) × Provided i n f)) (sym (provided_walk (trait_names file.entities) [] e.provides))
      (lists_each name_text (provided_part (trait_names file.entities)) e.provides Provided each)
    where
      each : (i : ℕ) (n : Name) → slice_get e.provides i ≡ Some n → Lists (provided_part (trait_names file.entities) (take i (map name_text e.provides)) n) (Provided i n)
      each i n at =
          let known = take i (map name_text e.provides) in
          let trait = tests_trait file n.text in
          lists_turned (provided_part (trait_names file.entities) known n)
          (λ f. ((f ≡ fault.Unknown n.span) × (IsTrait file n.text → ⊥)) ⊎ ((f ≡ fault.Double n.span) × ((IsTrait file n.text → ⊥) → ⊥) × HasBefore (map name_text e.provides) i n.text)) (Provided i n)
          (λ f h. ⊎_elim (λ a. inl a) (λ b. inr (b.0, stable (is_among n.text (trait_names file.entities)) (IsTrait file n.text) trait b.1, b.2)) h)
          (λ f h. ⊎_elim (λ a. inl a) (λ b. inr (b.0, (λ k. k b.1), b.2)) h)
          (lists_either (not (is_among n.text (trait_names file.entities))) (is_among n.text known) (fault.Unknown n.span) (fault.Double n.span) (IsTrait file n.text → ⊥) (HasBefore (map name_text e.provides) i n.text)
          (tests_not (is_among n.text (trait_names file.entities)) (IsTrait file n.text) trait) (tests_before n.text (map name_text e.provides) i))

-- ---- fields

abbrev field_text : t.Field → Text
field_text f = f.name.text

abbrev field_part : List Text → List Text → t.Field → List NameFault
field_part entities known f =
    either_fault (is_among f.name.text known) (fault.Double f.name.span) (not (nat_lt (length known) field_limit)) (fault.TooMany which.Fields f.name.span) ++ spec.type_faults entities f.ty

fields_walk : (entities known : List Text) (fs : List t.Field) → spec.field_faults entities known fs ≡ walk field_text (field_part entities) known fs
fields_walk entities known [] = refl
fields_walk entities known (f ∷ fs) =
    let first = either_fault (is_among f.name.text known) (fault.Double f.name.span) (not (nat_lt (length known) field_limit)) (fault.TooMany which.Fields f.name.span) in
    let rest = spec.field_faults entities (known ++ f.name.text ∷ []) fs in
    sym (append_assoc first (spec.type_faults entities f.ty) rest) ∙ ap (λ l. field_part entities known f ++ l) (fields_walk entities (known ++ f.name.text ∷ []) fs)

module _ (file : t.File) (e : t.Entity) where
  abbrev FieldCase : ℕ → t.Field → NameFault → Type 0
  FieldCase i x f =
      (((f ≡ fault.Double x.name.span) × HasBefore (field_texts e.fields) i x.name.text) ⊎ ((f ≡ fault.TooMany which.Fields x.name.span) × (HasBefore (field_texts e.fields) i x.name.text → ⊥) × (64 ≤ i))) ⊎ Missing file x.ty f

  fields_list : Lists (spec.field_faults (entity_names file) [] e.fields) (λ f. (i : ℕ) × (x : t.Field) × (slice_get e.fields i ≡ Some x) × FieldCase i x f)
  fields_list =
      subst (λ l. Lists l (λ f. (i : ℕ) × (x : t.Field) × (slice_get e.fields i ≡ Some x) × FieldCase i x f)) (sym (fields_walk (entity_names file) [] e.fields))
      (lists_each field_text (field_part (entity_names file)) e.fields FieldCase each)
    where
      each : (i : ℕ) (x : t.Field) → slice_get e.fields i ≡ Some x → Lists (field_part (entity_names file) (take i (field_texts e.fields)) x) (FieldCase i x)
      each i x at =
          let known = take i (field_texts e.fields) in
          let count : length known ≡ 0 + i = first_count field_text e.fields i x at ∙ (let z : i ≡ 0 + i = omega arith in z) in
          lists_both (either_fault (is_among x.name.text known) (fault.Double x.name.span) (not (nat_lt (length known) field_limit)) (fault.TooMany which.Fields x.name.span)) (spec.type_faults (entity_names file) x.ty)
          (λ f. ((f ≡ fault.Double x.name.span) × HasBefore (field_texts e.fields) i x.name.text) ⊎ ((f ≡ fault.TooMany which.Fields x.name.span) × (HasBefore (field_texts e.fields) i x.name.text → ⊥) × (64 ≤ i))) (Missing file x.ty)
          (lists_either (is_among x.name.text known) (not (nat_lt (length known) field_limit)) (fault.Double x.name.span) (fault.TooMany which.Fields x.name.span) (HasBefore (field_texts e.fields) i x.name.text) (64 ≤ i)
          (tests_before x.name.text (field_texts e.fields) i)
          (tests_turned (not (nat_lt (length known) field_limit)) (field_limit ≤ 0 + i) (64 ≤ i) (λ l. omega (arith, l)) (λ l. omega (arith, l)) (tests_limit 0 (length known) i count field_limit)))
          (type_lists file x.ty)

-- ---- methods

abbrev param_text : ParamDef → Text
param_text p = p.name.text

abbrev param_part : List Text → List Text → List Text → ParamDef → List NameFault
param_part entities fields known p = where_ (is_among p.name.text fields || is_among p.name.text known) (fault.Double p.name.span) ++ spec.type_faults entities p.ty

params_walk : (entities fields known : List Text) (ps : List ParamDef) → spec.param_faults entities fields known ps ≡ walk param_text (param_part entities fields) known ps
params_walk entities fields known [] = refl
params_walk entities fields known (p ∷ ps) =
    let first = where_ (is_among p.name.text fields || is_among p.name.text known) (fault.Double p.name.span) in
    let rest = spec.param_faults entities fields (known ++ p.name.text ∷ []) ps in
    sym (append_assoc first (spec.type_faults entities p.ty) rest) ∙ ap (λ l. param_part entities fields known p ++ l) (params_walk entities fields (known ++ p.name.text ∷ []) ps)

abbrev method_text : t.Method → Text
method_text m = m.name.text

abbrev method_part : List Text → List Text → List Text → t.Method → List NameFault
method_part entities fields known m = where_ (is_among m.name.text fields || is_among m.name.text known) (fault.Double m.name.span) ++ spec.signature_faults entities fields m

methods_walk : (entities fields known : List Text) (ms : List t.Method) → spec.method_faults entities fields known ms ≡ walk method_text (method_part entities fields) known ms
methods_walk entities fields known [] = refl
methods_walk entities fields known (m ∷ ms) =
    let first = where_ (is_among m.name.text fields || is_among m.name.text known) (fault.Double m.name.span) in
    let rest = spec.method_faults entities fields (known ++ m.name.text ∷ []) ms in
    sym (append_assoc first (spec.signature_faults entities fields m) rest) ∙ ap (λ l. method_part entities fields known m ++ l) (methods_walk entities fields (known ++ m.name.text ∷ []) ms)

module _ (file : t.File) (e : t.Entity) where
  abbrev Taken : List Text → ℕ → Text → Type 0
  Taken names i x = Has (field_texts e.fields) x ⊎ HasBefore names i x

  taken_lists : (names : List Text) (i : ℕ) (n : Name) → Lists (where_ (is_among n.text (field_texts e.fields) || is_among n.text (take i names)) (fault.Double n.span)) (λ f. (f ≡ fault.Double n.span) × Taken names i n.text)
  taken_lists names i n =
      lists_where (is_among n.text (field_texts e.fields) || is_among n.text (take i names)) (fault.Double n.span) (Taken names i n.text)
      (tests_or (is_among n.text (field_texts e.fields)) (is_among n.text (take i names)) (Has (field_texts e.fields) n.text) (HasBefore names i n.text) (tests_among n.text (field_texts e.fields)) (tests_before n.text names i))

  abbrev ParamCase : List ParamDef → ℕ → ParamDef → NameFault → Type 0
  ParamCase ps i p f = ((f ≡ fault.Double p.name.span) × Taken (param_texts ps) i p.name.text) ⊎ Missing file p.ty f

  abbrev ParamsCase : List ParamDef → NameFault → Type 0
  ParamsCase ps f = (i : ℕ) × (p : ParamDef) × (slice_get ps i ≡ Some p) × ParamCase ps i p f

  params_list : (ps : List ParamDef) → Lists (spec.param_faults (entity_names file) (field_texts e.fields) [] ps) (ParamsCase ps)
  params_list ps =
      subst (λ l. Lists l (ParamsCase ps)) (sym (params_walk (entity_names file) (field_texts e.fields) [] ps))
      (lists_each param_text (param_part (entity_names file) (field_texts e.fields)) ps (ParamCase ps)
      (λ i p at. lists_both (where_ (is_among p.name.text (field_texts e.fields) || is_among p.name.text (take i (param_texts ps))) (fault.Double p.name.span)) (spec.type_faults (entity_names file) p.ty)
      (λ f. (f ≡ fault.Double p.name.span) × Taken (param_texts ps) i p.name.text) (Missing file p.ty) (taken_lists (param_texts ps) i p.name) (type_lists file p.ty)))

  abbrev ResultCase : t.Method → NameFault → Type 0
  ResultCase m f = (ty : TypeRef) × (m.result ≡ Some ty) × Missing file ty f

  abbrev MethodCase : ℕ → t.Method → NameFault → Type 0
  MethodCase i m f = ((f ≡ fault.Double m.name.span) × Taken (method_texts e.methods) i m.name.text) ⊎ (ParamsCase m.params f ⊎ ResultCase m f)

  methods_list : Lists (spec.method_faults (entity_names file) (field_texts e.fields) [] e.methods) (λ f. (i : ℕ) × (m : t.Method) × (slice_get e.methods i ≡ Some m) × MethodCase i m f)
  methods_list =
      subst (λ l. Lists l (λ f. (i : ℕ) × (m : t.Method) × (slice_get e.methods i ≡ Some m) × MethodCase i m f)) (sym (methods_walk (entity_names file) (field_texts e.fields) [] e.methods))
      (lists_each method_text (method_part (entity_names file) (field_texts e.fields)) e.methods MethodCase
      (λ i m at. lists_both (where_ (is_among m.name.text (field_texts e.fields) || is_among m.name.text (take i (method_texts e.methods))) (fault.Double m.name.span)) (spec.signature_faults (entity_names file) (field_texts e.fields) m)
      (λ f. (f ≡ fault.Double m.name.span) × Taken (method_texts e.methods) i m.name.text) (λ f. ParamsCase m.params f ⊎ ResultCase m f)
      (taken_lists (method_texts e.methods) i m.name)
      (lists_both (spec.param_faults (entity_names file) (field_texts e.fields) [] m.params) (parts.result_faults (entity_names file) m.result) (ParamsCase m.params) (ResultCase m) (params_list m.params) (result_lists file m.result))))

  -- ---- a whole entity

  abbrev AddedCase : NameFault → Type 0
  AddedCase f = (f ≡ fault.Double e.name.span) × ((has_added e ≡ true) × (Has (field_texts e.fields) (codes "create") ⊎ Has (method_texts e.methods) (codes "create")))

  tests_and : (b c : Bool) (A B : Type 0) → Tests b A → Tests c B → Tests (b && c) (A × B)
  tests_and true true A B a d = (a, d)
  tests_and true false A B a d = λ h. d h.1
  tests_and false c A B a d = λ h. a h.0

  tests_itself : (b : Bool) → Tests b (b ≡ true)
  tests_itself true = refl
  tests_itself false = λ h. false_true h

  added_lists : Lists (spec.added_faults e) AddedCase
  added_lists =
      let create = codes "create" in
      lists_where (has_added e && parts.is_member_name create e) (fault.Double e.name.span) ((has_added e ≡ true) × (Has (field_texts e.fields) create ⊎ Has (method_texts e.methods) create))
      (tests_and (has_added e) (parts.is_member_name create e) (has_added e ≡ true) (Has (field_texts e.fields) create ⊎ Has (method_texts e.methods) create) (tests_itself (has_added e))
      (tests_or (is_among create (field_texts e.fields)) (is_among create (method_texts e.methods)) (Has (field_texts e.fields) create) (Has (method_texts e.methods) create) (tests_among create (field_texts e.fields)) (tests_among create (method_texts e.methods))))

  abbrev ProvidedCases : NameFault → Type 0
  ProvidedCases f = (i : ℕ) × (n : Name) × (slice_get e.provides i ≡ Some n) × Provided file e i n f

  abbrev FieldCases : NameFault → Type 0
  FieldCases f = (i : ℕ) × (x : t.Field) × (slice_get e.fields i ≡ Some x) × FieldCase file e i x f

  abbrev MethodCases : NameFault → Type 0
  MethodCases f = (i : ℕ) × (m : t.Method) × (slice_get e.methods i ≡ Some m) × MethodCase i m f

  abbrev Cases : NameFault → Type 0
  Cases f = AddedCase f ⊎ (ProvidedCases f ⊎ (FieldCases f ⊎ MethodCases f))

  cases_list : Lists (spec.entity_faults (entity_names file) (trait_names file.entities) e) Cases
  cases_list =
      let provided = spec.provided_faults (trait_names file.entities) [] e.provides in
      let fields = spec.field_faults (entity_names file) [] e.fields in
      let methods = spec.method_faults (entity_names file) (field_texts e.fields) [] e.methods in
      lists_both (spec.added_faults e) (provided ++ (fields ++ methods)) AddedCase (λ f. ProvidedCases f ⊎ (FieldCases f ⊎ MethodCases f)) added_lists
      (lists_both provided (fields ++ methods) ProvidedCases (λ f. FieldCases f ⊎ MethodCases f) (provided_lists file e) (lists_both fields methods FieldCases MethodCases (fields_list file e) methods_list))

  abbrev Fault : NameFault → Type 0
  Fault = IsDeclarationFault file e

  missing_type : (f : NameFault) (ty : TypeRef) → HasType e ty → Missing file ty f → Fault f
  missing_type f ty has m = subst Fault (sym m.0) (law.unknown ty.name (law.type_name ty has m.1))

  of_provided : (f : NameFault) → ProvidedCases f → Fault f
  of_provided f h = ⊎_elim
      (λ a. subst Fault (sym a.0) (law.unknown h.1 (law.trait_name h.1 (h.0, h.2) a.1)))
      (λ a. subst Fault (sym a.0) (law.twice h.1 (law.trait h.0 h.1 h.2 a.1 a.2))) h.3

  of_field : (f : NameFault) → FieldCases f → Fault f
  of_field f h = ⊎_elim
      (λ a. ⊎_elim (λ d. subst Fault (sym d.0) (law.twice h.1.name (law.field h.0 h.1 h.2 d.1))) (λ d. subst Fault (sym d.0) (law.too_many h.0 h.1 h.2 d.1 d.2)) a)
      (λ a. missing_type f h.1.ty (law.of_field h.1 (h.0, h.2)) a) h.3

  of_method : (f : NameFault) → MethodCases f → Fault f
  of_method f h = ⊎_elim
      (λ a. subst Fault (sym a.0) (law.twice h.1.name (law.method h.0 h.1 h.2 a.1)))
      (λ a. ⊎_elim
      (λ p. ⊎_elim (λ d. subst Fault (sym d.0) (law.twice p.1.name (law.param h.1 p.0 p.1 (h.0, h.2) p.2 d.1))) (λ d. missing_type f p.1.ty (law.of_param h.1 p.1 (h.0, h.2) (p.0, p.2)) d) p.3)
      (λ r. missing_type f r.0 (law.of_result h.1 r.0 (h.0, h.2) r.1) r.2) a) h.3

  there : (f : NameFault) → Cases f → Fault f
  there f h = ⊎_elim (λ a. subst Fault (sym a.0) (law.twice e.name (law.added a.1.0 a.1.1))) (λ a. ⊎_elim (of_provided f) (λ d. ⊎_elim (of_field f) (of_method f) d) a) h

  type_cases : (ty : TypeRef) → HasType e ty → Missing file ty (fault.Unknown ty.name.span) → Cases (fault.Unknown ty.name.span)
  type_cases ty (law.of_field x has) m = inr (inr (inl (has.0, x, has.1, inr m)))
  type_cases ty (law.of_param x p has at) m = inr (inr (inr (has.0, x, has.1, inr (inl (at.0, p, at.1, inr m)))))
  type_cases ty (law.of_result x r has is) m = inr (inr (inr (has.0, x, has.1, inr (inr (r, is, m)))))

  missing_cases : (n : Name) → IsMissingName file e n → Cases (fault.Unknown n.span)
  missing_cases n (law.type_name ty has m) = type_cases ty has (refl, m)
  missing_cases n (law.trait_name k has m) = inr (inl (has.0, k, has.1, inl (refl, m)))

  twice_cases : (n : Name) → IsTwice file e n → Cases (fault.Double n.span)
  twice_cases n (law.trait i k at is before) = inr (inl (i, k, at, inr (refl, is, before)))
  twice_cases n (law.field i x at before) = inr (inr (inl (i, x, at, inl (inl (refl, before)))))
  twice_cases n (law.method i m at taken) = inr (inr (inr (i, m, at, inl (refl, taken))))
  twice_cases n (law.param m i p has at taken) = inr (inr (inr (has.0, m, has.1, inr (inl (i, p, at, inl (refl, taken))))))
  twice_cases n (law.added a taken) = inl (refl, (a, taken))

  back : (f : NameFault) → Fault f → Cases f
  back f (law.unknown n m) = missing_cases n m
  back f (law.twice n m) = twice_cases n m
  back f (law.too_many i x at fresh l) = inr (inr (inl (i, x, at, inl (inr (refl, fresh, l)))))

  pub entity_lists : Lists (spec.entity_faults (entity_names file) (trait_names file.entities) e) (IsDeclarationFault file e)
  entity_lists = lists_turned (spec.entity_faults (entity_names file) (trait_names file.entities) e) Cases (IsDeclarationFault file e) there back cases_list
