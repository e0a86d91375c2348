-- The faults of the names and texts of a body, in the order of the text.
use Rattle.std.specs.{Prelude.{ℕ, Bool, true, false, List, [], ◌∷◌, ◌++◌, length, if◌then◌else◌, nat_lt, flat_map}, Str.bytes_eq, Option.{option_map_or, is_none}}
use Rattle.pc_base.specs.{declared.span.Span.Span, Limits.text_limit, Lists.one_if}
use Rattle.pc_tree.specs.{declared.written_names.Name.Name, declared.written_names.TypeRef.TypeRef}
use Rattle.pc_body_spec.specs.Bodies.{Context, Scope, KnownEntity, Constructor, Meaning, local, field, TypeMeaning, primitive, created, no_value, slot_named, resolve, type_meaning, constructor_named, scope_after, params_scope, Start, with_method, with_type, with_value, chain_start, create_name, initial_fields}
use Rattle.pc_tree.specs.Tree as t

pub data BodyNameFault : Type 0 where
  -- a name that is not defined
  unknown : Span → BodyNameFault
  -- a local with the name of a visible local or parameter, or of a field
  double : Span → BodyNameFault
  -- a text that is too long
  long_text : Span → BodyNameFault

-- A bare name without arguments after it is a local or parameter, or a field.
abbrev pub bare_name_faults : Meaning → Span → List BodyNameFault
bare_name_faults (local x) s = []
bare_name_faults field s = []
bare_name_faults m s = unknown s ∷ []

-- A type name without suffixes is that of a primitive, or of an entity with a constructor `create`.
abbrev pub type_name_faults : TypeMeaning → Span → List BodyNameFault
type_name_faults (primitive e) s = []
type_name_faults (created actor cs) s = one_if (is_none (constructor_named cs create_name)) (unknown s)
type_name_faults no_value s = unknown s ∷ []

-- Any entity of the program may be the type of a local.
abbrev pub is_entity : List KnownEntity → List ℕ → Bool
is_entity [] name = false
is_entity (x ∷ xs) name = if bytes_eq x.name name then true else is_entity xs name

abbrev pub written_type_faults : Context → TypeRef → List BodyNameFault
written_type_faults c ty = if is_entity c.entities ty.name.text then [] else unknown ty.name.span ∷ []

-- A local has the name of no visible local or parameter, and of no field.
abbrev pub is_name_taken : Meaning → Bool
is_name_taken (local x) = true
is_name_taken field = true
is_name_taken m = false

-- What follows the start of a chain.
pub data Next : Type 0 where
  arguments : Next
  name : Next
  end : Next

abbrev pub next_of : t.Suffixes → Next
next_of t.no_suffixes = end
next_of (t.suffix (t.dot n) ss) = name
next_of (t.suffix (t.args es s) ss) = arguments

-- The bare name of a method is fine before arguments, and the name of a class or actor before `.m` calls no `create`;
-- otherwise the start of a chain has the faults that it has on its own.
abbrev pub start_faults : Start → Next → List BodyNameFault → List BodyNameFault
start_faults (with_method n) arguments alone = []
start_faults (with_type (created actor cs)) name alone = []
start_faults st next alone = alone

-- After the name of a class or actor, `.m` names one of its constructors and is followed by arguments.
abbrev pub constructor_faults : List Constructor → Name → Next → List BodyNameFault
constructor_faults cs n arguments = one_if (is_none (constructor_named cs n.text)) (unknown n.span)
constructor_faults cs n next = unknown n.span ∷ []

abbrev pub dot_faults : Start → Name → Next → List BodyNameFault
dot_faults (with_type (created actor cs)) n next = constructor_faults cs n next
dot_faults st n next = []

-- The faults of an expression, in the order of the text.
abbrev mutual
  pub faults_of : Context → Scope → t.Expr → List BodyNameFault
  faults_of c sc (t.number n s) = []
  faults_of c sc (t.truth b s) = []
  faults_of c sc (t.text b s) = one_if (nat_lt text_limit (length b)) (long_text s)
  faults_of c sc (t.name n) = bare_name_faults (resolve c sc n.text) n.span
  faults_of c sc (t.type_name n) = type_name_faults (type_meaning c n.text) n.span
  faults_of c sc (t.this s) = []
  faults_of c sc (t.consume n s) = one_if (is_none (slot_named sc n.text)) (unknown n.span)
  faults_of c sc (t.not_ e s) = faults_of c sc e
  faults_of c sc (t.infix_ o es s) = exprs_faults c sc es
  faults_of c sc (t.chain h ss s) = start_faults (chain_start c sc h) (next_of ss) (faults_of c sc h) ++ suffixes_faults c sc (chain_start c sc h) ss
  faults_of c sc (t.group b s) = seq_faults c sc b
  faults_of c sc (t.if_ as' o s) = arms_faults c sc as' ++ other_faults c sc o
  faults_of c sc (t.while_ cond b s) = seq_faults c sc cond ++ seq_faults c sc b
  faults_of c sc (t.recover cap b s) = seq_faults c sc b
  faults_of c sc (t.assign l r s) = faults_of c sc l ++ faults_of c sc r

  pub exprs_faults : Context → Scope → t.Exprs → List BodyNameFault
  exprs_faults c sc t.no_exprs = []
  exprs_faults c sc (t.expr e es) = faults_of c sc e ++ exprs_faults c sc es

  pub suffixes_faults : Context → Scope → Start → t.Suffixes → List BodyNameFault
  suffixes_faults c sc st t.no_suffixes = []
  suffixes_faults c sc st (t.suffix (t.dot n) ss) = dot_faults st n (next_of ss) ++ suffixes_faults c sc with_value ss
  suffixes_faults c sc st (t.suffix (t.args es s) ss) = exprs_faults c sc es ++ suffixes_faults c sc with_value ss

  pub arms_faults : Context → Scope → t.Arms → List BodyNameFault
  arms_faults c sc t.no_arms = []
  arms_faults c sc (t.arm a as') = arm_faults c sc a ++ arms_faults c sc as'

  pub arm_faults : Context → Scope → t.Arm → List BodyNameFault
  arm_faults c sc (t.arm_of cond b s) = seq_faults c sc cond ++ seq_faults c sc b

  pub other_faults : Context → Scope → t.Other → List BodyNameFault
  other_faults c sc t.no_other = []
  other_faults c sc (t.other b) = seq_faults c sc b

  pub seq_faults : Context → Scope → t.Seq → List BodyNameFault
  seq_faults c sc (t.seq is s) = items_faults c sc is

  pub items_faults : Context → Scope → t.Items → List BodyNameFault
  items_faults c sc t.no_items = []
  items_faults c sc (t.item i is) = item_faults c sc i ++ items_faults c (scope_after c sc i) is

  pub item_faults : Context → Scope → t.Item → List BodyNameFault
  item_faults c sc (t.local fixed n ty e s) =
      one_if (is_name_taken (resolve c sc n.text)) (double n.span) ++ option_map_or (written_type_faults c) ty [] ++ faults_of c sc e
  item_faults c sc (t.plain e) = faults_of c sc e

-- The faults of the initial values.
abbrev pub initial_faults : Context → List t.Field → List BodyNameFault
initial_faults c fs = flat_map (λ (f : t.Field). option_map_or (faults_of c []) f.value []) fs

-- The faults of the body of a method of an entity with these fields. The initial values are a part of each constructor.
abbrev pub body_faults : Context → List t.Field → t.Method → List BodyNameFault
body_faults c fs m = initial_faults c (initial_fields m.word fs) ++ option_map_or (seq_faults c (params_scope m.params)) m.body []
