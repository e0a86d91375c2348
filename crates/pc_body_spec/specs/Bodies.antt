-- The meaning of the names in a body, and the nodes to which it elaborates: those of its expressions, and then the whole
-- body of a method.
use Rattle.std.specs.{Prelude.{ℕ, suc, ◌+◌, ◌-◌, ◌^◌, min, Bool, true, false, List, [], ◌∷◌, ◌++◌, Option, Some, None, if◌then◌else◌, nat_eq, nat_le, codes, option_map}, Str.bytes_eq, Option.option_map_or}
use Rattle.pc_base.specs.declared.span.Span.{Span}
use Rattle.pc_caps.specs.declared.capability.Cap.{Cap}
use Rattle.pc_tree.specs.{declared.kinds.EntityKind.EntityKind, declared.written_names.Name.Name, declared.file.ParamDef.ParamDef, Kinds.{none_entity, first_own, at_kind}, declared.kinds.Op.Op, declared.kinds.MethodWord.MethodWord, declared.written_names.TypeRef.TypeRef}
use Rattle.pc_core.specs.{declared.nodes.Node.Node, declared.nodes.NodeKind.NodeKind}
use Rattle.pc_tree.specs.Tree as t
use Rattle.pc_tree.specs.declared.kinds.Op.TheVariants as op
use Rattle.pc_core.specs.declared.nodes.NodeKind.TheVariants as node
use Rattle.pc_tree.specs.declared.kinds.MethodWord.TheVariants as word

-- A constructor of an entity: its name, and its number among the methods of the program.
pub record Constructor : Type 0 where
  pub name : List ℕ
  pub method : ℕ

-- What a body knows of an entity of the program. A constructor that is added because none is written is among the
-- constructors.
pub record KnownEntity : Type 0 where
  pub name : List ℕ
  pub kind : EntityKind
  -- the capability of its type if none is written
  pub cap : Cap
  pub constructors : List Constructor

-- The slot of a local, found by the place of its name in its definition.
pub record PlacedLocal : Type 0 where
  pub start : ℕ
  pub slot : ℕ

-- What stays the same throughout the body of a method.
pub record Context : Type 0 where
  -- the names of the fields and methods of the entity that the method belongs to
  pub fields : List (List ℕ)
  pub methods : List (List ℕ)
  -- the entities of the program by their numbers, the built-in ones first
  pub entities : List KnownEntity
  -- the texts of the program by their numbers
  pub texts : List (List ℕ)
  -- the slots of the method's locals
  pub slots : List PlacedLocal

-- A local or parameter that is visible, and its slot.
pub record Visible : Type 0 where
  pub name : List ℕ
  pub slot : ℕ

-- The visible locals and parameters.
abbrev pub Scope : Type 0
Scope = List Visible

abbrev pub is_among_names : List (List ℕ) → List ℕ → Bool
is_among_names [] name = false
is_among_names (x ∷ xs) name = if bytes_eq x name then true else is_among_names xs name

abbrev pub slot_named : Scope → List ℕ → Option ℕ
slot_named [] name = None
slot_named (v ∷ vs) name = if bytes_eq v.name name then Some v.slot else slot_named vs name

abbrev pub slot_at : List PlacedLocal → ℕ → ℕ
slot_at [] start = 0
slot_at (p ∷ ps) start = if nat_eq p.start start then p.slot else slot_at ps start

-- The number of a text; it is one of the program's texts wherever fields and methods are named.
abbrev pub text_from : ℕ → List (List ℕ) → List ℕ → ℕ
text_from at [] name = 0
text_from at (x ∷ xs) name = if bytes_eq x name then at else text_from (suc at) xs name

abbrev pub number_of_text : Context → List ℕ → ℕ
number_of_text c name = text_from 0 c.texts name

-- The meaning of a bare name.
pub data Meaning : Type 0 where
  local : ℕ → Meaning
  field : Meaning
  method : Meaning
  nothing : Meaning

-- By whether the name is a field, and whether it is a method.
abbrev pub member : Bool → Bool → Meaning
member true is_method = field
member false true = method
member false false = nothing

abbrev pub unless_local : Option ℕ → Meaning → Meaning
unless_local (Some s) m = local s
unless_local None m = m

-- A bare name is a visible local or parameter, else a field of the entity, else, directly before arguments, a method of
-- the entity.
abbrev pub resolve : Context → Scope → List ℕ → Meaning
resolve c scope name = unless_local (slot_named scope name) (member (is_among_names c.fields name) (is_among_names c.methods name))

-- The meaning of a type name as an expression.
pub data TypeMeaning : Type 0 where
  -- the value of the primitive with this number
  primitive : ℕ → TypeMeaning
  -- an actor (`true`) or a class (`false`), with its constructors
  created : Bool → List Constructor → TypeMeaning
  no_value : TypeMeaning

-- Of the built-in entities only None has a value that its name denotes.
abbrev pub is_own : ℕ → Bool
is_own e = if nat_eq e none_entity then true else nat_le first_own e

abbrev pub by_kind : EntityKind → ℕ → List Constructor → TypeMeaning
by_kind k e cs = at_kind (created false cs) (created true cs) (primitive e) no_value no_value k

abbrev pub type_from : ℕ → List KnownEntity → List ℕ → TypeMeaning
type_from at [] name = no_value
type_from at (x ∷ xs) name = if bytes_eq x.name name then (if is_own at then by_kind x.kind at x.constructors else no_value) else type_from (suc at) xs name

abbrev pub type_meaning : Context → List ℕ → TypeMeaning
type_meaning c name = type_from 0 c.entities name

abbrev pub constructor_named : List Constructor → List ℕ → Option ℕ
constructor_named [] name = None
constructor_named (x ∷ xs) name = if bytes_eq x.name name then Some x.method else constructor_named xs name

-- The local that a definition introduces.
abbrev pub defined_local : Context → Name → Visible
defined_local c n = record { name = n.text; slot = slot_at c.slots n.span.start }

-- A local is visible after its definition, up to the end of its sequence.
abbrev pub scope_after : Context → Scope → t.Item → Scope
scope_after c scope (t.local fixed n ty value s) = scope ++ defined_local c n ∷ []
scope_after c scope (t.plain e) = scope

-- The parameters, whose slots come after that of `this`.
abbrev pub params_from : ℕ → List ParamDef → Scope
params_from at [] = []
params_from at (p ∷ ps) = record { name = p.name.text; slot = at } ∷ params_from (suc at) ps

abbrev pub params_scope : List ParamDef → Scope
params_scope ps = params_from 1 ps

-- One `recover` further in. A depth fits in 32 bits.
abbrev pub deeper : ℕ → ℕ
deeper d = min (d + 1) (2 ^ 32 - 1)

-- ---- part of a body, before its nodes have numbers

mutual
  -- A rose: a tree of nodes without numbers. Its kind, its span in the text, its depth, and its children in the order
  -- in which they are evaluated.
  pub data Rose : Type 0 where
    rose : NodeKind → Span → ℕ → Roses → Rose

  pub data Roses : Type 0 where
    no_roses : Roses
    more : Rose → Roses → Roses

abbrev pub leaf : NodeKind → Span → ℕ → Rose
leaf k s d = rose k s d no_roses

abbrev pub one : Rose → Roses
one a = more a no_roses

abbrev pub two : Rose → Rose → Roses
two a b = more a (one b)

abbrev pub three : Rose → Rose → Rose → Roses
three a b c = more a (two b c)

-- These roses, and then one more.
abbrev pub and_last : Roses → Rose → Roses
and_last no_roses r = one r
and_last (more x xs) r = more x (and_last xs r)

abbrev pub node_of : ℕ → NodeKind → Span → ℕ → List ℕ → Node
node_of m k s d children = record { kind = k; children = children; depth = d; method = m; span = s }

-- ---- the nodes to which each part of a body elaborates

-- From the start of the first to the end of the second.
abbrev pub joined_span : Span → Span → Span
joined_span a b = record { start = a.start; end = b.end }

-- The word `end` of an `if`, which is the last word of its span.
abbrev pub end_word : Span → Span
end_word s = record { start = s.end - 3; end = s.end }

-- The node for a name that does not exist: a body inside a body, which arises in no other way. It occurs only if there
-- is a fault.
abbrev pub gap : Span → ℕ → Rose
gap s d = rose node.Body s d (one (leaf node.This s d))

-- `this` if it is not written, at the place of the name that needs it.
abbrev pub added_this : Name → ℕ → Rose
added_this n d = leaf node.This n.span d

-- `and`, `or`, `is` and `isnt` have node kinds of their own.
abbrev pub operation : Op → NodeKind
operation op.And = node.And
operation op.Or = node.Or
operation op.Is = node.Same true
operation op.Isnt = node.Same false
operation o = node.Binary o

-- Reading a field of its origin.
abbrev pub read_field : Context → Span → Name → ℕ → Rose → Rose
read_field c s n d origin = rose (node.Field (number_of_text c n.text)) s d (one origin)

-- Writing a field: the value is evaluated before the origin.
abbrev pub write_field : Context → Span → Name → ℕ → Rose → Rose → Rose
write_field c s n d value origin = rose (node.SetField (number_of_text c n.text)) s d (two value origin)

-- A call evaluates its arguments, and then its receiver.
abbrev pub call : Context → Span → List ℕ → ℕ → Roses → Rose → Rose
call c s name d args receiver = rose (node.Call (number_of_text c name)) s d (and_last args receiver)

-- Reading a bare name.
abbrev pub read_name : Context → Name → ℕ → Meaning → Rose
read_name c n d (local x) = leaf (node.Local x) n.span d
read_name c n d field = read_field c n.span n d (added_this n d)
read_name c n d m = gap n.span d

-- Writing a bare name, by an assignment with span s.
abbrev pub write_name : Context → Span → Name → ℕ → Rose → Meaning → Rose
write_name c s n d value (local x) = rose (node.Assign x) s d (one value)
write_name c s n d value field = write_field c s n d value (added_this n d)
write_name c s n d value m = gap s d

-- A new object by a constructor: of an actor, or of a class.
abbrev pub new_object_rose : Bool → Span → ℕ → Roses → Option ℕ → Rose
new_object_rose true s d args (Some m) = rose (node.Spawn m) s d args
new_object_rose false s d args (Some m) = rose (node.New m) s d args
new_object_rose actor s d args None = gap s d

abbrev pub create_name : List ℕ
create_name = codes "create"

-- A type name without suffixes: a primitive's value, or a new object by `create`.
abbrev pub read_type : Name → ℕ → TypeMeaning → Rose
read_type n d (primitive e) = leaf (node.Prim e) n.span d
read_type n d (created actor cs) = new_object_rose actor n.span d no_roses (constructor_named cs create_name)
read_type n d no_value = gap n.span d

-- How a chain of suffixes starts.
pub data Start : Type 0 where
  -- with the bare name of a method, unless it is something else
  with_method : Name → Start
  -- with a type name
  with_type : TypeMeaning → Start
  -- with any other value, or with the value of earlier suffixes
  with_value : Start

abbrev pub start_with_name : Name → Meaning → Start
start_with_name n method = with_method n
start_with_name n m = with_value

abbrev pub chain_start : Context → Scope → t.Expr → Start
chain_start c scope (t.name n) = start_with_name n (resolve c scope n.text)
chain_start c scope (t.type_name n) = with_type (type_meaning c n.text)
chain_start c scope e = with_value

abbrev pub apply_name : List ℕ
apply_name = codes "apply"

-- The name of a primitive may be followed by `()`.
abbrev pub apply_primitive : Context → ℕ → Span → ℕ → Roses → Rose → Rose
apply_primitive c e s d no_roses origin = leaf (node.Prim e) s d
apply_primitive c e s d (more x xs) origin = call c s apply_name d (more x xs) origin

-- Arguments directly after the start of a chain, or after a suffix other than a name.
abbrev pub apply : Context → Start → Span → ℕ → Roses → Rose → Rose
apply c (with_method n) s d args origin = call c s n.text d args (added_this n d)
apply c (with_type (primitive e)) s d args origin = apply_primitive c e s d args origin
apply c (with_type (created actor cs)) s d args origin = new_object_rose actor s d args (constructor_named cs create_name)
apply c start s d args origin = call c s apply_name d args origin

-- `.n` and arguments, after the start of a chain or after another suffix.
abbrev pub call_named : Context → Start → Span → Name → ℕ → Roses → Rose → Rose
call_named c (with_type (created actor cs)) s n d args origin = new_object_rose actor s d args (constructor_named cs n.text)
call_named c start s n d args origin = call c s n.text d args origin

-- Whether the field at the end of a chain is read, or written with this value by an assignment with this span.
pub data Use : Type 0 where
  read : Use
  write : Span → Rose → Use

abbrev pub use_field : Context → Use → Span → Name → ℕ → Rose → Rose
use_field c read s n d origin = read_field c s n d origin
use_field c (write whole value) s n d origin = write_field c whole n d value origin

-- A value assigned to something that is neither a name nor a field, which no text spells: both are evaluated, in this
-- order.
abbrev pub value_then : Span → ℕ → Rose → Rose → Rose
value_then s d value r = rose node.Seq s d (two value r)

-- A chain that does not end with a field.
abbrev pub use_other : Use → ℕ → Rose → Rose
use_other read d r = r
use_other (write whole value) d r = value_then whole d value r

-- The first arm is just an `if`; each `elseif` is one in a sequence of its own.
abbrev pub if_of : Bool → Span → ℕ → Roses → Rose
if_of true s d parts = rose node.If s d parts
if_of false s d parts = rose node.Seq s d (one (rose node.If s d parts))

-- The span of an arm: that of the whole for the first, else from its `elseif` through `end`.
abbrev pub arm_place : Bool → Span → Span → Span
arm_place true whole arm = whole
arm_place false whole arm = joined_span arm whole

-- The value None, if nothing is written.
abbrev pub added_none : Span → ℕ → Rose
added_none s d = leaf (node.Prim none_entity) s d

-- A sequence has an item; without items, which no text spells, it gives None.
abbrev pub or_added_none : Span → ℕ → Roses → Roses
or_added_none s d no_roses = one (added_none s d)
or_added_none s d (more r rs) = more r rs

abbrev pub sequence : Span → ℕ → Roses → Rose
sequence s d items = rose node.Seq s d (or_added_none s d items)

-- A missing `else` gives None, with the span of the word `end`.
abbrev pub no_else : Span → ℕ → Rose
no_else s d = sequence (end_word s) d (one (added_none (end_word s) d))

abbrev mutual
  -- An expression at this depth, with these locals and parameters visible.
  pub expr_of : Context → Scope → ℕ → t.Expr → Rose
  expr_of c sc d (t.number n s) = leaf (node.Number n) s d
  expr_of c sc d (t.truth b s) = leaf (node.Truth b) s d
  expr_of c sc d (t.text b s) = leaf (node.Text b) s d
  expr_of c sc d (t.name n) = read_name c n d (resolve c sc n.text)
  expr_of c sc d (t.type_name n) = read_type n d (type_meaning c n.text)
  expr_of c sc d (t.this s) = leaf node.This s d
  expr_of c sc d (t.consume n s) = option_map_or (λ x. leaf (node.Consume x) s d) (slot_named sc n.text) (gap s d)
  expr_of c sc d (t.not_ e s) = rose node.Not s d (one (expr_of c sc d e))
  expr_of c sc d (t.infix_ o es s) = infix_of c sc d o s es
  expr_of c sc d (t.chain h ss s) = chain_of c sc d s read (chain_start c sc h) (expr_of c sc d h) ss
  expr_of c sc d (t.group b s) = seq_of c sc d s b
  expr_of c sc d (t.if_ as' o s) = rose_of_arms c sc d s true as' (other_of c sc d s o)
  expr_of c sc d (t.while_ cond b s) = rose node.While s d (two (whole_of c sc d cond) (whole_of c sc d b))
  expr_of c sc d (t.recover cap b s) = rose (node.Recover cap) s d (one (whole_of c sc (deeper d) b))
  expr_of c sc d (t.assign l r s) = assign_of c sc d s (expr_of c sc d r) (expr_of c sc d l) l

  -- What is left of `=` gets the value. Only names and fields can be there; `left` is what it would be on its own.
  pub assign_of : Context → Scope → ℕ → Span → Rose → Rose → t.Expr → Rose
  assign_of c sc d s value left (t.name n) = write_name c s n d value (resolve c sc n.text)
  assign_of c sc d s value left (t.chain h ss whole) = chain_of c sc d whole (write s value) (chain_start c sc h) (expr_of c sc d h) ss
  assign_of c sc d s value left e = value_then s d value left

  -- Chains of operators nest to the left, and the span of each reaches from the start of the chain to its own right
  -- side. They have operands; without any, which no text spells, they give None.
  pub infix_of : Context → Scope → ℕ → Op → Span → t.Exprs → Rose
  infix_of c sc d o s t.no_exprs = added_none s d
  infix_of c sc d o s (t.expr e es) = operands_of c sc d o s (expr_of c sc d e) es

  pub operands_of : Context → Scope → ℕ → Op → Span → Rose → t.Exprs → Rose
  operands_of c sc d o s left t.no_exprs = left
  operands_of c sc d o s left (t.expr e es) = operands_of c sc d o s (rose (operation o) (joined_span s (t.span_of e)) d (two left (expr_of c sc d e))) es

  -- So do chains of suffixes: a name directly followed by arguments is a call, and a name alone a field. `origin` is
  -- what comes before the suffixes, and s is the span of the whole chain.
  pub chain_of : Context → Scope → ℕ → Span → Use → Start → Rose → t.Suffixes → Rose
  chain_of c sc d s u st origin t.no_suffixes = use_other u d origin
  chain_of c sc d s u st origin (t.suffix (t.dot n) ss) = named_of c sc d s u st origin n ss
  chain_of c sc d s u st origin (t.suffix (t.args es sp) ss) =
      chain_of c sc d s u with_value (apply c st (joined_span s sp) d (roses_of_exprs c sc d es) origin) ss

  -- The suffixes after `.n`.
  pub named_of : Context → Scope → ℕ → Span → Use → Start → Rose → Name → t.Suffixes → Rose
  named_of c sc d s u st origin n t.no_suffixes = use_field c u (joined_span s n.span) n d origin
  named_of c sc d s u st origin n (t.suffix (t.dot m) ss) = named_of c sc d s u with_value (read_field c (joined_span s n.span) n d origin) m ss
  named_of c sc d s u st origin n (t.suffix (t.args es sp) ss) =
      chain_of c sc d s u with_value (call_named c st (joined_span s sp) n d (roses_of_exprs c sc d es) origin) ss

  pub roses_of_exprs : Context → Scope → ℕ → t.Exprs → Roses
  roses_of_exprs c sc d t.no_exprs = no_roses
  roses_of_exprs c sc d (t.expr e es) = more (expr_of c sc d e) (roses_of_exprs c sc d es)

  -- The arms of an `if`, each as the `else` of the one before it. `last` is the value of the last `else`.
  pub rose_of_arms : Context → Scope → ℕ → Span → Bool → t.Arms → Rose → Rose
  rose_of_arms c sc d s first t.no_arms last = last
  rose_of_arms c sc d s first (t.arm a as') last = arm_of c sc d s first a (rose_of_arms c sc d s false as' last)

  pub arm_of : Context → Scope → ℕ → Span → Bool → t.Arm → Rose → Rose
  arm_of c sc d s first (t.arm_of cond b sp) otherwise = if_of first (arm_place first s sp) d (three (whole_of c sc d cond) (whole_of c sc d b) otherwise)

  pub other_of : Context → Scope → ℕ → Span → t.Other → Rose
  other_of c sc d s t.no_other = no_else s d
  other_of c sc d s (t.other b) = whole_of c sc d b

  -- A sequence, with the span from its first item to its last.
  pub whole_of : Context → Scope → ℕ → t.Seq → Rose
  whole_of c sc d (t.seq is s) = sequence s d (roses_of_items c sc d is)

  -- A sequence with another span: that of its parentheses.
  pub seq_of : Context → Scope → ℕ → Span → t.Seq → Rose
  seq_of c sc d s (t.seq is sp) = sequence s d (roses_of_items c sc d is)

  pub roses_of_items : Context → Scope → ℕ → t.Items → Roses
  roses_of_items c sc d t.no_items = no_roses
  roses_of_items c sc d (t.item i is) = more (item_of c sc d i) (roses_of_items c (scope_after c sc i) d is)

  pub item_of : Context → Scope → ℕ → t.Item → Rose
  item_of c sc d (t.local fixed n ty e s) = rose (node.Define (slot_at c.slots n.span.start)) s d (one (expr_of c sc d e))
  item_of c sc d (t.plain e) = expr_of c sc d e

-- ---- the nodes to which the whole body of a method elaborates

-- The initial values of fields are written to the fields of `this`, in order, before what follows. No parameter is
-- visible in them.
abbrev pub initials_then : Context → List t.Field → Roses → Roses
initials_then c [] rest = rest
initials_then c (f ∷ fs) rest =
    option_map_or (λ e. more (write_field c f.name.span f.name 0 (expr_of c [] 0 e) (added_this f.name 0)) (initials_then c fs rest)) f.value (initials_then c fs rest)

-- Only constructors start with the initial values.
abbrev pub initial_fields : MethodWord → List t.Field → List t.Field
initial_fields word.New fs = fs
initial_fields word.Fun fs = []
initial_fields word.Be fs = []

-- A function without a written result returns None.
abbrev pub gives_none : MethodWord → Option TypeRef → Bool
gives_none word.Fun None = true
gives_none word.Fun (Some ty) = false
gives_none word.Be r = false
gives_none word.New r = false

abbrev pub none_last : Bool → Span → Roses → Roses
none_last true s rs = and_last rs (added_none s 0)
none_last false s rs = rs

-- The span of a body is the name of its method, and that of its sequence reaches from its first written item to its
-- last.
abbrev pub body_around : Span → Span → Roses → Rose
body_around name s items = rose node.Body name 0 (one (sequence s 0 items))

abbrev pub body_with : Context → List t.Field → t.Method → t.Seq → Rose
body_with c fs m (t.seq is s) = body_around m.name.span s (initials_then c (initial_fields m.word fs) (none_last (gives_none m.word m.result) m.name.span (roses_of_items c (params_scope m.params) 0 is)))

-- The body of a method of an entity with these fields, if one is written.
abbrev pub body_of : Context → List t.Field → t.Method → Option Rose
body_of c fs m = option_map (body_with c fs m) m.body

-- The body of a `create` that is added to an entity with this name: the initial values, and then None.
abbrev pub added_body : Context → List t.Field → Span → Rose
added_body c fs name = body_around name name (initials_then c fs (one (added_none name 0)))
