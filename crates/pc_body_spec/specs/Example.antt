-- Three small bodies with all their nodes, written out by hand.
use Rattle.std.specs.Prelude.{map, ◌≡◌, ℕ, List, [], ◌∷◌, true, false, Some, None, codes}
use Rattle.pc_base.specs.declared.span.Span.{Span}
use Rattle.pc_tree.specs.{declared.written_names.Name.Name, declared.written_names.TypeRef.TypeRef, Kinds.none_entity}
use Rattle.pc_core.specs.declared.nodes.Node.{Node}
use Rattle.pc_body_spec.specs.{Fold.{put, local_slot}, Bodies.{node_of, body_with, Context, KnownEntity, Constructor, PlacedLocal}, Faults.body_faults, Slots.{slots_of, method_locals}}
use Rattle.pc_caps.specs.declared.capability.Cap.TheVariants as cap
use Rattle.pc_tree.specs.declared.kinds.EntityKind.TheVariants as kind
use Rattle.pc_tree.specs.declared.kinds.MethodWord.TheVariants as word
use Rattle.pc_tree.specs.declared.kinds.Op.TheVariants as op
use Rattle.pc_tree.specs.Tree as t
use Rattle.pc_core.specs.declared.nodes.SlotKind.TheVariants as slot
use Rattle.pc_core.specs.declared.nodes.NodeKind.TheVariants as node

abbrev at : (from to : ℕ) → Span
at a b = record { start = a; end = b }

abbrev name : List ℕ → Span → Name
name text s = record { text = text; span = s }

abbrev sort : List ℕ → Span → TypeRef
sort text s = record { name = name text s; cap = None; hat = false }

abbrev known : List ℕ → KnownEntity
known text = record { name = text; kind = kind.Primitive; cap = cap.Val; constructors = [] }

abbrev constructor : ℕ → Constructor
constructor m = record { name = codes "create"; method = m }

-- The built-in entities, and then `class C` and `actor Main`, whose constructors are methods 1 and 2.
abbrev entities : List KnownEntity
entities = known (codes "None") ∷ known (codes "U64") ∷ known (codes "Bool") ∷ known (codes "String")
    ∷ record { name = codes "Env"; kind = kind.Class; cap = cap.Val; constructors = [] }
    ∷ record { name = codes "OutStream"; kind = kind.Actor; cap = cap.Tag; constructors = [] }
    ∷ record { name = codes "C"; kind = kind.Class; cap = cap.Ref; constructors = constructor 1 ∷ [] }
    ∷ record { name = codes "Main"; kind = kind.Actor; cap = cap.Tag; constructors = constructor 2 ∷ [] } ∷ []

abbrev texts : List (List ℕ)
texts = codes "out" ∷ codes "print" ∷ codes "create" ∷ codes "f" ∷ codes "g" ∷ codes "m" ∷ codes "go" ∷ codes "make" ∷ codes "apply" ∷ []

abbrev context : List PlacedLocal → Context
context slots = record { fields = codes "f" ∷ []; methods = codes "m" ∷ codes "go" ∷ codes "make" ∷ codes "create" ∷ []; entities = entities; texts = texts; slots = slots }

abbrev placed : (start slot : ℕ) → PlacedLocal
placed start slot = record { start = start; slot = slot }

-- The body of this `create`, whose `C` is `C.create()`:
--     class C
--     actor Main
--       new create(env: Env) =>
--         let a: C iso = C
abbrev pub first_body : t.Seq
first_body = t.seq (t.item (t.local true (name (codes "a") (at 53 54)) (Some (record { name = name (codes "C") (at 56 57); cap = Some cap.Iso; hat = false })) (t.type_name (name (codes "C") (at 64 65))) (at 49 65)) t.no_items) (at 49 65)

abbrev pub first : t.Method
first = record { word = word.New; cap = None; name = (name (codes "create") (at 25 31)); params = record { name = (name (codes "env") (at 32 35)); ty = (sort (codes "Env") (at 37 40)) } ∷ []; result = None; body = Some first_body }

abbrev pub first_slots : List PlacedLocal
first_slots = placed 53 2 ∷ []

abbrev pub first_nodes : List Node
first_nodes =
    node_of 2 (node.New 1) (at 64 65) 0 ([])
    ∷ node_of 2 (node.Define 2) (at 49 65) 0 (0 ∷ [])
    ∷ node_of 2 node.Seq (at 49 65) 0 (1 ∷ [])
    ∷ node_of 2 node.Body (at 25 31) 0 (2 ∷ [])
    ∷ []

abbrev pub FirstStands : Type 0
FirstStands =
    (put 2 (body_with (context first_slots) [] first first_body) [] ≡ Some (3, first_nodes))
    × (body_faults (context first_slots) [] first ≡ [])
    × (slots_of [] first ≡ first_slots)
    × (map (local_slot (context first_slots) 2) (method_locals [] first) ≡ record { method = 2; kind = slot.Let; depth = 0; written = Some (6, cap.Iso) } ∷ [])

-- The body of this method, of an entity with a field f and a method m: a call on `this`, an `elseif`, a write to a
-- field, a missing `else`, and a missing result:
--       fun go(b: Bool) =>
--         if b then m(1) elseif b then f.g = 2 end
abbrev pub second_body : t.Seq
second_body = t.seq (t.item (t.plain (t.if_ (t.arm (t.arm_of (t.seq (t.item (t.plain (t.name (name (codes "b") (at 28 29)))) t.no_items) (at 28 29)) (t.seq (t.item (t.plain (t.chain (t.name (name (codes "m") (at 35 36))) (t.suffix (t.args (t.expr (t.number 1 (at 37 38)) t.no_exprs) (at 36 39)) t.no_suffixes) (at 35 39))) t.no_items) (at 35 39)) (at 25 39)) (t.arm (t.arm_of (t.seq (t.item (t.plain (t.name (name (codes "b") (at 47 48)))) t.no_items) (at 47 48)) (t.seq (t.item (t.plain (t.assign (t.chain (t.name (name (codes "f") (at 54 55))) (t.suffix (t.dot (name (codes "g") (at 56 57))) t.no_suffixes) (at 54 57)) (t.number 2 (at 60 61)) (at 54 61))) t.no_items) (at 54 61)) (at 40 61)) t.no_arms)) t.no_other (at 25 65))) t.no_items) (at 25 65)

abbrev pub second : t.Method
second = record { word = word.Fun; cap = None; name = (name (codes "go") (at 6 8)); params = record { name = (name (codes "b") (at 9 10)); ty = (sort (codes "Bool") (at 12 16)) } ∷ []; result = None; body = Some second_body }

abbrev pub second_slots : List PlacedLocal
second_slots = []

abbrev pub second_nodes : List Node
second_nodes =
    node_of 3 (node.Local 1) (at 28 29) 0 ([])
    ∷ node_of 3 node.Seq (at 28 29) 0 (0 ∷ [])
    ∷ node_of 3 (node.Number 1) (at 37 38) 0 ([])
    ∷ node_of 3 node.This (at 35 36) 0 ([])
    ∷ node_of 3 (node.Call 5) (at 35 39) 0 (2 ∷ 3 ∷ [])
    ∷ node_of 3 node.Seq (at 35 39) 0 (4 ∷ [])
    ∷ node_of 3 (node.Local 1) (at 47 48) 0 ([])
    ∷ node_of 3 node.Seq (at 47 48) 0 (6 ∷ [])
    ∷ node_of 3 (node.Number 2) (at 60 61) 0 ([])
    ∷ node_of 3 node.This (at 54 55) 0 ([])
    ∷ node_of 3 (node.Field 3) (at 54 55) 0 (9 ∷ [])
    ∷ node_of 3 (node.SetField 4) (at 54 61) 0 (8 ∷ 10 ∷ [])
    ∷ node_of 3 node.Seq (at 54 61) 0 (11 ∷ [])
    ∷ node_of 3 (node.Prim none_entity) (at 62 65) 0 ([])
    ∷ node_of 3 node.Seq (at 62 65) 0 (13 ∷ [])
    ∷ node_of 3 node.If (at 40 65) 0 (7 ∷ 12 ∷ 14 ∷ [])
    ∷ node_of 3 node.Seq (at 40 65) 0 (15 ∷ [])
    ∷ node_of 3 node.If (at 25 65) 0 (1 ∷ 5 ∷ 16 ∷ [])
    ∷ node_of 3 (node.Prim none_entity) (at 6 8) 0 ([])
    ∷ node_of 3 node.Seq (at 25 65) 0 (17 ∷ 18 ∷ [])
    ∷ node_of 3 node.Body (at 6 8) 0 (19 ∷ [])
    ∷ []

abbrev pub SecondStands : Type 0
SecondStands =
    (put 3 (body_with (context second_slots) [] second second_body) [] ≡ Some (20, second_nodes))
    × (body_faults (context second_slots) [] second ≡ [])
    × (slots_of [] second ≡ second_slots)

-- The body of this method: a chain of operators, a local and its `consume`, inside one `recover`, and a written result:
--       fun ref make(): C => recover iso let y = 1 + 2 + 3; consume y end
abbrev pub third_body : t.Seq
third_body = t.seq (t.item (t.plain (t.recover (Some cap.Iso) (t.seq (t.item (t.local true (name (codes "y") (at 39 40)) None (t.infix_ op.Add (t.expr (t.number 1 (at 43 44)) (t.expr (t.number 2 (at 47 48)) (t.expr (t.number 3 (at 51 52)) t.no_exprs))) (at 43 52)) (at 35 52)) (t.item (t.plain (t.consume (name (codes "y") (at 62 63)) (at 54 63))) t.no_items)) (at 35 63)) (at 23 67))) t.no_items) (at 23 67)

abbrev pub third : t.Method
third = record { word = word.Fun; cap = Some cap.Ref; name = (name (codes "make") (at 10 14)); params = []; result = (Some (sort (codes "C") (at 18 19))); body = Some third_body }

abbrev pub third_slots : List PlacedLocal
third_slots = placed 39 1 ∷ []

abbrev pub third_nodes : List Node
third_nodes =
    node_of 4 (node.Number 1) (at 43 44) 1 ([])
    ∷ node_of 4 (node.Number 2) (at 47 48) 1 ([])
    ∷ node_of 4 (node.Binary op.Add) (at 43 48) 1 (0 ∷ 1 ∷ [])
    ∷ node_of 4 (node.Number 3) (at 51 52) 1 ([])
    ∷ node_of 4 (node.Binary op.Add) (at 43 52) 1 (2 ∷ 3 ∷ [])
    ∷ node_of 4 (node.Define 1) (at 35 52) 1 (4 ∷ [])
    ∷ node_of 4 (node.Consume 1) (at 54 63) 1 ([])
    ∷ node_of 4 node.Seq (at 35 63) 1 (5 ∷ 6 ∷ [])
    ∷ node_of 4 (node.Recover (Some cap.Iso)) (at 23 67) 0 (7 ∷ [])
    ∷ node_of 4 node.Seq (at 23 67) 0 (8 ∷ [])
    ∷ node_of 4 node.Body (at 10 14) 0 (9 ∷ [])
    ∷ []

abbrev pub ThirdStands : Type 0
ThirdStands =
    (put 4 (body_with (context third_slots) [] third third_body) [] ≡ Some (10, third_nodes))
    × (body_faults (context third_slots) [] third ≡ [])
    × (slots_of [] third ≡ third_slots)
    × (map (local_slot (context third_slots) 4) (method_locals [] third) ≡ record { method = 4; kind = slot.Let; depth = 1; written = None } ∷ [])
