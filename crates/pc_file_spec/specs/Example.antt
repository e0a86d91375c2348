-- Three small files with their whole cores, and one with a fault, written out by hand.
use Rattle.std.specs.Prelude.{ℕ, List, [], ◌∷◌, ◌++◌, true, false, Option, Some, None, codes}
use Rattle.pc_base.specs.declared.span.Span.{Span}
use Rattle.pc_caps.specs.{declared.capability.Cap.Cap, declared.capability.Form.Form}
use Rattle.pc_tree.specs.{declared.kinds.EntityKind.EntityKind, declared.written_names.Name.Name, declared.written_names.TypeRef.TypeRef, Kinds.{none_entity, u64_entity, bool_entity, string_entity, env_entity, out_stream_entity}}
use Rattle.pc_core.specs.{declared.declarations.EntityDef.EntityDef, declared.declarations.FieldInfo.FieldInfo, declared.declarations.Method.Method, declared.declarations.MethodKind.MethodKind, declared.declarations.ParamInfo.ParamInfo, declared.nodes.Slot.Slot, declared.nodes.SlotKind.SlotKind, declared.nodes.NodeKind.NodeKind, declared.nodes.Node.Node, CoreData.CoreData, Formed.Formed}
use Rattle.pc_file_spec.specs.Cores.{Stands, IsElabFault}
use Rattle.pc_caps.specs.declared.capability.Cap.TheVariants as cap
use Rattle.pc_caps.specs.declared.capability.Form.TheVariants as form
use Rattle.pc_tree.specs.declared.kinds.EntityKind.TheVariants as kind
use Rattle.pc_tree.specs.declared.kinds.MethodWord.TheVariants as word
use Rattle.pc_tree.specs.Tree as t
use Rattle.pc_core.specs.declared.declarations.MethodKind.TheVariants as method
use Rattle.pc_core.specs.declared.nodes.SlotKind.TheVariants as slot
use Rattle.pc_core.specs.declared.nodes.NodeKind.TheVariants as node
use Rattle.pc_names.specs.declared.fault.NameFault.TheVariants as fault

abbrev at : (from to : ℕ) → Span
at a b = record { start = a; end = b }

abbrev name : List ℕ → Span → Name
name text s = record { text = text; span = s }

abbrev sort : List ℕ → Span → TypeRef
sort text s = record { name = name text s; cap = None; hat = false }

-- ---- parts of cores

abbrev value : List ℕ → EntityDef
value text = record { kind = kind.Primitive; cap = cap.Val; name = text; span = at 0 0; provides = []; above = []; fields = []; first_method = 0; methods = 0 }

-- The built-in entities and method; their names are texts 0 and 1.
abbrev language : List EntityDef
language =
    value (codes "None") ∷ value (codes "U64") ∷ value (codes "Bool") ∷ value (codes "String")
    ∷ record { kind = kind.Class; cap = cap.Val; name = codes "Env"; span = at 0 0; provides = []; above = []; fields = record { name = 0; fixed = true; entity = out_stream_entity; cap = cap.Tag } ∷ []; first_method = 0; methods = 0 }
    ∷ record { kind = kind.Actor; cap = cap.Tag; name = codes "OutStream"; span = at 0 0; provides = []; above = []; fields = []; first_method = 0; methods = 1 } ∷ []

abbrev print : Method
print = record { entity = out_stream_entity; name = 1; kind = method.Be; receiver = cap.Ref; params = record { entity = string_entity; cap = cap.Val; span = at 0 0 } ∷ []; result = (none_entity, form.Val); first_slot = 0; slots = 0; first_node = 0; body = None; span = at 0 0 }

abbrev entity : EntityKind → Cap → List ℕ → Span → List ℕ → List ℕ → List FieldInfo → (first count : ℕ) → EntityDef
entity k c text s provides above fields first count = record { kind = k; cap = c; name = text; span = s; provides = provides; above = above; fields = fields; first_method = first; methods = count }

abbrev param : ℕ → Cap → Span → ParamInfo
param e c s = record { entity = e; cap = c; span = s }

-- A method of an entity, with a text as its name, its first slot and number of slots, the start of its nodes, and its
-- body.
abbrev method_of : (entity text : ℕ) → MethodKind → Cap → List ParamInfo → ℕ × Form → (first slots first_node : ℕ) → Option ℕ → Span → Method
method_of e text k receiver params result first slots first_node body s = record { entity = e; name = text; kind = k; receiver = receiver; params = params; result = result; first_slot = first; slots = slots; first_node = first_node; body = body; span = s }

-- A slot of a method, with the type that is written for it.
abbrev slot_of : ℕ → SlotKind → ℕ → Cap → Slot
slot_of m k e c = record { method = m; kind = k; depth = 0; written = Some (e, c) }

abbrev node_of : ℕ → NodeKind → List ℕ → Span → Node
node_of m k children s = record { kind = k; children = children; depth = 0; method = m; span = s }

-- ---- Traits that take over methods, and an added `create` with an initial value that has a local:
--
--     trait A
--       fun a(): U64
--       fun m(x: Bool)
--     trait B
--       be m()
--       fun ref b(c: C iso): C iso^
--     trait T is (A & B)
--       be t()
--     trait box U is T
--     class C
--       let n: U64 = (let k: U64 = 5; k)
--       var f: Bool
--     actor Main
--       new create(env: Env) =>
--         let c: C = C
--         c.g

abbrev pub trait_a : t.Entity
trait_a = record { kind = kind.Trait; cap = None; name = (name (codes "A") (at 6 7)); provides = []; fields = []; methods = record { word = word.Fun; cap = None; name = (name (codes "a") (at 14 15)); params = []; result = Some (sort (codes "U64") (at 19 22)); body = None } ∷ record { word = word.Fun; cap = None; name = (name (codes "m") (at 29 30)); params = record { name = (name (codes "x") (at 31 32)); ty = (sort (codes "Bool") (at 34 38)) } ∷ []; result = None; body = None } ∷ [] }

abbrev pub trait_b : t.Entity
trait_b = record { kind = kind.Trait; cap = None; name = (name (codes "B") (at 46 47)); provides = []; fields = []; methods = record { word = word.Be; cap = None; name = (name (codes "m") (at 53 54)); params = []; result = None; body = None } ∷ record { word = word.Fun; cap = Some cap.Ref; name = (name (codes "b") (at 67 68)); params = record { name = (name (codes "c") (at 69 70)); ty = (record { name = name (codes "C") (at 72 73); cap = Some cap.Iso; hat = false }) } ∷ []; result = Some (record { name = name (codes "C") (at 80 81); cap = Some cap.Iso; hat = true }); body = None } ∷ [] }

abbrev pub trait_t : t.Entity
trait_t = record { kind = kind.Trait; cap = None; name = (name (codes "T") (at 93 94)); provides = (name (codes "A") (at 99 100)) ∷ (name (codes "B") (at 103 104)) ∷ []; fields = []; methods = record { word = word.Be; cap = None; name = (name (codes "t") (at 111 112)); params = []; result = None; body = None } ∷ [] }

abbrev pub trait_u : t.Entity
trait_u = record { kind = kind.Trait; cap = Some cap.Box; name = (name (codes "U") (at 125 126)); provides = (name (codes "T") (at 130 131)) ∷ []; fields = []; methods = [] }

abbrev pub class_c : t.Entity
class_c = record { kind = kind.Class; cap = None; name = (name (codes "C") (at 138 139)); provides = []; fields = record { fixed = true; name = (name (codes "n") (at 146 147)); ty = (sort (codes "U64") (at 149 152)); value = Some (t.group (t.seq (t.item (t.local true (name (codes "k") (at 160 161)) (Some (sort (codes "U64") (at 163 166))) (t.number 5 (at 169 170)) (at 156 170)) (t.item (t.plain (t.name (name (codes "k") (at 172 173)))) t.no_items)) (at 156 173)) (at 155 174)) } ∷ record { fixed = false; name = (name (codes "f") (at 181 182)); ty = (sort (codes "Bool") (at 184 188)); value = None } ∷ []; methods = [] }

abbrev pub main : t.Entity
main = record { kind = kind.Actor; cap = None; name = (name (codes "Main") (at 195 199)); provides = []; fields = []; methods = record { word = word.New; cap = None; name = (name (codes "create") (at 206 212)); params = record { name = (name (codes "env") (at 213 216)); ty = (sort (codes "Env") (at 218 221)) } ∷ []; result = None; body = Some (t.seq (t.item (t.local true (name (codes "c") (at 234 235)) (Some (sort (codes "C") (at 237 238))) (t.type_name (name (codes "C") (at 241 242))) (at 230 242)) (t.item (t.plain (t.chain (t.name (name (codes "c") (at 247 248))) (t.suffix (t.dot (name (codes "g") (at 249 250))) t.no_suffixes) (at 247 250))) t.no_items)) (at 230 250)) } ∷ [] }

abbrev pub first_file : t.File
first_file = record { entities = trait_a ∷ trait_b ∷ trait_t ∷ trait_u ∷ class_c ∷ main ∷ [] }

-- Trait T takes `a` and `m` from A, and only `b` from B; U takes all of these from T.
abbrev pub first_core : CoreData
first_core = record {
  entities = language ++
      (entity kind.Trait cap.Ref (codes "A") (at 6 7) [] [] [] 1 2
      ∷ entity kind.Trait cap.Ref (codes "B") (at 46 47) [] [] [] 3 2
      ∷ entity kind.Trait cap.Ref (codes "T") (at 93 94) (6 ∷ 7 ∷ []) (6 ∷ 7 ∷ []) [] 5 4
      ∷ entity kind.Trait cap.Box (codes "U") (at 125 126) (8 ∷ []) (6 ∷ 7 ∷ 8 ∷ []) [] 9 4
      ∷ entity kind.Class cap.Ref (codes "C") (at 138 139) [] [] (record { name = 8; fixed = true; entity = u64_entity; cap = cap.Val } ∷ record { name = 9; fixed = false; entity = bool_entity; cap = cap.Val } ∷ []) 13 1
      ∷ entity kind.Actor cap.Tag (codes "Main") (at 195 199) [] [] [] 14 1 ∷ []);
  methods =
      print
      ∷ method_of 6 4 method.Fun cap.Box [] (u64_entity, form.Val) 0 1 0 None (at 14 15)
      ∷ method_of 6 5 method.Fun cap.Box (param bool_entity cap.Val (at 31 32) ∷ []) (none_entity, form.Val) 1 2 0 None (at 29 30)
      ∷ method_of 7 5 method.Be cap.Ref [] (none_entity, form.Val) 3 1 0 None (at 53 54)
      ∷ method_of 7 6 method.Fun cap.Ref (param 10 cap.Iso (at 69 70) ∷ []) (10, form.IsoE) 4 2 0 None (at 67 68)
      ∷ method_of 8 7 method.Be cap.Ref [] (none_entity, form.Val) 6 1 0 None (at 111 112)
      ∷ method_of 8 4 method.Fun cap.Box [] (u64_entity, form.Val) 7 1 0 None (at 14 15)
      ∷ method_of 8 5 method.Fun cap.Box (param bool_entity cap.Val (at 31 32) ∷ []) (none_entity, form.Val) 8 2 0 None (at 29 30)
      ∷ method_of 8 6 method.Fun cap.Ref (param 10 cap.Iso (at 69 70) ∷ []) (10, form.IsoE) 10 2 0 None (at 67 68)
      ∷ method_of 9 7 method.Be cap.Ref [] (none_entity, form.Val) 12 1 0 None (at 111 112)
      ∷ method_of 9 4 method.Fun cap.Box [] (u64_entity, form.Val) 13 1 0 None (at 14 15)
      ∷ method_of 9 5 method.Fun cap.Box (param bool_entity cap.Val (at 31 32) ∷ []) (none_entity, form.Val) 14 2 0 None (at 29 30)
      ∷ method_of 9 6 method.Fun cap.Ref (param 10 cap.Iso (at 69 70) ∷ []) (10, form.IsoE) 16 2 0 None (at 67 68)
      ∷ method_of 10 2 method.New cap.Ref [] (10, form.IsoE) 18 2 0 (Some 8) (at 138 139)
      ∷ method_of 11 2 method.Spawn cap.Ref (param env_entity cap.Val (at 213 216) ∷ []) (11, form.Tag) 20 3 9 (Some 14) (at 206 212) ∷ [];
  slots =
      slot_of 1 slot.This 6 cap.Box
      ∷ slot_of 2 slot.This 6 cap.Box ∷ slot_of 2 slot.Param 2 cap.Val
      ∷ slot_of 3 slot.This 7 cap.Ref
      ∷ slot_of 4 slot.This 7 cap.Ref ∷ slot_of 4 slot.Param 10 cap.Iso
      ∷ slot_of 5 slot.This 8 cap.Ref
      ∷ slot_of 6 slot.This 8 cap.Box
      ∷ slot_of 7 slot.This 8 cap.Box ∷ slot_of 7 slot.Param 2 cap.Val
      ∷ slot_of 8 slot.This 8 cap.Ref ∷ slot_of 8 slot.Param 10 cap.Iso
      ∷ slot_of 9 slot.This 9 cap.Ref
      ∷ slot_of 10 slot.This 9 cap.Box
      ∷ slot_of 11 slot.This 9 cap.Box ∷ slot_of 11 slot.Param 2 cap.Val
      ∷ slot_of 12 slot.This 9 cap.Ref ∷ slot_of 12 slot.Param 10 cap.Iso
      ∷ slot_of 13 slot.This 10 cap.Ref ∷ slot_of 13 slot.Let 1 cap.Val
      ∷ slot_of 14 slot.This 11 cap.Ref ∷ slot_of 14 slot.Param 4 cap.Val ∷ slot_of 14 slot.Let 10 cap.Ref ∷ [];
  nodes =
      node_of 13 (node.Number 5) [] (at 169 170)
      ∷ node_of 13 (node.Define 1) (0 ∷ []) (at 156 170)
      ∷ node_of 13 (node.Local 1) [] (at 172 173)
      ∷ node_of 13 node.Seq (1 ∷ 2 ∷ []) (at 155 174)
      ∷ node_of 13 node.This [] (at 146 147)
      ∷ node_of 13 (node.SetField 8) (3 ∷ 4 ∷ []) (at 146 147)
      ∷ node_of 13 (node.Prim none_entity) [] (at 138 139)
      ∷ node_of 13 node.Seq (5 ∷ 6 ∷ []) (at 138 139)
      ∷ node_of 13 node.Body (7 ∷ []) (at 138 139)
      ∷ node_of 14 (node.New 13) [] (at 241 242)
      ∷ node_of 14 (node.Define 2) (9 ∷ []) (at 230 242)
      ∷ node_of 14 (node.Local 2) [] (at 247 248)
      ∷ node_of 14 (node.Field 10) (11 ∷ []) (at 247 250)
      ∷ node_of 14 node.Seq (10 ∷ 12 ∷ []) (at 230 250)
      ∷ node_of 14 node.Body (13 ∷ []) (at 206 212) ∷ [];
  names = codes "out" ∷ codes "print" ∷ codes "create" ∷ codes "apply" ∷ codes "a" ∷ codes "m" ∷ codes "b" ∷ codes "t" ∷ codes "n" ∷ codes "f" ∷ codes "g" ∷ [];
}

abbrev pub FirstStands : Type 0
FirstStands = Stands first_file first_core × Formed first_core

-- ---- Two constructors, each with the local of the initial value:
--
--     class trn D
--       var f: U64 = (let a: U64 = 1; a)
--       new create(p: Bool) =>
--         let b = f
--       new val make() => None
--       fun get(): D => D.make()
--     primitive P
--     actor Main
--       new create(env: Env) => P

abbrev pub class_d : t.Entity
class_d = record { kind = kind.Class; cap = Some cap.Trn; name = (name (codes "D") (at 10 11)); provides = []; fields = record { fixed = false; name = (name (codes "f") (at 18 19)); ty = (sort (codes "U64") (at 21 24)); value = Some (t.group (t.seq (t.item (t.local true (name (codes "a") (at 32 33)) (Some (sort (codes "U64") (at 35 38))) (t.number 1 (at 41 42)) (at 28 42)) (t.item (t.plain (t.name (name (codes "a") (at 44 45)))) t.no_items)) (at 28 45)) (at 27 46)) } ∷ []; methods = record { word = word.New; cap = None; name = (name (codes "create") (at 53 59)); params = record { name = (name (codes "p") (at 60 61)); ty = (sort (codes "Bool") (at 63 67)) } ∷ []; result = None; body = Some (t.seq (t.item (t.local true (name (codes "b") (at 80 81)) None (t.name (name (codes "f") (at 84 85))) (at 76 85)) t.no_items) (at 76 85)) } ∷ record { word = word.New; cap = Some cap.Val; name = (name (codes "make") (at 96 100)); params = []; result = None; body = Some (t.seq (t.item (t.plain (t.type_name (name (codes "None") (at 106 110)))) t.no_items) (at 106 110)) } ∷ record { word = word.Fun; cap = None; name = (name (codes "get") (at 117 120)); params = []; result = Some (sort (codes "D") (at 124 125)); body = Some (t.seq (t.item (t.plain (t.chain (t.type_name (name (codes "D") (at 129 130))) (t.suffix (t.dot (name (codes "make") (at 131 135))) (t.suffix (t.args t.no_exprs (at 135 137)) t.no_suffixes)) (at 129 137))) t.no_items) (at 129 137)) } ∷ [] }

abbrev pub primitive_p : t.Entity
primitive_p = record { kind = kind.Primitive; cap = None; name = (name (codes "P") (at 148 149)); provides = []; fields = []; methods = [] }

abbrev pub second_main : t.Entity
second_main = record { kind = kind.Actor; cap = None; name = (name (codes "Main") (at 156 160)); provides = []; fields = []; methods = record { word = word.New; cap = None; name = (name (codes "create") (at 167 173)); params = record { name = (name (codes "env") (at 174 177)); ty = (sort (codes "Env") (at 179 182)) } ∷ []; result = None; body = Some (t.seq (t.item (t.plain (t.type_name (name (codes "P") (at 187 188)))) t.no_items) (at 187 188)) } ∷ [] }

abbrev pub second_file : t.File
second_file = record { entities = class_d ∷ primitive_p ∷ second_main ∷ [] }

abbrev pub second_core : CoreData
second_core = record {
  entities = language ++
      (entity kind.Class cap.Trn (codes "D") (at 10 11) [] [] (record { name = 4; fixed = false; entity = u64_entity; cap = cap.Val } ∷ []) 1 3
      ∷ entity kind.Primitive cap.Val (codes "P") (at 148 149) [] [] [] 4 0
      ∷ entity kind.Actor cap.Tag (codes "Main") (at 156 160) [] [] [] 4 1 ∷ []);
  methods =
      print
      ∷ method_of 6 2 method.New cap.Ref (param bool_entity cap.Val (at 60 61) ∷ []) (6, form.Ref) 0 4 0 (Some 10) (at 53 59)
      ∷ method_of 6 5 method.New cap.Ref [] (6, form.Val) 4 2 11 (Some 19) (at 96 100)
      ∷ method_of 6 6 method.Fun cap.Box [] (6, form.Trn) 6 1 20 (Some 22) (at 117 120)
      ∷ method_of 8 2 method.Spawn cap.Ref (param env_entity cap.Val (at 174 177) ∷ []) (8, form.Tag) 7 2 23 (Some 25) (at 167 173) ∷ [];
  slots =
      slot_of 1 slot.This 6 cap.Ref ∷ slot_of 1 slot.Param 2 cap.Val ∷ slot_of 1 slot.Let 1 cap.Val ∷ record { method = 1; kind = slot.Let; depth = 0; written = None }
      ∷ slot_of 2 slot.This 6 cap.Ref ∷ slot_of 2 slot.Let 1 cap.Val
      ∷ slot_of 3 slot.This 6 cap.Box
      ∷ slot_of 4 slot.This 8 cap.Ref ∷ slot_of 4 slot.Param 4 cap.Val ∷ [];
  nodes =
      node_of 1 (node.Number 1) [] (at 41 42)
      ∷ node_of 1 (node.Define 2) (0 ∷ []) (at 28 42)
      ∷ node_of 1 (node.Local 2) [] (at 44 45)
      ∷ node_of 1 node.Seq (1 ∷ 2 ∷ []) (at 27 46)
      ∷ node_of 1 node.This [] (at 18 19)
      ∷ node_of 1 (node.SetField 4) (3 ∷ 4 ∷ []) (at 18 19)
      ∷ node_of 1 node.This [] (at 84 85)
      ∷ node_of 1 (node.Field 4) (6 ∷ []) (at 84 85)
      ∷ node_of 1 (node.Define 3) (7 ∷ []) (at 76 85)
      ∷ node_of 1 node.Seq (5 ∷ 8 ∷ []) (at 76 85)
      ∷ node_of 1 node.Body (9 ∷ []) (at 53 59)
      ∷ node_of 2 (node.Number 1) [] (at 41 42)
      ∷ node_of 2 (node.Define 1) (11 ∷ []) (at 28 42)
      ∷ node_of 2 (node.Local 1) [] (at 44 45)
      ∷ node_of 2 node.Seq (12 ∷ 13 ∷ []) (at 27 46)
      ∷ node_of 2 node.This [] (at 18 19)
      ∷ node_of 2 (node.SetField 4) (14 ∷ 15 ∷ []) (at 18 19)
      ∷ node_of 2 (node.Prim none_entity) [] (at 106 110)
      ∷ node_of 2 node.Seq (16 ∷ 17 ∷ []) (at 106 110)
      ∷ node_of 2 node.Body (18 ∷ []) (at 96 100)
      ∷ node_of 3 (node.New 2) [] (at 129 137)
      ∷ node_of 3 node.Seq (20 ∷ []) (at 129 137)
      ∷ node_of 3 node.Body (21 ∷ []) (at 117 120)
      ∷ node_of 4 (node.Prim 7) [] (at 187 188)
      ∷ node_of 4 node.Seq (23 ∷ []) (at 187 188)
      ∷ node_of 4 node.Body (24 ∷ []) (at 167 173) ∷ [];
  names = codes "out" ∷ codes "print" ∷ codes "create" ∷ codes "apply" ∷ codes "f" ∷ codes "make" ∷ codes "get" ∷ [];
}

abbrev pub SecondStands : Type 0
SecondStands = Stands second_file second_core × Formed second_core

-- ---- The same without the primitive: its name in Main's body is unknown.
abbrev pub third_file : t.File
third_file = record { entities = class_d ∷ second_main ∷ [] }

abbrev pub ThirdIsRefused : Type 0
ThirdIsRefused = IsElabFault third_file (fault.Unknown (at 187 188))

-- ---- Bodies in traits, each of which is in the core once for each class or actor that takes it over:
--
--     trait T
--       fun a(): U64
--       fun m(n: U64): U64 => a(); n
--     trait U is T
--       be b() => None
--       fun a(): U64 => 3
--     class C is T
--       let n: U64 = 1
--       fun a(): U64 => n
--     actor Main is U
--       new create(env: Env) => None

abbrev pub trait_with_bodies : t.Entity
trait_with_bodies = record { kind = kind.Trait; cap = None; name = (name (codes "T") (at 6 7)); provides = []; fields = []; methods = record { word = word.Fun; cap = None; name = (name (codes "a") (at 14 15)); params = []; result = Some (sort (codes "U64") (at 19 22)); body = None } ∷ record { word = word.Fun; cap = None; name = (name (codes "m") (at 29 30)); params = record { name = (name (codes "n") (at 31 32)); ty = (sort (codes "U64") (at 34 37)) } ∷ []; result = Some (sort (codes "U64") (at 40 43)); body = Some (t.seq (t.item (t.plain (t.chain (t.name (name (codes "a") (at 47 48))) (t.suffix (t.args t.no_exprs (at 48 50)) t.no_suffixes) (at 47 50))) (t.item (t.plain (t.name (name (codes "n") (at 52 53)))) t.no_items)) (at 47 53)) } ∷ [] }

abbrev pub trait_above : t.Entity
trait_above = record { kind = kind.Trait; cap = None; name = (name (codes "U") (at 60 61)); provides = (name (codes "T") (at 65 66)) ∷ []; fields = []; methods = record { word = word.Be; cap = None; name = (name (codes "b") (at 72 73)); params = []; result = None; body = Some (t.seq (t.item (t.plain (t.type_name (name (codes "None") (at 79 83)))) t.no_items) (at 79 83)) } ∷ record { word = word.Fun; cap = None; name = (name (codes "a") (at 90 91)); params = []; result = Some (sort (codes "U64") (at 95 98)); body = Some (t.seq (t.item (t.plain (t.number 3 (at 102 103))) t.no_items) (at 102 103)) } ∷ [] }

abbrev pub class_with_field : t.Entity
class_with_field = record { kind = kind.Class; cap = None; name = (name (codes "C") (at 110 111)); provides = (name (codes "T") (at 115 116)) ∷ []; fields = record { fixed = true; name = (name (codes "n") (at 123 124)); ty = (sort (codes "U64") (at 126 129)); value = Some (t.number 1 (at 132 133)) } ∷ []; methods = record { word = word.Fun; cap = None; name = (name (codes "a") (at 140 141)); params = []; result = Some (sort (codes "U64") (at 145 148)); body = Some (t.seq (t.item (t.plain (t.name (name (codes "n") (at 152 153)))) t.no_items) (at 152 153)) } ∷ [] }

abbrev pub fourth_main : t.Entity
fourth_main = record { kind = kind.Actor; cap = None; name = (name (codes "Main") (at 160 164)); provides = (name (codes "U") (at 168 169)) ∷ []; fields = []; methods = record { word = word.New; cap = None; name = (name (codes "create") (at 176 182)); params = record { name = (name (codes "env") (at 183 186)); ty = (sort (codes "Env") (at 188 191)) } ∷ []; result = None; body = Some (t.seq (t.item (t.plain (t.type_name (name (codes "None") (at 196 200)))) t.no_items) (at 196 200)) } ∷ [] }

abbrev pub fourth_file : t.File
fourth_file = record { entities = trait_with_bodies ∷ trait_above ∷ class_with_field ∷ fourth_main ∷ [] }

-- C has `a` and an added `create`, and takes over `m`, in which `n` is the parameter and not the field; Main takes over
-- all three methods of U, of which `m` is that of T.
abbrev pub fourth_core : CoreData
fourth_core = record {
  entities = language ++
      (entity kind.Trait cap.Ref (codes "T") (at 6 7) [] [] [] 1 2
      ∷ entity kind.Trait cap.Ref (codes "U") (at 60 61) (6 ∷ []) (6 ∷ []) [] 3 3
      ∷ entity kind.Class cap.Ref (codes "C") (at 110 111) (6 ∷ []) (6 ∷ []) (record { name = 7; fixed = true; entity = u64_entity; cap = cap.Val } ∷ []) 6 3
      ∷ entity kind.Actor cap.Tag (codes "Main") (at 160 164) (7 ∷ []) (6 ∷ 7 ∷ []) [] 9 4 ∷ []);
  methods =
      print
      ∷ method_of 6 4 method.Fun cap.Box [] (u64_entity, form.Val) 0 1 0 None (at 14 15)
      ∷ method_of 6 5 method.Fun cap.Box (param u64_entity cap.Val (at 31 32) ∷ []) (u64_entity, form.Val) 1 2 0 None (at 29 30)
      ∷ method_of 7 6 method.Be cap.Ref [] (none_entity, form.Val) 3 1 0 None (at 72 73)
      ∷ method_of 7 4 method.Fun cap.Box [] (u64_entity, form.Val) 4 1 0 None (at 90 91)
      ∷ method_of 7 5 method.Fun cap.Box (param u64_entity cap.Val (at 31 32) ∷ []) (u64_entity, form.Val) 5 2 0 None (at 29 30)
      ∷ method_of 8 4 method.Fun cap.Box [] (u64_entity, form.Val) 7 1 0 (Some 3) (at 140 141)
      ∷ method_of 8 2 method.New cap.Ref [] (8, form.IsoE) 8 1 4 (Some 9) (at 110 111)
      ∷ method_of 8 5 method.Fun cap.Box (param u64_entity cap.Val (at 31 32) ∷ []) (u64_entity, form.Val) 9 2 10 (Some 14) (at 29 30)
      ∷ method_of 9 2 method.Spawn cap.Ref (param env_entity cap.Val (at 183 186) ∷ []) (9, form.Tag) 11 2 15 (Some 17) (at 176 182)
      ∷ method_of 9 6 method.Be cap.Ref [] (none_entity, form.Val) 13 1 18 (Some 20) (at 72 73)
      ∷ method_of 9 4 method.Fun cap.Box [] (u64_entity, form.Val) 14 1 21 (Some 23) (at 90 91)
      ∷ method_of 9 5 method.Fun cap.Box (param u64_entity cap.Val (at 31 32) ∷ []) (u64_entity, form.Val) 15 2 24 (Some 28) (at 29 30) ∷ [];
  slots =
      slot_of 1 slot.This 6 cap.Box
      ∷ slot_of 2 slot.This 6 cap.Box ∷ slot_of 2 slot.Param 1 cap.Val
      ∷ slot_of 3 slot.This 7 cap.Ref
      ∷ slot_of 4 slot.This 7 cap.Box
      ∷ slot_of 5 slot.This 7 cap.Box ∷ slot_of 5 slot.Param 1 cap.Val
      ∷ slot_of 6 slot.This 8 cap.Box
      ∷ slot_of 7 slot.This 8 cap.Ref
      ∷ slot_of 8 slot.This 8 cap.Box ∷ slot_of 8 slot.Param 1 cap.Val
      ∷ slot_of 9 slot.This 9 cap.Ref ∷ slot_of 9 slot.Param 4 cap.Val
      ∷ slot_of 10 slot.This 9 cap.Ref
      ∷ slot_of 11 slot.This 9 cap.Box
      ∷ slot_of 12 slot.This 9 cap.Box ∷ slot_of 12 slot.Param 1 cap.Val ∷ [];
  nodes =
      node_of 6 node.This [] (at 152 153)
      ∷ node_of 6 (node.Field 7) (0 ∷ []) (at 152 153)
      ∷ node_of 6 node.Seq (1 ∷ []) (at 152 153)
      ∷ node_of 6 node.Body (2 ∷ []) (at 140 141)
      ∷ node_of 7 (node.Number 1) [] (at 132 133)
      ∷ node_of 7 node.This [] (at 123 124)
      ∷ node_of 7 (node.SetField 7) (4 ∷ 5 ∷ []) (at 123 124)
      ∷ node_of 7 (node.Prim none_entity) [] (at 110 111)
      ∷ node_of 7 node.Seq (6 ∷ 7 ∷ []) (at 110 111)
      ∷ node_of 7 node.Body (8 ∷ []) (at 110 111)
      ∷ node_of 8 node.This [] (at 47 48)
      ∷ node_of 8 (node.Call 4) (10 ∷ []) (at 47 50)
      ∷ node_of 8 (node.Local 1) [] (at 52 53)
      ∷ node_of 8 node.Seq (11 ∷ 12 ∷ []) (at 47 53)
      ∷ node_of 8 node.Body (13 ∷ []) (at 29 30)
      ∷ node_of 9 (node.Prim none_entity) [] (at 196 200)
      ∷ node_of 9 node.Seq (15 ∷ []) (at 196 200)
      ∷ node_of 9 node.Body (16 ∷ []) (at 176 182)
      ∷ node_of 10 (node.Prim none_entity) [] (at 79 83)
      ∷ node_of 10 node.Seq (18 ∷ []) (at 79 83)
      ∷ node_of 10 node.Body (19 ∷ []) (at 72 73)
      ∷ node_of 11 (node.Number 3) [] (at 102 103)
      ∷ node_of 11 node.Seq (21 ∷ []) (at 102 103)
      ∷ node_of 11 node.Body (22 ∷ []) (at 90 91)
      ∷ node_of 12 node.This [] (at 47 48)
      ∷ node_of 12 (node.Call 4) (24 ∷ []) (at 47 50)
      ∷ node_of 12 (node.Local 1) [] (at 52 53)
      ∷ node_of 12 node.Seq (25 ∷ 26 ∷ []) (at 47 53)
      ∷ node_of 12 node.Body (27 ∷ []) (at 29 30) ∷ [];
  names = codes "out" ∷ codes "print" ∷ codes "create" ∷ codes "apply" ∷ codes "a" ∷ codes "m" ∷ codes "b" ∷ codes "n" ∷ [];
}

abbrev pub FourthStands : Type 0
FourthStands = Stands fourth_file fourth_core × Formed fourth_core
