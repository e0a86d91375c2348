-- The smallest program with a local, and its derivation:
--
--     class C
--     actor Main
--       new create(env: Env) =>
--         let a: C iso = C
use Rattle.std.specs.Prelude.{◌≡◌, ℕ, List, [], ◌∷◌, Option, Some, None, slice_get, codes}
use Rattle.pc_base.specs.declared.span.Span.{Span}
use Rattle.pc_caps.specs.declared.capability.Form.{Form}
use Rattle.pc_tree.specs.Kinds.{none_entity, env_entity}
use Rattle.pc_core.specs.{declared.declarations.EntityDef.EntityDef, declared.declarations.Method.Method, declared.nodes.Node.Node, declared.nodes.NodeKind.NodeKind, CoreData.CoreData, Entities.{built_in, built_in_value, out_field, print_method}}
use Rattle.pc_ann.specs.{declared.annotation.Note.Note, declared.annotation.Ann.Ann, declared.annotation.Rule.Rule}
use Rattle.pc_rules.specs.Rules.{IsSaid, NoteIsSaid}
use Rattle.pc_caps.specs.declared.capability.Cap.TheVariants as cap
use Rattle.pc_caps.specs.declared.capability.Form.TheVariants as form
use Rattle.pc_tree.specs.declared.kinds.EntityKind.TheVariants as kind
use Rattle.pc_core.specs.declared.declarations.MethodKind.TheVariants as method
use Rattle.pc_core.specs.declared.nodes.SlotKind.TheVariants as slot
use Rattle.pc_core.specs.declared.nodes.NodeKind.TheVariants as node
use Rattle.pc_ann.specs.declared.annotation.Rule.TheVariants as rule

abbrev pub at : (from to : ℕ) → Span
at from to = record { start = from; end = to }

-- ---- the core

abbrev pub class_c : EntityDef
class_c = record { kind = kind.Class; cap = cap.Ref; name = codes "C"; span = at 6 7; provides = []; above = []; fields = []; first_method = 1; methods = 1 }

abbrev pub actor_main : EntityDef
actor_main = record { kind = kind.Actor; cap = cap.Tag; name = codes "Main"; span = at 14 18; provides = []; above = []; fields = []; first_method = 2; methods = 1 }

abbrev pub create_c : Method
create_c = record {
  entity = 6;
  name = 2;
  kind = method.New;
  receiver = cap.Ref;
  params = [];
  result = (6, form.IsoE);
  first_slot = 0;
  slots = 1;
  first_node = 0;
  body = Some 2;
  span = at 6 7;
}

abbrev pub create_main : Method
create_main = record {
  entity = 7;
  name = 2;
  kind = method.Spawn;
  receiver = cap.Ref;
  params = record { entity = env_entity; cap = cap.Val; span = at 32 35 } ∷ [];
  result = (7, form.Tag);
  first_slot = 1;
  slots = 3;
  first_node = 3;
  body = Some 6;
  span = at 25 31;
}

abbrev pub node_of : ℕ → NodeKind → List ℕ → Span → Node
node_of m k children s = record { kind = k; children = children; depth = 0; method = m; span = s }

abbrev pub four_slots : CoreData
four_slots = record {
  entities =
      built_in_value (codes "None") ∷ built_in_value (codes "U64") ∷ built_in_value (codes "Bool") ∷ built_in_value (codes "String")
      ∷ built_in kind.Class cap.Val (codes "Env") (out_field 0 ∷ []) 0 ∷ built_in kind.Actor cap.Tag (codes "OutStream") [] 1
      ∷ class_c ∷ actor_main ∷ [];
  methods = print_method 1 ∷ create_c ∷ create_main ∷ [];
  slots =
      record { method = 1; kind = slot.This; depth = 0; written = Some (6, cap.Ref) }
      ∷ record { method = 2; kind = slot.This; depth = 0; written = Some (7, cap.Ref) }
      ∷ record { method = 2; kind = slot.Param; depth = 0; written = Some (env_entity, cap.Val) }
      ∷ record { method = 2; kind = slot.Let; depth = 0; written = Some (6, cap.Iso) } ∷ [];
  nodes =
      node_of 1 (node.Prim none_entity) [] (at 6 7) ∷ node_of 1 node.Seq (0 ∷ []) (at 6 7) ∷ node_of 1 node.Body (1 ∷ []) (at 6 7)
      ∷ node_of 2 (node.New 1) [] (at 64 65) ∷ node_of 2 (node.Define 2) (3 ∷ []) (at 49 65) ∷ node_of 2 node.Seq (4 ∷ []) (at 49 65)
      ∷ node_of 2 node.Body (5 ∷ []) (at 25 31) ∷ [];
  names = codes "out" ∷ codes "print" ∷ codes "create" ∷ [];
}

-- ---- its derivation

abbrev pub noted : Rule → Option (ℕ × Form) → (before after : ℕ) → Note
noted r ty before after = record {
  rule = r;
  ty = ty;
  live_before = record { 0 = before };
  set_before = record { 0 = 0 };
  live_after = record { 0 = after };
  set_after = record { 0 = 0 };
}

abbrev pub derivation : Ann
derivation = record {
  slots = (6, cap.Ref) ∷ (7, cap.Ref) ∷ (env_entity, cap.Val) ∷ (6, cap.Iso) ∷ [];
  notes =
      noted rule.Prim (Some (none_entity, form.Val)) 1 1 ∷ noted rule.Seq (Some (none_entity, form.Val)) 1 1 ∷ noted rule.Body None 1 1
      ∷ noted rule.New (Some (6, form.IsoE)) 3 3 ∷ noted rule.Define None 3 7 ∷ noted rule.Seq None 3 3 ∷ noted rule.Body None 3 3 ∷ [];
}

-- Each node satisfies its rule.
abbrev pub EachMeets : Type 0
EachMeets =
    NoteIsSaid four_slots derivation 0 × NoteIsSaid four_slots derivation 1 × NoteIsSaid four_slots derivation 2
    × NoteIsSaid four_slots derivation 3 × NoteIsSaid four_slots derivation 4 × NoteIsSaid four_slots derivation 5
    × NoteIsSaid four_slots derivation 6

-- ---- wrong notes

-- With this note a node satisfies no rule, whichever is named.
abbrev pub MeetsNone : ℕ → Note → Type 0
MeetsNone n t = (x : Node) → slice_get four_slots.nodes n ≡ Some x → (r : Rule) → IsSaid four_slots derivation x (record t { rule = r }) → ⊥

-- The new object as `ref`, a definition that leaves its slot without a value, and a sequence that keeps what it defines.
abbrev pub WrongNotes : Type 0
WrongNotes =
    MeetsNone 3 (noted rule.New (Some (6, form.Ref)) 3 3)
    × MeetsNone 4 (noted rule.Define None 3 3)
    × MeetsNone 5 (noted rule.Seq None 3 7)
