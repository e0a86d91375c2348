-- What an explanation looks at, and what can be read from it.
use Rattle.std.specs.{Prelude.{ℕ, zero, suc, ◌+◌, Bool, true, false, ◌&&◌, not, nat_eq, nat_lt, List, [], drop, Option, Some, None, slice_get, codes}, List.find, Option.option_map_or, Str.bytes_eq}
use Rattle.pc_ann.specs.declared.annotation.Note.{Note}
use Rattle.pc_caps.specs.{declared.capability.Cap.Cap, declared.capability.Form.Form}
use Rattle.pc_core.specs.{CoreData.CoreData, FurtherKinds.defined_slot, declared.declarations.Method.Method, declared.declarations.ParamInfo.ParamInfo, declared.nodes.Node.Node, declared.nodes.NodeKind.NodeKind, declared.nodes.Slot.Slot, declared.nodes.SlotKind.SlotKind}
use Rattle.pc_base.specs.Lists.{◌>>=◌, Text}
use Rattle.pc_token.specs.declared.kinds.Token.{Token}
use Rattle.pc_explain_window.specs.Places.{piece_of}
use Rattle.pc_core.specs.declared.nodes.NodeKind.TheVariants as node
use Rattle.pc_core.specs.declared.nodes.SlotKind.TheVariants as slot

-- A source with its tokens and its core, the types of the core's slots, and the notes of its first nodes.
pub record SceneData : Type 0 where
  pub bytes : Text
  pub tokens : List Token
  pub core : CoreData
  pub slots : List (ℕ × Cap)
  pub notes : List Note

unfoldable pub noted_type : SceneData → ℕ → Option (ℕ × Form)
noted_type s n = do
  t ← slice_get s.notes n
  t.ty

abbrev pub child : Node → ℕ → Option ℕ
child x i = slice_get x.children i

-- ---- slots

-- A slot of a method by its index, and its type.
unfoldable pub slot_in : SceneData → (method index : ℕ) → Option Slot
slot_in s m k = do
  x ← slice_get s.core.methods m
  slice_get s.core.slots (x.first_slot + k)

unfoldable pub noted_slot_type : SceneData → (method index : ℕ) → Option (ℕ × Cap)
noted_slot_type s m k = do
  x ← slice_get s.core.methods m
  slice_get s.slots (x.first_slot + k)

abbrev pub is_param_kind : SlotKind → Bool
is_param_kind slot.Param = true
is_param_kind slot.This = false
is_param_kind slot.Let = false
is_param_kind slot.Var = false

abbrev pub is_var_kind : SlotKind → Bool
is_var_kind slot.Var = true
is_var_kind slot.This = false
is_var_kind slot.Param = false
is_var_kind slot.Let = false

abbrev pub param_in : Option Slot → Bool
param_in None = false
param_in (Some y) = is_param_kind y.kind

abbrev pub var_in : Option Slot → Bool
var_in None = false
var_in (Some y) = is_var_kind y.kind

unfoldable pub is_param : SceneData → (method index : ℕ) → Bool
is_param s m k = param_in (slot_in s m k)

unfoldable pub is_var_slot : SceneData → (method index : ℕ) → Bool
is_var_slot s m k = var_in (slot_in s m k)

-- ---- the names of slots

abbrev pub defines_as : ℕ → NodeKind → Bool
defines_as index kind = option_map_or (λ slot. nat_eq slot index) (defined_slot kind) false

abbrev pub defines_index : ℕ → Node → Bool
defines_index k x = defines_as k x.kind

abbrev pub starts_after : ℕ → Token → Bool
starts_after at t = nat_lt at t.span.start

abbrev pub token_text : SceneData → Option Token → Text
token_text s None = []
token_text s (Some t) = piece_of s.bytes t.span

-- The first token after the start of a definition, which follows its keyword.
abbrev pub defined_name : SceneData → Option Node → Text
defined_name s None = []
defined_name s (Some d) = token_text s (find (starts_after d.span.start) s.tokens)

-- The name of the slot's first definition from the method's first node on.
abbrev pub local_name : SceneData → Method → ℕ → Text
local_name s x k = defined_name s (find (defines_index k) (drop x.first_node s.core.nodes))

abbrev pub param_name : SceneData → Method → ℕ → Option ParamInfo → Text
param_name s x k None = local_name s x k
param_name s x k (Some p) = piece_of s.bytes p.span

abbrev pub name_of_slot : SceneData → Method → ℕ → Text
name_of_slot s x zero = codes "this"
name_of_slot s x (suc k) = param_name s x (suc k) (slice_get x.params k)

abbrev pub name_of : SceneData → Option Method → ℕ → Text
name_of s None k = []
name_of s (Some x) k = name_of_slot s x k

-- `this`, a parameter or a local.
unfoldable pub slot_name : SceneData → (method index : ℕ) → Text
slot_name s m k = name_of s (slice_get s.core.methods m) k

-- ---- `this`

abbrev pub is_this_kind : NodeKind → Bool
is_this_kind node.This = true
is_this_kind k = false

abbrev pub unwritten_this : SceneData → Option Node → Bool
unwritten_this s None = false
unwritten_this s (Some x) = is_this_kind x.kind && not (bytes_eq (piece_of s.bytes x.span) (codes "this"))

-- The node is a `this` that is not written in the source.
unfoldable pub is_unwritten_this : SceneData → ℕ → Bool
is_unwritten_this s n = unwritten_this s (slice_get s.core.nodes n)
