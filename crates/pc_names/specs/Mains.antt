-- The entity Main, with which a program starts.
use Rattle.std.specs.{Prelude.{Bool, true, false, ◌&&◌, List, [], ◌∷◌, Option, Some, None, codes}, List.list_any, Str.bytes_eq}
use Rattle.pc_caps.specs.declared.capability.Cap.{Cap}
use Rattle.pc_tree.specs.{declared.file.ParamDef.ParamDef, declared.kinds.EntityKind.EntityKind, declared.written_names.TypeRef.TypeRef, Kinds.at_kind}
use Rattle.pc_members.specs.Members.{is_new}
use Rattle.pc_caps.specs.declared.capability.Cap.TheVariants as cap
use Rattle.pc_tree.specs.Tree as t

abbrev pub is_actor : EntityKind → Bool
is_actor = at_kind false true false false false

-- `val`, which is also the capability of an `Env` without one.
abbrev pub is_val : Option Cap → Bool
is_val None = true
is_val (Some cap.Val) = true
is_val (Some k) = false

abbrev pub is_env : TypeRef → Bool
is_env ty = bytes_eq ty.name.text (codes "Env") && is_val ty.cap

-- Exactly one parameter, of type `Env val`.
abbrev pub takes_env : List ParamDef → Bool
takes_env (p ∷ []) = is_env p.ty
takes_env ps = false

-- The constructor with which a program starts.
abbrev pub begins_program : t.Method → Bool
begins_program m = is_new m.word && (bytes_eq m.name.text (codes "create") && takes_env m.params)

abbrev pub is_main : t.Entity → Bool
is_main e = is_actor e.kind && list_any begins_program e.methods
