-- Methods by their entities and names.
use Rattle.std.specs.Prelude.{ℕ, Bool, ◌&&◌, nat_eq}
use Rattle.pc_core.specs.declared.declarations.Method.{Method}

-- A method's entity and name, which no other method shares.
abbrev pub method_key : Method → ℕ × ℕ
method_key m = (m.entity, m.name)

-- Whether a key is this one.
abbrev pub is_key : (entity name : ℕ) → ℕ × ℕ → Bool
is_key entity name key = nat_eq entity key.0 && nat_eq name key.1
