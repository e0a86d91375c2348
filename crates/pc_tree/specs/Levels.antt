-- The levels of the parts of a file.
use Rattle.std.specs.{Prelude.{ℕ, suc, max, List, Option}, Option.option_map_or}
use Rattle.pc_tree.specs.Depths.{depth, seq_depth, highest}
use Rattle.pc_tree.specs.Tree as t

abbrev pub value_depth : Option t.Expr → ℕ
value_depth value = option_map_or (λ v. suc (depth v)) value 0

abbrev pub body_depth : Option t.Seq → ℕ
body_depth body = option_map_or (λ b. suc (seq_depth b)) body 0

abbrev pub fields_depth : List t.Field → ℕ
fields_depth fs = highest (λ (f : t.Field). value_depth f.value) fs

abbrev pub methods_depth : List t.Method → ℕ
methods_depth ms = highest (λ (m : t.Method). body_depth m.body) ms

abbrev pub entities_depth : List t.Entity → ℕ
entities_depth es = highest (λ (e : t.Entity). max (fields_depth e.fields) (methods_depth e.methods)) es
