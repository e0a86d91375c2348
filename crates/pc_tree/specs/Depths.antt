-- How deep a tree is.
use Rattle.std.specs.{Prelude.{ℕ, suc, max, List, [], ◌∷◌}, Option.option_map_or}
use Rattle.pc_tree.specs.Tree as t

-- The number of nested levels: a level is opened by the `(` of a group or of arguments, even if there are none, by
-- `if`, `while`, `recover` and `not`, each for everything in it, and by `=` between expressions for its right side.
abbrev mutual
  pub depth : t.Expr → ℕ
  depth (t.number n s) = 0
  depth (t.truth b s) = 0
  depth (t.text b s) = 0
  depth (t.name n) = 0
  depth (t.type_name n) = 0
  depth (t.this s) = 0
  depth (t.consume n s) = 0
  depth (t.not_ e s) = suc (depth e)
  depth (t.infix_ o es s) = exprs_depth es
  depth (t.chain e ss s) = max (depth e) (suffixes_depth ss)
  depth (t.group b s) = suc (seq_depth b)
  depth (t.if_ a o s) = suc (max (arms_depth a) (other_depth o))
  depth (t.while_ c b s) = suc (max (seq_depth c) (seq_depth b))
  depth (t.recover c b s) = suc (seq_depth b)
  depth (t.assign l r s) = max (depth l) (suc (depth r))

  pub exprs_depth : t.Exprs → ℕ
  exprs_depth t.no_exprs = 0
  exprs_depth (t.expr e es) = max (depth e) (exprs_depth es)

  pub suffix_depth : t.Suffix → ℕ
  suffix_depth (t.dot n) = 0
  suffix_depth (t.args es s) = suc (exprs_depth es)

  pub suffixes_depth : t.Suffixes → ℕ
  suffixes_depth t.no_suffixes = 0
  suffixes_depth (t.suffix s ss) = max (suffix_depth s) (suffixes_depth ss)

  pub arm_depth : t.Arm → ℕ
  arm_depth (t.arm_of c b s) = max (seq_depth c) (seq_depth b)

  pub arms_depth : t.Arms → ℕ
  arms_depth t.no_arms = 0
  arms_depth (t.arm a more) = max (arm_depth a) (arms_depth more)

  pub other_depth : t.Other → ℕ
  other_depth t.no_other = 0
  other_depth (t.other s) = seq_depth s

  pub seq_depth : t.Seq → ℕ
  seq_depth (t.seq is s) = items_depth is

  pub item_depth : t.Item → ℕ
  item_depth (t.local f n ty e s) = depth e
  item_depth (t.plain e) = depth e

  pub items_depth : t.Items → ℕ
  items_depth t.no_items = 0
  items_depth (t.item i is) = max (item_depth i) (items_depth is)

-- The greatest level that these have, 0 if there are none.
abbrev pub highest : {A : Type 0} → (A → ℕ) → List A → ℕ
highest level [] = 0
highest level (x ∷ xs) = max (level x) (highest level xs)

-- The highest level of a file. A field's value and a body are at level 1.
abbrev pub file_depth : t.File → ℕ
file_depth file =
    highest (λ (e : t.Entity). max (highest (λ (f : t.Field). option_map_or (λ v. suc (depth v)) f.value 0) e.fields) (highest (λ (m : t.Method). option_map_or (λ b. suc (seq_depth b)) m.body 0) e.methods)) file.entities
