-- What is found on the way to a place in the tree of a method's body.
use Rattle.std.specs.Prelude.{ℕ, Bool, ◌&&◌, nat_eq, nat_le, nat_lt, List, [], ◌∷◌, ◌++◌, Option, Some, None, if◌then◌else◌}
use Rattle.pc_base.specs.declared.span.Span.{Span}
use Rattle.pc_explain_names.specs.declared.marks.Mark.{Mark}
use Rattle.pc_tree.specs.Tree as t
use Rattle.pc_explain_names.specs.declared.marks.Mark.TheVariants as mark

-- The byte is in the span.
abbrev pub holds : Span → ℕ → Bool
holds span at = nat_le span.start at && nat_lt at span.end

abbrev pub marks_if : Bool → List Mark → List Mark
marks_if b ms = if b then ms else []

-- The name of the type, if the expression is one.
abbrev pub type_name_in : t.Expr → Option Span
type_name_in (t.type_name n) = Some n.span
type_name_in (t.number n sp) = None
type_name_in (t.truth b sp) = None
type_name_in (t.text b sp) = None
type_name_in (t.name n) = None
type_name_in (t.this sp) = None
type_name_in (t.consume n sp) = None
type_name_in (t.not_ e sp) = None
type_name_in (t.infix_ o es sp) = None
type_name_in (t.chain e ss sp) = None
type_name_in (t.group b sp) = None
type_name_in (t.if_ a o sp) = None
type_name_in (t.while_ c b sp) = None
type_name_in (t.recover c b sp) = None
type_name_in (t.assign l r sp) = None

-- After a type's name and a dot, the name of a constructor.
abbrev pub constructor_mark : ℕ → Option Span → Span → List Mark
constructor_mark at None sp = []
constructor_mark at (Some head) sp = marks_if (nat_eq sp.start at) (mark.Constructor head ∷ [])

-- The locals that are visible at the place, the outer ones first, and how the name there is used. A local is visible in the
-- rest of the sequence that defines it.
abbrev mutual
  pub expr_marks : ℕ → t.Expr → List Mark
  expr_marks at (t.number n sp) = []
  expr_marks at (t.truth b sp) = []
  expr_marks at (t.text b sp) = []
  expr_marks at (t.name n) = marks_if (nat_eq n.span.start at) (mark.Bare ∷ [])
  expr_marks at (t.type_name n) = marks_if (nat_eq n.span.start at) (mark.Type ∷ [])
  expr_marks at (t.this sp) = []
  expr_marks at (t.consume n sp) = marks_if (nat_eq n.span.start at) (mark.Consumed ∷ [])
  expr_marks at (t.not_ e sp) = expr_marks at e
  expr_marks at (t.infix_ o es sp) = exprs_marks at es
  expr_marks at (t.chain e ss sp) = expr_marks at e ++ suffixes_marks at (type_name_in e) ss
  expr_marks at (t.group b sp) = seq_marks at b
  expr_marks at (t.if_ a o sp) = arms_marks at a ++ other_marks at o
  expr_marks at (t.while_ c b sp) = seq_marks at c ++ seq_marks at b
  expr_marks at (t.recover c b sp) = seq_marks at b
  expr_marks at (t.assign l r sp) = expr_marks at l ++ expr_marks at r

  pub exprs_marks : ℕ → t.Exprs → List Mark
  exprs_marks at t.no_exprs = []
  exprs_marks at (t.expr e es) = expr_marks at e ++ exprs_marks at es

  pub suffix_marks : ℕ → Option Span → t.Suffix → List Mark
  suffix_marks at head (t.dot n) = constructor_mark at head n.span
  suffix_marks at head (t.args es sp) = exprs_marks at es

  pub suffixes_marks : ℕ → Option Span → t.Suffixes → List Mark
  suffixes_marks at head t.no_suffixes = []
  suffixes_marks at head (t.suffix x ss) = suffix_marks at head x ++ suffixes_marks at head ss

  pub arm_marks : ℕ → t.Arm → List Mark
  arm_marks at (t.arm_of c b sp) = seq_marks at c ++ seq_marks at b

  pub arms_marks : ℕ → t.Arms → List Mark
  arms_marks at t.no_arms = []
  arms_marks at (t.arm x xs) = arm_marks at x ++ arms_marks at xs

  pub other_marks : ℕ → t.Other → List Mark
  other_marks at t.no_other = []
  other_marks at (t.other b) = seq_marks at b

  pub seq_marks : ℕ → t.Seq → List Mark
  seq_marks at (t.seq is sp) = marks_if (holds sp at) (items_marks at is)

  pub items_marks : ℕ → t.Items → List Mark
  items_marks at t.no_items = []
  items_marks at (t.item i is) = item_marks at i ++ items_marks at is

  pub item_marks : ℕ → t.Item → List Mark
  item_marks at (t.local f n ty e sp) = expr_marks at e ++ marks_if (nat_le sp.end at) (mark.Local n.span ∷ [])
  item_marks at (t.plain e) = expr_marks at e

-- ---- what they tell

-- The locals.
abbrev pub local_in : Mark → List Span
local_in (mark.Local sp) = sp ∷ []
local_in mark.Bare = []
local_in mark.Consumed = []
local_in mark.Type = []
local_in (mark.Constructor sp) = []

abbrev pub locals : List Mark → List Span
locals [] = []
locals (m ∷ ms) = local_in m ++ locals ms

-- The first mark that is not a local.
abbrev pub use_in : List Mark → Option Mark
use_in [] = None
use_in (mark.Local sp ∷ ms) = use_in ms
use_in (mark.Bare ∷ ms) = Some mark.Bare
use_in (mark.Consumed ∷ ms) = Some mark.Consumed
use_in (mark.Type ∷ ms) = Some mark.Type
use_in (mark.Constructor sp ∷ ms) = Some (mark.Constructor sp)
