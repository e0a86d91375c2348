-- Lists of the parts of a tree as the types that a tree has for them, and the spans of parts in the text.
use Rattle.std.specs.Prelude.{List, [], ◌∷◌}
use Rattle.pc_base.specs.declared.span.Span.{Span}
use Rattle.pc_tree.specs.Tree as t

abbrev pub exprs_of : List t.Expr → t.Exprs
exprs_of [] = t.no_exprs
exprs_of (e ∷ es) = t.expr e (exprs_of es)

abbrev pub suffixes_of : List t.Suffix → t.Suffixes
suffixes_of [] = t.no_suffixes
suffixes_of (s ∷ ss) = t.suffix s (suffixes_of ss)

abbrev pub arms_of : List t.Arm → t.Arms
arms_of [] = t.no_arms
arms_of (a ∷ more) = t.arm a (arms_of more)

abbrev pub items_of : List t.Item → t.Items
items_of [] = t.no_items
items_of (i ∷ is) = t.item i (items_of is)

abbrev pub suffix_span : t.Suffix → Span
suffix_span (t.dot n) = n.span
suffix_span (t.args es s) = s

abbrev pub arm_span : t.Arm → Span
arm_span (t.arm_of c b s) = s

abbrev pub seq_span : t.Seq → Span
seq_span (t.seq is s) = s

abbrev pub item_span : t.Item → Span
item_span (t.local f n t e s) = s
item_span (t.plain e) = t.span_of e
