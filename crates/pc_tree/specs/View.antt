-- The tree of `specs/Tree.antt` that a value of the types represents.
use Rattle.std.specs.{Prelude.{List, map, Option, Some, None}, declared.boxed.Box.Box, declared.alloc.Global.Global}
use Rattle.pc_tree.specs.{declared.expression.Expr.{Expr, fold-Expr}, declared.expression.Expr.TheOpen.{Expr-F, Item-F, Suffix-F, Arm-F, Seq-F}, declared.expression.Item.{Item, fold-Item}, declared.expression.Suffix.{Suffix, fold-Suffix}, declared.expression.Arm.{Arm, fold-Arm}, declared.expression.Seq.{Seq, fold-Seq}, declared.file.FieldDef.FieldDef, declared.file.MethodDef.MethodDef, declared.file.Entity.Entity, declared.file.File.File, Parts.{exprs_of, suffixes_of, arms_of, items_of}}
use Rattle.pc_tree.specs.Tree as t

abbrev pub other_of : Option (Box t.Seq Global) → t.Other
other_of None = t.no_other
other_of (Some b) = t.other b.value

-- one level, whose parts have been translated already
abbrev pub expr_step : Expr-F t.Expr t.Item t.Suffix t.Arm t.Seq → t.Expr
expr_step (Expr-F.Number n s) = t.number n s
expr_step (Expr-F.Truth b s) = t.truth b s
expr_step (Expr-F.Text b s) = t.text b s
expr_step (Expr-F.Name n) = t.name n
expr_step (Expr-F.TypeName n) = t.type_name n
expr_step (Expr-F.This s) = t.this s
expr_step (Expr-F.Consume n s) = t.consume n s
expr_step (Expr-F.Not e s) = t.not_ e.value s
expr_step (Expr-F.Infix o es s) = t.infix_ o (exprs_of es) s
expr_step (Expr-F.Chain e ss s) = t.chain e.value (suffixes_of ss) s
expr_step (Expr-F.Group b s) = t.group b.value s
expr_step (Expr-F.If a o s) = t.if_ (arms_of a) (other_of o) s
expr_step (Expr-F.While c b s) = t.while_ c.value b.value s
expr_step (Expr-F.Recover c b s) = t.recover c b.value s
expr_step (Expr-F.Assign l r s) = t.assign l.value r.value s

abbrev pub item_step : Item-F t.Expr t.Item t.Suffix t.Arm t.Seq → t.Item
item_step (Item-F.Local f n ty e s) = t.local f n ty e s
item_step (Item-F.Plain e) = t.plain e

abbrev pub suffix_step : Suffix-F t.Expr t.Item t.Suffix t.Arm t.Seq → t.Suffix
suffix_step (Suffix-F.Dot n) = t.dot n
suffix_step (Suffix-F.Args es s) = t.args (exprs_of es) s

abbrev pub arm_step : Arm-F t.Expr t.Item t.Suffix t.Arm t.Seq → t.Arm
arm_step a = t.arm_of a.cond a.body a.span

abbrev pub seq_step : Seq-F t.Expr t.Item t.Suffix t.Arm t.Seq → t.Seq
seq_step s = t.seq (items_of s.items) s.span

abbrev pub expr_view : Expr → t.Expr
expr_view = fold-Expr t.Expr t.Item t.Suffix t.Arm t.Seq expr_step item_step suffix_step arm_step seq_step

abbrev pub item_view : Item → t.Item
item_view = fold-Item t.Expr t.Item t.Suffix t.Arm t.Seq expr_step item_step suffix_step arm_step seq_step

abbrev pub suffix_view : Suffix → t.Suffix
suffix_view = fold-Suffix t.Expr t.Item t.Suffix t.Arm t.Seq expr_step item_step suffix_step arm_step seq_step

abbrev pub arm_view : Arm → t.Arm
arm_view = fold-Arm t.Expr t.Item t.Suffix t.Arm t.Seq expr_step item_step suffix_step arm_step seq_step

abbrev pub seq_view : Seq → t.Seq
seq_view = fold-Seq t.Expr t.Item t.Suffix t.Arm t.Seq expr_step item_step suffix_step arm_step seq_step

abbrev pub exprs_view : List Expr → t.Exprs
exprs_view es = exprs_of (map expr_view es)

abbrev pub suffixes_view : List Suffix → t.Suffixes
suffixes_view ss = suffixes_of (map suffix_view ss)

abbrev pub arms_view : List Arm → t.Arms
arms_view arms = arms_of (map arm_view arms)

abbrev pub items_view : List Item → t.Items
items_view is = items_of (map item_view is)

abbrev pub other_view : Option (Box Seq Global) → t.Other
other_view None = t.no_other
other_view (Some b) = t.other (seq_view b.value)

abbrev pub maybe_expr : Option Expr → Option t.Expr
maybe_expr None = None
maybe_expr (Some e) = Some (expr_view e)

abbrev pub maybe_seq : Option Seq → Option t.Seq
maybe_seq None = None
maybe_seq (Some s) = Some (seq_view s)

abbrev pub field_view : FieldDef → t.Field
field_view f = record { fixed = f.fixed; name = f.name; ty = f.ty; value = maybe_expr f.value }

abbrev pub method_view : MethodDef → t.Method
method_view m = record { word = m.word; cap = m.cap; name = m.name; params = m.params; result = m.result; body = maybe_seq m.body }

abbrev pub entity_view : Entity → t.Entity
entity_view e = record { kind = e.kind; cap = e.cap; name = e.name; provides = e.provides; fields = map field_view e.fields; methods = map method_view e.methods }

abbrev pub file_view : File → t.File
file_view f = record { entities = map entity_view f.entities }
