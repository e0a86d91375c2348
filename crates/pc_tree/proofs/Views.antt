-- What each value represents, variant by variant.
use Rattle.std.proofs.Common.{◌≡◌, ℕ, Bool, List, Option, rules}
use Rattle.std.specs.{declared.boxed.Box.Box, declared.alloc.Global.Global}
use Rattle.pc_base.specs.declared.span.Span.{Span}
use Rattle.pc_caps.specs.declared.capability.Cap.{Cap}
use Rattle.pc_tree.specs.Tree as t
use Rattle.pc_tree.specs.{View.{expr_view, item_view, suffix_view, arm_view, seq_view, exprs_view, suffixes_view, arms_view, items_view, other_view}, declared.kinds.Op.Op, declared.written_names.Name.Name, declared.written_names.TypeRef.TypeRef, declared.expression.Expr.{Expr, the_lemmas}, declared.expression.Item.Item, declared.expression.Suffix.Suffix, declared.expression.Arm.{Arm, roll-Arm}, declared.expression.Seq.{Seq, roll-Seq}}
use Rattle.pc_tree.specs.declared.expression.Expr.TheVariants as e
use Rattle.pc_tree.specs.declared.expression.Item.TheVariants as i
use Rattle.pc_tree.specs.declared.expression.Suffix.TheVariants as s

pub view_number : (n : ℕ) (sp : Span) → expr_view (e.Number n sp) ≡ t.number n sp
view_number n sp = search (rules, the_lemmas)

pub view_truth : (b : Bool) (sp : Span) → expr_view (e.Truth b sp) ≡ t.truth b sp
view_truth b sp = search (rules, the_lemmas)

pub view_text : (bytes : List ℕ) (sp : Span) → expr_view (e.Text bytes sp) ≡ t.text bytes sp
view_text bytes sp = search (rules, the_lemmas)

pub view_name : (m : Name) → expr_view (e.Name m) ≡ t.name m
view_name m = search (rules, the_lemmas)

pub view_type_name : (m : Name) → expr_view (e.TypeName m) ≡ t.type_name m
view_type_name m = search (rules, the_lemmas)

pub view_this : (sp : Span) → expr_view (e.This sp) ≡ t.this sp
view_this sp = search (rules, the_lemmas)

pub view_consume : (m : Name) (sp : Span) → expr_view (e.Consume m sp) ≡ t.consume m sp
view_consume m sp = search (rules, the_lemmas)

pub view_not : (b : Box Expr Global) (sp : Span) → expr_view (e.Not b sp) ≡ t.not_ (expr_view b.value) sp
view_not b sp = search (rules, the_lemmas)

pub view_infix : (o : Op) (es : List Expr) (sp : Span) → expr_view (e.Infix o es sp) ≡ t.infix_ o (exprs_view es) sp
view_infix o es sp = search (rules, the_lemmas)

pub view_chain : (b : Box Expr Global) (ss : List Suffix) (sp : Span) → expr_view (e.Chain b ss sp) ≡ t.chain (expr_view b.value) (suffixes_view ss) sp
view_chain b ss sp = search (rules, the_lemmas)

pub view_group : (b : Box Seq Global) (sp : Span) → expr_view (e.Group b sp) ≡ t.group (seq_view b.value) sp
view_group b sp = search (rules, the_lemmas)

pub view_if : (arms : List Arm) (o : Option (Box Seq Global)) (sp : Span) → expr_view (e.If arms o sp) ≡ t.if_ (arms_view arms) (other_view o) sp
view_if arms o sp = search (rules, the_lemmas)

pub view_while : (c b : Box Seq Global) (sp : Span) → expr_view (e.While c b sp) ≡ t.while_ (seq_view c.value) (seq_view b.value) sp
view_while c b sp = search (rules, the_lemmas)

pub view_recover : (k : Option Cap) (b : Box Seq Global) (sp : Span) → expr_view (e.Recover k b sp) ≡ t.recover k (seq_view b.value) sp
view_recover k b sp = search (rules, the_lemmas)

pub view_assign : (l r : Box Expr Global) (sp : Span) → expr_view (e.Assign l r sp) ≡ t.assign (expr_view l.value) (expr_view r.value) sp
view_assign l r sp = search (rules, the_lemmas)

pub view_dot : (m : Name) → suffix_view (s.Dot m) ≡ t.dot m
view_dot m = search (rules, the_lemmas)

pub view_args : (es : List Expr) (sp : Span) → suffix_view (s.Args es sp) ≡ t.args (exprs_view es) sp
view_args es sp = search (rules, the_lemmas)

pub view_local : (fixed : Bool) (m : Name) (ty : Option TypeRef) (v : Expr) (sp : Span) → item_view (i.Local fixed m ty v sp) ≡ t.local fixed m ty (expr_view v) sp
view_local fixed m ty v sp = search (rules, the_lemmas)

pub view_plain : (v : Expr) → item_view (i.Plain v) ≡ t.plain (expr_view v)
view_plain v = search (rules, the_lemmas)

pub view_arm : (c b : Seq) (sp : Span) → arm_view (roll-Arm (record { cond = c; body = b; span = sp })) ≡ t.arm_of (seq_view c) (seq_view b) sp
view_arm c b sp = search (rules, the_lemmas)

pub view_seq : (items : List Item) (sp : Span) → seq_view (roll-Seq (record { items = items; span = sp })) ≡ t.seq (items_view items) sp
view_seq items sp = search (rules, the_lemmas)
