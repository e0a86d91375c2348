-- What is printed for the parts of an expression, by the value that was matched.
use Rattle.std.proofs.Common.{◌≡◌, Bool, List, ◌++◌, Option, codes, sym, ap, ◌∙◌, append_assoc}
use Rattle.std.specs.{declared.boxed.Box.Box, declared.alloc.Global.Global}
use Rattle.pc_caps.specs.declared.capability.Cap.{Cap}
use Rattle.pc_base.specs.declared.span.Span.{Span}
use Rattle.pc_token.specs.Words.{word_text}
use Rattle.pc_grammar.specs.Spells.{local_word}
use Rattle.pc_tree.specs.{declared.written_names.Name.Name, declared.written_names.TypeRef.TypeRef, declared.expression.Expr.Expr, declared.expression.Item.Item, declared.expression.Suffix.Suffix, declared.expression.Arm.Arm, declared.expression.Seq.Seq, View.{expr_view, item_view, suffix_view, arm_view, seq_view, exprs_view, suffixes_view, arms_view, items_view, other_view}}
use Rattle.pc_tree.specs.declared.expression.Expr.TheVariants as e
use Rattle.pc_tree.specs.declared.expression.Item.TheVariants as i
use Rattle.pc_tree.specs.declared.expression.Suffix.TheVariants as s
use Rattle.pc_tree.proofs.Views.{view_not, view_chain, view_if, view_while, view_recover, view_assign, view_dot, view_args, view_local, view_arm, view_seq}
use Rattle.pc_print.specs.Parts as parts
use Rattle.pc_print.specs.Printing as text

pub told_recover : (x : Expr) (k : Option Cap) (b : Box Seq Global) (sp : Span) → x ≡ e.Recover k b sp
    → text.printed_expr (expr_view x) ≡ codes "recover" ++ (text.printed_cap k ++ (codes " " ++ (text.printed_seq (seq_view b.value) ++ codes " end")))
told_recover x k b sp is = ap (λ y. text.printed_expr (expr_view y)) is ∙ ap text.printed_expr (view_recover k b sp)

pub told_while : (x : Expr) (c b : Box Seq Global) (sp : Span) → x ≡ e.While c b sp
    → text.printed_expr (expr_view x)
    ≡ (codes "while " ++ (text.printed_seq (seq_view c.value) ++ codes " do ")) ++ (text.printed_seq (seq_view b.value) ++ codes " end")
told_while x c b sp is =
    ap (λ y. text.printed_expr (expr_view y)) is ∙ ap text.printed_expr (view_while c b sp) ∙ ap (λ l. codes "while " ++ l) (sym (append_assoc (text.printed_seq (seq_view c.value)) (codes " do ") (text.printed_seq (seq_view b.value) ++ codes " end")))

pub told_assign : (x : Expr) (l r : Box Expr Global) (sp : Span) → x ≡ e.Assign l r sp
    → text.printed_expr (expr_view x) ≡ text.printed_expr (expr_view l.value) ++ (codes " = " ++ text.printed_expr (expr_view r.value))
told_assign x l r sp is = ap (λ y. text.printed_expr (expr_view y)) is ∙ ap text.printed_expr (view_assign l r sp)

pub told_not : (x : Expr) (b : Box Expr Global) (sp : Span) → x ≡ e.Not b sp
    → text.printed_expr (expr_view x) ≡ codes "not " ++ text.printed_expr (expr_view b.value)
told_not x b sp is = ap (λ y. text.printed_expr (expr_view y)) is ∙ ap text.printed_expr (view_not b sp)

pub told_if : (x : Expr) (arms : List Arm) (o : Option (Box Seq Global)) (sp : Span) → x ≡ e.If arms o sp
    → text.printed_expr (expr_view x) ≡ parts.all_arms (arms_view arms) ++ (text.printed_other (other_view o) ++ codes " end")
told_if x arms o sp is = ap (λ y. text.printed_expr (expr_view y)) is ∙ ap text.printed_expr (view_if arms o sp)

pub told_chain : (x : Expr) (b : Box Expr Global) (ss : List Suffix) (sp : Span) → x ≡ e.Chain b ss sp
    → text.printed_expr (expr_view x) ≡ text.printed_expr (expr_view b.value) ++ text.printed_suffixes (suffixes_view ss)
told_chain x b ss sp is = ap (λ y. text.printed_expr (expr_view y)) is ∙ ap text.printed_expr (view_chain b ss sp)

pub told_local : (x : Item) (fixed : Bool) (m : Name) (ty : Option TypeRef) (v : Expr) (sp : Span) → x ≡ i.Local fixed m ty v sp
    → text.printed_item (item_view x)
    ≡ (word_text (local_word fixed) ++ codes " ") ++ (m.text ++ (text.printed_type ty ++ (codes " = " ++ text.printed_expr (expr_view v))))
told_local x fixed m ty v sp is =
    ap (λ y. text.printed_item (item_view y)) is ∙ ap text.printed_item (view_local fixed m ty v sp) ∙ sym (append_assoc (word_text (local_word fixed)) (codes " ") (m.text ++ (text.printed_type ty ++ (codes " = " ++ text.printed_expr (expr_view v)))))

pub told_dot : (x : Suffix) (m : Name) → x ≡ s.Dot m → text.printed_suffix (suffix_view x) ≡ codes "." ++ m.text
told_dot x m is = ap (λ y. text.printed_suffix (suffix_view y)) is ∙ ap text.printed_suffix (view_dot m)

pub told_args : (x : Suffix) (es : List Expr) (sp : Span) → x ≡ s.Args es sp → text.printed_suffix (suffix_view x) ≡ codes "(" ++ (parts.printed_args (exprs_view es) ++ codes ")")
told_args x es sp is = ap (λ y. text.printed_suffix (suffix_view y)) is ∙ ap text.printed_suffix (view_args es sp)

pub told_arm : (a : Arm) → text.printed_arm (arm_view a) ≡ (text.printed_seq (seq_view a.cond) ++ codes " then ") ++ text.printed_seq (seq_view a.body)
told_arm a = ap text.printed_arm (view_arm a.cond a.body a.span)
    ∙ sym (append_assoc (text.printed_seq (seq_view a.cond)) (codes " then ") (text.printed_seq (seq_view a.body)))

pub told_seq : (s : Seq) → text.printed_seq (seq_view s) ≡ parts.all_items (items_view s.items)
told_seq s = ap text.printed_seq (view_seq s.items s.span)
