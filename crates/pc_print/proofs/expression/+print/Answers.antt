use Rattle.std.proofs.{Common.{◌≡◌, ◌++◌, ◌+◌, cond, codes, drop, subst, sym, ap, ◌∙◌}, lemmas.List.drop_all}
use Rattle.pc_base.proofs.Cuts.{item_first}
use Rattle.pc_tree.specs.View.{item_view, items_view, expr_view, exprs_view, seq_view, suffix_view, suffixes_view, arm_view, arms_view, other_view}
use Rattle.pc_token.specs.Words.{word_text}
use Rattle.pc_grammar.specs.Spells.{local_word}
use Rattle.pc_print.specs.Parts as parts
use Rattle.pc_print.specs.Printing as text
use Rattle.pc_print.proofs.{Turns.{turn, turn_between, turn_headed, nothing_left, nothing_left_between, ok_after, ok_told, ok_pushed, ok_bare}, Told.{told_recover, told_while, told_assign, told_not, told_if, told_chain, told_local, told_dot, told_args, told_arm, told_seq}}
use Rattle.pc_print.proofs.expression.+print.Goals as goal

pub push_items-loop-x-preserved : goal.push_items-loop-x-preserved
push_items-loop-x-preserved t c =
    let l = c.loop-x in
    let xs = c.args.xs.now in
    let e = subst (λ ys. l.out.items ++ cond l.first (parts.all_items (items_view ys)) (parts.more_items (items_view ys)) ≡ c.args.out.now.items ++ parts.all_items (items_view c.args.xs.now)) (item_first xs l.x-index c.x-item.result c.loop-x-test.true c.x-item.is) l.invariant in
    turn_between l.first _ _ _ (codes "; ") (text.printed_item (item_view c.x-item.result)) (parts.more_items (items_view (drop (l.x-index + 1) xs))) _ c.in_ok-push_between.ensures c.in_ok-push_item.ensures e

pub push_items-returns : goal.push_items-returns
push_items-returns t c =
    let l = c.loop-x in
    nothing_left_between l.first _ _ (subst (λ ys. l.out.items ++ cond l.first (parts.all_items (items_view ys)) (parts.more_items (items_view ys)) ≡ c.args.out.now.items ++ parts.all_items (items_view c.args.xs.now)) (drop_all l.x-index c.args.xs.now c.loop-x-test.false) l.invariant)

pub push_args-loop-x-preserved : goal.push_args-loop-x-preserved
push_args-loop-x-preserved t c =
    let l = c.loop-x in
    let xs = c.args.xs.now in
    let e = subst (λ ys. l.out.items ++ cond l.first (parts.printed_args (exprs_view ys)) (parts.more_args (exprs_view ys)) ≡ c.args.out.now.items ++ parts.printed_args (exprs_view c.args.xs.now)) (item_first xs l.x-index c.x-item.result c.loop-x-test.true c.x-item.is) l.invariant in
    turn_between l.first _ _ _ (codes ", ") (text.printed_expr (expr_view c.x-item.result)) (parts.more_args (exprs_view (drop (l.x-index + 1) xs))) _ c.in_ok-push_between.ensures c.in_ok-push_expr.ensures e

pub push_args-returns : goal.push_args-returns
push_args-returns t c =
    let l = c.loop-x in
    nothing_left_between l.first _ _ (subst (λ ys. l.out.items ++ cond l.first (parts.printed_args (exprs_view ys)) (parts.more_args (exprs_view ys)) ≡ c.args.out.now.items ++ parts.printed_args (exprs_view c.args.xs.now)) (drop_all l.x-index c.args.xs.now c.loop-x-test.false) l.invariant)

pub push_terms-loop-x-preserved : goal.push_terms-loop-x-preserved
push_terms-loop-x-preserved t c =
    let l = c.loop-x in
    let xs = c.args.xs.now in
    let e = subst (λ ys. l.out.items ++ cond l.first (parts.printed_terms (exprs_view ys) c.args.op) (parts.more_terms (exprs_view ys) c.args.op) ≡ c.args.out.now.items ++ parts.printed_terms (exprs_view c.args.xs.now) c.args.op) (item_first xs l.x-index c.x-item.result c.loop-x-test.true c.x-item.is) l.invariant in
    let one = text.printed_expr (expr_view c.x-item.result) in
    let rest = parts.more_terms (exprs_view (drop (l.x-index + 1) xs)) c.args.op in
    turn_between l.first _ _ _ (parts.between_terms c.args.op) one rest _ c.in_ok-push_op.ensures c.in_ok-push_expr.ensures e

pub push_terms-returns : goal.push_terms-returns
push_terms-returns t c =
    let l = c.loop-x in
    nothing_left_between l.first _ _ (subst (λ ys. l.out.items ++ cond l.first (parts.printed_terms (exprs_view ys) c.args.op) (parts.more_terms (exprs_view ys) c.args.op) ≡ c.args.out.now.items ++ parts.printed_terms (exprs_view c.args.xs.now) c.args.op) (drop_all l.x-index c.args.xs.now c.loop-x-test.false) l.invariant)

pub push_arms-loop-x-preserved : goal.push_arms-loop-x-preserved
push_arms-loop-x-preserved t c =
    let l = c.loop-x in
    let xs = c.args.xs.now in
    let e = subst (λ ys. l.out.items ++ cond l.first (parts.all_arms (arms_view ys)) (parts.more_arms (arms_view ys)) ≡ c.args.out.now.items ++ parts.all_arms (arms_view c.args.xs.now)) (item_first xs l.x-index c.x-item.result c.loop-x-test.true c.x-item.is) l.invariant in
    turn_headed l.first _ _ _ (codes "if ") (codes " elseif ") (text.printed_arm (arm_view c.x-item.result)) (parts.more_arms (arms_view (drop (l.x-index + 1) xs))) _ c.in_ok-push_head.ensures c.in_ok-push_arm.ensures e

pub push_arms-returns : goal.push_arms-returns
push_arms-returns t c =
    let l = c.loop-x in
    nothing_left_between l.first _ _ (subst (λ ys. l.out.items ++ cond l.first (parts.all_arms (arms_view ys)) (parts.more_arms (arms_view ys)) ≡ c.args.out.now.items ++ parts.all_arms (arms_view c.args.xs.now)) (drop_all l.x-index c.args.xs.now c.loop-x-test.false) l.invariant)

pub push_suffixes-loop-x-preserved : goal.push_suffixes-loop-x-preserved
push_suffixes-loop-x-preserved t c =
    let l = c.loop-x in
    let xs = c.args.xs.now in
    let e = subst (λ ys. l.out.items ++ text.printed_suffixes (suffixes_view ys) ≡ c.args.out.now.items ++ text.printed_suffixes (suffixes_view c.args.xs.now)) (item_first xs l.x-index c.x-item.result c.loop-x-test.true c.x-item.is) l.invariant in
    turn _ _ (text.printed_suffix (suffix_view c.x-item.result))
    (text.printed_suffixes (suffixes_view (drop (l.x-index + 1) xs))) _ c.in_ok-push_suffix.ensures e

pub push_suffixes-returns : goal.push_suffixes-returns
push_suffixes-returns t c =
    let l = c.loop-x in
    nothing_left _ _ (subst (λ ys. l.out.items ++ text.printed_suffixes (suffixes_view ys) ≡ c.args.out.now.items ++ text.printed_suffixes (suffixes_view c.args.xs.now)) (drop_all l.x-index c.args.xs.now c.loop-x-test.false) l.invariant)

pub push_enclosed-returns : goal.push_enclosed-returns
push_enclosed-returns t c =
    let r = c.extend_from_slice-2.result in
    let items = c.as_slice.result.now in
    let told = ap (λ xs. c.args.before.now ++ (xs ++ c.args.behind.now)) (told_seq c.args.seq.now ∙ ap (λ xs. parts.all_items (items_view xs)) (sym c.as_slice.ensures)) in
    ok_told r c.args.out.now.items c.extend_from_slice-2.new.self.items (c.args.before.now ++ (text.printed_seq (seq_view c.args.seq.now) ++ c.args.behind.now)) (c.args.before.now ++ ((parts.all_items (items_view items)) ++ c.args.behind.now)) told (ok_after r c.args.out.now.items c.extend_from_slice.new.self.items c.extend_from_slice-2.new.self.items c.args.before.now ((parts.all_items (items_view items)) ++ c.args.behind.now) c.in_ok-extend_from_slice.ensures.items (ok_after r c.extend_from_slice.new.self.items c.push_items.new.out.items c.extend_from_slice-2.new.self.items (parts.all_items (items_view items)) c.args.behind.now c.in_ok-push_items.ensures (ok_pushed r c.push_items.new.out.items c.extend_from_slice-2.new.self.items c.args.behind.now c.extend_from_slice-2.ensures.items)))

pub push_arm-returns : goal.push_arm-returns
push_arm-returns t c =
    let r = c.push_enclosed-2.result in
    let cond = text.printed_seq (seq_view c.args.arm.now.cond) in
    let body = text.printed_seq (seq_view c.args.arm.now.body) in
    let told = told_arm c.args.arm.now in
    ok_told r c.args.out.now.items c.push_enclosed-2.new.out.items (text.printed_arm (arm_view c.args.arm.now)) ((cond ++ codes " then ") ++ body) told (ok_after r c.args.out.now.items c.push_enclosed.new.out.items c.push_enclosed-2.new.out.items (cond ++ codes " then ") body c.in_ok-push_enclosed.ensures (ok_bare r c.push_enclosed.new.out.items c.push_enclosed-2.new.out.items body c.push_enclosed-2.ensures))

pub push_suffix-returns-in_ok-extend_from_slice-in-Dot : goal.push_suffix-returns-in_ok-extend_from_slice-in-Dot
push_suffix-returns-in_ok-extend_from_slice-in-Dot t c =
    let r = c.extend_from_slice-in-Dot.result in
    let name = c.as_slice.result.now in
    let told = told_dot c.args.suffix.now c.in-Dot.name c.in-Dot.is ∙ ap (λ m. codes "." ++ m) (sym c.as_slice.ensures) in
    ok_told r c.args.out.now.items c.extend_from_slice-in-Dot.new.self.items (text.printed_suffix (suffix_view c.args.suffix.now)) ((codes ".") ++ name) told (ok_after r c.args.out.now.items c.extend_from_slice.new.self.items c.extend_from_slice-in-Dot.new.self.items (codes ".") name c.in_ok-extend_from_slice-in-Dot.ensures.items (ok_pushed r c.extend_from_slice.new.self.items c.extend_from_slice-in-Dot.new.self.items name c.extend_from_slice-in-Dot.ensures.items))

pub push_suffix-returns-in_ok-push_args-in-Args : goal.push_suffix-returns-in_ok-push_args-in-Args
push_suffix-returns-in_ok-push_args-in-Args t c =
    let r = c.extend_from_slice-in-Args-2.result in
    let args = c.as_slice-in-Args.result.now in
    let told = told_args c.args.suffix.now c.in-Args.args c.in-Args.span c.in-Args.is ∙ ap (λ xs. codes "(" ++ (parts.printed_args (exprs_view xs) ++ codes ")")) (sym c.as_slice-in-Args.ensures) in
    ok_told r c.args.out.now.items c.extend_from_slice-in-Args-2.new.self.items (text.printed_suffix (suffix_view c.args.suffix.now)) ((codes "(") ++ ((parts.printed_args (exprs_view args)) ++ (codes ")"))) told (ok_after r c.args.out.now.items c.extend_from_slice-in-Args.new.self.items c.extend_from_slice-in-Args-2.new.self.items (codes "(") ((parts.printed_args (exprs_view args)) ++ (codes ")")) c.in_ok-extend_from_slice-in-Args.ensures.items (ok_after r c.extend_from_slice-in-Args.new.self.items c.push_args.new.out.items c.extend_from_slice-in-Args-2.new.self.items (parts.printed_args (exprs_view args)) (codes ")") c.in_ok-push_args-in-Args.ensures (ok_pushed r c.push_args.new.out.items c.extend_from_slice-in-Args-2.new.self.items (codes ")") c.extend_from_slice-in-Args-2.ensures.items)))

pub push_expr-returns-in_ok-extend_from_slice-in-Not : goal.push_expr-returns-in_ok-extend_from_slice-in-Not
push_expr-returns-in_ok-extend_from_slice-in-Not t c =
    let r = c.push_expr.result in
    let inner = c.deref.result.now in
    let told = told_not c.args.expression.now c.in-Not.inner c.in-Not.span c.in-Not.is ∙ ap (λ x. codes "not " ++ text.printed_expr (expr_view x)) (sym c.deref.ensures) in
    ok_told r c.args.out.now.items c.push_expr.new.out.items (text.printed_expr (expr_view c.args.expression.now)) ((codes "not ") ++ (text.printed_expr (expr_view inner))) told (ok_after r c.args.out.now.items c.extend_from_slice-in-Not.new.self.items c.push_expr.new.out.items (codes "not ") (text.printed_expr (expr_view inner)) c.in_ok-extend_from_slice-in-Not.ensures.items c.push_expr.ensures)

pub push_expr-returns-in_ok-push_expr-in-Chain : goal.push_expr-returns-in_ok-push_expr-in-Chain
push_expr-returns-in_ok-push_expr-in-Chain t c =
    let r = c.push_suffixes.result in
    let head = c.deref-in-Chain.result.now in
    let suffixes = c.as_slice-in-Chain.result.now in
    let told = told_chain c.args.expression.now c.in-Chain.head c.in-Chain.suffixes c.in-Chain.span c.in-Chain.is
    ∙ ap (λ x. text.printed_expr (expr_view x) ++ text.printed_suffixes (suffixes_view c.in-Chain.suffixes)) (sym c.deref-in-Chain.ensures)
    ∙ ap (λ ss. text.printed_expr (expr_view head) ++ text.printed_suffixes (suffixes_view ss)) (sym c.as_slice-in-Chain.ensures) in
    ok_told r c.args.out.now.items c.push_suffixes.new.out.items (text.printed_expr (expr_view c.args.expression.now)) ((text.printed_expr (expr_view head)) ++ (text.printed_suffixes (suffixes_view suffixes))) told (ok_after r c.args.out.now.items c.push_expr-in-Chain.new.out.items c.push_suffixes.new.out.items (text.printed_expr (expr_view head)) (text.printed_suffixes (suffixes_view suffixes)) c.in_ok-push_expr-in-Chain.ensures c.push_suffixes.ensures)

pub push_expr-returns-in_ok-push_arms-in-If : goal.push_expr-returns-in_ok-push_arms-in-If
push_expr-returns-in_ok-push_arms-in-If t c =
    let r = c.push_other.result in
    let arms = c.as_slice-in-If.result.now in
    let other = c.in-If.other in
    let told = told_if c.args.expression.now c.in-If.arms other c.in-If.span c.in-If.is ∙ ap (λ xs. parts.all_arms (arms_view xs) ++ (text.printed_other (other_view other) ++ codes " end")) (sym c.as_slice-in-If.ensures) in
    ok_told r c.args.out.now.items c.push_other.new.out.items (text.printed_expr (expr_view c.args.expression.now)) ((parts.all_arms (arms_view arms)) ++ (text.printed_other (other_view other) ++ codes " end")) told (ok_after r c.args.out.now.items c.push_arms.new.out.items c.push_other.new.out.items (parts.all_arms (arms_view arms)) (text.printed_other (other_view other) ++ codes " end") c.in_ok-push_arms-in-If.ensures c.push_other.ensures)

pub push_expr-returns-in_ok-push_enclosed-in-While : goal.push_expr-returns-in_ok-push_enclosed-in-While
push_expr-returns-in_ok-push_enclosed-in-While t c =
    let r = c.push_enclosed-in-While-2.result in
    let cond = c.deref-in-While.result.now in
    let body = c.deref-in-While-2.result.now in
    let told = told_while c.args.expression.now c.in-While.cond c.in-While.body c.in-While.span c.in-While.is
    ∙ ap (λ s. (codes "while " ++ (text.printed_seq (seq_view s) ++ codes " do ")) ++ (text.printed_seq (seq_view c.in-While.body.value) ++ codes " end")) (sym c.deref-in-While.ensures)
    ∙ ap (λ s. (codes "while " ++ (text.printed_seq (seq_view cond) ++ codes " do ")) ++ (text.printed_seq (seq_view s) ++ codes " end"))
    (sym c.deref-in-While-2.ensures) in
    ok_told r c.args.out.now.items c.push_enclosed-in-While-2.new.out.items (text.printed_expr (expr_view c.args.expression.now)) ((codes "while " ++ (text.printed_seq (seq_view cond) ++ codes " do ")) ++ (text.printed_seq (seq_view body) ++ codes " end")) told (ok_after r c.args.out.now.items c.push_enclosed-in-While.new.out.items c.push_enclosed-in-While-2.new.out.items (codes "while " ++ (text.printed_seq (seq_view cond) ++ codes " do ")) (text.printed_seq (seq_view body) ++ codes " end") c.in_ok-push_enclosed-in-While.ensures c.push_enclosed-in-While-2.ensures)

pub push_expr-returns-in_ok-push_cap-in-Recover : goal.push_expr-returns-in_ok-push_cap-in-Recover
push_expr-returns-in_ok-push_cap-in-Recover t c =
    let r = c.push_enclosed-in-Recover.result in
    let cap = c.in-Recover.cap in
    let body = c.deref-in-Recover.result.now in
    let told = told_recover c.args.expression.now cap c.in-Recover.body c.in-Recover.span c.in-Recover.is
    ∙ ap (λ s. codes "recover" ++ (text.printed_cap cap ++ (codes " " ++ (text.printed_seq (seq_view s) ++ codes " end"))))
    (sym c.deref-in-Recover.ensures) in
    ok_told r c.args.out.now.items c.push_enclosed-in-Recover.new.out.items (text.printed_expr (expr_view c.args.expression.now)) ((codes "recover") ++ ((text.printed_cap cap) ++ (codes " " ++ (text.printed_seq (seq_view body) ++ codes " end")))) told (ok_after r c.args.out.now.items c.extend_from_slice-in-Recover.new.self.items c.push_enclosed-in-Recover.new.out.items (codes "recover") ((text.printed_cap cap) ++ (codes " " ++ (text.printed_seq (seq_view body) ++ codes " end"))) c.in_ok-extend_from_slice-in-Recover.ensures.items (ok_after r c.extend_from_slice-in-Recover.new.self.items c.push_cap.new.out.items c.push_enclosed-in-Recover.new.out.items (text.printed_cap cap) (codes " " ++ (text.printed_seq (seq_view body) ++ codes " end")) c.in_ok-push_cap-in-Recover.ensures c.push_enclosed-in-Recover.ensures))

pub push_expr-returns-in_ok-extend_from_slice-in-Assign : goal.push_expr-returns-in_ok-extend_from_slice-in-Assign
push_expr-returns-in_ok-extend_from_slice-in-Assign t c =
    let r = c.push_expr-in-Assign-2.result in
    let left = c.deref-in-Assign.result.now in
    let right = c.deref-in-Assign-2.result.now in
    let told = told_assign c.args.expression.now c.in-Assign.left c.in-Assign.right c.in-Assign.span c.in-Assign.is
    ∙ ap (λ x. text.printed_expr (expr_view x) ++ (codes " = " ++ text.printed_expr (expr_view c.in-Assign.right.value))) (sym c.deref-in-Assign.ensures)
    ∙ ap (λ x. text.printed_expr (expr_view left) ++ (codes " = " ++ text.printed_expr (expr_view x))) (sym c.deref-in-Assign-2.ensures) in
    ok_told r c.args.out.now.items c.push_expr-in-Assign-2.new.out.items (text.printed_expr (expr_view c.args.expression.now)) ((text.printed_expr (expr_view left)) ++ ((codes " = ") ++ (text.printed_expr (expr_view right)))) told (ok_after r c.args.out.now.items c.push_expr-in-Assign.new.out.items c.push_expr-in-Assign-2.new.out.items (text.printed_expr (expr_view left)) ((codes " = ") ++ (text.printed_expr (expr_view right))) c.in_ok-push_expr-in-Assign.ensures (ok_after r c.push_expr-in-Assign.new.out.items c.extend_from_slice-in-Assign.new.self.items c.push_expr-in-Assign-2.new.out.items (codes " = ") (text.printed_expr (expr_view right)) c.in_ok-extend_from_slice-in-Assign.ensures.items c.push_expr-in-Assign-2.ensures))

pub push_item-returns-in_ok-extend_from_slice-in-Local-2 : goal.push_item-returns-in_ok-extend_from_slice-in-Local-2
push_item-returns-in_ok-extend_from_slice-in-Local-2 t c =
    let r = c.push_expr.result in
    let l = c.in-Local in
    let name = c.as_slice.result.now in
    let told = told_local c.args.item.now l.fixed l.name l.ty l.value l.span l.is
    ∙ ap (λ m. (word_text (local_word l.fixed) ++ codes " ") ++ (m ++ (text.printed_type l.ty ++ (codes " = " ++ text.printed_expr (expr_view l.value))))) (sym c.as_slice.ensures) in
    ok_told r c.args.out.now.items c.push_expr.new.out.items (text.printed_item (item_view c.args.item.now)) ((word_text (local_word l.fixed) ++ codes " ") ++ (name ++ ((text.printed_type l.ty) ++ ((codes " = ") ++ (text.printed_expr (expr_view l.value)))))) told (ok_after r c.args.out.now.items c.push_local.new.out.items c.push_expr.new.out.items (word_text (local_word l.fixed) ++ codes " ") (name ++ ((text.printed_type l.ty) ++ ((codes " = ") ++ (text.printed_expr (expr_view l.value))))) c.in_ok-push_local-in-Local.ensures (ok_after r c.push_local.new.out.items c.extend_from_slice.new.self.items c.push_expr.new.out.items name ((text.printed_type l.ty) ++ ((codes " = ") ++ (text.printed_expr (expr_view l.value)))) c.in_ok-extend_from_slice-in-Local.ensures.items (ok_after r c.extend_from_slice.new.self.items c.push_typed.new.out.items c.push_expr.new.out.items (text.printed_type l.ty) ((codes " = ") ++ (text.printed_expr (expr_view l.value))) c.in_ok-push_typed-in-Local.ensures (ok_after r c.push_typed.new.out.items c.extend_from_slice-in-Local.new.self.items c.push_expr.new.out.items (codes " = ") (text.printed_expr (expr_view l.value)) c.in_ok-extend_from_slice-in-Local-2.ensures.items c.push_expr.ensures))))
