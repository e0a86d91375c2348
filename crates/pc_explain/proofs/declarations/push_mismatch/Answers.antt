use Rattle.std.proofs.{Common.{◌≡◌, ◌++◌, ℕ, List, ap, sym, ◌∙◌}, lemmas.List.append-nil}
use Rattle.std.specs.Prelude.{Option, None, slice_get}
use Rattle.pc_core.specs.{CoreData.CoreData, declared.declarations.Method.Method}
use Rattle.pc_explain.specs.Declarations.{method_node_line, mismatch_lines, provided_by, stands_lines, wanted_from, wanted_of}
use Rattle.pc_explain.proofs.declarations.push_mismatch.Goals as goal

pub returns-in-None : goal.returns-in-None
unfolding mismatch_lines stands_lines
returns-in-None c =
    let s = c.args.scene.now in
    let given = c.args.given.now in
    let list = c.provided_by.ensures ∙ ap (λ (k : CoreData). provided_by (slice_get k.entities c.args.entity)) c.core-core.ensures in
    let none = c.in-None.ensures ∙ ap (λ (k : CoreData). wanted_from k given c.provided_by.result.now) c.core-core.ensures ∙ ap (wanted_from s.core given) list in
    let wanted : wanted_of s.core c.args.entity given ≡ None = sym none in
    let line = method_node_line s given in
    c.in_ok-push_method_line.ensures
    ∙ ap (λ (l : List ℕ). c.args.out.now.items ++ l) (sym (ap (λ (w : Option Method). line ++ stands_lines s given w) wanted ∙ append-nil line))
