use Rattle.std.proofs.{Common.{◌+◌, ◌++◌, drop, refl, ap, sym, subst, ◌∙◌, Some, slice_get, ◌≡◌, arith}, lemmas.Option.slice_get_read}
use Rattle.std.specs.Prelude.{ℕ, List}
use Rattle.pc_core.specs.declared.declarations.Method.{Method}
use Rattle.pc_places.specs.Text.{method_line, methods_text}
use Rattle.pc_places.proofs.Joining.{methods_step, put_next}
use Rattle.pc_places.proofs.text.push_methods.Goals as goal

pub loop-method-preserved : goal.loop-method-preserved
loop-method-preserved c =
    let core = c.args.core.now in
    let i = c.loop-method.method-index in
    let x = c.method-item.result in
    let read = slice_get_read c.methods-method-items.result.now _ i x refl (omega (arith, c.loop-method-test.true)) c.method-item.is in
    let there : slice_get core.methods i ≡ Some x = subst (λ (ms : List Method). slice_get ms i ≡ Some x) c.methods-method-items.ensures read in
    let left = ap (λ (t : List ℕ). c.loop-method.text.items ++ t) (sym (methods_step core core.methods i x there)) ∙ c.loop-method.invariant in
    put_next c.loop-method.text.items c.push_method.new.text.items (method_line core x) (methods_text core (drop (i + 1) core.methods)) (c.args.text.now.items ++ methods_text core core.methods)
    c.in_ok-push_method.ensures left
