use Rattle.std.proofs.Common.{◌≡◌, ◌∷◌, ◌++◌, OnOk, ap₂, ◌∙◌, subst, arith}
use Rattle.pc_deriv.proofs.LastDigits.{rest_all, decimal_whole}
use Rattle.pc_deriv.proofs.number_writing.push_decimals.Goals as goal

pub returns : goal.returns
returns c =
    let at = c.digits.at in
    let last = c.digits.last in
    let whole = decimal_whole c.args.number c.digits.front at last (omega (arith, c.digits-test.false)) c.digits.invariant.3 in
    let same = ap₂ (λ d l. d ∷ l) c.decimal_glyph-2.ensures (rest_all last 9 at c.digits.invariant.1) ∙ whole in
    subst (λ l. OnOk c.push_row.result (c.push_row.new.out.items ≡ c.args.out.now.items ++ l)) same c.push_row.ensures
