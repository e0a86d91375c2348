use Rattle.std.proofs.Common.{◌≡◌, ◌-◌, ◌/◌, false, ◌∷◌, ◌++◌, length, drop, set, OnOk, sym, ap₂, ◌∙◌, subst, arith, length-set}
use Rattle.std.specs.Fmt.{digits}
use Rattle.pc_deriv.proofs.LastDigits.{rest_all, hex_room, hex_put, hex_whole}
use Rattle.pc_deriv.proofs.number_writing.push_hexes.Goals as goal

pub digits-preserved : goal.digits-preserved
digits-preserved c =
    let n = c.args.number in
    let front = c.digits.front in
    let at = c.digits.at in
    let last = c.digits.last in
    let room = hex_room front at c.digits-test.true c.digits.invariant.2 in (
      omega (arith, c.digits.invariant.0),
      length-set last (at - 1) c.hex_glyph.result ∙ c.digits.invariant.1,
      room.1,
      subst (λ d. digits 16 false n ≡ digits 16 false (front / 16) ++ drop (at - 1) (set last (at - 1) d)) (sym c.hex_glyph.ensures)
          (hex_put n front at last c.digits-test.true (omega arith) room.0 (omega (arith, c.digits.invariant.0, c.digits.invariant.1)) c.digits.invariant.3),
    )

pub returns : goal.returns
returns c =
    let at = c.digits.at in
    let last = c.digits.last in
    let whole = hex_whole c.args.number c.digits.front at last (omega (arith, c.digits-test.false)) c.digits.invariant.3 in
    let same = ap₂ (λ d l. d ∷ l) c.hex_glyph-2.ensures (rest_all last 16 at c.digits.invariant.1) ∙ whole in
    subst (λ l. OnOk c.push_row.result (c.push_row.new.out.items ≡ c.args.out.now.items ++ l)) same c.push_row.ensures
