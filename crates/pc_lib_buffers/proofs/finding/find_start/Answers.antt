use Rattle.std.proofs.Common.{sym, ap, ◌∙◌}
use Rattle.pc_lib_buffers.specs.Fronts.{after_word}
use Rattle.pc_lib_buffers.proofs.Numbers.{found_after, found_without}
use Rattle.pc_lib_buffers.proofs.finding.find_start.Goals as goal

pub returns-in-Some : goal.returns-in-Some
returns-in-Some c =
    found_after c.args.number c.args.name.now c.args.text.now c.args.line.now c.in-Some.numbers.now c.find_numbers.result
    (ap (λ word. after_word word c.args.line.now) (sym c.as_bytes.ensures.value) ∙ sym c.in-Some.ensures) c.find_numbers.ensures

pub returns-in-None : goal.returns-in-None
returns-in-None c =
    found_without c.args.number c.args.name.now c.args.text.now c.args.line.now (ap (λ word. after_word word c.args.line.now) (sym c.as_bytes.ensures.value) ∙ sym c.in-None.ensures)
