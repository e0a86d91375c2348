use Rattle.std.proofs.Common.{◌++◌}
use Rattle.pc_caps.specs.declared.capability.Cap.TheVariants as cap
use Rattle.pc_deriv.specs.{Text.{slot_line, SlotFits}, Parts.each_line}
use Rattle.pc_deriv.proofs.Fitting.{fits_more, lines_more}
use Rattle.pc_deriv.proofs.writing.push_slots.Goals as goal

pub loop-slot-preserved : goal.loop-slot-preserved
loop-slot-preserved c =
    let slots = c.args.slots.now in
    let i = c.loop-slot.slot-index in (
      fits_more SlotFits slots i (0, cap.Iso) c.loop-slot-test.true c.push_slot.ensures.fits c.loop-slot.invariant.0,
      lines_more slot_line slots i (0, cap.Iso) c.loop-slot.out.items c.push_slot.new.out.items (c.args.out.now.items ++ each_line slot_line slots) c.loop-slot-test.true c.in_ok-push_slot.ensures.puts c.loop-slot.invariant.1,
    )
