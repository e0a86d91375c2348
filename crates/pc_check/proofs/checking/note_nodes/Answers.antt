use Rattle.std.proofs.Common.{◌+◌, ap, sym, ◌∙◌, subst, length, arith}
use Rattle.pc_rules.specs.Checks.{StartsFrom}
use Rattle.pc_check.specs.{Walked.Walked, Faults.InferenceLeavesUnset}
use Rattle.pc_check.proofs.{Filling.node_there, Walking.{note_meets, walked_noted, walked_whole}, Stopping.{ready, stops, leaves}}
use Rattle.pc_check.proofs.checking.note_nodes.Goals as goal

pub source_at-requires : goal.source_at-requires
source_at-requires c =
    let nodes = ap length c.nodes-number-end.ensures in
    let low = c.loop-number-test.true in
    let count = c.requires.sources.0 in
    omega (arith, nodes, low, count)

pub returns-in-None-clause-err : goal.returns-in-None-clause-err
returns-in-None-clause-err c =
    let core = c.args.core.now in
    let n = c.loop-number.number in
    let x = c.index-nodes-number.result in
    let a = c.loop-number.ann in
    let b = c.infer_slot.new.ann in
    let m = c.masks_from-masks.result in
    let low = c.loop-number-test.true in
    let g = node_there core _ n x c.nodes.ensures (omega (arith, low, ap length c.nodes-number-end.ensures)) c.index-nodes-number.is in
    let h = ready core c.args.sources.now a b n x c.source_at.result m c.formed.ensures c.requires.sources c.loop-number.invariant g c.source_at.ensures c.masks_from-masks.ensures c.infer_slot.ensures in
    stops core a b n x m c.formed.ensures c.requires.declarations c.loop-number.invariant g c.infer_slot.ensures h (sym c.infer_note.ensures ∙ c.in-None.is)

pub returns-then-leaves_unset-clause-err : goal.returns-then-leaves_unset-clause-err
returns-then-leaves_unset-clause-err c =
    let core = c.args.core.now in
    let n = c.loop-number.number in
    let x = c.index-nodes-number.result in
    let a = c.loop-number.ann in
    let b = c.infer_slot.new.ann in
    let m = c.masks_from-masks.result in
    let low = c.loop-number-test.true in
    let t = c.in-Some.note in
    let g = node_there core _ n x c.nodes.ensures (omega (arith, low, ap length c.nodes-number-end.ensures)) c.index-nodes-number.is in
    let h = ready core c.args.sources.now a b n x c.source_at.result m c.formed.ensures c.requires.sources c.loop-number.invariant g c.source_at.ensures c.masks_from-masks.ensures c.infer_slot.ensures in
    let k = note_meets core b x m _ t (sym c.infer_note.ensures ∙ c.in-Some.is) in
    let r = subst (StartsFrom core b n) (sym k.0) h.1 in
    let l = leaves core b n x t c.formed.ensures c.requires.declarations g h.0 k.1 r (sym c.leaves_unset.ensures ∙ c.if-leaves_unset.true) in
    subst (λ ts. InferenceLeavesUnset core x.method (record { slots = b.slots; notes = ts })) (sym c.in_ok-push.ensures.ok) l

pub loop-number-preserved : goal.loop-number-preserved
loop-number-preserved c =
    let core = c.args.core.now in
    let n = c.loop-number.number in
    let x = c.index-nodes-number.result in
    let a = c.loop-number.ann in
    let b = c.infer_slot.new.ann in
    let m = c.masks_from-masks.result in
    let low = c.loop-number-test.true in
    let t = c.in-Some.note in
    let g = node_there core _ n x c.nodes.ensures (omega (arith, low, ap length c.nodes-number-end.ensures)) c.index-nodes-number.is in
    let h = ready core c.args.sources.now a b n x c.source_at.result m c.formed.ensures c.requires.sources c.loop-number.invariant g c.source_at.ensures c.masks_from-masks.ensures c.infer_slot.ensures in
    let k = note_meets core b x m _ t (sym c.infer_note.ensures ∙ c.in-Some.is) in
    let r = subst (StartsFrom core b n) (sym k.0) h.1 in
    let w = walked_noted core b n x t c.formed.ensures g h.0 k.1 r (sym c.leaves_unset.ensures ∙ c.if-leaves_unset.false) in
    subst (λ ts. Walked core (record { slots = b.slots; notes = ts }) (n + 1)) (sym c.in_ok-push.ensures.ok) w

pub returns-clause-ok : goal.returns-clause-ok
returns-clause-ok c =
    let nodes = ap length c.nodes-number-end.ensures in
    let high = c.loop-number-test.false in
    let end = c.loop-number.auto.number-end in
    walked_whole c.args.core.now c.loop-number.ann c.loop-number.number c.formed.ensures c.requires.declarations (omega (arith, nodes, high, end)) c.loop-number.invariant
