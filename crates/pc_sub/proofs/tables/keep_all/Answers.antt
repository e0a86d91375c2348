use Rattle.std.proofs.{Common.get_or, lemmas.Option.slice_get-get_or}
use Rattle.pc_base.specs.Lists.{Has}
use Rattle.pc_sub.proofs.{Looked.{HasTo, all_has, has_all, has_none}, Telling.{kept_next, kept_none, kept_same}}
use Rattle.pc_sub.proofs.tables.keep_all.Goals as goal

pub loop-entity-init : goal.loop-entity-init
loop-entity-init c = kept_none (λ b. HasTo c.args.entities.now 0 b) c.args.other.now c.args.sets.now (has_none c.args.entities.now)

pub loop-entity-preserved : goal.loop-entity-preserved
loop-entity-preserved c =
    let n = c.loop-entity.entity-index in
    kept_next c.args.entities.now n (get_or c.args.entities.now n 0) c.args.other.now c.args.sets.now c.loop-entity.sets c.keep_at.new.sets (slice_get-get_or c.args.entities.now n 0 c.loop-entity-test.true) c.loop-entity.invariant c.in_ok-keep_at.ensures

pub returns : goal.returns
returns c =
    let n = c.loop-entity.entity-index in
    kept_same (λ b. HasTo c.args.entities.now n b) (λ b. Has c.args.entities.now b) c.args.other.now c.args.sets.now c.loop-entity.sets (λ b. all_has c.args.entities.now n b) (λ b. has_all c.args.entities.now n b c.loop-entity-test.false) c.loop-entity.invariant
