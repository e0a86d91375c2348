use Rattle.std.proofs.Common.{◌∙◌, sym}
use Rattle.std.specs.List.{concat}
use Rattle.pc_heap.proofs.Fronts.{differed, ended, fell_short, none_there, nothing_there, other_bytes, parted, same_bytes, some_there, went_on}
use Rattle.pc_heap.proofs.pieces.strip.Goals as goal

pub returns-then-is_empty : goal.returns-then-is_empty
returns-then-is_empty c = ended c.args.bytes.now _ c.wanted.wanted.now _ c.wanted.invariant.so_far (none_there _ c.wanted.wanted.now c.is_empty.ensures c.if-is_empty.true)

pub returns-in-None : goal.returns-in-None
returns-in-None c =
    fell_short c.args.bytes.now _ c.wanted.wanted.now _ c.wanted.invariant.so_far (some_there _ c.wanted.wanted.now c.is_empty.ensures c.if-is_empty.false)
    (nothing_there c.wanted.rest.piece.now c.wanted.rest.behind.now (none_there _ c.wanted.rest.piece.now c.is_empty-in-wanted.ensures c.if-is_empty-2.true) c.in-None.ensures.cases)

pub returns-then-ne : goal.returns-then-ne
returns-then-ne c =
    let here = c.split_at in
    let wanted = c.split_at-else-is_empty-2 in
    differed c.args.bytes.now _ c.wanted.wanted.now c.wanted.rest.piece.now (concat c.wanted.rest.behind.now) wanted.result.0.now wanted.result.1.now here.result.0.now here.result.1.now
    c.wanted.invariant.so_far
    (parted c.min-count.result _ _ _ wanted.ensures.front wanted.ensures.back) (parted c.min-count.result _ _ _ here.ensures.front here.ensures.back)
    (wanted.ensures.front_len ∙ sym here.ensures.front_len) (other_bytes _ wanted.result.0.now here.result.0.now c.ne.ensures c.if-ne.true)

pub wanted-preserved : goal.wanted-preserved
wanted-preserved c =
    let here = c.split_at in
    let wanted = c.split_at-else-is_empty-2 in
    record {
      so_far = went_on c.args.bytes.now _ c.wanted.wanted.now c.wanted.rest.piece.now (concat c.wanted.rest.behind.now) wanted.result.0.now wanted.result.1.now here.result.0.now here.result.1.now
          c.wanted.invariant.so_far
          (parted c.min-count.result _ _ _ wanted.ensures.front wanted.ensures.back) (parted c.min-count.result _ _ _ here.ensures.front here.ensures.back)
          (same_bytes _ wanted.result.0.now here.result.0.now c.ne.ensures c.if-ne.false);
    }
