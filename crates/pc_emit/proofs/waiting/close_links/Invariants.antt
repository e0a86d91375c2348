use Rattle.std.proofs.Common.{◌≡◌, length}
use Rattle.pc_emit.specs.Closing.{closing, link_closes}
use Rattle.pc_emit.proofs.waiting.close_links.Given as goal

abbrev pub decreases-close : goal.decreases-close
decreases-close l = length l.links

abbrev pub invariant-close : goal.invariant-close
invariant-close l = closing (link_closes l.setting.number l.setting.depth) l.links l.top l.nodes ≡ closing (link_closes l.setting.number l.setting.depth) l.fn.links l.fn.origin l.fn.nodes
