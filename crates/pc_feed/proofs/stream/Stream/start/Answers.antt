use Rattle.std.proofs.Common.{inl, sym, subst, refl, []}
use Rattle.pc_feed.specs.Streams.{ReadSo}
use Rattle.pc_feed.proofs.Fed.{nothing_fed}
use Rattle.pc_feed.proofs.stream.Stream.start.Goals as goal

pub invariant_of-result : goal.invariant_of-result
invariant_of-result c = inl ([], subst (ReadSo c.args.core.now []) (sym c.new.ensures) (nothing_fed c.args.core.now))

pub returns : goal.returns
returns c = (refl, subst (ReadSo c.args.core.now []) (sym c.new.ensures) (nothing_fed c.args.core.now))
