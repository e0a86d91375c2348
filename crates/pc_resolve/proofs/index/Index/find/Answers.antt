use Rattle.std.proofs.Common.{rules}
use Rattle.std.specs.Str.{bytes_eq}
use Rattle.pc_resolve.proofs.Indexes.{lookup_shown}
use Rattle.pc_resolve.proofs.index.Index.find.Goals as goal

pub returns : goal.returns
returns c = rw (← c.self.view_is, lookup_shown (bytes_eq c.args.name.now) c.self.inside.values.entries) (search rules)
