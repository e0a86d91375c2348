use Rattle.std.proofs.Common.{rules, ◌≡◌, None, map}
use Rattle.std.specs.{Map.lookup, Str.bytes_eq}
use Rattle.pc_resolve.proofs.Indexes.{shown, added_shown, none_there}
use Rattle.pc_resolve.proofs.index.Index.add.Goals as goal

pub returns-clause-ok : goal.returns-clause-ok
returns-clause-ok c =
    let absent : lookup (bytes_eq c.args.name.now) (map shown c.self.inside.values.entries) ≡ None = rw c.self.view_is (none_there _ (search rules)) in
    rw (← c.self.view_is) (added_shown c.self.inside.values c.insert.new.self.entries c.in_ok-owned.owned c.args.name.now c.args.value (search rules) absent c.in_ok-insert.ensures.entries)
