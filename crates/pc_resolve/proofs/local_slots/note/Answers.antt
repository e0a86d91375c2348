use Rattle.std.proofs.Common.{rules, ◌≡◌, false, is_some, nat_eq}
use Rattle.std.specs.Map.{lookup}
use Rattle.pc_resolve.proofs.Indexes.{added_number}
use Rattle.pc_resolve.proofs.local_slots.note.Goals as goal

pub returns : goal.returns
returns c =
    let absent : is_some (lookup (nat_eq c.args.start) c.args.by_start.now.entries) ≡ false = search rules in
    added_number c.args.by_start.now c.insert.new.self.entries c.args.start c.args.slot absent c.in_ok-insert.ensures.entries
