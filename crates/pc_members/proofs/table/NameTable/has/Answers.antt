use Rattle.std.proofs.Common.{rules, ℕ, Vec, Global}
use Rattle.std.specs.Str.{bytes_eq}
use Rattle.pc_members.proofs.Views.{list_any_shown}
use Rattle.pc_members.proofs.table.NameTable.has.Goals as goal

pub returns : goal.returns
returns c =
    let e = list_any_shown (λ (v : Vec ℕ Global). v.items) (bytes_eq c.args.name.now) c.self.inside.names.keys in
    rw (← c.self.view_is, e) (search rules)
