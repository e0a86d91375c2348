use Rattle.std.proofs.Common.{ℕ, ◌<◌, ap, length, subst, ◌∙◌, arith}
use Rattle.pc_base.specs.Lists.{Each}
use Rattle.pc_core.specs.EntitySets.{Holds}
use Rattle.pc_sub.proofs.Telling.{tells_all, tells_none}
use Rattle.pc_sub.proofs.tables.list_conforming.Goals as goal

pub keep_groups-requires : goal.keep_groups-requires
keep_groups-requires c =
    let many = ap length c.entities.ensures in
    record {
      grouped = c.in_ok-groups.ensures;
      tells = tells_none c.args.core.now c.in_ok-groups.groups c.in_ok-sets.sets (c.in_ok-sets.ensures.long ∙ many)
          (subst (λ n. Each (λ b set. (e : ℕ) → e < n → Holds set e) c.in_ok-sets.sets) many c.in_ok-sets.ensures.all);
    }

pub returns : goal.returns
returns c =
    let g = c.in_ok-groups.groups in
    tells_all c.args.core.now g c.formed.ensures c.in_ok-groups.ensures (length g.firsts) c.keep_groups.new.sets (omega arith) c.in_ok-keep_groups.ensures
