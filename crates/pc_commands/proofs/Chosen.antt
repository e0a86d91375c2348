-- The list that a seed chooses: there is one, with one line, and a run of it is the play of the seed.
use Rattle.std.proofs.Common.{◌≡◌, ℕ, List, sym, subst, ◌∙◌}
use Rattle.pc_choose.specs.{Laws.ListsAreOne, Lists.Chosen}
use Rattle.pc_core.specs.CoreData.{CoreData}
use Rattle.pc_io.specs.Sink.{Change}
use Rattle.pc_base.specs.Lists.{Text}
use Rattle.pc_sched_lines.specs.{Lines.IsLine, Rows.LinesAreOne}
use Rattle.pc_refusals.specs.{Verdict.{TellsPart, Verdict}, Inner.Answering.WritesVerdict}
use Rattle.pc_refusals.proofs.Statuses.{IsLate}
use Rattle.pc_commands.specs.{Play.RanChosen, Run.Ran, Schedule.IsChosenLine}
use Rattle.pc_commands.proofs.Ran.{one_ran, ran_late}

pub one_list : ListsAreOne → (core : CoreData) (seed : ℕ) (one other : List ℕ) → Chosen core seed one → Chosen core seed other → other ≡ one
one_list law core seed one other c d = let l = law core seed in l.one other d ∙ sym (l.one one c)

pub one_line : ListsAreOne → LinesAreOne → (core : CoreData) (seed : ℕ) (one other : Text) → IsChosenLine seed core one → IsChosenLine seed core other → one ≡ other
one_line law line core seed one other c d =
    line c.0 one other c.2 (subst (λ (list : List ℕ). IsLine list other) (one_list law core seed c.0 d.0 c.1 d.1) d.2)

-- ---- its run

pub chosen_late : (name : Text) (seed : ℕ) (core : CoreData) (v : Verdict) → RanChosen name seed core v → IsLate v.status
chosen_late name seed core v p = ran_late name core p.0 v p.2

pub one_chosen : ListsAreOne → (name : Text) (seed : ℕ) (core : CoreData) (v w : Verdict) → RanChosen name seed core v → RanChosen name seed core w → v ≡ w
one_chosen law name seed core v w p q =
    one_ran name core p.0 v w p.2 (subst (λ (list : List ℕ). Ran name core list w) (one_list law core seed p.0 q.0 p.1 q.1) q.2)

module _ (name : Text) (core : CoreData) (seed : ℕ) (list : List ℕ) (chosen : Chosen core seed list) (out : Change) where
  pub chosen_told : (status : ℕ) (line : Text) → WritesVerdict (Ran name core list) out status line
      → WritesVerdict (RanChosen name seed core) out status line
  chosen_told status line t = (t.0, (list, chosen, t.1), t.2, t.3, t.4)

  pub chosen_part : TellsPart (Ran name core list) out → TellsPart (RanChosen name seed core) out
  chosen_part t = (t.0, (list, chosen, t.1), t.2)
