-- Plays: runs of the list of a seed.
use Rattle.std.specs.Prelude.{◌≡◌, ℕ, List, [], length, Result}
use Rattle.pc_core.specs.CoreData.{CoreData}
use Rattle.pc_io.specs.Sink.{Change}
use Rattle.pc_semantics.specs.Configurations.{Configuration}
use Rattle.pc_choose.specs.Lists.{Chosen}
use Rattle.pc_run.specs.{declared.counts.Progress.Progress, declared.report.Report.Report, declared.report.RunFault.RunFault, Ends.{IsAnswer, WritesText}, Underway.ReachedSoFar}

-- The run of the seed's list came to configuration c with this progress; the list has this number of steps, and none is
-- left.
pub record IsThrough (core : CoreData) (seed : ℕ) (c : Configuration) (progress : Progress) (steps : ℕ) : Type 0 where
  pub list : List ℕ
  pub chosen : Chosen core seed list
  pub reached : ReachedSoFar core list c [] progress
  pub steps_are : steps ≡ length list

-- A play returns and writes what the run of its seed's list does.
pub record PlaysAsRun (core : CoreData) (seed : ℕ) (out : Change) (result : Result Report RunFault) : Type 0 where
  pub list : List ℕ
  pub chosen : Chosen core seed list
  pub answers : IsAnswer core list out.faults_before out.faults_now result
  pub writes : WritesText core list out.before out.now result
