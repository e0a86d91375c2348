-- The numbers of a run.
use Rattle.std.specs.{Prelude.{ℕ, List, length}, List.count_by, FinMap.len}
use Rattle.pc_core.specs.CoreData.{CoreData}
use Rattle.pc_semantics.specs.{Step.{after, outcomes}, Text.{is_moved, is_skipped, summary, waiting}}
use Rattle.pc_run.specs.declared.report.Report.{Report}

-- The numbers of the run of a list of actors: the steps that moved and those that were skipped, and the actors, objects
-- and waiting messages at its end.
abbrev pub report_of : CoreData → List ℕ → Report
report_of core list = record {
  moved = count_by is_moved (outcomes core list);
  skipped = count_by is_skipped (outcomes core list);
  actors = length (after core list).actors;
  objects = len (after core list).objects;
  waiting = waiting (after core list);
}

-- The line with these numbers.
abbrev pub summary_of : Report → List ℕ
summary_of r = summary r.moved r.skipped r.actors r.objects r.waiting
