-- The play of a seed, from how far its run came.
use Rattle.std.proofs.Common.{◌≡◌, ℕ, List, [], length, ap, ◌∙◌}
use Rattle.pc_core.specs.CoreData.{CoreData}
use Rattle.pc_semantics.specs.{Configurations.Configuration, Step.{after, outcomes}, Text.{lines, end_of}}
use Rattle.pc_run.specs.{declared.counts.Progress.Progress, declared.counts.Progress.TheVariants.{Going, TooLong}, Underway.ReachedSoFar}
use Rattle.pc_run.proofs.Stepping.{behind_all}
use Rattle.pc_choose.specs.Able.{able_actors}
use Rattle.pc_play.specs.Plays.{IsThrough}
use Rattle.pc_outcomes.specs.{declared.entry.Ending.Ending, Plays.{IsPlayOfSeed, ending_after}}

after_all : (core : CoreData) (list : List ℕ) (c : Configuration) (progress : Progress) → ReachedSoFar core list c [] progress → c ≡ after core list
after_all core list c (Going k) u = behind_all core list c k [] u
after_all core list c (TooLong n) h = h.1

pub is_play : (core : CoreData) (seed : ℕ) (c : Configuration) (progress : Progress) (steps able : ℕ) (text : List ℕ) (end : Ending) → IsThrough core seed c progress steps → able ≡ length (able_actors c) → text ≡ lines c.printed
    → ((list : List ℕ) → ReachedSoFar core list c [] progress → end ≡ ending_after able (end_of (outcomes core list)))
    → IsPlayOfSeed core seed (record { text = text; ending = end; steps = steps })
is_play core seed c progress steps able text end t a x e =
    let at_end = after_all core t.list c progress t.reached in
    record {
      list = t.list;
      chosen = t.chosen;
      text = x ∙ ap (λ (d : Configuration). lines d.printed) at_end;
      ending = e t.list t.reached ∙ ap (λ (n : ℕ). ending_after n (end_of (outcomes core t.list))) (a ∙ ap (λ (d : Configuration). length (able_actors d)) at_end);
      steps = t.steps_are;
    }
