-- The turns of a schedule as single steps.
use Rattle.std.specs.Prelude.{ℕ, List, map}
use Rattle.pc_sched.specs.declared.turns.Turn.{Turn}
use Rattle.pc_semantics.specs.Text.{steps_of}

-- The actors of all steps: each turn's actor, as many times as the turn has steps.
abbrev pub spread : List Turn → List ℕ
spread turns = steps_of (map (λ (t : Turn). (t.actor, t.times)) turns)
