-- What is proved of every program with a valid annotation, in terms of the machine alone: how it begins, and that no
-- step lacks anything.
use Rattle.std.specs.Prelude.{◌≡◌, ℕ, List, length}
use Rattle.pc_core.specs.{CoreData.CoreData, Formed.Formed}
use Rattle.pc_ann.specs.declared.annotation.Ann.{Ann}
use Rattle.pc_valid.specs.Valid.{Valid}
use Rattle.pc_semantics.specs.{Configurations.start, Step.after, Safety.LacksNothing}

-- A program begins with two actors: the stream, and Main, whose constructor's message waits.
abbrev pub StartHasTwoActors : Type 0
StartHasTwoActors = (core : CoreData) → Formed core → length (start core).actors ≡ 2

-- A program with a valid annotation never lacks anything: over every list of actors, no actor's next step lacks its
-- value, slot, object, field or method.
abbrev pub AcceptedNeverLacks : Type 0
AcceptedNeverLacks = (core : CoreData) (ann : Ann) → Formed core → Valid core ann → (list : List ℕ) → LacksNothing core (after core list)
