-- What is proved of every program with a valid annotation, in terms of the machine alone: it is safe.
use Rattle.pc_core.specs.{CoreData.CoreData, Formed.Formed}
use Rattle.pc_ann.specs.declared.annotation.Ann.{Ann}
use Rattle.pc_valid.specs.Valid.{Valid}
use Rattle.pc_semantics.specs.Safety.{Safe}

-- A program with a valid annotation is safe: over every list of actors, no two actors race, waiting messages are let
-- alone, and no step lacks anything.
abbrev pub ValidIsSafe : Type 0
ValidIsSafe = (core : CoreData) (ann : Ann) → Formed core → Valid core ann → Safe core
