-- What a valid annotation notes is held.
use Rattle.pc_core.specs.{CoreData.CoreData, Formed.Formed}
use Rattle.pc_ann.specs.declared.annotation.Ann.{Ann}
use Rattle.pc_valid.specs.Valid.{Valid}
use Rattle.pc_sends.specs.Held.{Held}
use Rattle.pc_noted_receivers.specs.Noted.{noted_entities}

-- The noted entities are held over every list of actors.
abbrev pub AcceptedHeld : Type 0
AcceptedHeld = (core : CoreData) (ann : Ann) → Formed core → Valid core ann → Held core (noted_entities ann)
