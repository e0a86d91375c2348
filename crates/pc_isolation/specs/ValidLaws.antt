-- What a valid annotation promises of waiting messages, and of what is `val`.
use Rattle.pc_core.specs.{CoreData.CoreData, Formed.Formed}
use Rattle.pc_ann.specs.declared.annotation.Ann.{Ann}
use Rattle.pc_valid.specs.Valid.{Valid}
use Rattle.pc_isolation.specs.{Laws.{AlwaysIsolated, AlwaysPassedWhole}, ForGood.ValForGood}

-- A program with a valid annotation is isolated.
abbrev pub ValidIsIsolated : Type 0
ValidIsIsolated = (core : CoreData) (ann : Ann) → Formed core → Valid core ann → AlwaysIsolated core

-- What is inside an argument stays inside until its message is taken, and is handed over as a whole.
abbrev pub ValidIsPassedWhole : Type 0
ValidIsPassedWhole = (core : CoreData) (ann : Ann) → Formed core → Valid core ann → AlwaysPassedWhole core

-- What a place declared `val` leads to is immutable for good.
abbrev pub ValidKeepsVal : Type 0
ValidKeepsVal = (core : CoreData) (ann : Ann) → Formed core → Valid core ann → ValForGood core
