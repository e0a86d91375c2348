pub mod World
mod StackForms
pub mod Fitting
mod MoveFits
mod Changes
mod Climbed
mod Calm
mod Settled
mod Taken
mod ContextLaws
mod Safe
pub mod OneHolder
pub mod Waiting
mod OthersKept
mod MoveMade
pub mod Schedules
mod Accesses
pub mod NoRace
pub mod StartFits
mod StandsOtherwise
mod Shifts
mod Rising
mod ChildForms
mod ControlKeeps
mod SlotSeen
mod ValueKeeps
mod Closing
mod Climbing
mod EvalKeeps
mod ChoicesKeep
mod ApplyKeeps
mod FieldSeen
mod GetKeeps
mod FieldWritten
mod GivenUp
mod OriginApart
mod FieldLands
mod FieldDrawn
mod FieldPut
mod PutKeeps
pub mod AllKeep
mod Merge
mod CallForms
mod Arguments
mod FirstFrame
mod ArgumentsSettle
mod CallerKept
mod CallBegins
mod FunctionCall
mod MessageSent
mod InvokeKeeps
mod Settling
mod Taking
mod SameRegions
mod ContextComes
mod ContextGoes
pub mod TakesMessage
mod ReturnKeeps
mod SlotTaken
mod SlotDepth
mod SlotStored
mod StoreKeeps
mod LiveTrees
mod LiveRules
mod LiveStarts
mod LiveScope
mod NewAddress
mod WorldGrows
mod GrownFits
mod NewObject
mod NewActor
mod MakeKeeps
mod SpawnKeeps
