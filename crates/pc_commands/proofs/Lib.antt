pub mod Chosen
mod Crowding
pub mod EventsTold
mod InOrder
mod MadeEnds
pub mod Neighbouring
pub mod OneEvents
pub mod OneOutcome
pub mod OneSwap
pub mod OneTable
pub mod OneTrace
pub mod Ran
mod RanEnds
pub mod RunEnds
pub mod SwapTold
pub mod Tables
pub mod TraceTold
mod Turns
