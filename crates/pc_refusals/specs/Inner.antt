-- How the inner parts of a command end. Only the contracts of these parts use it; it is not needed to read the contract
-- of the whole program.
pub mod Answering
pub mod Derivations
pub mod Finishing
pub mod Reading
pub mod Refusals
pub mod Stages
pub mod TwoFiles
