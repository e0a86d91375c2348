-- How the inner parts of a command end. Only the contracts of these parts use it; it is not needed to read the contract
-- of `rcap`.
pub mod Explaining
