-- How a call holds its texts. Only the contracts of its parts use it; those of the calls do not.
pub mod Shelves
