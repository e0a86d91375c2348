pub mod Accesses
pub mod AheadLaws
pub mod Before
pub mod Clock
pub mod Counting
pub mod Laws
