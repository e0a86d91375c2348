pub mod Generated
pub mod Program
