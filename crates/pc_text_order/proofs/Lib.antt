pub mod Tokens
pub mod Among
pub mod Files
pub mod Bodies
pub mod Declarations
