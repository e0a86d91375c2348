pub mod Declarations
pub mod Explanation
pub mod Known
pub mod Laws
pub mod RuleLines
pub mod Setting
