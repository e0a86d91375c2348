pub mod Files
pub mod MemberFaults
pub mod Laws
pub mod Parts
