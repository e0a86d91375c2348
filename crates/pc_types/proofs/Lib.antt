pub mod Under
pub mod Types
pub mod Tasks
pub mod Frames
pub mod Typed
pub mod Moves
pub mod Needs
pub mod Basic
pub mod Growth
pub mod Heaps
pub mod Made
pub mod Notes
pub mod Begin
pub mod Steps
pub mod Tables
pub mod Values
mod Running
pub mod Places
mod AllFields
pub mod Inverse
pub mod EvalChildren
pub mod EvalValue
mod EvalControl
mod EvalTask
pub mod Choose
pub mod Finish
pub mod StoreTask
pub mod Origins
pub mod GetTask
pub mod PutTask
pub mod ApplyTask
pub mod InverseCalls
pub mod Popped
pub mod Callers
pub mod MakeTask
pub mod SpawnTask
pub mod InvokeTask
pub mod ReturnTask
pub mod Takes
pub mod Declarations
pub mod Needed
pub mod Starts
pub mod AllTasks
pub mod Sound
