pub mod Printed
mod Turns
mod Workers
