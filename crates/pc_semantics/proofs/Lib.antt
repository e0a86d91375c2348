mod Ends
mod Maps
mod Parts
mod Computed
mod Unmoved
mod Pending
mod Held
mod Named
