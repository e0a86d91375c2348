pub mod Holding
pub mod LinesNameSpans
pub mod Numbers
pub mod OneSpan
pub mod Options
pub mod Pieces
pub mod Stages
pub mod Walk
