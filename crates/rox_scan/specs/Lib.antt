pub mod CursorSteps
pub mod Views
pub mod Lookahead
