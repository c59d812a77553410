pub mod LineEnds
pub mod LinesRead
pub mod HandedOut
pub mod FreshDraft
