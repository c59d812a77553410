-- A row of type levels. What a catalogue says of a type stands in `rules`.
pub mod Levels
