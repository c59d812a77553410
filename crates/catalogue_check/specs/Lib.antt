-- What `rules` says of a catalogue, and how far its check has come.
pub mod Levelled
