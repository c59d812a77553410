-- What a move of bytes leaves. Assumes nothing: these are definitions.
use Rattle.std.specs.Prelude.{ℕ, ◌-◌, ◌++◌, length, take, drop}
use Rattle.rules.specs.Block.{Bytes}

abbrev pub moved_up : ℕ → Bytes → Bytes
moved_up gap b = take gap b ++ take (length b - gap) b

abbrev pub moved_down : ℕ → Bytes → Bytes
moved_down gap b = drop gap b ++ drop (length b - gap) b
