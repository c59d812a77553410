-- A text in plain letters as its bytes, so that a table of the manual can be copied as it is printed. Assumes nothing: a definition.
use Rattle.std.specs.Prelude.{List, [] as none, ◌∷◌ as ◌then◌, ℕ}
use Prim.Native.Char.{code}
use Prim.Native.String.{String, [], ◌∷◌}

abbrev pub bytes_of : String → List ℕ
bytes_of [] = none
bytes_of (c ∷ s) = code c then bytes_of s
