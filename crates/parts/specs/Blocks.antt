-- What a position's block and a table say, byte by byte, of any bytes at all. Assumes nothing: these are definitions.
use Rattle.std.specs.Prelude.{◌&&◌, ℕ, suc, ◌+◌, ◌*◌, leb, eqb, length}
use Rattle.terms.specs.Choice.{pick}
use Rattle.terms.specs.Names.{code}
use Rattle.rules.specs.Block.{Bytes, byte}
use Rattle.rules.specs.Catalogue.{is_type, length_of}
use Rattle.rules.specs.Table.{cell_size, count}

-- 1 where byte i is 1, and else 0
abbrev pub flag : Bytes → ℕ → ℕ
flag b i = pick (eqb (byte b i) 1) 1 0

-- R12: how long a table of m cells is; 0 where no table has so many
unfoldable pub table_size : Bytes → ℕ → ℕ
table_size cat m = pick (leb m 4096) (8 + m * cell_size cat) 0

-- R13: the type of cell i; 0 where it is free or none
unfoldable pub cell_type : Bytes → ℕ → ℕ
cell_type tab i = pick (leb (suc i) (count tab)) (byte tab (8 + i * byte tab 5)) 0

-- where its data begin: right behind the type; 0 where there is no segment
unfoldable pub data_start : Bytes → ℕ → ℕ
data_start tab i = pick (leb (suc i) (count tab)) (9 + i * byte tab 5) 0

-- how long they are; 0 where there is no segment, or where they would not lie in the table
unfoldable pub data_length : Bytes → Bytes → ℕ → ℕ
data_length cat tab i =
    let long = length_of cat (code (cell_type tab i)) in
    pick (is_type cat (code (cell_type tab i)) && leb (data_start tab i + long) (length tab)) long 0
