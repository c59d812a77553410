-- What a reader asks of what it holds, what its calls leave, and where it stands then. Assumes nothing: these are definitions.
use Rattle.std.specs.Prelude.{◌≡◌, false, ◌++◌, suc, ◌≤◌, length}
use Rattle.terms.specs.declared.Position.{Position}
use Rattle.terms.specs.Moves.{is_absent}
use Rattle.rules.specs.Block.{Bytes, byte}
use Rattle.rules.specs.Table.{listing}
use Rattle.rules.specs.Arguments.{list_read, get_levels}
use Rattle.rules.specs.Calls.{After, get_next, get_next_within}
use Rattle.arguments.specs.Asked.{Pair}
use Rattle.answers.specs.Ready.{Ready, Again}
use Rattle.reader.specs.declared.Reader.{Reader}

-- sound blocks, position and lists, and an area that holds the data of any cell; byte 5 of the table is the cell size
abbrev pub Asking : Bytes → Bytes → Bytes → Bytes → Position → Bytes → Type 0
Asking cat tab one two pos area = Ready cat tab (byte tab 5) pos (one ++ two) × Pair cat one two × (byte tab 5 ≤ suc (length area))

-- and a place that such a GN has moved onto, or that none has
abbrev pub AskingAgain : Bytes → Bytes → Bytes → Bytes → Position → Bytes → Type 0
AskingAgain cat tab one two pos area =
    Ready cat tab (byte tab 5) pos (one ++ two) × Pair cat one two × (byte tab 5 ≤ suc (length area)) × Again cat tab (one ++ two) pos

-- and a parentage, which GNP asks for
abbrev pub AskingWithin : Bytes → Bytes → Bytes → Bytes → Position → Bytes → Type 0
AskingWithin cat tab one two pos area =
    Ready cat tab (byte tab 5) pos (one ++ two) × Pair cat one two × (byte tab 5 ≤ suc (length area)) × (is_absent pos.parentage ≡ false)

-- what GN without a hold leaves
abbrev pub got_next : Bytes → Bytes → Bytes → Position → Bytes → After
got_next cat tab list pos area = get_next cat (listing cat tab) pos area false (get_levels cat list (list_read cat list).arguments)

-- and GNP
abbrev pub got_within : Bytes → Bytes → Bytes → Position → Bytes → After
got_within cat tab list pos area = get_next_within cat (listing cat tab) pos area false (get_levels cat list (list_read cat list).arguments)

-- the same slices, read on from another position
abbrev pub moved : Reader → Position → Reader
moved r pos = record { cat = r.cat; tab = r.tab; one = r.one; two = r.two; position = pos }
