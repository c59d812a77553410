-- The argument list (R24 to R28): each fault, their order inside one argument and from the left, and lists that are sound at each border. The claim is in
-- proofs/Cases.antt. Assumes nothing: these are definitions.
use Rattle.std.specs.Prelude.{true, List, [], ◌∷◌, ◌++◌, ℕ}
use Rattle.terms.specs.declared.Status.{Status}
use Rattle.terms.specs.declared.Status.TheVariants.{Blank, GE, AC, AJ, AK}
use Rattle.terms.specs.Moves.{fresh}
use Rattle.rules.specs.Block.{Bytes}
use Rattle.rules.specs.Cases.{Case, table_of, calls, gives, place, stands, nothing_told, ascii, upon, parent, position, gu}
use Rattle.rules.specs.Cases.Bench.{catalogue, table, named, unit07, step14}
use Rattle.rules.specs.Cases.Further.{multiple, two_segments}
use Rattle.rules.specs.Cases.Catalogues.{field_catalogue}

-- GU with this list, held on cell 3: the fault, and nothing changed
abbrev fault : Status → Bytes → Case
fault s list = calls catalogue table (position (upon 3) (parent 0) true) (
    gu list (gives s ∷ stands (position (upon 3) (parent 0) true) ∷ nothing_told ∷ []) ∷ [])

-- GU with this list, from fresh, finds this cell
abbrev reaches : ℕ → Bytes → Case
reaches i list = calls catalogue table fresh (gu list (gives Blank ∷ place (upon i) ∷ []) ∷ [])

unfoldable pub list_cases : List Case
list_cases =
    -- AC: no type of the catalogue
    fault AC (named 0)
    ∷ fault AC (named 5)
    ∷ fault AC (named 255)
    ∷ reaches 0 (named 1)
    ∷ reaches 6 (named 4)
    -- AC: not beneath the type before; a type is not beneath itself, nor beneath its child, its sibling or a sibling's child
    ∷ fault AC (named 2 ++ named 2)
    ∷ fault AC (named 2 ++ named 1)
    ∷ fault AC (named 2 ++ named 4)
    ∷ fault AC (named 4 ++ named 3)
    ∷ fault AC (named 3 ++ named 4)
    ∷ fault AC (named 1 ++ named 1)
    -- the type right before it, not an earlier one
    ∷ fault AC (named 1 ++ named 2 ++ named 4)
    ∷ fault AC (named 1 ++ named 3 ++ named 2)
    -- a child and a grandchild lie beneath; the first argument may be any type
    ∷ reaches 2 (named 1 ++ named 2 ++ named 3)
    ∷ reaches 2 (named 1 ++ named 3)
    ∷ reaches 6 (named 1 ++ named 4)
    ∷ reaches 2 (named 2 ++ named 3)
    ∷ reaches 2 (named 3)
    -- AJ: no operator, or one above 6, with a field and a value that would do for another
    ∷ fault AJ (1 ∷ [])
    ∷ fault AJ (named 1 ++ (2 ∷ []))
    ∷ fault AJ (1 ∷ 7 ∷ 1 ∷ ascii "07")
    ∷ fault AJ (1 ∷ 255 ∷ 1 ∷ ascii "07")
    ∷ reaches 0 (1 ∷ 6 ∷ 1 ∷ ascii "07")
    -- AJ: no field number
    ∷ fault AJ (1 ∷ 1 ∷ [])
    ∷ fault AJ (1 ∷ 6 ∷ [])
    -- AK: no field, or one of another type
    ∷ fault AK (1 ∷ 1 ∷ 0 ∷ ascii "07")
    ∷ fault AK (1 ∷ 1 ∷ 5 ∷ ascii "07")
    ∷ fault AK (1 ∷ 1 ∷ 255 ∷ ascii "07")
    ∷ fault AK (1 ∷ 1 ∷ 2 ∷ ascii "07")
    ∷ fault AK (2 ∷ 1 ∷ 1 ∷ ascii "14")
    ∷ fault AK (4 ∷ 1 ∷ 3 ∷ ascii "n")
    ∷ reaches 1 (2 ∷ 1 ∷ 4 ∷ ascii "P")
    -- a catalogue without fields
    ∷ calls (field_catalogue 0) (table_of 2 0 []) fresh (gu (1 ∷ 1 ∷ 1 ∷ ascii "a") (gives AK ∷ []) ∷ [])
    -- field 0 is none, though the bytes before the fields would make one of type 1
    ∷ calls multiple two_segments fresh (gu (1 ∷ 1 ∷ 0 ∷ []) (gives AK ∷ []) ∷ [])
    -- AJ: a value that is too short, by the length of its field
    ∷ fault AJ (1 ∷ 1 ∷ 1 ∷ [])
    ∷ fault AJ (1 ∷ 1 ∷ 1 ∷ ascii "0")
    ∷ fault AJ (3 ∷ 1 ∷ 3 ∷ [])
    ∷ reaches 0 unit07
    ∷ reaches 2 (3 ∷ 1 ∷ 3 ∷ ascii "P")
    -- inside one argument: type, operator, field number, value, though what follows it is faulty too or not there
    ∷ fault AC (5 ∷ [])
    ∷ fault AC (5 ∷ 7 ∷ [])
    ∷ fault AC (5 ∷ 1 ∷ 9 ∷ [])
    ∷ fault AC (named 2 ++ (2 ∷ []))
    ∷ fault AC (5 ∷ 1 ∷ 1 ∷ [])
    ∷ fault AJ (1 ∷ 7 ∷ [])
    ∷ fault AJ (1 ∷ 7 ∷ 9 ∷ ascii "07")
    ∷ fault AJ (1 ∷ 7 ∷ 2 ∷ [])
    ∷ fault AK (1 ∷ 1 ∷ 5 ∷ [])
    ∷ fault AK (1 ∷ 1 ∷ 2 ∷ [])
    ∷ fault AK (1 ∷ 1 ∷ 0 ∷ ascii "0")
    -- R26: an earlier argument's fault answers
    ∷ fault AJ (1 ∷ 7 ∷ 1 ∷ ascii "07" ++ named 9)
    ∷ fault AK (1 ∷ 1 ∷ 2 ∷ ascii "07" ++ named 9)
    ∷ fault AK (1 ∷ 1 ∷ 5 ∷ ascii "07" ++ (2 ∷ 7 ∷ []))
    ∷ fault AC (named 9 ++ (2 ∷ 7 ∷ []))
    ∷ fault AC (named 9 ++ (2 ∷ 1 ∷ 9 ∷ ascii "14"))
    ∷ fault AC (unit07 ++ named 9)
    ∷ fault AJ (unit07 ++ (2 ∷ 9 ∷ []))
    ∷ fault AK (unit07 ++ (2 ∷ 1 ∷ 1 ∷ ascii "14"))
    ∷ fault AJ (unit07 ++ (2 ∷ 1 ∷ 2 ∷ ascii "1"))
    ∷ reaches 3 (unit07 ++ step14)
    -- the next argument begins behind the value: a value byte is no type
    ∷ reaches 4 (2 ∷ 1 ∷ 2 ∷ ascii "14" ++ named 3)
    ∷ calls catalogue table fresh (gu (2 ∷ 1 ∷ 2 ∷ 3 ∷ 0 ∷ []) (gives GE ∷ []) ∷ [])
    -- R28: each argument counts for the segment of its type
    ∷ reaches 5 (unit07 ++ step14 ++ (3 ∷ 1 ∷ 3 ∷ ascii "P"))
    ∷ reaches 8 (1 ∷ 1 ∷ 1 ∷ ascii "09" ++ step14)
    ∷ calls catalogue table fresh (gu (1 ∷ 1 ∷ 1 ∷ ascii "09" ++ named 3) (gives GE ∷ []) ∷ [])
    ∷ calls catalogue table fresh (gu (1 ∷ 1 ∷ 1 ∷ ascii "09" ++ named 4) (gives GE ∷ []) ∷ [])
    ∷ []
