-- Texts and blocks, and what reader and writer give for them, as one list; the one claim is in proofs/Cases.antt. Assumes nothing: these are definitions.
use Rattle.std.specs.Prelude.{Bool, true, false, ◌&&◌, List, [], ◌∷◌, ◌++◌, ℕ, zero, suc, ◌+◌, ◌*◌, eqb, replicate, None, Some, Option}
use Prim.Native.String.{String}
use Rattle.rules.specs.Block.{Bytes, byte, same_bytes}
use Rattle.rules.specs.Catalogue.{good_catalogue}
use Rattle.rules.specs.Listing.{decimal}
use Rattle.statements.specs.Text.{bytes_of}
use Rattle.statements.specs.Dbd.{dbd_read, dbd_write}
use Rattle.statements.specs.Lent.{read_into, write_into}

-- a text that reads to these blocks, which are then written to a text that reads to them again; a text's fault and line; blocks that are written so,
-- blocks that are not; and the two calls on lent buffers
pub data Case : Type 0 where
  reads : Bytes → Bytes → Bytes → Case
  refuses : Bytes → ℕ → ℕ → Case
  writes : Bytes → Bytes → Bytes → Case
  unwritten : Bytes → Bytes → Case
  lent_read : Bytes → Bytes → Bytes → ℕ → Bytes → Bytes → Case
  lent_write : Bytes → Bytes → Bytes → ℕ → Bytes → Case

abbrev is_text : Option Bytes → Bytes → Bool
is_text None t = false
is_text (Some s) t = same_bytes s t

abbrev is_none : Option Bytes → Bool
is_none None = true
is_none (Some s) = false

abbrev gives : Bytes → Bytes → Bytes → Bool
gives t c n =
    let r = dbd_read t in
    eqb r.fault 0 && eqb r.line 0 && eqb r.types (byte c 5) && eqb r.fields (byte c 6) && same_bytes r.catalogue c && same_bytes r.names n

abbrev back : Option Bytes → Bytes → Bytes → Bool
back None c n = false
back (Some t) c n = gives t c n

abbrev pub right : Case → Bool
right (reads t c n) = gives t c n && good_catalogue c && back (dbd_write c n) c n
right (refuses t k l) = let r = dbd_read t in eqb r.fault k && eqb r.line l && same_bytes (r.catalogue ++ r.names) []
right (writes c n t) = is_text (dbd_write c n) t
right (unwritten c n) = is_none (dbd_write c n)
right (lent_read t c n r d m) = let s = read_into t c n in eqb s.result r && same_bytes s.catalogue d && same_bytes s.names m
right (lent_write c n t r u) = let s = write_into c n t in eqb s.result r && same_bytes s.text u

-- the bench table's types, and fields that stand by their types
unfoldable pub bench_block : Bytes
bench_block =
    0x48 ∷ 0x44 ∷ 0x43 ∷ 0 ∷ 1 ∷ 4 ∷ 4 ∷ 0
    ∷ 0 ∷ 3 ∷ 1 ∷ 1 ∷ 2 ∷ 0 ∷ 0 ∷ 0
    ∷ 1 ∷ 3 ∷ 1 ∷ 1 ∷ 2 ∷ 0 ∷ 0 ∷ 0
    ∷ 2 ∷ 2 ∷ 0 ∷ 0 ∷ 0 ∷ 0 ∷ 0 ∷ 0
    ∷ 1 ∷ 1 ∷ 0 ∷ 0 ∷ 0 ∷ 0 ∷ 0 ∷ 0
    ∷ 1 ∷ 1 ∷ 2 ∷ 0 ∷ 2 ∷ 1 ∷ 2 ∷ 0 ∷ 2 ∷ 3 ∷ 1 ∷ 0 ∷ 3 ∷ 1 ∷ 1 ∷ 0 ∷ []

unfoldable pub bench_names : Bytes
bench_names =
    0x48 ∷ 0x44 ∷ 0x4E ∷ 0 ∷ 1 ∷ 4 ∷ 4 ∷ 0
    ∷ bytes_of "BENCH   UNIT    STEP    TRY     NOTE    UNO     SNO     VERDICT CODE    "

abbrev line1 : String
line1 = "DBD NAME=BENCH\n"

abbrev line2 : String
line2 = "SEGM NAME=UNIT, PARENT=0, BYTES=3\n"

abbrev line3 : String
line3 = "FIELD NAME=(UNO,SEQ,U), BYTES=2, START=1, TYPE=C\n"

abbrev line4 : String
line4 = "SEGM NAME=STEP, PARENT=UNIT, BYTES=3\n"

abbrev lines5 : String
lines5 = "FIELD NAME=(SNO,SEQ,U), BYTES=2, START=1, TYPE=X\nFIELD NAME=VERDICT, BYTES=1, START=3, TYPE=C\n"

abbrev line7 : String
line7 = "SEGM NAME=TRY, PARENT=STEP, BYTES=2\n"

abbrev lines8 : String
lines8 = "FIELD NAME=CODE, BYTES=1, START=1, TYPE=C\nSEGM NAME=NOTE, PARENT=UNIT, BYTES=1\n"

-- nine lines, the first, fourth and seventh as given
unfoldable pub bench_with : String → String → String → Bytes
bench_with a b c = bytes_of a ++ bytes_of line2 ++ bytes_of line3 ++ bytes_of b ++ bytes_of lines5 ++ bytes_of c ++ bytes_of lines8

unfoldable pub bench_written : Bytes
bench_written =
    bytes_of "DBD NAME=BENCH\nSEGM NAME=UNIT,PARENT=0,BYTES=3\nFIELD NAME=(UNO,SEQ,U),BYTES=2,START=1,TYPE=C\n"
    ++ bytes_of "SEGM NAME=STEP,PARENT=UNIT,BYTES=3\nFIELD NAME=(SNO,SEQ,U),BYTES=2,START=1,TYPE=C\nFIELD NAME=VERDICT,BYTES=1,START=3,TYPE=C\n"
    ++ bytes_of "SEGM NAME=TRY,PARENT=STEP,BYTES=2\nFIELD NAME=CODE,BYTES=1,START=1,TYPE=C\nSEGM NAME=NOTE,PARENT=UNIT,BYTES=1\n"

-- a data base P with a root Q of 12 bytes, and what follows it
unfoldable pub after : String → Bytes
after s = bytes_of "DBD NAME=P\nSEGM NAME=Q,PARENT=0,BYTES=12\n" ++ bytes_of s

-- one type of 12 bytes and its fields, each with its start and length, and their names
unfoldable pub one_type : ℕ → ℕ → ℕ → ℕ → Bytes → Bytes
one_type f kind start long es = 0x48 ∷ 0x44 ∷ 0x43 ∷ 0 ∷ 1 ∷ 1 ∷ f ∷ 0 ∷ 0 ∷ 12 ∷ kind ∷ start ∷ long ∷ 0 ∷ 0 ∷ 0 ∷ es

unfoldable pub named : ℕ → ℕ → String → Bytes
named t f s = 0x48 ∷ 0x44 ∷ 0x4E ∷ 0 ∷ 1 ∷ t ∷ f ∷ 0 ∷ bytes_of s

-- k lines of SEGM from number i on, each right beneath the root
unfoldable pub many_segments : ℕ → ℕ → Bytes
many_segments i zero = []
many_segments i (suc k) = bytes_of "SEGM NAME=S" ++ decimal i ++ bytes_of ",PARENT=Q,BYTES=1\n" ++ many_segments (suc i) k

unfoldable pub many_fields : ℕ → ℕ → Bytes
many_fields i zero = []
many_fields i (suc k) = bytes_of "FIELD NAME=F" ++ decimal i ++ bytes_of ",BYTES=1,START=1,TYPE=C\n" ++ many_fields (suc i) k

-- k lines of SEGM from number i on, each beneath the one before it
unfoldable pub deep_segments : ℕ → ℕ → Bytes
deep_segments i zero = []
deep_segments i (suc k) =
    bytes_of "SEGM NAME=S" ++ decimal (suc i) ++ bytes_of ",PARENT=S" ++ decimal i ++ bytes_of ",BYTES=1\n" ++ deep_segments (suc i) k

-- two types of 12 bytes, and a field of each, that of the second type first
unfoldable pub descending : Bytes
descending =
    0x48 ∷ 0x44 ∷ 0x43 ∷ 0 ∷ 1 ∷ 2 ∷ 2 ∷ 0 ∷ 0 ∷ 12 ∷ 0 ∷ 0 ∷ 0 ∷ 0 ∷ 0 ∷ 0 ∷ 1 ∷ 12 ∷ 0 ∷ 0 ∷ 0 ∷ 0 ∷ 0 ∷ 0
    ∷ 2 ∷ 1 ∷ 1 ∷ 0 ∷ 1 ∷ 1 ∷ 1 ∷ 0 ∷ []

-- two types of 12 bytes, the second with a key and a field over it
unfoldable pub later_key : Bytes
later_key =
    0x48 ∷ 0x44 ∷ 0x43 ∷ 0 ∷ 1 ∷ 2 ∷ 1 ∷ 0 ∷ 0 ∷ 12 ∷ 0 ∷ 0 ∷ 0 ∷ 0 ∷ 0 ∷ 0 ∷ 1 ∷ 12 ∷ 1 ∷ 3 ∷ 2 ∷ 0 ∷ 0 ∷ 0
    ∷ 2 ∷ 3 ∷ 2 ∷ 0 ∷ []

-- a text whose first line is this one
unfoldable pub only : String → Bytes
only s = bytes_of s

unfoldable pub cases : List Case
cases =
    -- the example
    reads (bench_with line1 line4 line7) bench_block bench_names
    ∷ refuses (bench_with line1 line4 "SEGM NAME=TRY, PARENT=STOP, BYTES=2\n") 3 7
    ∷ refuses (bench_with "" line4 line7) 1 1
    ∷ refuses (bench_with line1 "SEGM NAME=UNIT, PARENT=UNIT, BYTES=121\n" line7) 2 4
    ∷ writes bench_block bench_names bench_written
    ∷ reads bench_written bench_block bench_names
    -- the end is a line: no DBD, or no SEGM
    ∷ refuses [] 1 1
    ∷ refuses (bytes_of "DBD NAME=P") 1 2
    ∷ refuses (bytes_of "\n\nDBD NAME=P\n") 1 4
    -- tabs, CR and lines of blanks; a number with zeros before it, and one that no byte holds
    ∷ reads (bytes_of "\n DBD\tNAME = P \n\n" ++ (0x0D ∷ bytes_of "SEGM NAME=Q , PARENT=0,BYTES =0000000000000000000000000012") ++ (0x0D ∷ 0x0A ∷ []))
    (one_type 0 0 0 0 []) (named 1 0 "P       Q       ")
    ∷ refuses (bytes_of "DBD NAME=P\nSEGM NAME=Q,PARENT=0,BYTES=340282366920938463463374607431768211468\n") 20 2
    ∷ refuses (after "FIELD NAME=G,BYTES=18446744073709551615,START=3,TYPE=C\n") 20 3
    -- a byte that belongs to no statement; a statement that is none; operands missing, misplaced or once more
    ∷ refuses (bytes_of "DBD NAME=P" ++ (0 ∷ [])) 1 1
    ∷ refuses (after "* done\n") 1 3
    ∷ refuses (after "DBDGEN\n") 1 3
    ∷ refuses (after "SEGM NAME=R,BYTES=1,PARENT=Q\n") 1 3
    ∷ refuses (after "FIELD NAME=(G,SEQ),BYTES=1,START=1,TYPE=C\n") 1 3
    ∷ refuses (after "FIELD NAME=G,BYTES=1,START=1,TYPE=P\n") 1 3
    ∷ refuses (after "FIELD NAME=G,BYTES=1,START=1,TYPE=C,\n") 1 3
    -- a name of nine bytes, and one that begins with a digit
    ∷ refuses (bytes_of "DBD NAME=ABCDEFGHI\n") 1 1
    ∷ refuses (after "SEGM NAME=R,PARENT=1Q,BYTES=1\n") 1 3
    -- a second DBD, a second root, a second key (before its name and its rules are looked at)
    ∷ refuses (after "DBD NAME=P\n") 1 3
    ∷ refuses (after "SEGM NAME=R,PARENT=0,BYTES=1\n") 1 3
    ∷ refuses (after "FIELD NAME=(G,SEQ,U),BYTES=2,START=1,TYPE=C\nFIELD NAME=(G,SEQ,M),BYTES=0,START=1,TYPE=C\n") 1 4
    -- names twice, small letters apart, and the same name in three spaces; a key behind another field
    ∷ refuses (after "FIELD NAME=G,BYTES=2,START=1,TYPE=C\nFIELD NAME=G,BYTES=2,START=0,TYPE=C\n") 2 4
    ∷ reads (after "FIELD NAME=Q,BYTES=2,START=11,TYPE=C\nFIELD NAME=(q,SEQ,M),BYTES=12,START=1,TYPE=X")
    (one_type 2 2 1 12 (1 ∷ 11 ∷ 2 ∷ 0 ∷ 1 ∷ 1 ∷ 12 ∷ 0 ∷ [])) (named 1 2 "P       Q       Q       q       ")
    -- a parent that comes later, or is the segment itself
    ∷ refuses (after "SEGM NAME=R,PARENT=R,BYTES=200\nSEGM NAME=S,PARENT=Q,BYTES=1\n") 3 3
    -- CX: a parent that is no longer open, a field past L
    ∷ refuses (after "SEGM NAME=R,PARENT=Q,BYTES=1\nSEGM NAME=S,PARENT=Q,BYTES=1\nSEGM NAME=U,PARENT=R,BYTES=1\n") 20 5
    ∷ refuses (after "FIELD NAME=G,BYTES=2,START=12,TYPE=C\n") 20 3
    -- the 33rd SEGM and the 65th FIELD
    ∷ refuses (after "" ++ many_segments 2 32) 20 34
    ∷ refuses (after "" ++ many_fields 1 65) 20 67
    -- the writer's key is the first field that has its bytes
    ∷ writes (one_type 2 1 2 3 (1 ∷ 2 ∷ 3 ∷ 0 ∷ 1 ∷ 2 ∷ 3 ∷ 0 ∷ [])) (named 1 2 "P       Q       G       H       ")
    (after "FIELD NAME=(G,SEQ,U),BYTES=3,START=2,TYPE=C\nFIELD NAME=H,BYTES=3,START=2,TYPE=C\n")
    -- no field for the key, names twice, a name with a hole, T of the list, a byte too few, a byte too many
    ∷ unwritten (one_type 1 1 2 3 (1 ∷ 2 ∷ 4 ∷ 0 ∷ [])) (named 1 1 "P       Q       G       ")
    ∷ unwritten (one_type 2 0 0 0 (1 ∷ 2 ∷ 3 ∷ 0 ∷ 1 ∷ 2 ∷ 3 ∷ 0 ∷ [])) (named 1 2 "P       Q       G       G       ")
    ∷ unwritten (one_type 0 0 0 0 []) (named 1 0 "P       Q Q     ")
    ∷ unwritten (one_type 0 0 0 0 []) (named 2 0 "P       Q       ")
    ∷ unwritten (one_type 0 0 0 0 []) (named 1 0 "P       Q      ")
    ∷ unwritten (one_type 0 0 0 0 []) (named 1 0 "P       Q        ")
    -- lent buffers: bytes behind stay; one byte too short is AB and nothing is written; a fault comes first
    ∷ lent_read (after "") (replicate 17 0xFF) (replicate 24 0xFF) 256 (one_type 0 0 0 0 (0xFF ∷ [])) (named 1 0 "P       Q       ")
    ∷ lent_read (after "") (replicate 16 0xFF) (replicate 23 0xFF) 28 (replicate 16 0xFF) (replicate 23 0xFF)
    ∷ lent_read (after "X") [] [] (1 + 3 * 4294967296) [] []
    ∷ lent_write (one_type 0 0 0 0 []) (named 1 0 "P       Q       ") (replicate 42 0x2E) (41 * 4294967296) (after "" ++ (0x2E ∷ []))
    ∷ lent_write (one_type 0 0 0 0 []) (named 1 0 "P       Q       ") (replicate 40 0x2E) 28 (replicate 40 0x2E)
    ∷ []

-- R73: a fault in a last line without LF; lines of blanks count; a statement does not go on behind a comma; no labels
unfoldable pub line_cases : List Case
line_cases =
    refuses (after "END") 1 3
    ∷ refuses (bytes_of "\n \t\nDBD NAME=P\n\nDBD NAME=P\n") 1 5
    ∷ refuses (after "SEGM NAME=R,\nPARENT=Q,BYTES=1\n") 1 3
    ∷ refuses (only "A DBD NAME=P\n") 1 1
    ∷ refuses (bytes_of "DBD NAME=P") 1 2
    ∷ []

-- R74: a vertical tab is no blank; two words are parted; a word is not; quotes and high bytes
unfoldable pub word_cases : List Case
word_cases =
    refuses (bytes_of "DBD" ++ (0x0B ∷ bytes_of "NAME=P\n")) 1 1
    ∷ refuses (only "DBDNAME=P\n") 1 1
    ∷ refuses (only "DBD NA ME=P\n") 1 1
    ∷ refuses (only "DBD NAME='P'\n") 1 1
    ∷ refuses (bytes_of "DBD NAME=P" ++ (0x80 ∷ 0x0A ∷ [])) 1 1
    ∷ refuses (only "DBD NAME=P;\n") 1 1
    ∷ reads (bytes_of "DBD NAME=P\nSEGM\tNAME\t=\tQ\t,PARENT=0\t, BYTES=12 ") (one_type 0 0 0 0 []) (named 1 0 "P       Q       ")
    ∷ reads (bytes_of "DBD NAME=P" ++ (0x0D ∷ bytes_of "\nSEGM NAME=Q,PARENT=0,BYTES=12\n")) (one_type 0 0 0 0 []) (named 1 0 "P       Q       ")
    ∷ []

-- R75: names of 1 and 8 bytes; an underscore; keywords in capitals, which may be names; numbers
unfoldable pub name_cases : List Case
name_cases =
    reads (bytes_of "DBD NAME=ABCDEFG8\nSEGM NAME=z,PARENT=0,BYTES=12\n") (one_type 0 0 0 0 []) (named 1 0 "ABCDEFG8z       ")
    ∷ refuses (only "DBD NAME=A_B\n") 1 1
    ∷ refuses (only "dbd NAME=P\n") 1 1
    ∷ refuses (only "DBD Name=P\n") 1 1
    ∷ reads (bytes_of "DBD NAME=DBD\nSEGM NAME=PARENT,PARENT=0,BYTES=12\n") (one_type 0 0 0 0 []) (named 1 0 "DBD     PARENT  ")
    ∷ refuses (bytes_of "DBD NAME=P\nSEGM NAME=Q,PARENT=0,BYTES=1A\n") 1 2
    ∷ refuses (bytes_of "DBD NAME=P\nSEGM NAME=Q,PARENT=0,BYTES=\n") 1 2
    ∷ refuses (bytes_of "DBD NAME=P\nSEGM NAME=Q,PARENT=0,BYTES=" ++ replicate 300 0x39) 20 2
    ∷ refuses (only "DBD NAME=ABCDEFGHI\n") 1 1
    ∷ refuses (only "DBD NAME=1Q\n") 1 1
    ∷ refuses (bytes_of "DBD NAME=P\nSEGM NAME=Q,PARENT=0,BYTES=340282366920938463463374607431768211468\n") 20 2
    ∷ []

-- R76: no operand twice or left out; 00 is no parent; a name in brackets; other operands
unfoldable pub form_cases : List Case
form_cases =
    refuses (bytes_of "DBD NAME=P\nSEGM NAME=Q,PARENT=00,BYTES=1\n") 1 2
    ∷ refuses (bytes_of "DBD NAME=P\nSEGM NAME=Q,BYTES=1\n") 1 2
    ∷ refuses (bytes_of "DBD NAME=P\nSEGM NAME=Q,PARENT=0,BYTES=1,BYTES=1\n") 1 2
    ∷ refuses (only "DBD NAME=P,ACCESS=HDAM\n") 1 1
    ∷ refuses (after "FIELD NAME=(G),BYTES=1,START=1,TYPE=C\n") 1 3
    ∷ refuses (after "FIELD NAME=(G,SEQ,X),BYTES=1,START=1,TYPE=C\n") 1 3
    ∷ refuses (after "FIELD NAME=G,START=1,BYTES=1,TYPE=C\n") 1 3
    ∷ refuses (after "FIELD NAME=G,BYTES=1,START=1\n") 1 3
    ∷ refuses (after "FIELD NAME=G,BYTES=1,START=1,TYPE=P\n") 1 3
    ∷ []

-- R77: SEGM before DBD, FIELD before SEGM; a key of kind 2 in the second of three fields
unfoldable pub place_cases : List Case
place_cases =
    refuses (only "SEGM NAME=Q,PARENT=0,BYTES=1\n") 1 1
    ∷ refuses (only "DBD NAME=P\nFIELD NAME=G,BYTES=1,START=1,TYPE=C\n") 1 2
    ∷ reads (after "FIELD NAME=G,BYTES=1,START=1,TYPE=C\nFIELD NAME=(H,SEQ,M),BYTES=3,START=10,TYPE=C\nFIELD NAME=I,BYTES=12,START=1,TYPE=C\n")
    (one_type 3 2 10 3 (1 ∷ 1 ∷ 1 ∷ 0 ∷ 1 ∷ 10 ∷ 3 ∷ 0 ∷ 1 ∷ 1 ∷ 12 ∷ 0 ∷ [])) (named 1 3 "P       Q       G       H       I       ")
    ∷ refuses (after "FIELD NAME=(G,SEQ,U),BYTES=2,START=1,TYPE=C\nFIELD NAME=(H,SEQ,U),BYTES=2,START=1,TYPE=C\n") 1 4
    ∷ reads (after "SEGM NAME=R,PARENT=Q,BYTES=12\nFIELD NAME=(G,SEQ,U),BYTES=2,START=3,TYPE=C\n") later_key (named 2 1 "P       Q       R       G       ")
    ∷ []

-- R78: the first line, not the smallest fault of all; of one line the smallest; a name before the parent, the parent before the rules
unfoldable pub order_cases : List Case
order_cases =
    refuses (after "SEGM NAME=R,PARENT=Q,BYTES=0\nDBD NAME=P\n") 20 3
    ∷ refuses (after "SEGM NAME=Q,PARENT=Z,BYTES=0\n") 2 3
    ∷ refuses (after "SEGM NAME=R,PARENT=Z,BYTES=0\n") 3 3
    ∷ refuses (bytes_of "DBD NAME=P\nSEGM NAME=Q,PARENT=Q,BYTES=1\n") 3 2
    ∷ refuses (after "" ++ many_segments 2 31 ++ bytes_of "SEGM NAME=Q,PARENT=Q,BYTES=1\n") 2 34
    ∷ refuses (after "FIELD NAME=(G,SEQ,U),BYTES=2,START=1,TYPE=C\nFIELD NAME=(G,SEQ,M),BYTES=0,START=1,TYPE=C\n") 1 4
    ∷ []

-- R78: lengths of 0, 120 and 121; levels 15 and 16; spans that end with the segment and behind it
unfoldable pub rule_cases : List Case
rule_cases =
    refuses (bytes_of "DBD NAME=P\nSEGM NAME=Q,PARENT=0,BYTES=0\n") 20 2
    ∷ refuses (bytes_of "DBD NAME=P\nSEGM NAME=Q,PARENT=0,BYTES=121\n") 20 2
    ∷ reads (bytes_of "DBD NAME=P\nSEGM NAME=Q,PARENT=0,BYTES=120\n")
    (0x48 ∷ 0x44 ∷ 0x43 ∷ 0 ∷ 1 ∷ 1 ∷ 0 ∷ 0 ∷ 0 ∷ 120 ∷ 0 ∷ 0 ∷ 0 ∷ 0 ∷ 0 ∷ 0 ∷ []) (named 1 0 "P       Q       ")
    ∷ refuses (bytes_of "DBD NAME=P\nSEGM NAME=S1,PARENT=0,BYTES=1\n" ++ deep_segments 1 15) 20 17
    ∷ refuses (after "FIELD NAME=G,BYTES=1,START=0,TYPE=C\n") 20 3
    ∷ refuses (after "FIELD NAME=G,BYTES=0,START=1,TYPE=C\n") 20 3
    ∷ refuses (after "FIELD NAME=G,BYTES=12,START=1,TYPE=C\nFIELD NAME=H,BYTES=12,START=2,TYPE=C\n") 20 4
    ∷ refuses (after "" ++ many_segments 2 32) 20 34
    ∷ refuses (after "" ++ many_fields 1 65) 20 67
    ∷ []

-- R82: a value type, a field of an earlier type behind one of a later, a key of another start, names that are none, and other headers
unfoldable pub pair_cases : List Case
pair_cases =
    unwritten (one_type 1 0 0 0 (1 ∷ 2 ∷ 3 ∷ 1 ∷ [])) (named 1 1 "P       Q       G       ")
    ∷ unwritten (one_type 1 2 3 3 (1 ∷ 2 ∷ 3 ∷ 0 ∷ [])) (named 1 1 "P       Q       G       ")
    ∷ unwritten descending (named 2 2 "P       Q       R       G       H       ")
    ∷ unwritten (one_type 0 0 0 0 []) (named 1 0 "P       7       ")
    ∷ unwritten (one_type 0 0 0 0 []) (named 1 0 "        Q       ")
    ∷ unwritten (one_type 0 0 0 0 []) (0x48 ∷ 0x44 ∷ 0x43 ∷ 0 ∷ 1 ∷ 1 ∷ 0 ∷ 0 ∷ bytes_of "P       Q       ")
    ∷ unwritten (one_type 0 0 0 0 []) (0x48 ∷ 0x44 ∷ 0x4E ∷ 0 ∷ 2 ∷ 1 ∷ 0 ∷ 0 ∷ bytes_of "P       Q       ")
    ∷ unwritten (one_type 0 0 0 0 []) (0x48 ∷ 0x44 ∷ 0x4E ∷ 0 ∷ 1 ∷ 1 ∷ 0 ∷ 1 ∷ bytes_of "P       Q       ")
    ∷ unwritten (one_type 1 1 2 3 (1 ∷ 2 ∷ 4 ∷ 0 ∷ [])) (named 1 1 "P       Q       G       ")
    ∷ unwritten (one_type 2 0 0 0 (1 ∷ 2 ∷ 3 ∷ 0 ∷ 1 ∷ 2 ∷ 4 ∷ 0 ∷ [])) (named 1 2 "P       Q       G       G       ")
    ∷ []

-- R80, R83: a catalogue that has room, names that have not; a pair that is refused, though there is room
unfoldable pub lent_cases : List Case
lent_cases =
    lent_read (after "") (replicate 16 0xFF) (replicate 24 0xFF) 256 (one_type 0 0 0 0 []) (named 1 0 "P       Q       ")
    ∷ lent_read (after "") (replicate 15 0xFF) (replicate 24 0xFF) 28 (replicate 15 0xFF) (replicate 24 0xFF)
    ∷ lent_write (one_type 0 0 0 0 []) (named 1 0 "P       q Q     ") (replicate 42 0x2E) 20 (replicate 42 0x2E)
    ∷ lent_write (one_type 0 0 0 0 []) (named 1 0 "P       Q       ") (replicate 41 0x2E) (41 * 4294967296) (after "")
    ∷ lent_read (after "X") [] [] (1 + 3 * 4294967296) [] []
    ∷ []

-- R81: SEQ for the first field that is the key, and TYPE=C for all
unfoldable pub text_cases : List Case
text_cases =
    writes (one_type 2 1 2 3 (1 ∷ 2 ∷ 3 ∷ 0 ∷ 1 ∷ 2 ∷ 3 ∷ 0 ∷ [])) (named 1 2 "P       Q       G       H       ")
    (after "FIELD NAME=(G,SEQ,U),BYTES=3,START=2,TYPE=C\nFIELD NAME=H,BYTES=3,START=2,TYPE=C\n")
    ∷ writes later_key (named 2 1 "P       Q       R       G       ") (after "SEGM NAME=R,PARENT=Q,BYTES=12\nFIELD NAME=(G,SEQ,U),BYTES=2,START=3,TYPE=C\n")
    ∷ []
