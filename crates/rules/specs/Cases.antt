-- What a case says of a call, a check, the maker, the listing, and the test of a case. None of these is a rule: the tables of cases show the rules, each
-- in a file of its own, and the claims stand in proofs/. Assumes nothing: these are definitions.
pub mod Bench
pub mod Further
pub mod Catalogues
pub mod Positions
pub mod Lists
pub mod Compared
pub mod Tables
pub mod Gets
pub mod Along
pub mod Changes
pub mod Refusals
pub mod Listings
pub mod Untrue
pub mod Numbers
pub mod Packed
use Rattle.std.specs.Prelude.{Bool, true, false, ◌&&◌, not, List, [], ◌∷◌, ◌++◌, ℕ, eqb, length, take, None, Some}
use Prim.Native.Char.{code as char_code}
use Prim.Native.String as Text
use Rattle.terms.specs.declared.Place.{Place}
use Rattle.terms.specs.declared.Place.TheVariants.{On, Before}
use Rattle.terms.specs.declared.Position.{Position}
use Rattle.terms.specs.declared.Status.{Status}
use Rattle.terms.specs.Names.{cell, Parentage}
use Rattle.terms.specs.Statuses.{number}
use Rattle.rules.specs.Block.{Bytes}
use Rattle.rules.specs.Table.{count, segment_at}
use Rattle.rules.specs.Position.{position_bytes, position_of}
use Rattle.rules.specs.Outcome.{Outcome, Store, outcome, block_after, check_catalogue, check_table, make_status, made_table}
use Rattle.rules.specs.Listing.{decimal, listing_text}

-- the bytes of a text
abbrev pub ascii : Text.String → Bytes
ascii Text.[] = []
ascii (Text.◌∷◌ c s) = char_code c ∷ ascii s

-- a position: its place, on a cell or in the gap before one; its parentage; its hold
abbrev pub upon : ℕ → Place
upon i = On (cell i)

abbrev pub gap : ℕ → Place
gap i = Before (cell i)

abbrev pub parent : ℕ → Parentage
parent p = Some (cell p)

abbrev pub position : Place → Parentage → Bool → Position
position q p h = record { place = q; parentage = p; hold = h }

-- what is said of a call
pub data Says : Type 0 where
  -- the answer: status; type, level and length; removed
  gives : Status → Says
  tells : ℕ → ℕ → ℕ → Says
  removes : ℕ → Says
  -- the position: its place alone; its hold alone; all of it; the block of 8 bytes in which it was lent
  place : Place → Says
  held : Bool → Says
  stands : Position → Says
  block : Bytes → Says
  -- the area: its front; all of it
  shows : Bytes → Says
  fills : Bytes → Says
  -- the table: n; the type and the data of a cell; every byte
  leaves : ℕ → Says
  contains : ℕ → ℕ → Bytes → Says
  bytes : Bytes → Says

-- a call: its number, list and area; and what is said of it
pub record Step : Type 0 where
  pub call : ℕ
  pub list : Bytes
  pub area : Bytes
  pub says : List Says

-- the listing's whole output on a catalogue and a table; calls one after the other, from a position or from its block; what the checks answer; what the
-- maker answers, and every byte that it leaves; the block of a position, and back; a number of the listing
pub data Case : Type 0 where
  lists : Bytes → Bytes → Bytes → Case
  calls : Bytes → Bytes → Position → List Step → Case
  lends : Bytes → Bytes → Bytes → List Step → Case
  catalogue_is : Bytes → Status → Case
  table_is : Bytes → Bytes → Status → Case
  makes : Bytes → Bytes → Status → Bytes → Case
  block_is : Position → Bytes → Case
  writes : ℕ → Bytes → Case

-- each one passes the test
abbrev pub all : {A : Type 0} → (A → Bool) → List A → Bool
all p [] = true
all p (x ∷ xs) = p x && all p xs

abbrev pub same : Bytes → Bytes → Bool
same [] [] = true
same [] (y ∷ ys) = false
same (x ∷ xs) [] = false
same (x ∷ xs) (y ∷ ys) = eqb x y && same xs ys

abbrev pub same_status : Status → Status → Bool
same_status s t = eqb (number s) (number t)

abbrev pub stands_on : ℕ → Place → Bool
stands_on i (On c) = eqb c.0 i
stands_on i (Before c) = false

abbrev pub is_gap : ℕ → Place → Bool
is_gap i (On c) = false
is_gap i (Before c) = eqb c.0 i

abbrev pub same_place : Place → Place → Bool
same_place (On c) q = stands_on c.0 q
same_place (Before c) q = is_gap c.0 q

abbrev pub is_parent : ℕ → Parentage → Bool
is_parent i None = false
is_parent i (Some p) = eqb p.0 i

abbrev pub is_none : Parentage → Bool
is_none None = true
is_none (Some p) = false

abbrev pub same_parentage : Parentage → Parentage → Bool
same_parentage None q = is_none q
same_parentage (Some c) q = is_parent c.0 q

abbrev pub same_test : Bool → Bool → Bool
same_test true b = b
same_test false b = not b

abbrev pub same_position : Position → Position → Bool
same_position p q = same_place p.place q.place && same_parentage p.parentage q.parentage && same_test p.hold q.hold

-- on a catalogue, with the block in which the position was lent
abbrev pub met : Bytes → Bytes → Outcome → Says → Bool
met cat lent o (gives s) = same_status o.answer.status s
met cat lent o (tells t l n) = eqb o.answer.code.0 t && eqb o.answer.level l && eqb o.answer.length n
met cat lent o (removes n) = eqb o.answer.removed n
met cat lent o (place q) = same_place q o.answer.position.place
met cat lent o (held b) = same_test b o.answer.position.hold
met cat lent o (stands p) = same_position p o.answer.position
met cat lent o (block b) = same (block_after lent o.answer) b
met cat lent o (shows b) = same (take (length b) o.area) b
met cat lent o (fills b) = same o.area b
met cat lent o (leaves n) = eqb (count o.table) n
met cat lent o (contains i t b) = eqb (segment_at cat o.table i).code.0 t && same (segment_at cat o.table i).bytes b
met cat lent o (bytes b) = same o.table b

-- calls of a store
abbrev pub runs : Store → Bytes → Bytes → Bytes → Position → List Step → Bool
runs store cat tab lent pos [] = true
runs store cat tab lent pos (s ∷ ss) =
    let o = store cat tab pos s.call s.list s.area in
    all (met cat lent o) s.says && runs store cat o.table (block_after lent o.answer) o.answer.position ss

-- by the outcome of the calls over the cells or over the forest
abbrev pub right_by : Store → Case → Bool
right_by store (lists cat tab out) = same (listing_text cat tab) out
right_by store (calls cat tab pos steps) = runs store cat tab (position_bytes pos) pos steps
right_by store (lends cat tab lent steps) = runs store cat tab lent (position_of lent) steps
right_by store (catalogue_is cat s) = same_status (check_catalogue cat) s
right_by store (table_is cat tab s) = same_status (check_table cat tab) s
right_by store (makes cat tab s made) = same_status (make_status cat tab) s && same (made_table cat tab) made
right_by store (block_is p b) = same (position_bytes p) b && same_position p (position_of b)
right_by store (writes n b) = same (decimal n) b

abbrev pub right : Case → Bool
right c = right_by outcome c

-- what is told where nothing was got or changed (R46)
abbrev pub nothing_told : Says
nothing_told = tells 0 0 0

-- a table of cell size C with these n and cells
abbrev pub table_of : ℕ → ℕ → Bytes → Bytes
table_of c n cells = ascii "HDT" ++ (0 ∷ 1 ∷ c ∷ 0 ∷ n ∷ cells)

-- an area longer than any L of the cases
abbrev pub dots : Bytes
dots = ascii "....."

-- the nine calls, the gets with that area
abbrev pub get : ℕ → Bytes → List Says → Step
get c list says = record { call = c; list = list; area = dots; says = says }

abbrev pub gu : Bytes → List Says → Step
gu list says = get 1 list says

abbrev pub gn : Bytes → List Says → Step
gn list says = get 2 list says

abbrev pub gnp : Bytes → List Says → Step
gnp list says = get 3 list says

abbrev pub ghu : Bytes → List Says → Step
ghu list says = get 4 list says

abbrev pub ghn : Bytes → List Says → Step
ghn list says = get 5 list says

abbrev pub ghnp : Bytes → List Says → Step
ghnp list says = get 6 list says

abbrev pub isrt : Bytes → Bytes → List Says → Step
isrt list area says = record { call = 7; list = list; area = area; says = says }

abbrev pub repl : Bytes → List Says → Step
repl area says = record { call = 8; list = []; area = area; says = says }

abbrev pub dlet : List Says → Step
dlet says = record { call = 9; list = []; area = []; says = says }
