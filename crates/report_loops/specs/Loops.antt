-- Loops of gets: each call takes up the table, the position and the area that the call before it left. Assumes nothing: these are definitions.
use Rattle.std.specs.Prelude.{Bool, true, false, List, [], ◌∷◌, ◌++◌, ℕ, zero, suc, leb, eqb, take, None, Some, Option}
use Rattle.terms.specs.declared.Position.{Position}
use Rattle.terms.specs.declared.Status.{Status}
use Rattle.terms.specs.declared.Status.TheVariants.{GE}
use Rattle.terms.specs.Statuses.{number}
use Rattle.terms.specs.Moves.{fresh, place_number}
use Rattle.rules.specs.Block.{Bytes}
use Rattle.rules.specs.Outcome.{Outcome, Store, outcome}

-- what one call hands to the next
pub record State : Type 0 where
  pub table : Bytes
  pub position : Position
  pub area : Bytes

-- a call of a store, by its number and list, on what the call before handed on
abbrev pub calling : Store → Bytes → ℕ → Bytes → State → Outcome
calling store cat c list s = store cat s.table s.position c list s.area

-- of the promise
abbrev pub promised : Bytes → ℕ → Bytes → State → Outcome
promised cat c list s = calling outcome cat c list s

-- before the first call
abbrev pub start : Bytes → Bytes → State
start tab area = record { table = tab; position = fresh; area = area }

abbrev pub handed_on : Outcome → State
handed_on o = record { table = o.table; position = o.answer.position; area = o.area }

-- what a get shows: the cell it moved onto, and as many bytes at the front of the area as it says
pub record Seen : Type 0 where
  pub cell : ℕ
  pub bytes : Bytes

abbrev pub sight : Outcome → Seen
sight o = record { cell = place_number o.answer.position.place; bytes = take o.answer.length o.area }

-- GB, GE, GP and the refusals end a loop
abbrev pub is_last : Outcome → Bool
is_last o = leb 10 (number o.answer.status)

-- what a loop has shown, the status that ended it (none: the calls allowed ran out first), and what it hands on
pub record Shown : Type 0 where
  pub seen : List Seen
  pub last : Option Status
  pub handed : State

abbrev pub ended : Outcome → Shown
ended o = record { seen = []; last = Some o.answer.status; handed = handed_on o }

abbrev pub out_of_calls : State → Shown
out_of_calls s = record { seen = []; last = None; handed = s }

abbrev pub behind : List Seen → Shown → Shown
behind xs r = record { seen = xs ++ r.seen; last = r.last; handed = r.handed }

abbrev pub is_ge : Option Status → Bool
is_ge None = false
is_ge (Some s) = eqb (number s) (number GE)

-- get, and get again, until a status ends it: at most k calls
unfoldable pub loop : (State → Outcome) → ℕ → State → Shown
loop get zero s = out_of_calls s
loop get (suc k) s = elim (is_last (get s)) [
  | true ↦ ended (get s)
  | false ↦ behind (sight (get s) ∷ []) (loop get k (handed_on (get s)))
]

-- get by the outer call; under each cell found, get by the inner call until GE, and show what that finds; until a status ends the outer one.
-- At most k outer calls, and at most m inner ones under each
unfoldable pub nested_loop : (State → Outcome) → (State → Outcome) → ℕ → ℕ → State → Shown
nested_loop outer inner m zero s = out_of_calls s
nested_loop outer inner m (suc k) s = elim (is_last (outer s)) [
  | true ↦ ended (outer s)
  | false ↦ elim (is_ge (loop inner m (handed_on (outer s))).last) [
    | true ↦ behind (loop inner m (handed_on (outer s))).seen (nested_loop outer inner m k (loop inner m (handed_on (outer s))).handed)
    | false ↦ loop inner m (handed_on (outer s))
  ]
]
