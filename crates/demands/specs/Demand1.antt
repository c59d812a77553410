-- DEMAND 1.
--
-- Every call on every input ends with a status of the table. Bad input is refused in a fixed order. A refusal of 20 or more changes no byte and no part of the
-- position; GE and GP drop only the hold, GB makes the position fresh. So it is with the position's block of 8 bytes, where a caller lends one.
--
-- Assumes nothing: this is the statement, for all inputs, good or not; the proof is in proofs/.
use Rattle.std.specs.Prelude.{◌≡◌, Bool, true, ◌&&◌, ◌||◌, not, ℕ, ◌<◌, ◌≤◌, leb, set, replicate}
use Rattle.terms.specs.declared.Position.{Position}
use Rattle.terms.specs.declared.Status.{Status}
use Rattle.terms.specs.declared.Status.TheVariants.{Blank, GA, GK, GB, GE, GP, CX, TX, PX, AD, AC, AJ, AK, AH, AB, DJ, DA, II, FX, PD}
use Rattle.terms.specs.Statuses.{number}
use Rattle.terms.specs.Moves.{fresh, hold_dropped}
use Rattle.forest.specs.Numbers.{is_in}
use Rattle.forest.specs.Good.{is_nil}
use Rattle.rules.specs.Block.{Bytes}
use Rattle.rules.specs.Position.{position_of}
use Rattle.rules.specs.Outcome.{Outcome, Store, block_after}
use Rattle.encoding.specs.Determined.{IsBytes}
use Rattle.demands.specs.StatusTable.{numbers, first_given, next, within, get, isrt, repl, dlet, status_table}

-- no byte of the table or the area has changed, the position is p, and nothing is told (R46)
pub record Untouched (tab lent : Bytes) (p : Position) (o : Outcome) : Type 0 where
  pub table : o.table ≡ tab
  pub area : o.area ≡ lent
  pub position : o.answer.position ≡ p
  pub code : o.answer.code.0 ≡ 0
  pub level : o.answer.level ≡ 0
  pub length : o.answer.length ≡ 0
  pub removed : o.answer.removed ≡ 0

-- whether a status can be given to a call c with this list, whatever it is called on; where nothing else stands, to any call
abbrev pub is_given_to : ℕ → Bytes → Status → Bool
is_given_to c list GA = (next c || within c) && is_nil list
is_given_to c list GK = (next c || within c) && is_nil list
is_given_to c list GB = next c && is_nil list
is_given_to c list GE = (get c && not (next c && is_nil list)) || isrt c
is_given_to c list GP = within c
is_given_to c list AD = not (leb 1 c && leb c 9)
is_given_to c list AH = isrt c && is_nil list
is_given_to c list AB = not (dlet c)
is_given_to c list DJ = repl c || dlet c
is_given_to c list DA = repl c
is_given_to c list II = isrt c
is_given_to c list FX = isrt c
is_given_to c list PD = isrt c
is_given_to c list Blank = true
is_given_to c list CX = true
is_given_to c list TX = true
is_given_to c list PX = true
is_given_to c list AC = true
is_given_to c list AJ = true
is_given_to c list AK = true

-- what is asked of the outcome o of a call c with this list and area, on this catalogue and table, at this position
pub record Answers (cat tab : Bytes) (pos : Position) (c : ℕ) (list area : Bytes) (o : Outcome) : Type 0 where
  -- a status of the table
  pub known : is_in (number o.answer.status) numbers ≡ true
  -- and it is that of the first row, in the order of R61, that is given
  pub order : o.answer.status ≡ first_given (status_table cat tab pos c list area)
  -- so GB and GE, GA and GK, GP, and 27 to 33 are each given to their own calls only
  pub only : is_given_to c list o.answer.status ≡ true
  -- 20 and above
  pub refusal : 20 ≤ number o.answer.status → Untouched tab area pos o
  -- GB, 10, makes the position fresh
  pub over : number o.answer.status ≡ 10 → Untouched tab area fresh o
  -- GE and GP, 11 and 12, drop only the hold
  pub miss : 11 ≤ number o.answer.status → number o.answer.status < 20 → Untouched tab area (hold_dropped pos) o

-- what is asked of the block of 8 bytes, for a caller who lends the position as one: the bytes afterwards are block_after
pub record AnswersBlock (block : Bytes) (o : Outcome) : Type 0 where
  -- 20 and above: not one byte changes
  pub refusal : 20 ≤ number o.answer.status → block_after block o.answer ≡ block
  -- 10: eight zeros
  pub over : number o.answer.status ≡ 10 → block_after block o.answer ≡ replicate 8 0
  -- 11 and 12: byte 6, the hold, is 0, and no other changes
  pub miss : 11 ≤ number o.answer.status → number o.answer.status < 20 → block_after block o.answer ≡ set block 6 0

-- asked of a store
pub record Demand1 (store : Store) : Type 0 where
  pub answers : (cat tab : Bytes) (pos : Position) (c : ℕ) (list area : Bytes) → Answers cat tab pos c list area (store cat tab pos c list area)
  pub blocks : (cat tab block : Bytes) (c : ℕ) (list area : Bytes) → IsBytes block → AnswersBlock block (store cat tab (position_of block) c list area)
