-- The calls, on levels and a new segment of bytes: what they found, whether they put the segment there, and where. Assumes nothing.
use Rattle.terms.specs.declared.CellNumber.{CellNumber}
use Rattle.std.specs.Prelude.{Some, None, Option}
use mathlib.Core.Path.{◌≡◌, refl, fun_ext}
use mathlib.Core.Bool.{Bool, true}
use mathlib.Core.List.{List, []}
use Prim.Native.Nat.{ℕ, suc, ◌-◌}
use lib.Dec.{eqb}
use lib.ListN.{length}
use Rattle.terms.specs.declared.TypeCode.{TypeCode}
use Rattle.terms.specs.declared.Position.{Position}
use Rattle.terms.specs.declared.Argument.{Argument}
use Rattle.terms.specs.Moves.{after_place}
use Rattle.rules.specs.Block.{Bytes, every}
use Rattle.rules.specs.Catalogue.{key_value}
use Rattle.rules.specs.Cells.{Segment, segment_of, arriving, run_at, row_at}
use Rattle.rules.specs.Arguments.{Level, last_argument, get_levels, parent_levels}
use Rattle.rules.specs.Calls.{parent_end, key_taken, get_unique, get_next, get_next_within, inserted, insert_among, insert_under, insert, called}
use Rattle.bytes_only.specs.Before as Before
use Rattle.bytes_only.proofs.Values.{bytes-keyed, same_key_lem, goes_before_lem}
use Rattle.bytes_only.proofs.Lists.{bytes_argument, bytes_level, get-bytes, parent-bytes}
use Rattle.bytes_only.proofs.Matches.{first-before, along-before}

module _ (cat : Bytes) (cs : List Segment) (pos : Position) (area : Bytes) where
  -- the gets differ in what they seek and tell, not in how they go by a match
  module _ (hold : Bool) (ls : List Level) (bytes : every (bytes_level cat) ls ≡ true) where
    unique-before : get_unique cat cs pos area hold ls ≡ Before.get_unique cat cs pos area hold ls
    unfolding get_unique Before.get_unique
    unique-before = rw (along-before cat cs ls bytes pos.place)

    next-before : get_next cat cs pos area hold ls ≡ Before.get_next cat cs pos area hold ls
    unfolding get_next Before.get_next
    next-before = rw (first-before cat cs ls bytes (after_place pos.place) (length cs))

    within-before : get_next_within cat cs pos area hold ls ≡ Before.get_next_within cat cs pos area hold ls
    unfolding get_next_within Before.get_next_within
    within-before = rw (first-before cat cs ls bytes (after_place pos.place) (parent_end cat cs pos.parentage))

  -- ISRT: the new key is a value, so that PD is not answered; the twin that has it and the spot go by the bytes
  module _ (m : ℕ) (x : Segment) (bytes : eqb (key_value cat x.code) 0 ≡ true) where
    taken-before : (i n : ℕ) → key_taken cat cs x i n ≡ Before.key_taken cat cs x i n
    unfolding key_taken Before.key_taken
    taken-before i n = simp (same_key_lem cat x bytes)

    among-before : (above : List ℕ) (i n : ℕ) → insert_among cat cs pos area m x above i n ≡ Before.insert_among cat cs pos area m x above i n
    unfolding insert_among Before.insert_among inserted Before.inserted
    among-before above i n = rw (bytes-keyed cat x bytes, taken-before i n, fun_ext (goes_before_lem cat x bytes))

    under-before : (q : Option CellNumber) → insert_under cat cs pos area m x q ≡ Before.insert_under cat cs pos area m x q
    under-before None = refl
    under-before (Some c) = among-before (row_at cat cs c.0) (suc c.0) (run_at cat cs c.0 - 1)

  -- beneath the parent that was found before
  insert-before : (m : ℕ) (t : TypeCode) (ls : List Level) → eqb (key_value cat t) 0 ≡ true → every (bytes_level cat) ls ≡ true
      → insert cat cs pos area m t ls ≡ Before.insert cat cs pos area m t ls
  unfolding insert Before.insert arriving segment_of
  insert-before m t ls e bytes =
      let x : Segment = arriving cat t area in
      rw (among-before m x e [] 0 (length cs), along-before cat cs ls bytes pos.place, under-before m x e (Before.along cat cs ls pos.place))

  -- LAW: the call of a number
  pub called-before : (m c : ℕ) (list : Bytes) (ar : List Argument)
      → eqb (key_value cat (last_argument ar).code) 0 ≡ true → every (bytes_argument cat list) ar ≡ true
      → called cat cs pos area m c list ar ≡ Before.called cat cs pos area m c list ar
  unfolding called Before.called
  called-before m c list ar e bytes =
      let g : every (bytes_level cat) (get_levels cat list ar) ≡ true = get-bytes cat list ar bytes in
      let p : every (bytes_level cat) (parent_levels cat list ar) ≡ true = parent-bytes cat list ar bytes in
      simp (unique-before, next-before, within-before, insert-before)
