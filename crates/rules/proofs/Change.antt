-- What a call leaves of the cells is its change applied to them. Assumes nothing.
use Rattle.terms.specs.declared.CellNumber.{CellNumber}
use Rattle.std.specs.Prelude.{Some, None, Option}
use mathlib.Core.Path.{◌≡◌, refl}
use mathlib.Core.Bool.{Bool, true, false, ◌&&◌, not}
use mathlib.Core.List.{List, [], ◌∷◌}
use Prim.Native.Nat.{ℕ, suc, ◌+◌, ◌-◌}
use lib.Dec.{eqb}
use lib.ListN.{length, drop}
use Rattle.terms.specs.declared.TypeCode.{TypeCode}
use Rattle.terms.specs.declared.Argument.{Argument}
use Rattle.terms.specs.declared.Position.{Position}
use Rattle.terms.specs.declared.Status.{Status}
use Rattle.terms.specs.declared.Status.TheVariants.{Blank, GE, DA, II, FX, PD}
use Rattle.terms.specs.Choice.{pick}
use Rattle.terms.specs.Names.{cell, Parentage}
use Rattle.terms.specs.Moves.{place_number, after_place, hold_dropped, after_insert}
use Rattle.forest.specs.Insert.{spot}
use Rattle.rules.specs.Block.{Bytes, same_bytes}
use Rattle.rules.specs.Catalogue.{key_kind}
use Rattle.rules.specs.Cells.{Segment, segment, arriving, key, keyed, goes_before, segment_level, run_at, row_at}
use Rattle.rules.specs.Change.{put, swap, applied, cells_after}
use Rattle.rules.specs.Arguments.{Level, last_argument, get_levels, parent_levels}
use Rattle.rules.specs.Matching.{first_match, along}
use Rattle.rules.specs.Calls.{After, refused, miss_status, level_status, parent_end, is_one_of, gotten, key_taken, changed, inserted, replaced, replacement}
use Rattle.rules.specs.Calls.{insert_among, insert_under, insert, replace, deleted, delete, get_unique, get_next, get_next_within, called}
use Rattle.rules.proofs.Choice.{pick-of}

-- what stands of the cells after a call follows its change
record Follows (cs : List Segment) (a : After) : Type 0 where
  is : a.cells ≡ cells_after a.change cs

module _ (cat : Bytes) (cs : List Segment) (pos : Position) (area : Bytes) where
  either : (b : Bool) {x y : After} → Follows cs x → Follows cs y → Follows cs (pick b x y)
  either b {x} {y} p q = pick-of (Follows cs) b x y p q

  got-follows : (miss : Status) (status : ℕ → Status) (parentage : ℕ → Parentage) (hold : Bool) (f : Option CellNumber)
      → Follows cs (gotten cat cs pos area miss status parentage hold f)
  got-follows miss status parentage hold None = record { is = refl }
  got-follows miss status parentage hold (Some c) = record { is = refl }

  unique-follows : (hold : Bool) (ls : List Level) → Follows cs (get_unique cat cs pos area hold ls)
  unfolding get_unique
  unique-follows hold ls = got-follows GE (λ i. Blank) (λ i. Some (cell i)) hold (along cat cs ls pos.place)

  next-follows : (hold : Bool) (ls : List Level) → Follows cs (get_next cat cs pos area hold ls)
  unfolding get_next
  next-follows hold ls =
      got-follows (miss_status ls) (level_status cat cs ls pos.place) (λ i. Some (cell i)) hold
      (first_match cat cs ls (after_place pos.place) (length cs))

  within-follows : (hold : Bool) (ls : List Level) → Follows cs (get_next_within cat cs pos area hold ls)
  unfolding get_next_within
  within-follows hold ls =
      got-follows GE (level_status cat cs ls pos.place) (λ i. pos.parentage) hold
      (first_match cat cs ls (after_place pos.place) (parent_end cat cs pos.parentage))

  among-follows : (m : ℕ) (x : Segment) (above : List ℕ) (i n : ℕ) → Follows cs (insert_among cat cs pos area m x above i n)
  unfolding insert_among inserted changed
  among-follows m x above i n =
      let r = i + spot (segment_level cat) x (goes_before cat x) (drop i cs) in
      either (not (keyed cat x)) {x = refused PD pos area} (record { is = refl })
      (either (eqb (key_kind cat x.code) 1 && key_taken cat cs x i n) {x = refused II pos area} (record { is = refl })
      (either (eqb (length cs) m) {x = refused FX pos area}
      {y = changed cat (after_insert r (is_one_of above pos.parentage) pos) x 0 (put r (x ∷ [])) (applied (put r (x ∷ [])) cs) area}
      (record { is = refl }) (record { is = refl })))

  under-follows : (m : ℕ) (x : Segment) (f : Option CellNumber) → Follows cs (insert_under cat cs pos area m x f)
  under-follows m x None = record { is = refl }
  under-follows m x (Some c) = among-follows m x (row_at cat cs c.0) (suc c.0) (run_at cat cs c.0 - 1)

  insert-follows : (m : ℕ) (t : TypeCode) (ls : List Level) → Follows cs (insert cat cs pos area m t ls)
  unfolding insert
  insert-follows m t ls =
      either (eqb t.0 1) (among-follows m (arriving cat t area) [] 0 (length cs)) (under-follows m (arriving cat t area) (along cat cs ls pos.place))

  replace-follows : Follows cs (replace cat cs pos area)
  unfolding replace replaced changed
  replace-follows =
      let i = place_number pos.place in
      let x = replacement cat cs pos area i in
      either (not (same_bytes (key cat (segment cs i)) (key cat x))) {x = refused DA pos area}
      {y = changed cat (hold_dropped pos) x 0 (swap i x) (applied (swap i x) cs) area} (record { is = refl }) (record { is = refl })

  delete-follows : Follows cs (delete cat cs pos area)
  unfolding delete deleted changed
  delete-follows = record { is = refl }

  -- LAW: the cells after a call are the earlier ones with its change, and unchanged where there is none
  pub change-is : (m c : ℕ) (list : Bytes) (ar : List Argument)
      → (called cat cs pos area m c list ar).cells ≡ cells_after (called cat cs pos area m c list ar).change cs
  unfolding called
  change-is m c list ar =
      let ls = get_levels cat list ar in
      let all : Follows cs (called cat cs pos area m c list ar) =
      either (eqb c 1) (unique-follows false ls) (either (eqb c 2) (next-follows false ls) (either (eqb c 3) (within-follows false ls)
      (either (eqb c 4) (unique-follows true ls) (either (eqb c 5) (next-follows true ls) (either (eqb c 6) (within-follows true ls)
      (either (eqb c 7) (insert-follows m (last_argument ar).code (parent_levels cat list ar)) (either (eqb c 8) replace-follows delete-follows)))))))
      in all.is
