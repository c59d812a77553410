-- The status of each call that is not refused before it begins is that of the first row given. Assumes nothing.
use Rattle.terms.specs.declared.CellNumber.{CellNumber}
use Rattle.std.specs.Prelude.{Some, None, Option}
use mathlib.Core.Path.{◌≡◌, refl, ap, sym, ◌∙◌}
use mathlib.Core.Bool.{Bool, true, false, ◌&&◌, ◌||◌, not}
use mathlib.Core.List.{List, [], ◌∷◌}
use Prim.Native.Nat.{ℕ, suc, ◌-◌, ◌<◌, ◌≤◌}
use native.Mathlib.Omega.{arith}
use lib.Dec.{ltb, leb, eqb}
use lib.ListN.{length}
use borrow.Author.Tests.{le-leb, lt-leb}
use Rattle.terms.specs.declared.TypeCode.{TypeCode}
use Rattle.terms.specs.declared.Place.{Place}
use Rattle.terms.specs.declared.Place.TheVariants.{On, Before}
use Rattle.terms.specs.declared.Position.{Position}
use Rattle.terms.specs.declared.Argument.{Argument}
use Rattle.terms.specs.declared.Status.{Status}
use Rattle.terms.specs.declared.Status.TheVariants.{Blank, GA, GK, GB, GE, DA, II, FX, PD}
use Rattle.terms.specs.Choice.{pick}
use Rattle.terms.specs.Names.{cell, same_type, Parentage}
use Rattle.terms.specs.Moves.{place_number, after_place}
use Rattle.forest.specs.Forest.{inside, outside, side}
use Rattle.forest.specs.Good.{is_nil, nil-of, on, off, is}
use Rattle.rules.specs.Block.{Bytes, same_bytes}
use Rattle.rules.specs.Catalogue.{key_kind}
use Rattle.rules.specs.Cells.{Segment, segment, segment_of, arriving, key, keyed, level_at, run_at, row_at}
use Rattle.rules.specs.Table.{count, room, listing}
use Rattle.rules.specs.Arguments.{ListRead, Level, list_read, last_argument, get_levels, parent_levels, complete}
use Rattle.rules.specs.Matching.{matches, first_match, along}
use Rattle.rules.specs.Calls.{miss_status, level_status, parent_end, gotten, key_taken, inserted, insert_among, insert_under, insert, replaced}
use Rattle.rules.specs.Calls.{replacement, replace, deleted, delete, changed, answer_of, get_unique, get_next, get_next_within, called}
use Rattle.rules.proofs.Cells.{listing-length}
use Rattle.rules.proofs.Search.{seek-none, seek-here}
use Rattle.arguments.specs.Sound.{SoundList}
use Rattle.arguments.proofs.Sound.{sound-down, list-empty, list-filled}
use Rattle.report_loops.proofs.Asked.{last-type}
use Rattle.report_loops.proofs.Matches.{levels-some, get-levels}
use Rattle.model.proofs.Asked.{by_number}
use Rattle.demands.specs.StatusTable.{first_given, is_nothing, found_cell, is_on, own_rows, taken_beneath}

-- a list without fault has no argument, and completed no level, exactly when it has no byte
module _ (cat : Bytes) where
  pub nil-arguments : (list : Bytes) → SoundList cat list → is_nil (list_read cat list).arguments ≡ is_nil list
  nil-arguments [] s = ap (λ (r : ListRead). is_nil r.arguments) (list-empty cat [] refl)
  nil-arguments (x ∷ xs) s = list-filled cat (x ∷ xs) s (omega arith)

  some-nil : {A : Type 0} (xs : List A) → 0 < length xs → is_nil xs ≡ false
  some-nil [] l = absurd (omega arith)
  some-nil (x ∷ xs) l = refl

  nil-levels : (list : Bytes) → SoundList cat list → is_nil (get_levels cat list (list_read cat list).arguments) ≡ is_nil list
  nil-levels [] s = ap (λ (r : ListRead). is_nil (get_levels cat [] r.arguments)) (list-empty cat [] refl)
  nil-levels (x ∷ xs) s =
      let list : Bytes = x ∷ xs in
      let ar : List Argument = (list_read cat list).arguments in
      let n : is_nil ar ≡ false = list-filled cat list s (omega arith) in
      rw (get-levels cat list ar n)
      (some-nil (complete cat list ar (last_argument ar).code)
      (levels-some cat s.catalogue list ar (last_argument ar).code (last-type cat list s.catalogue ar n (sound-down cat list s))))

module _ (cat : Bytes) (cs : List Segment) (pos : Position) (area : Bytes) where
  -- a search with the empty list ends at once
  next-left : (i e : ℕ) → leb e i ≡ is_nothing (first_match cat cs [] i e)
  unfolding first_match matches
  next-left i e = elim (side i e) [
    | inside l ↦ rw (lt-leb e i l, seek-here cat cs [] i (e - i) (omega arith) refl)
    | outside l ↦ (let z : e - i ≡ 0 = omega arith in rw (z, seek-none cat cs [] i, le-leb e i l))
  ]

  unique-status : (parentage : ℕ → Parentage) (hold : Bool) (f : Option CellNumber)
      → (gotten cat cs pos area GE (λ i. Blank) parentage hold f).answer.status ≡ pick (is_nothing f || false) GE Blank
  unfolding answer_of
  unique-status parentage hold None = refl
  unique-status parentage hold (Some c) = refl

  -- GA and GK, of a cell found
  abbrev steps : Bool → Place → Option CellNumber → Status
  steps empty q f =
      pick (empty && is_on q && not (is_nothing f) && ltb (level_at cat cs (found_cell f)) (level_at cat cs (place_number q))) GA
      (pick (empty && is_on q && not (is_nothing f) && (eqb (level_at cat cs (found_cell f)) (level_at cat cs (place_number q))
      && not (same_type (segment cs (found_cell f)).code (segment cs (place_number q)).code))) GK
      Blank)

  steps-status : (ls : List Level) (q : Place) (i : ℕ) → level_status cat cs ls q i ≡ steps (is_nil ls) q (Some (cell i))
  steps-status [] (On c) i = refl
  steps-status [] (Before c) i = refl
  steps-status (l ∷ ls) q i = refl

  next-status : (ls : List Level) (parentage : ℕ → Parentage) (hold : Bool) (f : Option CellNumber) (left : Bool) → (is_nil ls ≡ true → left ≡ is_nothing f)
      → (gotten cat cs pos area (miss_status ls) (level_status cat cs ls pos.place) parentage hold f).answer.status
      ≡ pick (is_nil ls && left) GB (pick ((not (is_nil ls) && is_nothing f) || false) GE (steps (is_nil ls) pos.place f))
  unfolding answer_of
  next-status [] parentage hold None left h = rw (h refl)
  next-status [] parentage hold (Some c) left h = rw (h refl) (steps-status [] pos.place c.0)
  next-status (l ∷ ls) parentage hold None left h = refl
  next-status (l ∷ ls) parentage hold (Some c) left h = refl

  within-status : (ls : List Level) (parentage : ℕ → Parentage) (hold : Bool) (f : Option CellNumber)
      → (gotten cat cs pos area GE (level_status cat cs ls pos.place) parentage hold f).answer.status
      ≡ pick (is_nothing f || false) GE (steps (is_nil ls) pos.place f)
  unfolding answer_of
  within-status ls parentage hold None = refl
  within-status ls parentage hold (Some c) = steps-status ls pos.place c.0

  inserted-status : (m : ℕ) (x : Segment) (above : List ℕ) (b : Bool) (r : ℕ) (new : List Segment)
      → (inserted cat cs pos area m x above b r new).answer.status
      ≡ pick (not (keyed cat x)) PD (pick (eqb (key_kind cat x.code) 1 && b) II (pick (eqb (length cs) m) FX Blank))
  unfolding inserted changed answer_of
  inserted-status m x above b r new = elim (is (keyed cat x)) [
    | off k ↦ rw k
    | on k ↦ elim (is (eqb (key_kind cat x.code) 1 && b)) [
      | on e ↦ rw (k, e)
      | off e ↦ elim (is (eqb (length cs) m)) [ on f ↦ rw (k, e, f) | off f ↦ rw (k, e, f) ]
    ]
  ]

  replaced-status : (i : ℕ) (x : Segment) (new : List Segment)
      → (replaced cat cs pos area i x new).answer.status ≡ pick (not (same_bytes (key cat (segment cs i)) (key cat x))) DA Blank
  unfolding replaced changed answer_of
  replaced-status i x new = elim (is (same_bytes (key cat (segment cs i)) (key cat x))) [ on e ↦ rw e | off e ↦ rw e ]

-- a call by its number, with the list's arguments
module _ (cat tab : Bytes) (pos : Position) (list area : Bytes) (s : SoundList cat list) where
  abbrev cs : List Segment
  cs = listing cat tab

  abbrev ar : List Argument
  ar = (list_read cat list).arguments

  abbrev ls : List Level
  ls = get_levels cat list ar

  abbrev Told : ℕ → Type 0
  Told c = (called cat cs pos area (room cat tab) c list ar).answer.status ≡ first_given (own_rows cat tab pos c list area)

  told-unique : (hold : Bool) → (get_unique cat cs pos area hold ls).answer.status ≡ pick (is_nothing (along cat cs ls pos.place) || false) GE Blank
  unfolding get_unique
  told-unique hold = unique-status cat cs pos area _ hold (along cat cs ls pos.place)

  told-next : (hold : Bool) → let f = first_match cat cs ls (after_place pos.place) (length cs) in
      (get_next cat cs pos area hold ls).answer.status
      ≡ pick (is_nil list && leb (count tab) (after_place pos.place)) GB
      (pick ((not (is_nil list) && is_nothing f) || false) GE (steps cat cs pos area (is_nil list) pos.place f))
  unfolding get_next
  told-next hold =
      rw (sym (nil-levels cat list s), sym (listing-length cat tab))
      (next-status cat cs pos area ls _ hold (first_match cat cs ls (after_place pos.place) (length cs)) (leb (length cs) (after_place pos.place))
      (λ e. next-left cat cs pos area (after_place pos.place) (length cs)
      ∙ ap (λ (l : List Level). is_nothing (first_match cat cs l (after_place pos.place) (length cs))) (sym (nil-of ls e))))

  told-within : (hold : Bool) → let f = first_match cat cs ls (after_place pos.place) (parent_end cat cs pos.parentage) in
      (get_next_within cat cs pos area hold ls).answer.status ≡ pick (is_nothing f || false) GE (steps cat cs pos area (is_nil list) pos.place f)
  unfolding get_next_within
  told-within hold =
      rw (sym (nil-levels cat list s))
      (within-status cat cs pos area ls _ hold (first_match cat cs ls (after_place pos.place) (parent_end cat cs pos.parentage)))

  -- ISRT's segment and its type
  abbrev t : TypeCode
  t = (last_argument ar).code

  abbrev x : Segment
  x = arriving cat t area

  told-among : (above : List ℕ) (i n : ℕ)
      → (insert_among cat cs pos area (room cat tab) x above i n).answer.status
      ≡ pick (not (keyed cat x)) PD (pick (eqb (key_kind cat t) 1 && key_taken cat cs x i n) II (pick (eqb (count tab) (room cat tab)) FX Blank))
  unfolding insert_among arriving segment_of
  told-among above i n =
      rw (sym (listing-length cat tab)) (inserted-status cat cs pos area (room cat tab) x above (key_taken cat cs x i n) _ _)

  told-beneath : (f : Option CellNumber)
      → (insert_under cat cs pos area (room cat tab) x f).answer.status
      ≡ pick (is_nothing f) GE
      (pick (not (keyed cat x)) PD
      (pick (eqb (key_kind cat t) 1 && taken_beneath cat tab pos 7 list area f) II (pick (eqb (count tab) (room cat tab)) FX Blank)))
  told-beneath None = refl
  told-beneath (Some p) = told-among (row_at cat cs p.0) (suc p.0) (run_at cat cs p.0 - 1)

  told-insert : (b : Bool) (f : Option CellNumber)
      → (pick b (insert_among cat cs pos area (room cat tab) x [] 0 (length cs))
      (insert_under cat cs pos area (room cat tab) x f)).answer.status
      ≡ pick (not b && is_nothing f) GE
      (pick (not (keyed cat x)) PD
      (pick (eqb (key_kind cat t) 1 && pick b (key_taken cat cs x 0 (length cs)) (taken_beneath cat tab pos 7 list area f)) II
      (pick (eqb (count tab) (room cat tab)) FX Blank)))
  told-insert true f = told-among [] 0 (length cs)
  told-insert false f = told-beneath f

  -- LAW: the status of a call that is not refused before it begins
  pub told : (c : ℕ) → 1 ≤ c → c ≤ 9 → Told c
  unfolding first_given called insert replace replacement delete deleted changed answer_of
  told c low high =
      by_number Told (told-unique false) (told-next false) (told-within false) (told-unique true) (told-next true) (told-within true)
      (told-insert (eqb t.0 1) (along cat cs (parent_levels cat list ar) pos.place))
      (replaced-status cat cs pos area (place_number pos.place) (replacement cat cs pos area (place_number pos.place)) _)
      refl c low high
