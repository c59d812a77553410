-- ISRT among the cells beneath the parent, and how the parent leads there. Assumes nothing.
use Rattle.terms.specs.Names.{Parentage}
use Rattle.std.specs.Prelude.{Some, None, Option, Ok, Err}
use mathlib.Core.Path.{◌≡◌, refl, ap, sym, ◌∙◌}
use mathlib.Core.Bool.{Bool, false, ◌&&◌}
use mathlib.Core.List.{List, []}
use Prim.Native.Nat.{ℕ, suc, ◌+◌, ◌-◌, ◌/◌, ◌<◌, ◌≤◌}
use native.Mathlib.Omega.{arith}
use lib.Dec.{ltb, leb, eqb}
use lib.ListN.{length}
use borrow.Author.Tests.{le-leb, lt-leb, eq-eqb, ne_eqb}
use Rattle.terms.specs.declared.TypeCode.{TypeCode}
use Rattle.terms.specs.declared.CellNumber.{CellNumber}
use Rattle.terms.specs.declared.Position.{Position}
use Rattle.terms.specs.declared.Status.{Status}
use Rattle.terms.specs.declared.Status.TheVariants.{Blank, II, FX, PD}
use Rattle.terms.specs.Statuses.{number, verdict}
use Rattle.terms.specs.Moves.{after_insert}
use Rattle.forest.specs.Forest.{cells_of}
use Rattle.forest.specs.Good.{on, off, is}
use Rattle.rules.specs.Block.{Bytes}
use Rattle.rules.specs.Catalogue.{key_kind}
use Rattle.rules.specs.Cells.{Segment, segment_of, arriving, keyed, long, segment_level, end_at, run_at, row_at}
use Rattle.rules.specs.Table.{count, room, listing}
use Rattle.rules.specs.Arguments.{Level}
use Rattle.rules.specs.Matching.{along}
use Rattle.rules.specs.Calls.{After, bare, refused, is_one_of, answer_of, changed, key_taken, inserted, insert_among, insert_under, insert}
use Rattle.rules.specs.Outcome.{landed}
use Rattle.rules.proofs.Cells.{listing-length, row-run}
use Rattle.cells.specs.Sound.{Sound}
use Rattle.cells.proofs.Located.{good-housed}
use Rattle.twins.specs.declared.Spot.{Spot}
use Rattle.twins.specs.Among.{New, Keyed, Beneath, passed, spot_among}
use Rattle.twins.proofs.Rows.{spot-within}
use Rattle.twins.proofs.Listing.{Row, row_new}
use Rattle.update.specs.Edits.{with_cell, Insertable}
use Rattle.answers.specs.Ready.{made}
use Rattle.answers.specs.Told.{told}
use Rattle.changes.specs.declared.insert.Siblings.{Siblings}
use Rattle.changes.specs.Among.{among, insert_status, parented_at, parented, put_in, inserted_among, inserted_in}

-- whether the parentage is cell p or above it
module _ (cat tab : Bytes) (p : ℕ) (h : p < count tab) (parentage : Parentage) where
  abbrev is_above : Bool
  is_above = is_one_of (row_at cat (listing cat tab) p) parentage

  above-run : (q : CellNumber) → parentage ≡ Some q → is_above ≡ (leb q.0 p && ltb p (end_at cat (listing cat tab) q.0))
  above-run q e = ap (is_one_of (row_at cat (listing cat tab) p)) e ∙ row-run cat (listing cat tab) q.0 p (omega (arith, listing-length cat tab))

  pub above-later : (q : CellNumber) → parentage ≡ Some q → p < q.0 → false ≡ is_above
  above-later q e l = sym (above-run q e ∙ rw (lt-leb q.0 p l))

  pub above_within : (q : CellNumber) (end : ℕ) → parentage ≡ Some q → q.0 ≤ p → end ≡ end_at cat (listing cat tab) q.0 → ltb p end ≡ is_above
  above_within q end e l f = sym (above-run q e ∙ rw (le-leb q.0 p l, ← f))

-- what refuses a new segment, by the room that the code divides out
module _ {cat tab : Bytes} {size : ℕ} (s : Sound cat tab size) {k : ℕ} (c : k ≡ count tab) {taken : Bool} (h : taken ≡ false) where
  is-room : (length tab - 8) / size ≡ room cat tab
  unfolding room
  is-room = ap (λ (m : ℕ). (length tab - 8) / m) s.sized.is

  pub status-full : (length tab - 8) / size ≡ k → Err FX ≡ verdict (insert_status taken (count tab) (room cat tab))
  unfolding insert_status
  status-full f = rw (h, eq-eqb (count tab) (room cat tab) (sym c ∙ sym f ∙ is-room))

  pub status-none : ((length tab - 8) / size ≡ k → ⊥) → Ok tt ≡ verdict (insert_status taken (count tab) (room cat tab))
  unfolding insert_status
  status-none f = rw (h, ne_eqb (count tab) (room cat tab) (λ d. f (is-room ∙ sym d ∙ sym c)))

-- the cell put in, as the code tells it
pub put-done : (cat tab : Bytes) (pos : Position) (area : Bytes) (t : TypeCode) (r : ℕ) (beneath : Bool)
    → made (told cat Blank (after_insert r beneath pos) t 0) (with_cell cat tab r t area) area
    ≡ landed cat tab (put_in cat (listing cat tab) pos area r (arriving cat t area) beneath)
unfolding put_in changed answer_of long told with_cell arriving segment_of
put-done cat tab pos area t r beneath = refl

-- R91: a key that is no value is refused before its spot is sought
pub among-unkeyed : (cat tab : Bytes) (pos : Position) (area : Bytes) (t : TypeCode) (from to : ℕ) (beneath : Bool) → keyed cat (arriving cat t area) ≡ false
    → made (bare PD pos) tab area ≡ landed cat tab (inserted_among cat (listing cat tab) pos area (room cat tab) (arriving cat t area) from to beneath)
unfolding inserted_among
among-unkeyed cat tab pos area t from to beneath k = rw k

-- the spot and its refusal, as the code has them
module _ {cat tab area : Bytes} {size : ℕ} {t : TypeCode} (n : New cat tab size t area) {from to : ℕ} (b : Beneath cat tab t from to)
    {s : Spot} (e : s ≡ spot_among cat (listing cat tab) (arriving cat t area) from to)
    {w : Status} (f : w ≡ insert_status s.taken (count tab) (room cat tab)) where
  abbrev cs : List Segment
  cs = listing cat tab

  abbrev x : Segment
  x = arriving cat t area

  abbrev own : Spot
  own = spot_among cat cs x from to

  refusal_is : insert_status own.taken (length cs) (room cat tab) ≡ w
  refusal_is =
      sym (f ∙ ap (λ (p : Spot). insert_status p.taken (count tab) (room cat tab)) e
      ∙ ap (λ (k : ℕ). insert_status own.taken k (room cat tab)) (sym (listing-length cat tab)))

  module _ (k : Keyed cat t area) (pos : Position) (beneath : Bool) where
    abbrev after : After
    after = inserted_among cat cs pos area (room cat tab) x from to beneath

    pub among-refused : (number w ≡ 0 → ⊥) → made (bare w pos) tab area ≡ landed cat tab after
    unfolding inserted_among
    among-refused h = ap (landed cat tab) (sym (let y : after ≡ refused w pos area = rw (k, refusal_is, ne_eqb (number w) 0 h) in y))

    pub among-done : number w ≡ 0 → landed cat tab (put_in cat cs pos area s.at x beneath) ≡ landed cat tab after
    unfolding inserted_among
    among-done h =
        let y : after ≡ put_in cat cs pos area own.at x beneath = rw (k, refusal_is, eq-eqb (number w) 0 h) in
        ap (λ (p : Spot). landed cat tab (put_in cat cs pos area p.at x beneath)) e ∙ ap (landed cat tab) (sym y)

  not-room : number w ≡ 0 → count tab ≡ room cat tab → ⊥
  unfolding insert_status
  not-room h d =
      let k = eq-eqb (count tab) (room cat tab) d in
      elim (is s.taken) [
        | on g ↦ (let z : w ≡ II = rw g at f in let y : number w ≡ 31 = ap number z in omega arith)
        | off g ↦ (let z : w ≡ FX = rw (g, k) at f in let y : number w ≡ 32 = ap number z in omega arith)
      ]

  spot_in : s.at ≤ count tab
  unfolding spot_among passed
  spot_in =
      let r : Row cat tab x from to = row_new n b in
      let l : passed cat cs x from ≤ length (cells_of r.row) =
      rw (← r.cells) (spot-within (segment_level cat) x _ (cells_of r.row) r.behind r.low) in
      let a : s.at ≡ from + passed cat cs x from = ap (λ (p : Spot). p.at) e in
      omega (arith, l, a, r.many, r.within)

  pub among-free : number w ≡ 0 → Insertable cat tab size s.at t area
  among-free h = record {
    sound = n.sound;
    place = spot_in;
    free = (let d = not-room h in omega (arith, d, (good-housed cat tab n.sound.table).few));
    known = n.known;
    long = n.enough;
  }

none_above : (parentage : Parentage) → is_one_of [] parentage ≡ false
none_above None = refl
none_above (Some q) = refl

module _ (cat : Bytes) (cs : List Segment) (pos : Position) (area : Bytes) (m : ℕ) (x : Segment) where
  among-is : (above : List ℕ) (i to k : ℕ) → k ≡ to - i
      → insert_among cat cs pos area m x above i k ≡ inserted_among cat cs pos area m x i to (is_one_of above pos.parentage)
  unfolding insert_among inserted inserted_among insert_status spot_among passed put_in
  among-is above i to k e = elim (is (keyed cat x)) [
    | off v ↦ rw v
    | on v ↦ elim (is (eqb (key_kind cat x.code) 1 && key_taken cat cs x i (to - i))) [
      | on t ↦ rw (v, e, t)
      | off t ↦ elim (is (eqb (length cs) m)) [
        | on f ↦ rw (v, e, t, f)
        | off f ↦ rw (v, e, t, f)
      ]
    ]
  ]

  found-is : (q : Option CellNumber) → insert_under cat cs pos area m x q ≡ inserted_in cat cs pos area m x (parented_at cat cs pos q)
  unfolding end_at
  found-is None = refl
  found-is (Some c) = among-is (row_at cat cs c.0) (suc c.0) (end_at cat cs c.0) (run_at cat cs c.0 - 1) (omega arith)

module _ (cat : Bytes) (cs : List Segment) (pos : Position) (t : TypeCode) (ls : List Level) where
  -- what the code finds: for type 1 all cells, no parent, or the cells behind the parent in its run
  pub parented-top : t.0 ≡ 1 → (n : ℕ) → n ≡ length cs → among 0 n false ≡ parented cat cs pos t ls
  unfolding parented
  parented-top e n c = rw (eq-eqb t.0 1 e, c)

  module _ (e : t.0 ≡ 1 → ⊥) where
    pub parented-none : None ≡ along cat cs ls pos.place → None ≡ parented cat cs pos t ls
    unfolding parented
    parented-none f = rw (ne_eqb t.0 1 e, ← f)

    pub parented-child : (p : CellNumber) (end : ℕ) (beneath : Bool) → Some p ≡ along cat cs ls pos.place → end ≡ end_at cat cs p.0
        → beneath ≡ is_one_of (row_at cat cs p.0) pos.parentage → among (p.0 + 1) end beneath ≡ parented cat cs pos t ls
    unfolding parented
    parented-child p end beneath f g h =
        let i : p.0 + 1 ≡ suc p.0 = omega arith in
        rw (ne_eqb t.0 1 e, ← f, i, g, h)

  parented-is : (area : Bytes) (m : ℕ) → inserted_in cat cs pos area m (arriving cat t area) (parented cat cs pos t ls) ≡ insert cat cs pos area m t ls
  unfolding parented insert
  parented-is area m = elim (is (eqb t.0 1)) [
    | on e ↦
        rw e (sym (among-is cat cs pos area m (arriving cat t area) [] 0 (length cs) (length cs) (omega arith)
        ∙ ap (inserted_among cat cs pos area m (arriving cat t area) 0 (length cs)) (none_above pos.parentage)))
    | off e ↦ rw e (sym (found-is cat cs pos area m (arriving cat t area) (along cat cs ls pos.place)))
  ]

-- LAW: ISRT where the parent leads to is ISRT
pub inserts : (cat tab : Bytes) (pos : Position) (area : Bytes) {t u : TypeCode} (ls : List Level) {p : Option Siblings} → t ≡ u
    → p ≡ parented cat (listing cat tab) pos t ls
    → landed cat tab (inserted_in cat (listing cat tab) pos area (room cat tab) (arriving cat t area) p)
    ≡ landed cat tab (insert cat (listing cat tab) pos area (room cat tab) u ls)
inserts cat tab pos area {t} ls same e =
    ap (λ (q : Option Siblings). landed cat tab (inserted_in cat (listing cat tab) pos area (room cat tab) (arriving cat t area) q)) e
    ∙ ap (landed cat tab) (parented-is cat (listing cat tab) pos t ls area (room cat tab))
    ∙ ap (λ (v : TypeCode). landed cat tab (insert cat (listing cat tab) pos area (room cat tab) v ls)) same
