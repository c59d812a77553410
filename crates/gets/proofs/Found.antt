-- What a search finds is a cell of the table, and a good position has its places in it. Assumes nothing.
use Rattle.std.specs.Prelude.{Some, None, Option}
use mathlib.Core.Path.{◌≡◌, refl, ap, sym, ◌∙◌}
use mathlib.Core.Bool.{true, ◌&&◌}
use mathlib.Core.List.{List}
use Prim.Native.Nat.{ℕ, zero, suc, ◌+◌, ◌-◌, ◌<◌, ◌≤◌}
use native.Mathlib.Omega.{arith}
use lib.Dec.{ltb, leb, eqb}
use lib.ListN.{length}
use borrow.Author.Tests.{ltb-true, ltb-false, leb-true}
use Rattle.terms.specs.declared.TypeCode.{TypeCode}
use Rattle.terms.specs.declared.CellNumber.{CellNumber}
use Rattle.terms.specs.declared.Place.{Place}
use Rattle.terms.specs.declared.Place.TheVariants.{On, Before}
use Rattle.terms.specs.declared.Position.{Position}
use Rattle.terms.specs.Names.{cell}
use Rattle.terms.specs.Moves.{after_place}
use Rattle.forest.specs.Good.{on, off, is, both_left, both_right}
use Rattle.rules.specs.Block.{Bytes}
use Rattle.rules.specs.Cells.{Segment, level_at, end_at}
use Rattle.rules.specs.Table.{count, listing}
use Rattle.rules.specs.Arguments.{Level}
use Rattle.rules.specs.Matching.{matches, seek, first_match, kept, sought_beneath, along}
use Rattle.rules.specs.Position.{good_place, good_parentage, good_hold, good_position}
use Rattle.rules.proofs.Cells.{listing-length, row-run}
use Rattle.rules.proofs.Search.{seek-none, seek-here, seek-next}
use Rattle.search.specs.Good.{Good}
use Rattle.search.specs.Stretch.{levels}
use Rattle.search.proofs.Branches.{kept-place, end-in}

nothing-at : (c : CellNumber) → None ≡ Some c → ⊥
nothing-at c e = let z : ◌≡◌ {A = ℕ} 0 1 = cc in omega arith

at_same : (c d : CellNumber) → Some c ≡ Some d → c ≡ d
at_same c d e = cc

module _ (cat : Bytes) (cs : List Segment) (ls : List Level) where
  seek-in : (n i : ℕ) (c : CellNumber) → seek cat cs ls i n ≡ Some c → c.0 < i + n
  seek-in zero i c e = absurd (nothing-at c (sym (seek-none cat cs ls i) ∙ e))
  seek-in (suc n) i c e = elim (is (matches cat cs ls i)) [
    | on h ↦ (let z : cell i ≡ c = at_same (cell i) c (sym (seek-here cat cs ls i (suc n) (omega arith) h) ∙ e) in omega (arith, ap (λ (d : CellNumber). d.0) z))
    | off h ↦
        let m : suc n - 1 ≡ n = omega arith in
        let z : seek cat cs ls (suc i) n ≡ Some c = rw m at (sym (seek-next cat cs ls i (suc n) (omega arith) h) ∙ e) in
        omega (arith, seek-in n (suc i) c z)
  ]

  pub first-in : (i e : ℕ) (c : CellNumber) → first_match cat cs ls i e ≡ Some c → c.0 < e
  unfolding first_match
  first-in i e c f = elim (is (ltb i e)) [
    | on h ↦ omega (arith, ltb-true i e h, seek-in (e - i) i c f)
    | off h ↦ (let z : e - i ≡ 0 = omega (arith, ltb-false i e h) in absurd (nothing-at c (sym (seek-none cat cs ls i) ∙ (rw z at f))))
  ]

module _ {cat tab list : Bytes} {size : ℕ} {t : TypeCode} (g : Good cat tab list size t) where
  abbrev cs : List Segment
  cs = listing cat tab

  abbrev ls : List Level
  ls = levels cat list t

  sought-in : (k : Option CellNumber) (q : Place) (c : CellNumber) → good_place cat cs q ≡ true → k ≡ kept cat cs ls q → sought_beneath cat cs ls k ≡ Some c → c.0 < count tab
  sought-in None q c h e f = omega (arith, first-in cat cs ls 0 (length cs) c f, listing-length cat tab)
  sought-in (Some d) q c h e f =
      let w : d.0 < count tab = (kept-place g q d h e).0 in
      elim (is (eqb (level_at cat cs d.0) (length ls))) [
        | on b ↦ (let y : Some d ≡ Some c = rw b at f in let z : d ≡ c = at_same d c y in omega (arith, ap (λ (x : CellNumber). x.0) z))
        | off b ↦ (let y : first_match cat cs ls (suc d.0) (end_at cat cs d.0) ≡ Some c = rw b at f in omega (arith, first-in cat cs ls (suc d.0) (end_at cat cs d.0) c y, end-in g d.0 w))
      ]

  pub along-in : (q : Place) (c : CellNumber) → good_place cat cs q ≡ true → along cat cs ls q ≡ Some c → c.0 < count tab
  unfolding along
  along-in q c h f = sought-in (kept cat cs ls q) q c h refl f

module _ (cat tab : Bytes) (pos : Position) (e : good_position cat (listing cat tab) pos ≡ true) where
  abbrev cells : List Segment
  cells = listing cat tab

  pub place-good : good_place cat cells pos.place ≡ true
  unfolding good_position
  place-good =
      both_left (good_place cat cells pos.place) (good_parentage cat cells pos.place pos.parentage)
      (both_left (good_place cat cells pos.place && good_parentage cat cells pos.place pos.parentage) (good_hold cat cells pos.place pos.hold) e)

  parentage-good : good_parentage cat cells pos.place pos.parentage ≡ true
  unfolding good_position
  parentage-good =
      both_right (good_place cat cells pos.place) (good_parentage cat cells pos.place pos.parentage)
      (both_left (good_place cat cells pos.place && good_parentage cat cells pos.place pos.parentage) (good_hold cat cells pos.place pos.hold) e)

  after-place : (q : Place) → good_place cat cells q ≡ true → after_place q ≤ count tab
  after-place (On c) h = omega (arith, ltb-true c.0 (length cells) h, listing-length cat tab)
  after-place (Before c) h = omega (arith, leb-true c.0 (length cells) h, listing-length cat tab)

  pub after-in : after_place pos.place ≤ count tab
  after-in = after-place pos.place place-good

  parent-of : (q : Place) (p : CellNumber) → good_place cat cells q ≡ true → good_parentage cat cells q (Some p) ≡ true → p.0 < count tab
  parent-of (On c) p h k =
      let l : c.0 < length cells = ltb-true c.0 (length cells) h in
      let r : (leb p.0 c.0 && ltb c.0 (end_at cat cells p.0)) ≡ true = sym (row-run cat cells p.0 c.0 l) ∙ k in
      omega (arith, leb-true p.0 c.0 (both_left (leb p.0 c.0) (ltb c.0 (end_at cat cells p.0)) r), listing-length cat tab)
  parent-of (Before c) p h k =
      omega (arith, ltb-true p.0 c.0 (both_left (ltb p.0 c.0) (leb c.0 (end_at cat cells p.0)) k), leb-true c.0 (length cells) h, listing-length cat tab)

  pub parent_in : (p : CellNumber) → pos.parentage ≡ Some p → p.0 < count tab
  parent_in p f = parent-of pos.place p place-good (rw f at parentage-good)

  pub on-place : (c : CellNumber) → pos.place ≡ On c → c.0 < count tab
  on-place c f = let h : good_place cat cells (On c) ≡ true = rw f at place-good in omega (arith, ltb-true c.0 (length cells) h, listing-length cat tab)

  parent-around : (q : Place) (p : CellNumber) → good_place cat cells q ≡ true → good_parentage cat cells q (Some p) ≡ true → (p.0 < after_place q) × (after_place q ≤ end_at cat cells p.0)
  parent-around (On c) p h k =
      let l : c.0 < length cells = ltb-true c.0 (length cells) h in
      let r : (leb p.0 c.0 && ltb c.0 (end_at cat cells p.0)) ≡ true = sym (row-run cat cells p.0 c.0 l) ∙ k in (
        omega (arith, leb-true p.0 c.0 (both_left (leb p.0 c.0) (ltb c.0 (end_at cat cells p.0)) r)),
        omega (arith, ltb-true c.0 (end_at cat cells p.0) (both_right (leb p.0 c.0) (ltb c.0 (end_at cat cells p.0)) r)),
      )
  parent-around (Before c) p h k = (
    ltb-true p.0 c.0 (both_left (ltb p.0 c.0) (leb c.0 (end_at cat cells p.0)) k),
    leb-true c.0 (end_at cat cells p.0) (both_right (ltb p.0 c.0) (leb c.0 (end_at cat cells p.0)) k),
  )

  -- the cell after the place lies behind the parentage, and its run comes up to it
  pub around : (p : CellNumber) → pos.parentage ≡ Some p → (p.0 < after_place pos.place) × (after_place pos.place ≤ end_at cat cells p.0)
  around p f = parent-around pos.place p place-good (rw f at parentage-good)
