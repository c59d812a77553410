-- The parent that a search along the position finds: a cell in use, and of the type that the list was completed down to. Assumes nothing.
use Rattle.std.specs.Prelude.{Some, None, Option}
use mathlib.Core.Path.{◌≡◌, refl, ap, sym, ◌∙◌}
use mathlib.Core.Bool.{Bool, true, false, ◌&&◌, ◌||◌}
use mathlib.Core.List.{List}
use Prim.Native.Nat.{ℕ, zero, suc, ◌+◌, ◌-◌, ◌<◌, ◌≤◌}
use native.Mathlib.Omega.{arith}
use lib.Dec.{eqb}
use lib.ListN.{length}
use borrow.Author.Tests.{eqb-true, eq-eqb}
use Rattle.terms.specs.declared.TypeCode.{TypeCode}
use Rattle.terms.specs.declared.CellNumber.{CellNumber}
use Rattle.terms.specs.declared.Place.{Place}
use Rattle.terms.specs.declared.Position.{Position}
use Rattle.terms.specs.Names.{cell}
use Rattle.forest.specs.Forest.{inside, outside, side}
use Rattle.forest.specs.Good.{on, off, is, both_left, both_right}
use Rattle.forest.specs.Numbers.{is_in}
use Rattle.rules.specs.Block.{Bytes}
use Rattle.rules.specs.Catalogue.{parent_of, lineage, level, is_type, type_beneath}
use Rattle.rules.specs.Cells.{Segment, segment, level_at, end_at}
use Rattle.rules.specs.Table.{count, listing}
use Rattle.rules.specs.Arguments.{Level, list_read, last_argument, parent_levels, asked_of}
use Rattle.rules.specs.Matching.{satisfies, matches, seek, first_match, kept, sought_beneath, along}
use Rattle.rules.specs.Position.{good_place}
use Rattle.rules.proofs.Cells.{listing-length}
use Rattle.rules.proofs.Search.{seek-none, seek-here, seek-next}
use Rattle.catalogue.proofs.Hierarchy.{type-range, parent-least, lineage-up, beneath-later}
use Rattle.arguments.specs.Sound.{SoundList}
use Rattle.arguments.proofs.Sound.{last-asks}
use Rattle.arguments.proofs.Complete.{complete-length}
use Rattle.search.specs.Good.{Good}
use Rattle.search.specs.Stretch.{levels, stretch, stretch_before}
use Rattle.search.proofs.Carry.{full-agrees}
use Rattle.search.proofs.Levels.{agrees-own}
use Rattle.search.proofs.Branches.{steps, level-some, carried-cell, match-stretch, kept-place, end-in, known-parent}
use Rattle.twins.specs.Among.{New, Beneath, top, child}
use Rattle.twins.proofs.Passing.{type-same}
use Rattle.answers.specs.Ready.{Ready}
use Rattle.changes.specs.declared.insert.Siblings.{Siblings}
use Rattle.changes.specs.Among.{among, parented_at, parented}
use Rattle.changes.proofs.Keys.{area-long}
use Rattle.changes.proofs.Changed.{place-good}

-- where the cells among which a new one goes begin, and where they end
abbrev front : Option Siblings → ℕ
front None = 0
front (Some s) = s.from

abbrev back : Option Siblings → ℕ
back None = 0
back (Some s) = s.to

module _ {cat tab list : Bytes} {size : ℕ} {t : TypeCode} (g : Good cat tab list size t) (some : 0 < t.0) where
  abbrev cs : List Segment
  cs = listing cat tab

  abbrev ls : List Level
  ls = levels cat list t

  last-level : length ls ≡ level cat t
  last-level = complete-length cat list (list_read cat list).arguments t

  -- a cell whose path agrees as a whole stands in the lineage of t; on t's own level it has type t
  whole-type : (i : ℕ) → i < count tab → stretch cat cs ls i ≡ level_at cat cs i → level_at cat cs i ≡ level cat t → (segment cs i).code ≡ t
  unfolding level_at type_beneath
  whole-type i h e f =
      let own : TypeCode = (segment cs i).code in
      let a : is_in own.0 (lineage cat t) ≡ true =
      both_left (is_in own.0 (lineage cat t)) (satisfies cat (segment cs i) (asked_of cat list (list_read cat list).arguments own))
      (sym (agrees-own cat list (list_read cat list).arguments cs i g.catalogue t g.known (level-some g i h))
      ∙ full-agrees cat cs ls (count tab) (steps g) i (stretch_before cat cs ls i) h (carried-cell g i (stretch_before cat cs ls i) h refl) e) in
      let b : (eqb own.0 t.0 || is_in own.0 (lineage cat (parent_of cat t))) ≡ true = sym (ap (is_in own.0) (lineage-up cat g.catalogue t some g.known)) ∙ a in
      elim (is (eqb own.0 t.0)) [
        | on k ↦ type-same refl (eqb-true own.0 t.0 k)
        | off k ↦ absurd (let c : type_beneath cat t own ≡ true = rw k at b in omega (arith, (beneath-later cat g.catalogue t own some g.known c).2))
      ]

  match-type : (i : ℕ) → i < count tab → matches cat cs ls i ≡ true → (segment cs i).code ≡ t
  match-type i h e =
      let m : (eqb (level_at cat cs i) (length ls) && eqb (stretch cat cs ls i) (length ls)) ≡ true = sym (match-stretch g i h some) ∙ e in
      let a : level_at cat cs i ≡ length ls = eqb-true (level_at cat cs i) (length ls) (both_left (eqb (level_at cat cs i) (length ls)) (eqb (stretch cat cs ls i) (length ls)) m) in
      let b : stretch cat cs ls i ≡ length ls = eqb-true (stretch cat cs ls i) (length ls) (both_right (eqb (level_at cat cs i) (length ls)) (eqb (stretch cat cs ls i) (length ls)) m) in
      whole-type i h (b ∙ sym a) (a ∙ last-level)

  abbrev Sought : ℕ → CellNumber → Type 0
  Sought e c = (c.0 < e) × (matches cat cs ls c.0 ≡ true)

  seek_found : (n i e : ℕ) (c : CellNumber) → i + n ≤ e → Some c ≡ seek cat cs ls i n → Sought e c
  seek_found zero i e c l f = absurd (let y : Some c ≡ None = f ∙ seek-none cat cs ls i in let z : ◌≡◌ {A = ℕ} 0 1 = cc in omega arith)
  seek_found (suc n) i e c l f = elim (is (matches cat cs ls i)) [
    | on m ↦
        let y : Some c ≡ Some (cell i) = f ∙ seek-here cat cs ls i (suc n) (omega arith) m in
        let z : c ≡ cell i = cc in
        rw z (omega arith, m)
    | off m ↦ (let z : suc n - 1 ≡ n = omega arith in seek_found n (suc i) e c (omega arith) (f ∙ seek-next cat cs ls i (suc n) (omega arith) m ∙ ap (seek cat cs ls (suc i)) z))
  ]

  first_found : (i e : ℕ) (c : CellNumber) → e ≤ count tab → Some c ≡ first_match cat cs ls i e → (c.0 < count tab) × ((segment cs c.0).code ≡ t)
  unfolding first_match
  first_found i e c l f = elim (side i e) [
    | inside h ↦ (let s : Sought e c = seek_found (e - i) i e c (omega arith) f in let k : c.0 < count tab = omega (arith, s.0) in (k, match-type c.0 k s.1))
    | outside h ↦
        let z : e - i ≡ 0 = omega arith in
        absurd (let s : Sought 0 c = seek_found 0 0 0 c (omega arith) (f ∙ ap (seek cat cs ls i) z ∙ seek-none cat cs ls i ∙ sym (seek-none cat cs ls 0)) in omega (arith, s.0))
  ]

  kept-found : (q : Option CellNumber) (c : CellNumber) → ((d : CellNumber) → q ≡ Some d → (d.0 < count tab) × (stretch cat cs ls d.0 ≡ level_at cat cs d.0))
      → Some c ≡ sought_beneath cat cs ls q → (c.0 < count tab) × ((segment cs c.0).code ≡ t)
  kept-found None c w e = first_found 0 (length cs) c (omega (arith, listing-length cat tab)) e
  kept-found (Some d) c w e =
      let v = w d refl in
      elim (is (eqb (level_at cat cs d.0) (length ls))) [
        | on k ↦
            let y : Some c ≡ Some d = rw k at e in
            let z : c ≡ d = cc in
            rw z (v.0, whole-type d.0 v.0 v.1 (eqb-true (level_at cat cs d.0) (length ls) k ∙ last-level))
        | off k ↦ first_found (suc d.0) (end_at cat cs d.0) c (end-in g d.0 v.0) (rw k at e)
      ]

  -- LAW: what is found along the position is a cell in use, and of the last type
  pub along-found : (q : Place) (c : CellNumber) → good_place cat cs q ≡ true → Some c ≡ along cat cs ls q → (c.0 < count tab) × ((segment cs c.0).code ≡ t)
  unfolding along
  along-found q c h e = kept-found (kept cat cs ls q) c (λ d f. kept-place g q d h (sym f)) e

-- what ISRT has of its list: the last argument's type, which the code has read, and the parent of that
module _ {cat tab list : Bytes} {size : ℕ} {pos : Position} (r : Ready cat tab size pos list) (filled : 0 < length list)
    {t : TypeCode} (same : t ≡ (last_argument (list_read cat list).arguments).code) where
  sound-list : SoundList cat list
  sound-list = record { catalogue = r.sound.catalogue; read = r.asked }

  last-type : is_type cat t ≡ true
  last-type = rw same (last-asks cat list sound-list filled).type

  pub new-ready : {area : Bytes} → size ≤ suc (length area) → New cat tab size t area
  new-ready {area} l = record { sound = r.sound; known = last-type; enough = area-long r.sound t area last-type l }

  pub place-ready : good_place cat (listing cat tab) pos.place ≡ true
  place-ready = place-good cat (listing cat tab) pos r.position

  module _ {p : TypeCode} (e : p ≡ parent_of cat t) where
    pub parent-ready : Good cat tab list size p
    parent-ready = record {
      catalogue = r.sound.catalogue;
      table = r.sound.table;
      sized = r.sound.sized;
      sound = r.asked;
      known = rw (e, same) (known-parent cat list sound-list filled);
    }

    -- the levels that the code seeks are those of the promise
    pub parent-levels : {f : Option CellNumber} → f ≡ along cat (listing cat tab) (levels cat list p) pos.place
        → f ≡ along cat (listing cat tab) (parent_levels cat list (list_read cat list).arguments) pos.place
    parent-levels h = rw (e, same) at h

    module _ (beneath : t.0 ≡ 1 → ⊥) {c : CellNumber} (h : Some c ≡ along cat (listing cat tab) (levels cat list p) pos.place) where
      found : (c.0 < count tab) × ((segment (listing cat tab) c.0).code ≡ p)
      found =
          let b = type-range cat t last-type in
          along-found parent-ready (rw e (parent-least cat r.sound.catalogue t (omega (arith, beneath, b.0)) b.1)) pos.place c place-ready h

      pub parent_in : c.0 < count tab
      parent_in = found.0

  -- the levels of the promise are those down to the parent's type
  abbrev asked : Option CellNumber
  asked = along cat (listing cat tab) (parent_levels cat list (list_read cat list).arguments) pos.place

  found-beneath : (beneath : t.0 ≡ 1 → ⊥) (q : Option CellNumber) → q ≡ asked → {from to : ℕ} {d : Bool}
      → among from to d ≡ parented_at cat (listing cat tab) pos q → Beneath cat tab t from to
  found-beneath beneath None h f = absurd (let z : ◌≡◌ {A = ℕ} 0 1 = cc in omega arith)
  found-beneath beneath (Some c) h {from} {to} f =
      let g : Some c ≡ along cat (listing cat tab) (levels cat list (parent_of cat t)) pos.place = rw same h in
      let a = found refl beneath g in
      let y : from ≡ suc c.0 = ap front f in
      child c.0 a.0 a.1 (omega (arith, y)) (ap back f)

  -- LAW: the cells that the parent leads to are all those where the new one may go
  pub parented-beneath : {from to : ℕ} {d : Bool}
      → among from to d ≡ parented cat (listing cat tab) pos t (parent_levels cat list (list_read cat list).arguments) → Beneath cat tab t from to
  unfolding parented
  parented-beneath {from} {to} {d} f = elim (is (eqb t.0 1)) [
    | on k ↦
        let z : among from to d ≡ among 0 (length (listing cat tab)) false = rw k at f in
        let x : from ≡ 0 = ap front z in
        let y : to ≡ length (listing cat tab) = ap back z in
        top (eqb-true t.0 1 k) x (y ∙ listing-length cat tab)
    | off k ↦
        let z : among from to d ≡ parented_at cat (listing cat tab) pos asked = rw k at f in
        found-beneath (λ e. let y : true ≡ false = sym (eq-eqb t.0 1 e) ∙ k in absurd (let o : ◌≡◌ {A = ℕ} 0 1 = cc in omega arith)) asked refl z
  ]
