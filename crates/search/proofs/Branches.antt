-- The laws of a search, in the shape of the code's branches: over good blocks, with what the code has read. Assumes nothing.
use Rattle.std.specs.Prelude.{Some, None}
use mathlib.Core.Path.{◌≡◌, refl, ap, sym, ◌∙◌}
use mathlib.Core.Bool.{Bool, true, false, ◌&&◌}
use mathlib.Core.List.{List, [], ◌∷◌}
use mathlib.Core.Logic.{inl, inr}
use Prim.Native.Nat.{ℕ, zero, suc, ◌+◌, ◌-◌, ◌<◌, ◌≤◌}
use native.Mathlib.Numerals.{add-one}
use native.Mathlib.Omega.{arith}
use lib.Dec.{eqb}
use lib.ListN.{length, drop}
use borrow.Author.Tests.{eq-eqb, ne_eqb, ltb-true, eqb-true, eqb-false}
use Rattle.terms.specs.declared.TypeCode.{TypeCode}
use Rattle.terms.specs.declared.CellNumber.{CellNumber}
use Rattle.terms.specs.declared.Place.{Place}
use Rattle.terms.specs.declared.Place.TheVariants.{On, Before}
use Rattle.terms.specs.Choice.{pick}
use Rattle.terms.specs.Names.{cell}
use Rattle.forest.specs.Forest.{inside, outside, side}
use Rattle.forest.specs.Good.{on, off, is, both_right}
use Rattle.forest.specs.Numbers.{ancestors, is_in}
use Rattle.forest.specs.Types as Types
use Rattle.rules.specs.Block.{Bytes}
use Rattle.rules.specs.Catalogue.{types, parent_of, is_type, lineage, level}
use Rattle.rules.specs.Cells.{Segment, segment, level_at, end_at, good_listing}
use Rattle.rules.specs.Table.{count, listing}
use Rattle.rules.specs.Arguments.{Level, ListRead, list_read, last_argument}
use Rattle.rules.specs.Matching.{path_to, matches, seek, first_match, kept_on, kept, sought_beneath, along}
use Rattle.rules.specs.Position.{good_place}
use Rattle.rules.proofs.Catalogue.{par, good-lower}
use Rattle.rules.proofs.Cells.{listing-length}
use Rattle.rules.proofs.Search.{seek-none, seek-here, seek-next}
use Rattle.catalogue.proofs.Hierarchy.{parent-least, parent-before, level-child, level-least, lineage-up}
use Rattle.cells.specs.Lent.{nearest, parent_at}
use Rattle.cells.proofs.Located.{end_after, end-within}
use Rattle.cells.proofs.Ancestry.{own-type, sound-listing}
use Rattle.search.specs.declared.Reached.{Reached}
use Rattle.search.specs.Stretch.{levels, agrees_alone, stretch, stretch_before, Carried}
use Rattle.search.specs.Good.{Good, NextRoot, Beneath, Upcoming, Continued, reached}
use Rattle.search.proofs.Rows.{Regular, back-parts}
use Rattle.search.proofs.Carry.{head_agrees, head_implied, stretch-within, stretch-le, carried-before, next-short, next-on, next-off, match-yes, match-not}
use Rattle.search.proofs.Carry.{kept-none, kept_tried, kept_row, kept-short, kept_full}
use Rattle.search.proofs.Levels.{regular, agrees-own}
use Rattle.cells.specs.Sound.{Sound}
use Rattle.arguments.specs.Sound.{SoundList}
use Rattle.arguments.proofs.Complete.{complete-length}
use Rattle.arguments.proofs.Above.{type-first, type-last}
use Rattle.arguments.proofs.Sound.{last-asks, list-empty}

-- the first match before e, cell by cell
module _ (cat : Bytes) (cs : List Segment) (ls : List Level) (i e : ℕ) where
  pub first-none : e ≤ i → None ≡ first_match cat cs ls i e
  unfolding first_match
  first-none h = let z : e - i ≡ 0 = omega arith in sym (ap (seek cat cs ls i) z ∙ seek-none cat cs ls i)

  first-here : i < e → matches cat cs ls i ≡ true → Some (cell i) ≡ first_match cat cs ls i e
  unfolding first_match
  first-here h m = sym (seek-here cat cs ls i (e - i) (omega arith) m)

  first_next : i < e → matches cat cs ls i ≡ false → first_match cat cs ls (i + 1) e ≡ first_match cat cs ls i e
  unfolding first_match
  first_next h m =
      let z : e - suc i ≡ e - i - 1 = omega arith in
      rw add-one (sym (seek-next cat cs ls i (e - i) (omega arith) m ∙ sym (ap (seek cat cs ls (suc i)) z)))

every-match : (cat : Bytes) (cs : List Segment) (i : ℕ) → matches cat cs [] i ≡ true
unfolding matches
every-match cat cs i = refl

-- the parent that climbing finds
module _ (cat : Bytes) (cs : List Segment) (i : ℕ) where
  pub parent-none : None ≡ parent_at cat cs i → ancestors (level_at cat cs) i ≡ []
  unfolding parent_at
  parent-none e = elim (back-parts (level_at cat cs) (level_at cat cs i) i) [
    | inl f ↦ f
    | inr r ↦ absurd (let z : None ≡ Some (cell r.0) = e ∙ ap nearest r.3 in let y : ◌≡◌ {A = ℕ} 0 1 = cc in omega arith)
  ]

  pub parent-some : (c : CellNumber) → Some c ≡ parent_at cat cs i → (c.0 < i) × (ancestors (level_at cat cs) i ≡ c.0 ∷ ancestors (level_at cat cs) c.0)
  unfolding parent_at
  parent-some c e = elim (back-parts (level_at cat cs) (level_at cat cs i) i) [
    | inl f ↦ absurd (let z : Some c ≡ None = e ∙ ap nearest f in let y : ◌≡◌ {A = ℕ} 0 1 = cc in omega arith)
    | inr r ↦
        let z : Some c ≡ Some (cell r.0) = e ∙ ap nearest r.3 in
        let y : c ≡ cell r.0 = cc in
        rw y (r.1, r.3)
  ]

module _ {cat tab list : Bytes} {size : ℕ} {t : TypeCode} (g : Good cat tab list size t) where
  abbrev cs : List Segment
  cs = listing cat tab

  abbrev ls : List Level
  ls = levels cat list t

  abbrev lev : ℕ → ℕ
  lev = level_at cat cs

  pub good-sound : Sound cat tab size
  good-sound = record { catalogue = g.catalogue; table = g.table; sized = g.sized }

  good-cells : good_listing cat cs ≡ true
  good-cells = sound-listing good-sound

  pub steps : Regular lev (count tab)
  steps i h = regular cat g.catalogue cs good-cells i (omega (arith, listing-length cat tab))

  pub level-some : (i : ℕ) → i < count tab → 1 ≤ lev i
  level-some i h = (steps i h).0

  last-level : length ls ≡ level cat t
  last-level = complete-length cat list (list_read cat list).arguments t

  some_level : 0 < t.0 → 0 < length ls
  unfolding level lineage
  some_level h = omega (arith, last-level, ap length (Types.lineage-step (par cat) (types cat) (good-lower cat g.catalogue) t.0 h g.known))

  no-level : t.0 ≡ 0 → length ls ≡ 0
  unfolding level lineage Types.lineage Types.lineage_from
  no-level e = last-level ∙ ap (λ (n : ℕ). length (Types.lineage (par cat) n)) e

  -- the last type is a level
  pub own_in : (u : TypeCode) → 0 < t.0 → u.0 ≡ t.0 → is_in u.0 (lineage cat t) ≡ true
  own_in u s e = ap (is_in u.0) (lineage-up cat g.catalogue t s g.known) ∙ rw (eq-eqb u.0 t.0 e)

  -- one cell: l is its level, as the code has read it
  module _ (i k l : ℕ) (h : i < count tab) (e : l ≡ lev i) where
    pub agrees-cell : head_agrees cat cs (drop (lev i - 1) ls) i ≡ agrees_alone cat list t (segment cs i)
    unfolding agrees_alone
    agrees-cell = agrees-own cat list (list_read cat list).arguments cs i g.catalogue t g.known (level-some i h)

    pub stretch-short : Carried cat cs ls i k → k < l - 1 → k ≡ stretch cat cs ls i
    stretch-short c x = next-short cat cs ls (count tab) steps i k h c (omega arith)

    pub stretch-on : Carried cat cs ls i k → l - 1 ≤ k → agrees_alone cat list t (segment cs i) ≡ true → l ≡ stretch cat cs ls i
    stretch-on c x a = e ∙ next-on cat cs ls (count tab) steps i k h c (omega arith) (agrees-cell ∙ a)

    pub stretch-off : Carried cat cs ls i k → l - 1 ≤ k → agrees_alone cat list t (segment cs i) ≡ false → l - 1 ≡ stretch cat cs ls i
    stretch-off c x a = ap (λ (n : ℕ). n - 1) e ∙ next-off cat cs ls (count tab) steps i k h c (omega arith) (agrees-cell ∙ a)

  -- a cell of another type than the root's lies beneath a root: with nothing carried its stretch is nothing
  stretch-none : (i k : ℕ) (u : TypeCode) → i < count tab → Carried cat cs ls i k → k ≡ 0 → u ≡ (segment cs i).code → (u.0 ≡ 1 → ⊥) → 0 ≡ stretch cat cs ls i
  unfolding level_at
  stretch-none i k u h c z e n =
      let o = own-type cat cs g.catalogue good-cells i (omega (arith, listing-length cat tab)) in
      let m : u.0 ≡ (segment cs i).code.0 = ap (λ (x : TypeCode). x.0) e in
      let v : TypeCode = (segment cs i).code in
      let p : 1 ≤ (parent_of cat v).0 = parent-least cat g.catalogue v (omega (arith, o.0)) o.1 in
      let b : (parent_of cat v).0 < v.0 = parent-before cat g.catalogue v o.0 o.1 in
      let l : 2 ≤ lev i = omega (arith, level-child cat g.catalogue v o.0 o.1, level-least cat g.catalogue (parent_of cat v) p (omega (arith, o.1))) in
      sym z ∙ stretch-short i k (lev i) h refl c (omega arith)

  -- the pass forward: what is carried, and what a turn finds
  pub carried-cell : (i k : ℕ) → i < count tab → k ≡ stretch_before cat cs ls i → Carried cat cs ls i k
  carried-cell i k h e = rw e (carried-before cat cs ls (count tab) steps i h)

  pub before-next : (i long : ℕ) → long ≡ stretch cat cs ls i → long ≡ stretch_before cat cs ls (i + 1)
  before-next i long e = rw add-one e

  pub before-cell : (i : ℕ) (r : Reached) → (i ≡ 0 → ⊥) → r ≡ reached cat cs ls (i - 1) → r.long ≡ stretch_before cat cs ls i
  unfolding reached
  before-cell zero r n e = absurd (n refl)
  before-cell (suc i) r n e = let z : suc i - 1 ≡ i = omega arith in ap (λ (x : Reached). x.long) e ∙ ap (stretch cat cs ls) z

  module _ (i l long last to : ℕ) (h : i < to) (w : to ≤ count tab) (s : 0 < t.0) (e : l ≡ lev i) (f : long ≡ stretch cat cs ls i) (z : last ≡ level cat t) where
    pub turn-found : l ≡ last → long ≡ last → Some (cell i) ≡ first_match cat cs ls i to
    turn-found a b =
        first-here cat cs ls i to h (match-yes cat cs ls (count tab) steps i (omega arith) (some_level s) (omega (arith, last-level)) (omega (arith, last-level)))

    pub turn-next : (l ≡ last → long ≡ last → ⊥) → first_match cat cs ls (i + 1) to ≡ first_match cat cs ls i to
    turn-next n =
        first_next cat cs ls i to h (match-not cat cs ls (count tab) steps i (omega arith) (some_level s) (λ a b. n (omega (arith, last-level)) (omega (arith, last-level))))

  -- where nothing is carried, a cell of another type than the root's is passed over
  root-next : (i k to : ℕ) (u : TypeCode) → i < to → to ≤ count tab → 0 < t.0 → k ≡ 0 → k ≡ stretch_before cat cs ls i → u ≡ (segment cs i).code → (u.0 ≡ 1 → ⊥)
      → (k ≡ stretch_before cat cs ls (i + 1)) × (first_match cat cs ls (i + 1) to ≡ first_match cat cs ls i to)
  root-next i k to u h w s z b e n =
      let f : 0 ≡ stretch cat cs ls i = stretch-none i k u (omega arith) (carried-cell i k (omega arith) b) z e n in
      (before-next i k (z ∙ f), turn-next i (lev i) 0 (level cat t) to h w s refl f refl (λ a y. omega (arith, some_level s, last-level)))

  roots-past : (n i k to : ℕ) → i + n ≤ to → to ≤ count tab → 0 < t.0 → k ≡ 0 → k ≡ stretch_before cat cs ls i → ((j : ℕ) → i ≤ j → j < i + n → (segment cs j).code.0 ≡ 1 → ⊥)
      → (k ≡ stretch_before cat cs ls (i + n)) × (first_match cat cs ls (i + n) to ≡ first_match cat cs ls i to)
  roots-past zero i k to h w s z b n = let e : i + 0 ≡ i = omega arith in rw e (b, refl)
  roots-past (suc m) i k to h w s z b n =
      let e : i + suc m ≡ i + 1 + m = omega arith in
      let f = root-next i k to (segment cs i).code (omega arith) w s z b refl (n i (omega arith) (omega arith)) in
      let g = roots-past m (i + 1) k to (omega arith) w s z f.0 (λ j a c. n j (omega arith) (omega arith)) in
      rw e (g.0, g.1 ∙ f.1)

  pub root-past : (i k to r : ℕ) → to ≤ count tab → 0 < t.0 → k ≡ 0 → k ≡ stretch_before cat cs ls i → NextRoot cs i to r
      → Upcoming cat tab list t k i to r
  root-past i k to r w s z b n =
      let e : i + (r - i) ≡ r = omega (arith, n.least) in
      let g = rw e at (roots-past (r - i) i k to (omega (arith, n.most)) w s z b (λ j a c. n.others j a (omega arith))) in
      (n.least, n.most, g.0, g.1)

  -- LAW: whether a cell matches, from its stretch
  pub match-stretch : (i : ℕ) → i < count tab → 0 < t.0 → matches cat cs ls i ≡ (eqb (lev i) (length ls) && eqb (stretch cat cs ls i) (length ls))
  match-stretch i h s = elim (is (eqb (lev i) (length ls))) [
    | on a ↦ rw a (elim (is (eqb (stretch cat cs ls i) (length ls))) [
      | on b ↦ rw b (match-yes cat cs ls (count tab) steps i h (some_level s) (eqb-true (lev i) (length ls) a) (eqb-true (stretch cat cs ls i) (length ls) b))
      | off b ↦ rw b (match-not cat cs ls (count tab) steps i h (some_level s) (λ x y. eqb-false (stretch cat cs ls i) (length ls) b y))
    ])
    | off a ↦ rw a (match-not cat cs ls (count tab) steps i h (some_level s) (λ x y. eqb-false (lev i) (length ls) a x))
  ]

  -- LAW: a cell that matches agrees down to the last type
  matched-stretch : (i : ℕ) → i < count tab → 0 < t.0 → matches cat cs ls i ≡ true → stretch cat cs ls i ≡ level cat t
  matched-stretch i h s m =
      let b : (eqb (lev i) (length ls) && eqb (stretch cat cs ls i) (length ls)) ≡ true = sym (match-stretch i h s) ∙ m in
      eqb-true (stretch cat cs ls i) (length ls) (both_right (eqb (lev i) (length ls)) (eqb (stretch cat cs ls i) (length ls)) b) ∙ last-level

  -- so that nothing has to be climbed behind one
  pub before-matched : (i l : ℕ) → i ≤ count tab → 0 < t.0 → (i ≡ 0 → ⊥) → Continued cat tab list t i → l ≡ level cat t → l ≡ stretch_before cat cs ls i
  before-matched zero l h s n c e = absurd (n refl)
  before-matched (suc i) l h s n c e =
      let z : suc i - 1 ≡ i = omega arith in
      e ∙ sym (matched-stretch i (omega arith) s (rw z at (c (omega arith))))

  -- R29: with an empty list the first cell is the match
  pub all-match : (i to : ℕ) → t.0 ≡ 0 → i < to → Some (cell i) ≡ first_match cat cs ls i to
  all-match i to e h = first-here cat cs ls i to h (none ls (no-level e))
    where
      none : (ms : List Level) → length ms ≡ 0 → matches cat cs ms i ≡ true
      none [] e = every-match cat cs i
      none (m ∷ ms) e = absurd (omega arith)

  -- what is kept agrees as a whole
  abbrev Whole : CellNumber → Type 0
  Whole c = (c.0 < count tab) × (stretch cat cs ls c.0 ≡ lev c.0)

  kept_above : (i : ℕ) (c : CellNumber) → ((p : ℕ) → p < i → Some c ≡ kept_on cat cs ls (path_to cat cs p) None → Whole c)
      → Some c ≡ kept_tried cat cs ls (ancestors lev i) → Whole c
  kept_above i c rec e = elim (back-parts lev (lev i) i) [
    | inl f ↦ absurd (let y : Some c ≡ None = e ∙ ap (kept_tried cat cs ls) f ∙ kept-none cat cs ls None in let z : ◌≡◌ {A = ℕ} 0 1 = cc in omega arith)
    | inr r ↦ rec r.0 r.1 (e ∙ ap (kept_tried cat cs ls) r.3 ∙ sym (kept_row cat cs ls (count tab) steps r.0))
  ]

  kept_whole : (n i : ℕ) (c : CellNumber) → i < n → i < count tab → Some c ≡ kept_on cat cs ls (path_to cat cs i) None → Whole c
  kept_whole zero i c l h e = absurd (omega arith)
  kept_whole (suc n) i c l h e =
      let rec : (p : ℕ) → p < i → Some c ≡ kept_on cat cs ls (path_to cat cs p) None → Whole c = (λ p x y. kept_whole n p c (omega arith) (omega arith) y) in
      elim (side (stretch cat cs ls i) (lev i)) [
        | inside x ↦ kept_above i c rec (e ∙ kept-short cat cs ls (count tab) steps i h x)
        | outside x ↦
            let f : stretch cat cs ls i ≡ lev i = omega (arith, stretch-le cat cs ls (count tab) steps i h) in
            let m : Bool = head_implied cat cs (drop (lev i - 1) ls) in
            let k : Some c ≡ pick m (Some (cell i)) (kept_tried cat cs ls (ancestors lev i)) = e ∙ kept_full cat cs ls (count tab) steps i h f in
            elim (is m) [
              | on b ↦
                  let y : Some c ≡ Some (cell i) = rw b at k in
                  let z : c ≡ cell i = cc in
                  rw z (h, f)
              | off b ↦ kept_above i c rec (rw b at k)
            ]
      ]

  pub on-cell : (q : Place) (c : CellNumber) → good_place cat cs q ≡ true → q ≡ On c → c.0 < count tab
  on-cell q c e f = let h : good_place cat cs (On c) ≡ true = rw f at e in omega (arith, ltb-true c.0 (length cs) h, listing-length cat tab)

  pub kept-path : (q : Place) (c : CellNumber) (r : Reached) → q ≡ On c → r ≡ reached cat cs ls c.0 → r.kept ≡ kept cat cs ls q
  unfolding reached
  kept-path q c r f e = ap (λ (x : Reached). x.kept) e ∙ sym (ap (kept cat cs ls) f)

  pub kept-gap : (q : Place) (c : CellNumber) → q ≡ Before c → None ≡ kept cat cs ls q
  kept-gap q c f = sym (ap (kept cat cs ls) f)

  pub kept-place : (q : Place) (c : CellNumber) → good_place cat cs q ≡ true → Some c ≡ kept cat cs ls q → Whole c
  kept-place (On d) c e f = kept_whole (suc d.0) d.0 c (omega arith) (omega (arith, ltb-true d.0 (length cs) e, listing-length cat tab)) f
  kept-place (Before d) c e f = absurd (let z : ◌≡◌ {A = ℕ} 0 1 = cc in omega arith)

  -- so there is a list
  pub kept-list : (c : CellNumber) → Whole c → 0 < t.0
  kept-list c w = elim (side 0 t.0) [
    | inside l ↦ l
    | outside l ↦ absurd (omega (arith, no-level (omega arith), stretch-within cat cs ls (count tab) steps c.0, w.1, level-some c.0 w.0))
  ]

  pub kept-before : (c : CellNumber) (l : ℕ) → Whole c → l ≡ lev c.0 → l ≡ stretch_before cat cs ls (c.0 + 1)
  kept-before c l w e = before-next c.0 l (e ∙ sym w.1)

  -- the rest of it is sought from the next cell on
  pub kept-beneath : (c : CellNumber) → Whole c → Beneath cat tab t c.0 (c.0 + 1)
  kept-beneath c w = record { some = kept-list c w; cell = w.0; later = omega arith; most = omega (arith, end_after cat cs c.0) }

  pub end-in : (i : ℕ) → i < count tab → end_at cat cs i ≤ count tab
  end-in i h = omega (arith, end-within cat cs i (omega (arith, listing-length cat tab)), listing-length cat tab)

  -- along the position, by what was kept
  module _ (q : Place) where
    pub along-none : None ≡ kept cat cs ls q → first_match cat cs ls 0 (count tab) ≡ along cat cs ls q
    unfolding along
    along-none e = ap (first_match cat cs ls 0) (sym (listing-length cat tab)) ∙ ap (sought_beneath cat cs ls) e

    module _ (c : CellNumber) (l : ℕ) (e : Some c ≡ kept cat cs ls q) (f : l ≡ lev c.0) where
      pub along-here : l ≡ level cat t → Some c ≡ along cat cs ls q
      unfolding along
      along-here z = sym (ap (λ (b : Bool). pick b (Some c) (first_match cat cs ls (suc c.0) (end_at cat cs c.0))) (eq-eqb (lev c.0) (length ls) (omega (arith, last-level)))) ∙ ap (sought_beneath cat cs ls) e

      pub along-beneath : (l ≡ level cat t → ⊥) → first_match cat cs ls (c.0 + 1) (end_at cat cs c.0) ≡ along cat cs ls q
      unfolding along
      along-beneath n =
          rw add-one (sym (ap (λ (b : Bool). pick b (Some c) (first_match cat cs ls (suc c.0) (end_at cat cs c.0))) (ne_eqb (lev c.0) (length ls) (λ y. n (omega (arith, last-level)))))) ∙ ap (sought_beneath cat cs ls) e

-- no cell from `from` on and before i is a root, one cell after the other
abbrev pub NoRoot : List Segment → ℕ → ℕ → Type 0
NoRoot cs from i = (j : ℕ) → from ≤ j → j < i → (segment cs j).code.0 ≡ 1 → ⊥

pub no-root-next : (cs : List Segment) (from i : ℕ) (u : TypeCode) → u ≡ (segment cs i).code → (u.0 ≡ 1 → ⊥) → NoRoot cs from i → NoRoot cs from (i + 1)
no-root-next cs from i u e n h j a b z = elim (side j i) [
  | inside l ↦ h j a l z
  | outside l ↦ (let q : i ≡ j = omega arith in n (ap (λ (x : TypeCode). x.0) e ∙ ap (λ (x : ℕ). (segment cs x).code.0) q ∙ z))
]

-- what `known` asks: of the last argument's type, and of its parent
module _ (cat list : Bytes) (s : SoundList cat list) where
  abbrev last : TypeCode
  last = (last_argument (list_read cat list).arguments).code

  last-type : 0 < length list → is_type cat last ≡ true
  last-type h = (last-asks cat list s h).type

  pub known-last : last.0 ≤ types cat
  known-last = elim (side 0 (length list)) [
    | inside h ↦ type-last cat last (last-type h)
    | outside h ↦ (let z : last.0 ≡ 0 = ap (λ (l : ListRead). (last_argument l.arguments).code.0) (list-empty cat list (omega arith)) in omega arith)
  ]

  pub known-parent : 0 < length list → (parent_of cat last).0 ≤ types cat
  known-parent h = omega (arith, Types.lower-at (par cat) (types cat) last.0 (good-lower cat s.catalogue) (type-first cat last (last-type h)) (type-last cat last (last-type h)), type-last cat last (last-type h))
