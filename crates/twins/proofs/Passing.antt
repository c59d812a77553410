-- What each branch of the code shows of the row: what is left of it to pass. Assumes nothing.
use Rattle.std.specs.declared.cmp.Ordering.{Ordering}
use Rattle.std.specs.declared.cmp.Ordering.TheVariants.{Greater, Less}
use mathlib.Core.Path.{◌≡◌, refl, ap, sym, ◌∙◌}
use mathlib.Core.Bool.{Bool, true, false, ◌||◌, not}
use mathlib.Core.List.{List, ◌∷◌}
use Prim.Native.Nat.{ℕ, suc, ◌+◌, ◌<◌, ◌≤◌}
use native.Mathlib.Omega.{arith}
use borrow.Author.Tests.{eq-eqb, ne_eqb}
use lib.ListN.{drop}
use lib.Seq.{drop-cons}
use Rattle.terms.specs.declared.TypeCode.{TypeCode}
use Rattle.terms.specs.Names.{code}
use Rattle.std.specs.Ordering.{is_lt, is_eq}
use Rattle.forest.specs.Insert.{passes, spot}
use Rattle.rules.specs.Block.{Bytes}
use Rattle.rules.specs.Catalogue.{key_kind, level}
use Rattle.rules.specs.Cells.{Segment, segment, segment_of, arriving, blank, key_order, same_key, goes_before, segment_level}
use Rattle.rules.specs.Table.{listing}
use Rattle.rules.specs.Calls.{key_taken}
use Rattle.rules.proofs.Cells.{listing-length}
use Rattle.twins.specs.declared.Spot.{Spot}
use Rattle.twins.specs.Among.{New, Beneath, stands_to, passed, placed, spot_among}
use Rattle.twins.proofs.Rows.{spot-pass, spot-stop}
use Rattle.twins.proofs.Twins.{stands-deep, stands-less, stands-more, stands-twin, passes-stands, key-stands}
use Rattle.twins.proofs.Listing.{Row, row_new, row-level, row-end, row-taken, taken_none, taken_next}

or-true : (b : Bool) → (b || true) ≡ true
or-true true = refl
or-true false = refl

or-false : (b : Bool) → (b || false) ≡ b
or-false true = refl
or-false false = refl

or_assoc : (a b c : Bool) → ((a || b) || c) ≡ (a || (b || c))
or_assoc true b c = refl
or_assoc false b c = refl

-- what comes of going on from cell i, with b for whether a cell before it has the key
unfoldable pub onward : Bytes → List Segment → Segment → ℕ → Bool → Spot
onward cat cs x i b = record { at = i + passed cat cs x i; taken = b || key_taken cat cs x i (passed cat cs x i) }

pub onward-start : (cat : Bytes) (cs : List Segment) (x : Segment) (from : ℕ) → onward cat cs x from false ≡ placed cat cs x from
unfolding onward placed
onward-start cat cs x from = refl

-- where no cell more is passed
onward-here : (cat : Bytes) (cs : List Segment) (x : Segment) (i : ℕ) (b : Bool) → passed cat cs x i ≡ 0 → record { at = i; taken = b } ≡ onward cat cs x i b
unfolding onward
onward-here cat cs x i b e =
    let z : i ≡ i + 0 = omega arith in
    let y : b ≡ (b || key_taken cat cs x i 0) = sym (ap (λ (c : Bool). b || c) (taken_none cat cs x i) ∙ or-false b) in
    rw (e, ← z, ← y)

-- where cell i is passed
onward-step : (cat : Bytes) (cs : List Segment) (x : Segment) (i : ℕ) (b c : Bool) → c ≡ same_key cat x (segment cs i)
    → passed cat cs x i ≡ suc (passed cat cs x (suc i))
    → onward cat cs x (i + 1) (b || c) ≡ onward cat cs x i b
unfolding onward
onward-step cat cs x i b c e p =
    let m : ℕ = passed cat cs x (suc i) in
    let z : i + 1 ≡ suc i = omega arith in
    let y : suc i + m ≡ i + suc m = omega arith in
    let k : ((b || c) || key_taken cat cs x (suc i) m) ≡ (b || key_taken cat cs x i (suc m)) =
    or_assoc b c (key_taken cat cs x (suc i) m) ∙ ap (λ (d : Bool). b || (d || key_taken cat cs x (suc i) m)) e
    ∙ sym (ap (λ (d : Bool). b || d) (taken_next cat cs x i m)) in
    rw (z, p, k, y)

module _ {cat tab : Bytes} {x : Segment} {from to : ℕ} (r : Row cat tab x from to) (i : ℕ) (b : Bool) (a : from ≤ i) where
  -- at the end of the row
  pub onward-end : i ≤ to → to ≤ i → record { at = to; taken = b } ≡ onward cat (listing cat tab) x i b
  onward-end l h =
      let z : i ≡ to = omega arith in
      ap (λ (n : ℕ). record { at = n; taken = b }) (sym z) ∙ onward-here cat (listing cat tab) x i b (ap (passed cat (listing cat tab) x) z ∙ row-end r)

  module _ (l : i < to) {o : Ordering} (e : o ≡ stands_to cat x (segment (listing cat tab) i)) where
    cells_left : drop i (listing cat tab) ≡ segment (listing cat tab) i ∷ drop (suc i) (listing cat tab)
    cells_left = drop-cons (listing cat tab) i blank (omega (arith, r.within, listing-length cat tab))

    passes-cell : passes (segment_level cat) x (goes_before cat x) (segment (listing cat tab) i) ≡ not (is_lt o)
    passes-cell = passes-stands cat x (segment (listing cat tab) i) (row-level r i a l) ∙ sym (ap (λ (p : Ordering). not (is_lt p)) e)

    -- at a cell that x goes before
    pub onward-stop : is_lt o ≡ true → record { at = i; taken = b } ≡ onward cat (listing cat tab) x i b
    unfolding passed
    onward-stop h =
        onward-here cat (listing cat tab) x i b
        (ap (spot (segment_level cat) x (goes_before cat x)) cells_left
        ∙ spot-stop (segment_level cat) x (goes_before cat x) (segment (listing cat tab) i) (drop (suc i) (listing cat tab)) (passes-cell ∙ ap not h))

    -- past one that it does not
    onward-next : is_lt o ≡ false → onward cat (listing cat tab) x (i + 1) (b || is_eq o) ≡ onward cat (listing cat tab) x i b
    unfolding passed
    onward-next h =
        onward-step cat (listing cat tab) x i b (is_eq o) (ap is_eq e ∙ sym (key-stands cat x (segment (listing cat tab) i)))
        (ap (spot (segment_level cat) x (goes_before cat x)) cells_left
        ∙ spot-pass (segment_level cat) x (goes_before cat x) (segment (listing cat tab) i) (drop (suc i) (listing cat tab)) (passes-cell ∙ ap not h))

    -- with p for whether a cell before the next one has the key
    pub onward-twin : {p : Bool} → is_lt o ≡ false → is_eq o ≡ true → p ≡ true → onward cat (listing cat tab) x (i + 1) p ≡ onward cat (listing cat tab) x i b
    onward-twin h k q = ap (onward cat (listing cat tab) x (i + 1)) (q ∙ sym (ap (λ (c : Bool). b || c) k ∙ or-true b)) ∙ onward-next h

    pub onward-other : {p : Bool} → is_lt o ≡ false → is_eq o ≡ false → p ≡ b → onward cat (listing cat tab) x (i + 1) p ≡ onward cat (listing cat tab) x i b
    onward-other h k q = ap (onward cat (listing cat tab) x (i + 1)) (q ∙ sym (ap (λ (c : Bool). b || c) k ∙ or-false b)) ∙ onward-next h

-- how a new segment stands to a cell c, whose type the code has read as u
module _ (cat : Bytes) (t : TypeCode) (area : Bytes) (c : Segment) {u : TypeCode} (e : u ≡ c.code) where
  at-type : u.0 ≡ c.code.0
  at-type = ap (λ (v : TypeCode). v.0) e

  pub new-more : u.0 < t.0 → Greater ≡ stands_to cat (arriving cat t area) c
  unfolding arriving segment_of
  new-more l = stands-more cat (arriving cat t area) c (omega (arith, at-type))

  pub new-twin : u.0 ≡ t.0 → key_order cat (arriving cat t area) c ≡ stands_to cat (arriving cat t area) c
  unfolding arriving segment_of
  new-twin z = stands-twin cat (arriving cat t area) c (omega (arith, at-type))

  -- and its level as `here`
  module _ (a : t.0 ≤ u.0) (n : u.0 ≡ t.0 → ⊥) {depth here : ℕ} (d : depth ≡ level cat t) (h : here ≡ level cat u) where
    at_level : here ≡ level cat c.code
    at_level = h ∙ ap (level cat) e

    pub new_deep : depth < here → Greater ≡ stands_to cat (arriving cat t area) c
    unfolding arriving segment_of
    new_deep l = stands-deep cat (arriving cat t area) c (omega (arith, at-type)) (omega (arith, at_level))

    pub new-less : here ≤ depth → Less ≡ stands_to cat (arriving cat t area) c
    unfolding arriving segment_of
    new-less l = stands-less cat (arriving cat t area) c (omega (arith, at-type)) (omega (arith, at_level))

-- types of one number are one type
pub type-same : {s t u : TypeCode} → u ≡ s → u.0 ≡ t.0 → s ≡ t
type-same {s} {t} {u} e z = sym e ∙ ap code z

-- the answer, from what the row gave
module _ {cat tab : Bytes} {size : ℕ} {t : TypeCode} {area : Bytes} (n : New cat tab size t area) {from to : ℕ}
    (b : Beneath cat tab t from to) {s : Spot} (e : s ≡ placed cat (listing cat tab) (arriving cat t area) from) {kind : ℕ} (k : kind ≡ key_kind cat t) where
  pub spot-unique : kind ≡ 1 → s ≡ spot_among cat (listing cat tab) (arriving cat t area) from to
  unfolding arriving segment_of placed spot_among
  spot-unique h = e ∙ rw (row-taken (row_new n b) (sym k ∙ h), eq-eqb (key_kind cat t) 1 (sym k ∙ h))

  pub spot-other : (kind ≡ 1 → ⊥) → record { at = s.at; taken = false } ≡ spot_among cat (listing cat tab) (arriving cat t area) from to
  unfolding arriving segment_of placed spot_among
  spot-other h = rw (e, ne_eqb (key_kind cat t) 1 (λ z. h (k ∙ z)))
