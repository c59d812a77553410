-- The position's block: what specs/Canonical.antt states, and what a call leaves of a block that is lent to it. Assumes nothing.
use Rattle.std.specs.Prelude.{None, Some}
use mathlib.Core.Path.{◌≡◌, refl, ap, sym, ◌∙◌}
use mathlib.Core.Bool.{Bool, true, false, true≢false, ◌&&◌}
use mathlib.Core.List.{List, [], ◌∷◌, ◌++◌}
use Prim.Native.Nat.{ℕ, zero, suc, ◌+◌, ◌*◌, ◌/◌, ◌%◌, ◌<◌, ◌≤◌}
use native.Mathlib.Omega.{arith}
use native.Mathlib.Nat.{mul-add-div, div-eq_of_lt, mul-add-mod_self_left, mod-eq_of_lt, mod-lt, div-lt_iff_lt-mul, div-add-mod'}
use lib.Dec.{eqb, leb}
use lib.ListN.{length, set, replicate}
use borrow.Author.Tests.{eqb-true, eqb-false, leb-true, le-leb, lt-leb}
use Rattle.terms.specs.declared.Place.{Place}
use Rattle.terms.specs.declared.Place.TheVariants.{On, Before}
use Rattle.terms.specs.declared.Position.{Position}
use Rattle.terms.specs.declared.Answer.{Answer}
use Rattle.terms.specs.Choice.{pick}
use Rattle.terms.specs.Names.{cell, Parentage}
use Rattle.terms.specs.Moves.{fresh, place_number, hold_dropped}
use Rattle.terms.specs.Statuses.{number}
use Rattle.forest.specs.Good.{on, off, is, both_right}
use Rattle.rules.specs.Block.{Bytes, byte, word}
use Rattle.rules.specs.Cells.{Segment}
use Rattle.rules.specs.Position.{good_position, place_bytes, parentage_bytes, position_bytes, good_block, position_of}
use Rattle.rules.specs.Outcome.{block_after}
use Rattle.rules.specs.Canonical.{parent_number, Canonical}
use Rattle.rules.proofs.Joined.{six}

-- a number of two bytes, written and read
joined : (n : ℕ) → 256 * (n / 256) + n % 256 ≡ n
joined n = omega (arith, div-add-mod' n 256)

high : (a b : ℕ) → b < 256 → (256 * a + b) / 256 ≡ a
high a b h = mul-add-div (omega arith) a b ∙ omega (arith, div-eq_of_lt h)

low : (a b : ℕ) → b < 256 → (256 * a + b) % 256 ≡ b
low a b h = mul-add-mod_self_left 256 a b ∙ mod-eq_of_lt h

block_of : (p : Position) → good_block (position_bytes p) ≡ true
unfolding good_block position_bytes
block_of p = good p.place p.parentage p.hold
  where
    good : (q : Place) (r : Parentage) (h : Bool) → good_block (position_bytes (record { place = q; parentage = r; hold = h })) ≡ true
    good (On c) None true = refl
    good (On c) None false = refl
    good (On c) (Some p) true = refl
    good (On c) (Some p) false = refl
    good (Before c) None true = refl
    good (Before c) None false = refl
    good (Before c) (Some p) true = refl
    good (Before c) (Some p) false = refl

read_back : (p : Position) → position_of (position_bytes p) ≡ p
unfolding position_of good_block position_bytes
read_back p = same p.place p.parentage p.hold
  where
    same : (q : Place) (r : Parentage) (h : Bool)
        → position_of (position_bytes (record { place = q; parentage = r; hold = h })) ≡ record { place = q; parentage = r; hold = h }
    same (On c) None true = rw (joined c.0)
    same (On c) None false = rw (joined c.0)
    same (On c) (Some p) true = rw (joined c.0, joined p.0)
    same (On c) (Some p) false = rw (joined c.0, joined p.0)
    same (Before c) None true = rw (joined c.0)
    same (Before c) None false = rw (joined c.0)
    same (Before c) (Some p) true = rw (joined c.0, joined p.0)
    same (Before c) (Some p) false = rw (joined c.0, joined p.0)

-- a byte of each part of the block
word_bytes : (n : ℕ) → n < 65536 → (n / 256 < 256) × (n % 256 < 256)
word_bytes n h = ((div-lt_iff_lt-mul {k = 256} {x = n} {y = 256} (omega arith)).1 (omega arith), mod-lt n (omega arith))

eight-low : (a b c d e f g h : ℕ) → a < 256 → b < 256 → c < 256 → d < 256 → e < 256 → f < 256 → g < 256 → h < 256
    → (i : ℕ) → byte (a ∷ b ∷ c ∷ d ∷ e ∷ f ∷ g ∷ h ∷ []) i < 256
eight-low a b c d e f g h ha hb hc hd he hf hg hh zero = ha
eight-low a b c d e f g h ha hb hc hd he hf hg hh (suc zero) = hb
eight-low a b c d e f g h ha hb hc hd he hf hg hh (suc (suc zero)) = hc
eight-low a b c d e f g h ha hb hc hd he hf hg hh (suc (suc (suc zero))) = hd
eight-low a b c d e f g h ha hb hc hd he hf hg hh (suc (suc (suc (suc zero)))) = he
eight-low a b c d e f g h ha hb hc hd he hf hg hh (suc (suc (suc (suc (suc zero))))) = hf
eight-low a b c d e f g h ha hb hc hd he hf hg hh (suc (suc (suc (suc (suc (suc zero)))))) = hg
eight-low a b c d e f g h ha hb hc hd he hf hg hh (suc (suc (suc (suc (suc (suc (suc zero))))))) = hh
eight-low a b c d e f g h ha hb hc hd he hf hg hh (suc (suc (suc (suc (suc (suc (suc (suc i)))))))) = omega arith

hold-low : (h : Bool) → pick h 1 0 < 256
hold-low true = omega arith
hold-low false = omega arith

block-bytes : (p : Position) → place_number p.place < 65536 → parent_number p.parentage < 65536 → (i : ℕ) → byte (position_bytes p) i < 256
unfolding position_bytes
block-bytes p = all p.place p.parentage p.hold
  where
    all : (q : Place) (r : Parentage) (h : Bool) → place_number q < 65536 → parent_number r < 65536
        → (i : ℕ) → byte (place_bytes q ++ (parentage_bytes r ++ (pick h 1 0 ∷ 0 ∷ []))) i < 256
    all (On c) None h l m =
        let w = word_bytes c.0 l in
        eight-low 1 _ _ 0 0 0 _ 0 (omega arith) w.0 w.1 (omega arith) (omega arith) (omega arith) (hold-low h) (omega arith)
    all (On c) (Some p) h l m =
        let w = word_bytes c.0 l in
        let v = word_bytes p.0 m in
        eight-low 1 _ _ 1 _ _ _ 0 (omega arith) w.0 w.1 (omega arith) v.0 v.1 (hold-low h) (omega arith)
    all (Before c) None h l m =
        let w = word_bytes c.0 l in
        eight-low 0 _ _ 0 0 0 _ 0 (omega arith) w.0 w.1 (omega arith) (omega arith) (omega arith) (hold-low h) (omega arith)
    all (Before c) (Some p) h l m =
        let w = word_bytes c.0 l in
        let v = word_bytes p.0 m in
        eight-low 0 _ _ 1 _ _ _ 0 (omega arith) w.0 w.1 (omega arith) v.0 v.1 (hold-low h) (omega arith)

-- a block that is one, by its eight bytes
eight : (b : Bytes) → length b ≡ 8 → b ≡ byte b 0 ∷ byte b 1 ∷ byte b 2 ∷ byte b 3 ∷ byte b 4 ∷ byte b 5 ∷ byte b 6 ∷ byte b 7 ∷ []
eight [] h = absurd (omega arith)
eight (a ∷ []) h = absurd (omega arith)
eight (a ∷ b ∷ []) h = absurd (omega arith)
eight (a ∷ b ∷ c ∷ []) h = absurd (omega arith)
eight (a ∷ b ∷ c ∷ d ∷ []) h = absurd (omega arith)
eight (a ∷ b ∷ c ∷ d ∷ e ∷ []) h = absurd (omega arith)
eight (a ∷ b ∷ c ∷ d ∷ e ∷ f ∷ []) h = absurd (omega arith)
eight (a ∷ b ∷ c ∷ d ∷ e ∷ f ∷ g ∷ []) h = absurd (omega arith)
eight (a ∷ b ∷ c ∷ d ∷ e ∷ f ∷ g ∷ i ∷ []) h = refl
eight (a ∷ b ∷ c ∷ d ∷ e ∷ f ∷ g ∷ i ∷ k ∷ rest) h = absurd (omega arith)

record Eight (b : Bytes) : Type 0 where
  long : length b ≡ 8
  kind : byte b 0 ≤ 1
  present : byte b 3 ≤ 1
  held : byte b 6 ≤ 1
  last : byte b 7 ≡ 0
  parent : pick (eqb (byte b 3) 1) true (eqb (word b 4) 0) ≡ true

eight-of : (b : Bytes) → good_block b ≡ true → Eight b
unfolding good_block
eight-of b e =
    let p =
    six (eqb (length b) 8) (leb (byte b 0) 1) (leb (byte b 3) 1) (leb (byte b 6) 1) (eqb (byte b 7) 0)
    (pick (eqb (byte b 3) 1) true (eqb (word b 4) 0)) e in
    record {
      long = eqb-true (length b) 8 p.0;
      kind = leb-true (byte b 0) 1 p.1;
      present = leb-true (byte b 3) 1 p.2;
      held = leb-true (byte b 6) 1 p.3;
      last = eqb-true (byte b 7) 0 p.4;
      parent = p.5;
    }

-- each part of a block, read and written
place-back : (a b c : ℕ) → a ≤ 1 → c < 256 → place_bytes (pick (eqb a 1) (On (cell (256 * b + c))) (Before (cell (256 * b + c)))) ≡ a ∷ b ∷ c ∷ []
place-back a b c h l = elim (is (eqb a 1)) [
  | on e ↦ (let z : a ≡ 1 = eqb-true a 1 e in rw (e, high b c l, low b c l, z))
  | off e ↦ (let n : a ≡ 1 → ⊥ = eqb-false a 1 e in let z : a ≡ 0 = omega arith in rw (e, high b c l, low b c l, z))
]

parent-back : (a b c : ℕ) → a ≤ 1 → c < 256 → pick (eqb a 1) true (eqb (256 * b + c) 0) ≡ true
    → parentage_bytes (pick (eqb a 1) (Some (cell (256 * b + c))) None) ≡ a ∷ b ∷ c ∷ []
parent-back a b c h l k = elim (is (eqb a 1)) [
  | on e ↦ (let z : a ≡ 1 = eqb-true a 1 e in rw (e, high b c l, low b c l, z))
  | off e ↦
      let n : a ≡ 1 → ⊥ = eqb-false a 1 e in
      let z : a ≡ 0 = omega arith in
      let w : 256 * b + c ≡ 0 = eqb-true (256 * b + c) 0 (rw e at k) in
      let x : b ≡ 0 = omega arith in
      let y : c ≡ 0 = omega arith in
      rw (e, z, x, y)
]

hold-back : (a : ℕ) → a ≤ 1 → pick (eqb a 1) 1 0 ≡ a
hold-back a h = elim (is (eqb a 1)) [
  | on e ↦ (let z : a ≡ 1 = eqb-true a 1 e in rw e (sym z))
  | off e ↦ (let n : a ≡ 1 → ⊥ = eqb-false a 1 e in let z : 0 ≡ a = omega arith in rw e z)
]

module _ (b : Bytes) (low : (i : ℕ) → byte b i < 256) (good : good_block b ≡ true) where
  -- the six bytes of place and parentage, with any hold behind them
  front-back : (h : ℕ) → place_bytes (position_of b).place ++ (parentage_bytes (position_of b).parentage ++ (h ∷ 0 ∷ []))
      ≡ byte b 0 ∷ byte b 1 ∷ byte b 2 ∷ byte b 3 ∷ byte b 4 ∷ byte b 5 ∷ h ∷ 0 ∷ []
  unfolding position_of
  front-back h =
      let f : Eight b = eight-of b good in
      rw (good, place-back (byte b 0) (byte b 1) (byte b 2) f.kind (low 2), parent-back (byte b 3) (byte b 4) (byte b 5) f.present (low 5) f.parent)

  whole : b ≡ byte b 0 ∷ byte b 1 ∷ byte b 2 ∷ byte b 3 ∷ byte b 4 ∷ byte b 5 ∷ byte b 6 ∷ 0 ∷ []
  whole = let f : Eight b = eight-of b good in rw f.last at (eight b f.long)

  written_back : position_bytes (position_of b) ≡ b
  unfolding position_bytes position_of
  written_back = front-back (pick (position_of b).hold 1 0) ∙ rw (good, hold-back (byte b 6) (eight-of b good).held) (sym whole)

  dropped-back : position_bytes (hold_dropped (position_of b)) ≡ set b 6 0
  unfolding position_bytes
  dropped-back = front-back 0 ∙ ap (λ (x : Bytes). set x 6 0) (sym whole)

-- a block that is none stands for a hold in a gap, which no table has
only-blocks : (cat : Bytes) (cs : List Segment) (b : Bytes) → good_position cat cs (position_of b) ≡ true → good_block b ≡ true
unfolding good_position position_of
only-blocks cat cs b e = elim (is (good_block b)) [
  | on h ↦ h
  | off h ↦ absurd (true≢false (sym (both_right (leb 0 (length cs) && true) false (rw h at e))))
]

-- THEOREM: a position and its block say the same
pub canonical : Canonical
canonical = record { block = block_of; bytes = block-bytes; position = read_back; back = written_back; only = only-blocks }

module _ (block : Bytes) (a : Answer) where
  -- LAW: 20 and above leaves the block as it was, in every byte
  pub block_refused : 20 ≤ number a.status → block_after block a ≡ block
  unfolding block_after
  block_refused h = rw (le-leb 20 (number a.status) h)

  -- LAW: where the position is fresh, as after GB, the block is eight zeros
  pub block-fresh : number a.status < 20 → a.position ≡ fresh → block_after block a ≡ replicate 8 0
  unfolding block_after position_bytes
  block-fresh h e = rw (lt-leb 20 (number a.status) h) (ap position_bytes e)

  -- LAW: where the position is as it was without the hold, as after GE and GP, the hold's byte becomes 0 and no other changes
  pub block-missed : ((i : ℕ) → byte block i < 256) → good_block block ≡ true → number a.status < 20 → a.position ≡ hold_dropped (position_of block)
      → block_after block a ≡ set block 6 0
  unfolding block_after
  block-missed low good h e = rw (lt-leb 20 (number a.status) h) (ap position_bytes e ∙ dropped-back block low good)

  -- LAW: a call that leaves the position as it was from 20 on leaves the block of the position that it answers
  pub block_read : (20 ≤ number a.status → a.position ≡ position_of block) → position_of (block_after block a) ≡ a.position
  unfolding block_after
  block_read stays = elim (is (leb 20 (number a.status))) [
    | on e ↦ rw e (sym (stays (leb-true 20 (number a.status) e)))
    | off e ↦ rw e (read_back a.position)
  ]
