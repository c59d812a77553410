-- A number that a byte does not hold: 255 in its place leaves what becomes of the statement. Assumes nothing.
use mathlib.Core.Path.{◌≡◌, refl, sym, ◌∙◌}
use mathlib.Core.Bool.{Bool, true, false, ◌&&◌, ◌||◌, not}
use Prim.Native.Nat.{ℕ, ◌+◌, ◌-◌, ◌*◌, ◌<◌, ◌≤◌}
use native.Mathlib.Omega.{arith}
use lib.Dec.{ltb, leb, eqb}
use lib.ListN.{length}
use borrow.Author.Tests.{lt-ltb, le-ltb, leb-true, eqb-false}
use Rattle.forest.specs.Good.{on, off, is}
use Rattle.forest.specs.Forest.{inside, outside, side}
use Rattle.rules.specs.Block.{Bytes, byte, same_bytes}
use Rattle.rules.specs.Catalogue.{types, fields, good_span}
use Rattle.rules.proofs.Joined.{three}
use Rattle.dbd_words.specs.Capped.{capped}
use Rattle.statements.specs.Words.{filled}
use Rattle.statements.specs.Statement.{segm, field, no_parent}
use Rattle.statements.specs.Draft.{Draft, place_of, has, own_names, with_type, with_field, begun, is_keyed, ruled_type, ruled_field, bad, unruled, taken}
use Rattle.dbd_draft.specs.Kept.{draft_of, Sound}
use Rattle.dbd_draft.proofs.Drafts.{types_are}
use Rattle.dbd_draft.proofs.Rulings.{type-full, type-high, field-full, field-ruled}
use Rattle.dbd_draft.proofs.Judgements.{filled-long}

capped-high : (v : ℕ) → 255 < v → capped v ≡ 255
unfolding capped
capped-high v h = rw (lt-ltb 255 v h)

capped-low : (v : ℕ) → v ≤ 255 → capped v ≡ v
unfolding capped
capped-low v h = rw (le-ltb 255 v h)

-- the tests before the rule do not look at the numbers
segm-by : (d : Draft) (n p : Bytes) (v w : ℕ) → ruled_type (with_type d (filled n) (place_of (filled p) d.segment_names) v) ≡ ruled_type
    (with_type d (filled n) (place_of (filled p) d.segment_names) w)
    → taken d (segm n p v) ≡ taken d (segm n p w)
unfolding taken
segm-by d n p v w e =
    elim (is (not (begun d) || (same_bytes p no_parent && ltb 0 (length d.types)))) [
      | on h ↦ rw (taken, h)
      | off h ↦ elim (is (has (filled n) d.segment_names)) [
        | on g ↦ rw (taken, h, g)
        | off g ↦ elim (is (not (same_bytes p no_parent) && eqb (place_of (filled p) d.segment_names) 0)) [
          | on f ↦ rw (taken, h, g, f)
          | off f ↦ rw (taken, h, g, f) e
        ]
      ]
    ]

or_left : (a b : Bool) → (a || b) ≡ false → a ≡ false
or_left true b h = h
or_left false b h = refl

field-by : (d : Draft) (n : Bytes) (k v s w t : ℕ) → ((length d.types ≡ 0 → ⊥)
    → ruled_field (with_field d (filled n) k v s) ≡ ruled_field (with_field d (filled n) k w t))
    → taken d (field n k v s) ≡ taken d (field n k w t)
unfolding taken
field-by d n k v s w t e =
    elim (is (eqb (length d.types) 0 || (ltb 0 k && is_keyed d))) [
      | on h ↦ rw (taken, h)
      | off h ↦ elim (is (has (filled n) (own_names (length d.types) d.fields d.field_names))) [
        | on g ↦ rw (taken, h, g)
        | off g ↦ (let z : eqb (length d.types) 0 ≡ false = or_left (eqb (length d.types) 0) (ltb 0 k && is_keyed d) h in rw (taken, h, g)
            (e (eqb-false (length d.types) 0 z)))
      ]
    ]

module _ (b levels : Bytes) (s : Sound b levels) (n : Bytes) (short : length n ≤ 8) where
  -- an L above 120 is refused, whatever it is
  type-none : (a v : ℕ) → 120 < v → ruled_type (with_type (draft_of b) (filled n) a v) ≡ bad unruled
  type-none a v h = elim (side (types b) 32) [
    | inside l ↦ type-high b levels s (filled n) a v (filled-long n short) l h
    | outside l ↦ type-full b (filled n) a v l
  ]

  -- LAW
  pub segm-capped : (p : Bytes) (v : ℕ) → taken (draft_of b) (segm n p (capped v)) ≡ taken (draft_of b) (segm n p v)
  segm-capped p v = elim (side 255 v) [
    | inside l ↦
        let a = place_of (filled p) (draft_of b).segment_names in
        let z : capped v ≡ 255 = capped-high v l in
        rw z (segm-by (draft_of b) n p 255 v (type-none a 255 (omega arith) ∙ sym (type-none a v (omega arith))))
    | outside l ↦ rw (capped-low v l)
  ]

  -- a span with one such number is refused
  span-high : (start long : ℕ) → 240 < start + long → good_span start long (byte b (8 * types b + 1)) ≡ false
  span-high start long h =
      let m = byte b (8 * types b + 1) in
      elim (is (good_span start long m)) [
        | on g ↦ (let t = three (leb 1 start) (leb 1 long) (leb (start + long - 1) m) g in absurd
            (omega (arith, s.low, leb-true 1 start t.0, leb-true (start + long - 1) m t.2)))
        | off g ↦ g
      ]

  field-none : (k v t : ℕ) → 240 < t + v → (length (draft_of b).types ≡ 0 → ⊥) → ruled_field (with_field (draft_of b) (filled n) k v t) ≡ bad unruled
  field-none k v t h o = elim (side (fields b) 64) [
    | inside l ↦
        let g : good_span t v (byte b (8 * types b + 1)) ≡ false = span-high t v h in
        let e : types b ≡ 0 → ⊥ = λ z. o (types_are b ∙ z) in
        field-ruled b levels s (filled n) k v t (filled-long n short) l (omega arith) ∙ rw g
    | outside l ↦ field-full b (filled n) k v t l
  ]

  field-high : (k v t : ℕ) → 255 < t + v → 240 < capped t + capped v → taken (draft_of b) (field n k (capped v) (capped t)) ≡ taken (draft_of b) (field n k v t)
  field-high k v t h g =
      field-by (draft_of b) n k (capped v) (capped t) v t (λ o. field-none k (capped v) (capped t) g o ∙ sym (field-none k v t (omega arith) o))

  -- LAW
  pub field-capped : (k v t : ℕ) → taken (draft_of b) (field n k (capped v) (capped t)) ≡ taken (draft_of b) (field n k v t)
  field-capped k v t = elim (side 255 v) [
    | inside l ↦ field-high k v t (omega arith) (omega (arith, capped-high v l))
    | outside l ↦ elim (side 255 t) [
      | inside m ↦ field-high k v t (omega arith) (omega (arith, capped-high t m))
      | outside m ↦ rw (capped-low v l, capped-low t m)
    ]
  ]
