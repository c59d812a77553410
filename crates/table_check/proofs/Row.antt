-- The row of facts as it is filled: the cell size, then type by type. Assumes nothing.
use mathlib.Core.Path.{◌≡◌, refl, ap, ◌∙◌}
use Prim.Native.Nat.{ℕ, zero, suc, ◌+◌, ◌-◌, ◌*◌, ◌<◌, ◌≤◌}
use native.Mathlib.Omega.{arith}
use lib.ListN.{length, set, replicate, length-set, length-replicate}
use lib.Seq.{get_or-set_same, get_or-set_other}
use Rattle.forest.specs.Forest.{inside, outside, side}
use Rattle.rules.specs.Block.{Bytes, byte}
use Rattle.rules.specs.Catalogue.{type_byte, parent_of, key_kind, key_start, key_length, key_value}
use Rattle.table_check.specs.Readers.{fact, Entry, Filled}

-- a block of zeros
zero-at : (n i : ℕ) → byte (replicate n 0) i ≡ 0
zero-at zero i = refl
zero-at (suc n) zero = refl
zero-at (suc n) (suc i) = zero-at n i

-- the cell size in an empty row
pub row_sized : (cat facts : Bytes) (size : ℕ) → facts ≡ replicate 132 0 → Filled cat size 0 (set facts 0 size)
row_sized cat facts size e =
    let other : (i : ℕ) → 0 < i → byte (set facts 0 size) i ≡ 0 =
    λ i l. get_or-set_other facts 0 i size 0 (λ z. omega arith) ∙ ap (λ (b : Bytes). byte b i) e ∙ zero-at 132 i in
    let long : length facts ≡ 132 = ap length e ∙ length-replicate {A = ℕ} 132 0 in
    record {
      whole = length-set facts 0 size ∙ long;
      wide = get_or-set_same facts 0 size 0 (omega arith);
      first = λ k a b. other (4 * 0 + k) (omega arith);
      entry = λ v a b. absurd (omega arith);
      none = λ v k a b. other (4 * v + k) (omega arith);
    }

-- four bytes stored from byte i on: what stands before and behind them, and they
module _ (facts : Bytes) (i a b c d : ℕ) where
  abbrev one : Bytes
  one = set facts i a

  abbrev two : Bytes
  two = set one (i + 1) b

  abbrev three : Bytes
  three = set two (i + 2) c

  abbrev four : Bytes
  four = set three (i + 3) d

  four-length : length four ≡ length facts
  four-length = simp length-set

  four-away : (j : ℕ) → (j ≡ i → ⊥) → (j ≡ i + 1 → ⊥) → (j ≡ i + 2 → ⊥) → (j ≡ i + 3 → ⊥) → byte four j ≡ byte facts j
  four-away j n₀ n₁ n₂ n₃ =
      get_or-set_other three (i + 3) j d 0 n₃ ∙ get_or-set_other two (i + 2) j c 0 n₂
      ∙ get_or-set_other one (i + 1) j b 0 n₁ ∙ get_or-set_other facts i j a 0 n₀

  four-before : (j : ℕ) → j < i → byte four j ≡ byte facts j
  four-before j l = four-away j (λ z. omega arith) (λ z. omega arith) (λ z. omega arith) (λ z. omega arith)

  four-behind : (j : ℕ) → i + 4 ≤ j → byte four j ≡ byte facts j
  four-behind j l = four-away j (λ z. omega arith) (λ z. omega arith) (λ z. omega arith) (λ z. omega arith)

  module _ (l : i + 4 ≤ length facts) where
    four-0 : byte four (i + 0) ≡ a
    four-0 =
        let z : i + 0 ≡ i = omega arith in
        rw z (get_or-set_other three (i + 3) i d 0 (λ z. omega arith) ∙ get_or-set_other two (i + 2) i c 0 (λ z. omega arith)
        ∙ get_or-set_other one (i + 1) i b 0 (λ z. omega arith) ∙ get_or-set_same facts i a 0 (omega arith))

    four-1 : byte four (i + 1) ≡ b
    four-1 =
        get_or-set_other three (i + 3) (i + 1) d 0 (λ z. omega arith) ∙ get_or-set_other two (i + 2) (i + 1) c 0 (λ z. omega arith)
        ∙ get_or-set_same one (i + 1) b 0 (simp length-set (omega arith))

    four-2 : byte four (i + 2) ≡ c
    four-2 = get_or-set_other three (i + 3) (i + 2) d 0 (λ z. omega arith) ∙ get_or-set_same two (i + 2) c 0 (simp length-set (omega arith))

    four-3 : byte four (i + 3) ≡ d
    four-3 = get_or-set_same three (i + 3) d 0 (simp length-set (omega arith))

-- one type more
module _ (cat facts : Bytes) (size v : ℕ) (some : 1 ≤ v) (most : v ≤ 32) (f : Filled cat size (v - 1) facts) where
  abbrev next : Bytes
  next =
      four facts (4 * v) (byte cat (8 * v)) (byte cat (8 * v + 2) + 4 * byte cat (8 * v + 7)) (byte cat (8 * v + 3))
      (byte cat (8 * v + 4))

  entry_next : Entry cat next v
  unfolding parent_of key_kind key_start key_length key_value type_byte
  entry_next =
      let z : 8 * v + 0 ≡ 8 * v = omega arith in
      let h : 4 * v + 4 ≤ length facts = omega (arith, f.whole) in
      record {
        parent = rw z (four-0 facts _ _ _ _ _ h);
        kind = four-1 facts _ _ _ _ _ h;
        start = four-2 facts _ _ _ _ _ h;
        long = four-3 facts _ _ _ _ _ h;
      }

  entry_kept : (w : ℕ) → Entry cat facts w → w ≤ v - 1 → Entry cat next w
  entry_kept w e h =
      let same : (k : ℕ) → k < 4 → fact next w k ≡ fact facts w k = λ k b. four-before facts _ _ _ _ _ (4 * w + k) (omega arith) in
      record {
        parent = same 0 (omega arith) ∙ e.parent;
        kind = same 1 (omega arith) ∙ e.kind;
        start = same 2 (omega arith) ∙ e.start;
        long = same 3 (omega arith) ∙ e.long;
      }

  pub row_next : Filled cat size v next
  row_next = record {
    whole = four-length facts _ _ _ _ _ ∙ f.whole;
    wide = four-before facts _ _ _ _ _ 0 (omega arith) ∙ f.wide;
    first = λ k a b. four-before facts _ _ _ _ _ (4 * 0 + k) (omega arith) ∙ f.first k a b;
    entry = λ w a b. elim (side (v - 1) w) [
      | inside h ↦ (let z : w ≡ v = omega arith in rw z entry_next)
      | outside h ↦ entry_kept w (f.entry w a h) h
    ];
    none = λ w k a b. four-behind facts _ _ _ _ _ (4 * w + k) (omega arith) ∙ f.none w k (omega arith) b;
  }
