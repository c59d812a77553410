-- What a table's header says of a cell: one law for each branch of the code. Assumes nothing.
use mathlib.Core.Path.{◌≡◌, ap, sym, ◌∙◌}
use mathlib.Core.Bool.{true, false}
use Prim.Native.Nat.{ℕ, suc, ◌+◌, ◌*◌, ◌<◌, ◌≤◌}
use native.Mathlib.Omega.{arith}
use native.Mathlib.Nat.{mul-le-mul}
use lib.ListN.{length}
use borrow.Author.Tests.{le-leb, lt-leb}
use Rattle.terms.specs.Names.{code}
use Rattle.rules.specs.Block.{Bytes, byte}
use Rattle.rules.specs.Catalogue.{is_type, length_of}
use Rattle.rules.specs.Table.{cell_size, count}
use Rattle.parts.specs.Blocks.{table_size, cell_type, data_start, data_length}

-- a number of 16 bits times a cell size: far below what a usize holds
pub small : (i s : ℕ) → i < 65536 → s < 257 → i * s ≤ 16776960
small i s h k = let a : i ≤ 65535 = omega arith in let b : s ≤ 256 = omega arith in mul-le-mul a b

module _ (cat : Bytes) (m : ℕ) where
  pub size_none : 4096 < m → 0 ≡ table_size cat m
  unfolding table_size
  size_none h = rw (lt-leb m 4096 h)

  pub size-some : (s : ℕ) → m ≤ 4096 → s ≡ cell_size cat → 8 + m * s ≡ table_size cat m
  unfolding table_size
  size-some s h e = rw (le-leb m 4096 h, e)

module _ (tab : Bytes) (i : ℕ) where
  pub type-none : (n : ℕ) → n ≡ count tab → n ≤ i → 0 ≡ cell_type tab i
  unfolding cell_type
  type-none n e h = rw (lt-leb (suc i) (count tab) (omega arith))

  pub type-some : (n at x : ℕ) → n ≡ count tab → i < n → at ≡ 8 + i * byte tab 5 → x ≡ byte tab at → x ≡ cell_type tab i
  unfolding cell_type
  type-some n at x e h f g = rw (le-leb (suc i) (count tab) (omega arith)) (g ∙ ap (byte tab) f)

  pub start_none : (n : ℕ) → n ≡ count tab → n ≤ i → 0 ≡ data_start tab i
  unfolding data_start
  start_none n e h = rw (lt-leb (suc i) (count tab) (omega arith))

  pub start-some : (n at : ℕ) → n ≡ count tab → i < n → at ≡ 8 + i * byte tab 5 → at + 1 ≡ data_start tab i
  unfolding data_start
  start-some n at e h f = rw (le-leb (suc i) (count tab) (omega arith)) (omega arith)

-- t, start and long are the numbers that the code has
module _ (cat tab : Bytes) (i t : ℕ) (type : t ≡ cell_type tab i) where
  pub long-none : is_type cat (code t) ≡ false → 0 ≡ data_length cat tab i
  unfolding data_length
  long-none e = let z : is_type cat (code (cell_type tab i)) ≡ false = sym (ap (λ (k : ℕ). is_type cat (code k)) type) ∙ e in rw z

  module _ (is : is_type cat (code t) ≡ true) (start long : ℕ) (from : start ≡ data_start tab i) (has : long ≡ length_of cat (code t)) where
    typed : is_type cat (code (cell_type tab i)) ≡ true
    typed = sym (ap (λ (k : ℕ). is_type cat (code k)) type) ∙ is

    told : long ≡ length_of cat (code (cell_type tab i))
    told = has ∙ ap (λ (k : ℕ). length_of cat (code k)) type

    pub long-cut : length tab < start + long → 0 ≡ data_length cat tab i
    unfolding data_length
    long-cut h = rw (typed, ← told, ← from, lt-leb (start + long) (length tab) h)

    pub long-some : start + long ≤ length tab → long ≡ data_length cat tab i
    unfolding data_length
    long-some h = rw (typed, ← told, ← from, le-leb (start + long) (length tab) h)
