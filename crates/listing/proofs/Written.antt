-- Texts written one behind the other, and the leaves' texts step by step. Assumes nothing.
use mathlib.Core.Path.{◌≡◌, refl, ap, sym, ◌∙◌}
use mathlib.Core.List.{[], ◌∷◌, ◌++◌}
use Prim.Native.Nat.{ℕ, zero, suc, ◌+◌, ◌-◌, ◌/◌, ◌%◌, ◌<◌, ◌≤◌}
use native.Mathlib.Nat.{add-zero}
use native.Mathlib.Numerals.{add-one}
use native.Mathlib.Omega.{arith}
use lib.ListN.{length, take, drop, set, length-append}
use lib.Seq.{sets, sets-eq, take-suc, take_all}
use borrow.Author.Tests.{lt-ltb, le-ltb}
use Rattle.terms.specs.declared.Status.{Status}
use Rattle.terms.specs.declared.Status.TheVariants.{Blank, GA, GK, GB, GE, GP, CX, TX, PX, AD, AC, AJ, AK, AH, AB, DJ, DA, II, FX, PD}
use Rattle.terms.specs.Statuses.{letters}
use Rattle.rules.specs.Block.{Bytes, byte}
use Rattle.rules.specs.Listing.{digits, hex_digit, hex}
use Rattle.listing.specs.Written.{written, Wrote}

-- where it fits, nothing else changes
pub written_is : (at : ℕ) (text out : Bytes) → at + length text ≤ length out → written at text out ≡ take at out ++ text ++ drop (at + length text) out
written_is at text out h = sets-eq text out at h

pub written_then : (at : ℕ) (a b out : Bytes) → written at (a ++ b) out ≡ written (at + length a) b (written at a out)
written_then at [] b out = ap (λ (k : ℕ). sets out k b) (sym (add-zero at))
written_then at (x ∷ a) b out =
    let e : suc at + length a ≡ at + suc (length a) = omega arith in
    written_then (suc at) a b (set out at x) ∙ ap (λ (k : ℕ). sets (sets (set out at x) (suc at) a) k b) e

pub wrote_none : (at : ℕ) (text out : Bytes) → [] ≡ text → Wrote at text out at out
wrote_none at text out e = record { place = sym (add-zero at) ∙ ap (λ (t : Bytes). at + length t) e; bytes = ap (λ (t : Bytes). written at t out) e; long = refl }

pub wrote_then : {at : ℕ} {a out : Bytes} {next : ℕ} {mid b : Bytes} {last : ℕ} {end : Bytes} → Wrote at a out next mid → Wrote next b mid last end → Wrote at (a ++ b) out last end
wrote_then {at} {a} {out} {next} {mid} {b} {last} {end} p q = record {
  place = omega (arith, p.place, q.place, length-append a b);
  bytes = q.bytes ∙ ap (λ (k : ℕ). written k b mid) p.place ∙ ap (written (at + length a) b) p.bytes ∙ sym (written_then at a b out);
  long = q.long ∙ p.long;
}

pub wrote_as : {at : ℕ} {a b out : Bytes} {next : ℕ} {end : Bytes} → Wrote at a out next end → a ≡ b → Wrote at b out next end
wrote_as {at} {a} {b} {out} {next} {end} w e = record {
  place = w.place ∙ ap (λ (t : Bytes). at + length t) e;
  bytes = w.bytes ∙ ap (λ (t : Bytes). written at t out) e;
  long = w.long;
}

-- two letters
pub letters-length : (s : Status) → length (letters s) ≡ 2
letters-length s = elim s as (λ v. length (letters v) ≡ 2) [
  | Blank ↦ refl
  | GA ↦ refl
  | GK ↦ refl
  | GB ↦ refl
  | GE ↦ refl
  | GP ↦ refl
  | CX ↦ refl
  | TX ↦ refl
  | PX ↦ refl
  | AD ↦ refl
  | AC ↦ refl
  | AJ ↦ refl
  | AK ↦ refl
  | AH ↦ refl
  | AB ↦ refl
  | DJ ↦ refl
  | DA ↦ refl
  | II ↦ refl
  | FX ↦ refl
  | PD ↦ refl
]

pub two_bytes : (l : Bytes) → length l ≡ 2 → (byte l 0 ∷ []) ++ (byte l 1 ∷ []) ≡ l
two_bytes [] e = absurd (omega arith)
two_bytes (x ∷ []) e = absurd (omega arith)
two_bytes (x ∷ y ∷ []) e = refl
two_bytes (x ∷ y ∷ z ∷ l) e = absurd (omega arith)

-- digits
pub digits-none : (k n : ℕ) → k ≡ 0 → [] ≡ digits k n
unfolding digits
digits-none k n e = rw e

pub digits-one : (k n : ℕ) → (k ≡ 0 → ⊥) → n < 10 → ((0x30 + n) ∷ []) ≡ digits k n
unfolding digits
digits-one zero n e h = absurd (e refl)
digits-one (suc k) n e h = rw (digits, lt-ltb n 10)

digits-suc : (k n : ℕ) → 10 ≤ n → digits k (n / 10) ++ ((0x30 + n % 10) ∷ []) ≡ digits (suc k) n
unfolding digits
digits-suc k n h = rw (digits, le-ltb n 10)

pub digits_more : (k n : ℕ) → (k ≡ 0 → ⊥) → 10 ≤ n → digits (k - 1) (n / 10) ++ ((0x30 + n % 10) ∷ []) ≡ digits k n
digits_more k n e h =
    let s : suc (k - 1) ≡ k = omega arith in
    digits-suc (k - 1) n h ∙ ap (λ (j : ℕ). digits j n) s

-- hex, a byte more
hex-snoc : (l : Bytes) (b : ℕ) → hex (l ++ (b ∷ [])) ≡ hex l ++ (hex_digit (b / 16) ∷ hex_digit (b % 16) ∷ [])
unfolding hex
hex-snoc [] b = refl
hex-snoc (x ∷ l) b = ap (λ (t : Bytes). hex_digit (x / 16) ∷ hex_digit (x % 16) ∷ t) (hex-snoc l b)

hex-more : (from : Bytes) (i : ℕ) → i < length from → hex (take i from) ++ (hex_digit (byte from i / 16) ∷ hex_digit (byte from i % 16) ∷ []) ≡ hex (take (i + 1) from)
hex-more from i h = sym (hex-snoc (take i from) (byte from i)) ∙ ap hex (sym (take-suc from i 0 h)) ∙ ap (λ (k : ℕ). hex (take k from)) (sym (add-one i))

pub hex-turn : (from : Bytes) (i high low : ℕ) → i < length from → high ≡ hex_digit (byte from i / 16) → low ≡ hex_digit (byte from i % 16) → hex (take i from) ++ (high ∷ low ∷ []) ≡ hex (take (i + 1) from)
hex-turn from i high low h p q = rw (p, q) (hex-more from i h)

pub hex-none : (from : Bytes) → [] ≡ hex (take 0 from)
unfolding hex
hex-none from = refl

pub hex-all : (from : Bytes) (i : ℕ) → length from ≤ i → hex (take i from) ≡ hex from
hex-all from i h = ap hex (take_all i from h)
