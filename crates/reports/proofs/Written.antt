-- Hits written one behind the other. Assumes nothing.
use mathlib.Core.Path.{◌≡◌, refl, ◌∙◌}
use mathlib.Core.List.{List, [], ◌∷◌, ◌++◌}
use Prim.Native.Nat.{ℕ, suc, ◌+◌, ◌*◌, ◌/◌, ◌%◌, ◌<◌, ◌≤◌}
use native.Mathlib.Nat.{add-zero}
use native.Mathlib.Numerals.{add-one}
use native.Mathlib.Omega.{arith}
use lib.Dec.{ltb}
use lib.ListN.{length, set, length-set}
use lib.Seq.{sets, sets-eq}
use borrow.Author.Tests.{lt-ltb, le-ltb}
use Rattle.forest.specs.Good.{on, off, is}
use Rattle.rules.specs.Block.{Bytes}
use Rattle.rules.specs.Calls.{over}
use Rattle.reports.specs.Shown.{hit_bytes, put_hit, shown_from}

pub put-room : (k i : ℕ) (out : Bytes) → 2 * k + 1 < length out → put_hit k i out ≡ set (set out (2 * k) (i / 256)) (2 * k + 1) (i % 256)
unfolding put_hit
put-room k i out h = rw (lt-ltb (2 * k + 1) (length out) h)

pub put-none : (k i : ℕ) (out : Bytes) → length out ≤ 2 * k + 1 → put_hit k i out ≡ out
unfolding put_hit
put-none k i out h = rw (le-ltb (2 * k + 1) (length out) h)

pub put-length : (k i : ℕ) (out : Bytes) → length (put_hit k i out) ≡ length out
unfolding put_hit
put-length k i out = elim (is (ltb (2 * k + 1) (length out))) [
  | on e ↦ rw e (rw (length-set, length-set))
  | off e ↦ rw e
]

pub show-none : (k : ℕ) (out : Bytes) → shown_from k [] out ≡ out
unfolding shown_from
show-none k out = refl

pub show-next : (k i : ℕ) (is : List ℕ) (out : Bytes) → shown_from (k + 1) is (put_hit k i out) ≡ shown_from k (i ∷ is) out
unfolding shown_from
show-next k i is out = rw add-one

pub show-append : (k : ℕ) (xs ys : List ℕ) (out : Bytes) → shown_from (k + length xs) ys (shown_from k xs out) ≡ shown_from k (xs ++ ys) out
unfolding shown_from
show-append k [] ys out = rw add-zero
show-append k (x ∷ xs) ys out = let e : k + suc (length xs) ≡ suc k + length xs = omega arith in rw e (show-append (suc k) xs ys (put_hit k x out))

pub show-length : (k : ℕ) (xs : List ℕ) (out : Bytes) → length (shown_from k xs out) ≡ length out
unfolding shown_from
show-length k [] out = refl
show-length k (x ∷ xs) out = show-length (suc k) xs (put_hit k x out) ∙ put-length k x out

-- without any room nothing is written
pub show-empty : (k : ℕ) (xs : List ℕ) (out : Bytes) → length out ≡ 0 → shown_from k xs out ≡ out
unfolding shown_from
show-empty k [] out e = refl
show-empty k (x ∷ xs) out e = let z = put-none k x out (omega arith) in rw z (show-empty (suc k) xs out e)

pub hits-long : (xs : List ℕ) → length (hit_bytes xs) ≡ 2 * length xs
unfolding hit_bytes
hits-long [] = refl
hits-long (x ∷ xs) = omega (arith, hits-long xs)

show-sets : (k : ℕ) (xs : List ℕ) (out : Bytes) → 2 * (k + length xs) ≤ length out → shown_from k xs out ≡ sets out (2 * k) (hit_bytes xs)
unfolding shown_from hit_bytes
show-sets k [] out h = refl
show-sets k (x ∷ xs) out h =
    let e : 2 * suc k ≡ suc (suc (2 * k)) = omega arith in
    let f : 2 * k + 1 ≡ suc (2 * k) = omega arith in
    let l : 2 * (suc k + length xs) ≤ length (put_hit k x out) = omega (arith, put-length k x out) in
    show-sets (suc k) xs (put_hit k x out) l ∙ rw (e, put-room k x out (omega arith), f)

-- LAW: with room for all of them, the hits stand at the front and the bytes behind stay
pub show-whole : (xs : List ℕ) (out : Bytes) → 2 * length xs ≤ length out → shown_from 0 xs out ≡ over (hit_bytes xs) out
show-whole xs out h =
    let z : 0 + length (hit_bytes xs) ≡ length (hit_bytes xs) = omega arith in
    show-sets 0 xs out (omega arith) ∙ (rw z at (sets-eq (hit_bytes xs) out 0 (omega (arith, hits-long xs))))
