-- Bytes that are moved or written part by part. `paste d at s n`, of the kit, is d with the first n bytes of s from byte `at` on. Assumes nothing.
use mathlib.Core.Path.{◌≡◌, sym, ap, ◌∙◌}
use mathlib.Core.List.{[], ◌++◌, append_assoc, append-nil}
use Prim.Native.Nat.{ℕ, ◌+◌, ◌-◌, ◌≤◌}
use native.Mathlib.Nat.{add-zero, sub-zero, zero-add, add_assoc}
use native.Mathlib.Omega.{arith}
use lib.ListN.{length, take, drop, length-drop, drop_of_length-le, take-append-drop}
use lib.Seq.{paste, paste-zero, length_paste_head, drop-paste, take_all, length-take-le}
use lib.Seq.{take-append-le, take-append-add, drop-append-le, take-take, drop-drop, take-add, drop_at}
use borrow.Rule.Slice.PartMut.{put_mid}
use Rattle.rules.specs.Block.{Bytes}
use Rattle.blocks.proofs.Lent.{lent-tail}

-- where no byte is put nothing changes
put-none : (d s : Bytes) (at n : ℕ) → d ≡ paste d at s (n - n)
put-none d s at n = let z : n - n ≡ 0 = omega arith in paste-zero d at s ∙ ap (paste d at s) (sym z)

-- what lies behind the first i bytes that were put over d's is d's
behind : (d s : Bytes) (at i x : ℕ) → at ≤ length d → i ≤ length s → at + i ≤ x → drop x (paste d at s i) ≡ drop x d
behind d s at i x h k l =
    let e : at + i + (x - (at + i)) ≡ x = omega arith in
    ap (λ (q : ℕ). drop q (paste d at s i)) (sym e)
    ∙ sym (drop-drop (x - (at + i)) (at + i) (paste d at s i))
    ∙ ap (drop (x - (at + i))) (drop-paste d at s i h k)
    ∙ drop-drop (x - (at + i)) (at + i) d
    ∙ ap (λ (q : ℕ). drop q d) e

-- i bytes of s are put, and then k from the j-th on, of which some may stand already: now j + k do
put-more : (d s : Bytes) (at i j k : ℕ) → at ≤ length d → i ≤ length s → j ≤ i → i ≤ j + k
    → paste (paste d at s i) (at + j) (drop j s) k ≡ paste d at s (j + k)
put-more d s at i j k h l m n =
    let p = length_paste_head d at s i h l in
    let z : length (take at d) ≡ at = length-take-le at d h in
    let f : take (at + j) (paste d at s i) ≡ take at d ++ take j s =
    take-append-le (at + j) (take at d ++ take i s) (drop (at + i) d) (omega arith)
    ∙ ap (λ (q : ℕ). take (q + j) (take at d ++ take i s)) (sym z)
    ∙ take-append-add (take at d) (take i s) j
    ∙ ap (λ (t : Bytes). take at d ++ t) (take-take j i s m) in
    let g : drop (at + j + k) (paste d at s i) ≡ drop (at + j + k) d = behind d s at i (at + j + k) h l (omega arith) in
    ap (λ (t : Bytes). t ++ take k (drop j s) ++ drop (at + j + k) (paste d at s i)) f
    ∙ ap (λ (t : Bytes). take at d ++ take j s ++ take k (drop j s) ++ t) g
    ∙ rw (append_assoc (take at d) (take j s) (take k (drop j s)), ← take-add j k s, add_assoc)

-- the first i bytes of s stand in the place of d's, and k of s from the j-th on are put into a lent tail
pub lent-more : (s d t y : Bytes) (i j k : ℕ) → i ≤ length s → j ≤ i → i ≤ j + k → t ≡ take i s ++ drop i d
    → y ≡ take k (take (length s - j) (drop j s)) ++ drop k (take (length t - j) (drop j t)) → put_mid j (length t - j) t y ≡ take (j + k) s ++ drop (j + k) d
lent-more s d t y i j k l m n e f =
    let w : take (length s - j) (drop j s) ≡ drop j s = take_all (length s - j) (drop j s) (simp length-drop (omega arith)) in
    lent-tail (λ (u : Bytes). take k (take (length s - j) (drop j s)) ++ drop k u) t y j f
    ∙ simp (w, drop-drop, ← append_assoc)
    (ap (λ (u : Bytes). paste u j (drop j s) k) e ∙ simp zero-add at (put-more d s 0 i j k (omega arith) l m n))

-- a part that lies within p is the same whatever lies behind p
within : (p q r : Bytes) (j k : ℕ) → j + k ≤ length p → take k (drop j (p ++ q)) ≡ take k (drop j (p ++ r))
within p q r j k h =
    let l : j ≤ length p = omega arith in
    let m : k ≤ length (drop j p) = simp length-drop (omega arith) in
    rw (drop-append-le j p q, drop-append-le j p r, take-append-le k (drop j p) q, take-append-le k (drop j p) r)

-- the bytes from i to n stand by `gap` higher, too
abbrev pub up_at : ℕ → ℕ → ℕ → Bytes → Bytes
up_at gap n i b = paste b (gap + i) (drop i b) (n - i)

-- k bytes below them go up
pub up_more : (gap n i j k : ℕ) (b : Bytes) → gap + n ≤ length b → i ≤ n → j + k ≡ i
    → paste (up_at gap n i b) (gap + j) (drop j (up_at gap n i b)) k ≡ up_at gap n j b
up_more gap n i j k b h l e =
    let p : Bytes = take (gap + i) b in
    let r : Bytes = take (n - i) (drop i b) ++ drop (gap + i + (n - i)) b in
    let z : length p ≡ gap + i = length-take-le (gap + i) b (omega arith) in
    let a : up_at gap n i b ≡ p ++ r = append_assoc p (take (n - i) (drop i b)) (drop (gap + i + (n - i)) b) in
    let c : p ++ drop (gap + i) b ≡ b = take-append-drop (gap + i) b in
    let f : take (gap + j) (p ++ r) ≡ take (gap + j) b = within p r (drop (gap + i) b) 0 (gap + j) (omega arith) ∙ ap (take (gap + j)) c in
    let m : take k (drop j (p ++ r)) ≡ take k (drop j b) =
    within p r (drop (gap + i) b) j k (omega arith) ∙ ap (λ (t : Bytes). take k (drop j t)) c in
    let q : drop (gap + j + k) (p ++ r) ≡ r = drop_at p r (gap + j + k) (omega arith) in
    let s : n - j ≡ k + (n - i) = omega arith in
    let y : gap + j + (n - j) ≡ gap + i + (n - i) = omega arith in
    let x : take (n - j) (drop j b) ≡ take k (drop j b) ++ take (n - i) (drop i b) =
    ap (λ (v : ℕ). take v (drop j b)) s ∙ take-add k (n - i) (drop j b)
    ∙ ap (λ (t : Bytes). take k (drop j b) ++ take (n - i) t) (drop-drop k j b ∙ ap (λ (v : ℕ). drop v b) e) in
    ap (λ (t : Bytes). paste t (gap + j) (drop j t) k) a ∙ simp (f, m, q, x, y, append_assoc)

pub up_start : (gap n : ℕ) (b : Bytes) → b ≡ up_at gap n n b
up_start gap n b = put-none b (drop n b) (gap + n) n

-- and all the rest
pub up-end : (gap n i : ℕ) (b : Bytes) → gap + n ≡ length b → i ≤ n → paste (up_at gap n i b) gap (up_at gap n i b) i ≡ take gap b ++ take n b
up-end gap n i b e l =
    let z : drop (gap + n) b ≡ [] = drop_of_length-le b {i = gap + n} (omega arith) in
    simp (add-zero, sub-zero, z, append-nil) at (up_more gap n i 0 i b (omega arith) l (omega arith))

-- the bytes from `gap + at` on stand by `gap` lower, too, up to i
abbrev pub down_at : ℕ → ℕ → ℕ → Bytes → Bytes
down_at gap at i b = paste b at (drop (gap + at) b) (i - at)

-- k bytes behind them go down
pub down-more : (gap at i k : ℕ) (b : Bytes) → gap + i ≤ length b → at ≤ i
    → paste (down_at gap at i b) i (drop (gap + i) (down_at gap at i b)) k ≡ down_at gap at (i + k) b
down-more gap at i k b h l =
    let s : Bytes = drop (gap + at) b in
    let m : i - at ≤ length s = simp length-drop (omega arith) in
    let e : at + (i - at) ≡ i = omega arith in
    let f : gap + at + (i - at) ≡ gap + i = omega arith in
    let g : i - at + k ≡ i + k - at = omega arith in
    let d : drop (gap + i) (down_at gap at i b) ≡ drop (i - at) s =
    behind b s at (i - at) (gap + i) (omega arith) m (omega arith) ∙ ap (λ (q : ℕ). drop q b) (sym f) ∙ sym (drop-drop (i - at) (gap + at) b) in
    ap (λ (t : Bytes). paste (down_at gap at i b) i t k) d
    ∙ ap (λ (q : ℕ). paste (down_at gap at i b) q (drop (i - at) s) k) (sym e)
    ∙ put-more b s at (i - at) (i - at) k (omega arith) m (omega arith) (omega arith)
    ∙ ap (paste b at s) g

pub down-start : (gap at : ℕ) (b : Bytes) → b ≡ down_at gap at at b
down-start gap at b = put-none b (drop (gap + at) b) at at

-- and all the rest: t is what stands before, and y what stands then
pub down-end : (gap i : ℕ) (b t y : Bytes) → gap + i ≤ length b → length t ≡ length b → t ≡ down_at gap 0 i b
    → y ≡ paste t i (drop (gap + i) t) (length t - gap - i) → y ≡ drop gap b ++ drop (length b - gap) b
down-end gap i b t y h l e f =
    let n : ℕ = length b - gap in
    let w : take n (drop gap b) ≡ drop gap b = take_all n (drop gap b) (simp length-drop (omega arith)) in
    let m : i + (n - i) ≡ n = omega arith in
    f
    ∙ ap (λ (q : ℕ). paste t i (drop (gap + i) t) (q - gap - i)) l
    ∙ ap (λ (u : Bytes). paste u i (drop (gap + i) u) (n - i)) e
    ∙ down-more gap 0 i (n - i) b (omega arith) (omega arith)
    ∙ simp (m, add-zero, sub-zero, zero-add, w)
