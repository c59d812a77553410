-- A cell and the count, written in parts of a table that were lent, said of the whole table. Assumes nothing.
use mathlib.Core.Path.{◌≡◌, sym, ap, ◌∙◌}
use mathlib.Core.List.{[], ◌∷◌, ◌++◌, append_assoc}
use Prim.Native.Nat.{ℕ, suc, ◌+◌, ◌-◌, ◌≤◌, ◌<◌}
use native.Mathlib.Omega.{arith}
use lib.ListN.{length, take, drop, set, replicate, length-append, length-drop, length-set}
use lib.Seq.{take_at, drop_at, take-append-le, drop-append-le, take-take, drop-drop, length-take-le, set_split, take-suc-set, drop-set-lt, append_snoc}
use borrow.Rule.Slice.PartMut.{mid_of, put_mid, mid_len}
use Rattle.rules.specs.Block.{Bytes}
use Rattle.encoding.proofs.Lists.{drop-take}
use Rattle.blocks.specs.Moves.{moved_up, moved_down}
use Rattle.blocks.proofs.Lent.{lent, back, cut, put-part, lent-tail}

-- all behind the front cleared
tail-cleared : (b p q z : Bytes) (a : ℕ) → b ≡ p ++ q → length p ≡ a → z ≡ replicate (length (mid_of a (length b - a) b)) 0
    → put_mid a (length b - a) b z ≡ p ++ replicate (length q) 0
tail-cleared b p q z a e f g =
    lent-tail (λ (l : Bytes). replicate (length l) 0) b z a g
    ∙ ap (λ (t : Bytes). t ++ replicate (length (drop a b)) 0) (ap (take a) e ∙ take_at p q a f)
    ∙ ap (λ (t : Bytes). p ++ replicate (length t) 0) (ap (drop a) e ∙ drop_at p q a f)

-- a cell written: y stands in the place of its data, then z behind that, then the code
pub cell-written : (cell from y z : Bytes) (t : ℕ) → length from < length cell
    → (let b : Bytes = put_mid 1 (1 + length from - 1) cell y in
    y ≡ from ++ drop (length from) (mid_of 1 (1 + length from - 1) cell)
    → z ≡ replicate (length (mid_of (1 + length from) (length b - (1 + length from)) b)) 0
    → set (put_mid (1 + length from) (length b - (1 + length from)) b z) 0 t ≡ t ∷ from ++ replicate (length cell - suc (length from)) 0)
cell-written [] from y z t l e f = absurd (omega arith)
cell-written (x ∷ rest) from y z t l e f =
    let end : ℕ = 1 + length from in
    let b : Bytes = put_mid 1 (end - 1) (x ∷ rest) y in
    let h : b ≡ (x ∷ from) ++ drop end (x ∷ rest) = put-part (x ∷ rest) from y 1 end (omega arith) (omega arith) (omega arith) e in
    let k : length (drop end (x ∷ rest)) ≡ length (x ∷ rest) - suc (length from) = omega (arith, length-drop end (x ∷ rest)) in
    ap (λ (s : Bytes). set s 0 t) (tail-cleared b (x ∷ from) (drop end (x ∷ rest)) z end h (omega arith) f) ∙ ap (λ (n : ℕ). t ∷ (from ++ replicate n 0)) k

-- the part from `start` to `end`, of which the callee made y: p lies before the part, m is the part as it was, q lies behind it, and b is the block with y
module _ (tab y : Bytes) (start end gap : ℕ) (l : start + gap ≤ end) (in-tab : end ≤ length tab) where
  abbrev p : Bytes
  p = take start tab

  abbrev m : Bytes
  m = take (end - start) (drop start tab)

  abbrev q : Bytes
  q = drop end tab

  abbrev b : Bytes
  b = put_mid start (end - start) tab y

  p-long : length p ≡ start
  p-long = length-take-le start tab (omega arith)

  m-long : length m ≡ end - start
  m-long = mid_len start end tab in-tab

  put_back : b ≡ p ++ (y ++ q)
  put_back = back tab p m q start end (cut tab start end (omega arith)) p-long (omega (arith, m-long)) y

  -- moved up: a cell is written where that made room
  module _ (e : y ≡ moved_up gap m) where
    gap-long : length (take gap m) ≡ gap
    gap-long = length-take-le gap m (omega (arith, m-long))

    moved_up_lem : b ≡ p ++ (take gap m ++ (take (length m - gap) m ++ q))
    moved_up_lem = put_back ∙ ap (λ (t : Bytes). p ++ (t ++ q)) e ∙ ap (λ (t : Bytes). p ++ t) (append_assoc (take gap m) (take (length m - gap) m) q)

    pub up_room : length (mid_of start (start + gap - start) b) ≡ gap
    up_room = ap length (lent b p (take gap m) (take (length m - gap) m ++ q) start (start + gap) moved_up_lem p-long (omega (arith, gap-long))) ∙ gap-long

    pub up-cell : (cell : Bytes) → put_mid start (start + gap - start) b cell ≡ p ++ (cell ++ (take (end - start - gap) (drop start tab) ++ q))
    up-cell cell =
        back b p (take gap m) (take (length m - gap) m ++ q) start (start + gap) moved_up_lem p-long (omega (arith, gap-long)) cell
        ∙ ap (λ (t : Bytes). p ++ (cell ++ (t ++ q)))
        (ap (λ (k : ℕ). take (k - gap) m) m-long ∙ take-take (end - start - gap) (end - start) (drop start tab) (omega arith))

  -- moved down: the last bytes are cleared
  module _ (e : y ≡ moved_down gap m) where
    stays : length (p ++ drop gap m) ≡ end - gap
    stays = omega (arith, length-append p (drop gap m), length-drop gap m, p-long, m-long)

    rest-long : length (drop (length m - gap) m) ≡ gap
    rest-long = omega (arith, length-drop (length m - gap) m, m-long)

    moved_down_lem : b ≡ (p ++ drop gap m) ++ (drop (length m - gap) m ++ q)
    moved_down_lem =
        put_back ∙ ap (λ (t : Bytes). p ++ (t ++ q)) e ∙ ap (λ (t : Bytes). p ++ t) (append_assoc (drop gap m) (drop (length m - gap) m) q)
        ∙ sym (append_assoc p (drop gap m) (drop (length m - gap) m ++ q))

    later : drop gap m ≡ take (end - start - gap) (drop (start + gap) tab)
    later =
        let s : gap + (end - start - gap) ≡ end - start = omega arith in
        ap (λ (j : ℕ). drop gap (take j (drop start tab))) (sym s) ∙ drop-take gap (end - start - gap) (drop start tab)
        ∙ ap (take (end - start - gap)) (drop-drop gap start tab)

    pub down-cleared : (z : Bytes) → z ≡ replicate (length (mid_of (end - gap) (end - (end - gap)) b)) 0
        → put_mid (end - gap) (end - (end - gap)) b z ≡ p ++ (take (end - start - gap) (drop (start + gap) tab) ++ (replicate gap 0 ++ q))
    down-cleared z f =
        let o : end - gap + length (drop (length m - gap) m) ≡ end = omega (arith, rest-long) in
        back b (p ++ drop gap m) (drop (length m - gap) m) q (end - gap) end moved_down_lem stays o z
        ∙ append_assoc p (drop gap m) (z ++ q)
        ∙ ap (λ (t : Bytes). p ++ (t ++ (z ++ q))) later
        ∙ ap (λ (t : Bytes). p ++ (take (end - start - gap) (drop (start + gap) tab) ++ (t ++ q)))
        (f ∙ ap (λ (t : Bytes). replicate (length t) 0) (lent b (p ++ drop gap m) (drop (length m - gap) m) q (end - gap) end moved_down_lem stays o)
        ∙ ap (λ (j : ℕ). replicate j 0) rest-long)

-- the count written in a block whose first 8 + k bytes are those of tab
pub counted : (tab b q w : Bytes) (k : ℕ) → 8 + k ≤ length tab → b ≡ take (8 + k) tab ++ q
    → take 6 b ++ (w ++ drop 8 b) ≡ take 6 tab ++ (w ++ (take k (drop 8 tab) ++ q))
counted tab b q w k l e =
    let p : Bytes = take (8 + k) tab in
    let n : length p ≡ 8 + k = length-take-le (8 + k) tab l in
    let f : take 6 b ≡ take 6 tab = ap (take 6) e ∙ take-append-le 6 p q (omega arith) ∙ take-take 6 (8 + k) tab (omega arith) in
    let g : drop 8 b ≡ take k (drop 8 tab) ++ q = ap (drop 8) e ∙ drop-append-le 8 p q (omega arith) ∙ ap (λ (t : Bytes). t ++ q) (drop-take 8 k tab) in
    ap (λ (t : Bytes). t ++ (w ++ drop 8 b)) f ∙ ap (λ (t : Bytes). take 6 tab ++ (w ++ t)) g

-- the two bytes of the count
pub count_set : (tab : Bytes) (x y : ℕ) → 8 ≤ length tab → set (set tab 6 x) 7 y ≡ take 6 tab ++ (x ∷ y ∷ drop 8 tab)
count_set tab x y h =
    set_split (set tab 6 x) 7 y (rw length-set (omega arith))
    ∙ ap (λ (t : Bytes). t ++ y ∷ drop 8 (set tab 6 x)) (take-suc-set tab 6 x (omega arith))
    ∙ ap (λ (t : Bytes). take 6 tab ++ (x ∷ []) ++ y ∷ t) (drop-set-lt 8 tab 6 x (omega arith))
    ∙ append_snoc (take 6 tab) x (y ∷ drop 8 tab)
