-- Where a new segment goes: behind the cells that it passes is before the first that must come later. Assumes nothing.
use mathlib.Core.Path.{◌≡◌, ap, ◌∙◌}
use mathlib.Core.Bool.{Bool, true, false, ◌&&◌}
use mathlib.Core.List.{List, ◌∷◌}
use Prim.Native.Nat.{ℕ, zero, suc, ◌+◌, ◌<◌, ◌≤◌}
use native.Mathlib.Omega.{arith}
use lib.Dec.{eqb}
use lib.ListN.{length, drop, drop_of_length-le}
use lib.Seq.{drop-cons}
use borrow.Author.Tests.{lt-ltb, le-ltb, eq-eqb, ne_eqb, eqb-true}
use Rattle.forest.specs.Forest.{inside, outside, side}
use Rattle.forest.specs.Good.{on, off, is, both_left, both_right}
use Rattle.forest.specs.Insert.{spot}
use Rattle.rules.specs.Block.{Bytes}
use Rattle.rules.specs.Cells.{Segment, segment, blank, segment_level, goes_before, level_at, end_at}
use Rattle.model.proofs.Insert.{spot_in, spot_out}
use Rattle.model.proofs.Levels.{end-from, end-some, run-deep}
use Rattle.demands.specs.PositionTable.{first_of}

module _ (cat : Bytes) (cs : List Segment) (x : Segment) where
  -- a cell that x must stand before
  abbrev pub later : ℕ → Bool
  later j = eqb (level_at cat cs j) (segment_level cat x) && goes_before cat x (segment cs j)

  abbrev passed : ℕ → ℕ
  passed i = spot (segment_level cat) x (goes_before cat x) (drop i cs)

  at-cell : (i : ℕ) → i < length cs → drop i cs ≡ segment cs i ∷ drop (suc i) cs
  at-cell i l = drop-cons cs i blank l

  first-here : (i k : ℕ) → later i ≡ true → first_of later i (suc k) ≡ i
  unfolding first_of
  first-here i k e = rw e

  first_next : (i k : ℕ) → later i ≡ false → first_of later i (suc k) ≡ first_of later (suc i) k
  unfolding first_of
  first_next i k e = rw e

  -- x stops before a cell that is not so deep, and behind the last cell
  stops : (i : ℕ) → i ≤ length cs → (i < length cs → level_at cat cs i < segment_level cat x) → passed i ≡ 0
  unfolding spot level_at
  stops i l low = elim (side i (length cs)) [
    | inside m ↦
        let d : segment_level cat (segment cs i) < segment_level cat x = low m in
        ap (spot (segment_level cat) x (goes_before cat x)) (at-cell i m)
        ∙ spot_out (segment_level cat) x (goes_before cat x) (segment cs i) (drop (suc i) cs)
        (rw (
          le-ltb (segment_level cat x) (segment_level cat (segment cs i)) (omega arith),
          ne_eqb (segment_level cat (segment cs i)) (segment_level cat x) (λ z. omega arith),
        ))
    | outside m ↦ ap (spot (segment_level cat) x (goes_before cat x)) (drop_of_length-le cs m)
  ]

  -- LAW: among k cells that are deep enough, with none such behind them
  pub spot-first : (k i : ℕ) → i + k ≤ length cs → ((j : ℕ) → i ≤ j → j < i + k → segment_level cat x ≤ level_at cat cs j)
      → (i + k < length cs → level_at cat cs (i + k) < segment_level cat x) → i + passed i ≡ first_of later i k
  unfolding first_of level_at
  spot-first zero i l deep low =
      let z : i + 0 ≡ i = omega arith in
      let e : passed i ≡ 0 = stops i (omega arith) (λ m. rw z at (low (omega arith))) in
      omega arith
  spot-first (suc k) i l deep low = elim (is (later i)) [
    | on e ↦ (let z : passed i ≡ 0 = out e in rw (first-here i k e) (omega arith))
    | off e ↦
        let z : i + suc k ≡ suc i + k = omega arith in
        let r : suc i + passed (suc i) ≡ first_of later (suc i) k =
        spot-first k (suc i) (omega arith) (λ j a b. deep j (omega arith) (omega arith)) (λ m. rw z at (low (omega arith))) in
        let s : passed i ≡ suc (passed (suc i)) = in' e (deep i (omega arith) (omega arith)) in
        rw (first_next i k e) (omega arith)
  ]
    where
      m : i < length cs
      m = omega arith

      out : later i ≡ true → passed i ≡ 0
      out e =
          let q : segment_level cat (segment cs i) ≡ segment_level cat x =
          eqb-true (segment_level cat (segment cs i)) (segment_level cat x)
          (both_left (eqb (segment_level cat (segment cs i)) (segment_level cat x)) (goes_before cat x (segment cs i)) e) in
          let g : goes_before cat x (segment cs i) ≡ true =
          both_right (eqb (segment_level cat (segment cs i)) (segment_level cat x)) (goes_before cat x (segment cs i)) e in
          ap (spot (segment_level cat) x (goes_before cat x)) (at-cell i m)
          ∙ spot_out (segment_level cat) x (goes_before cat x) (segment cs i) (drop (suc i) cs)
          (rw (le-ltb (segment_level cat x) (segment_level cat (segment cs i)) (omega arith), eq-eqb (segment_level cat (segment cs i)) (segment_level cat x) q, g))

      in' : later i ≡ false → segment_level cat x ≤ level_at cat cs i → passed i ≡ suc (passed (suc i))
      in' e d =
          ap (spot (segment_level cat) x (goes_before cat x)) (at-cell i m)
          ∙ spot_in (segment_level cat) x (goes_before cat x) (segment cs i) (drop (suc i) cs)
          (elim (side (segment_level cat x) (segment_level cat (segment cs i))) [
            | inside n ↦ rw (lt-ltb (segment_level cat x) (segment_level cat (segment cs i)) n)
            | outside n ↦
                let q : segment_level cat (segment cs i) ≡ segment_level cat x = omega arith in
                let g : goes_before cat x (segment cs i) ≡ false = rw (eq-eqb (segment_level cat (segment cs i)) (segment_level cat x) q) at e in
                rw (le-ltb (segment_level cat x) (segment_level cat (segment cs i)) n, eq-eqb (segment_level cat (segment cs i)) (segment_level cat x) q, g)
          ])

-- LAW: the cell behind a run is not beneath it
pub run-stops : (cat : Bytes) (cs : List Segment) (p : ℕ) → p < length cs → end_at cat cs p < length cs → level_at cat cs (end_at cat cs p) ≤ level_at cat cs p
run-stops cat cs p l m = elim (side (level_at cat cs p) (level_at cat cs (end_at cat cs p))) [
  | inside d ↦
      let r : suc (end_at cat cs p) ≤ end_at cat cs p =
      end-from cat cs p (suc (end_at cat cs p)) (omega (arith, end-some cat cs p)) (omega arith) (λ k a b. deeper d k a b) in
      absurd (omega arith)
  | outside d ↦ d
]
  where
    deeper : level_at cat cs p < level_at cat cs (end_at cat cs p) → (k : ℕ) → p < k → k < suc (end_at cat cs p) → level_at cat cs p < level_at cat cs k
    deeper d k a b = elim (side k (end_at cat cs p)) [
      | inside e ↦ run-deep cat cs p k a e
      | outside e ↦ (let z : k ≡ end_at cat cs p = omega arith in rw z d)
    ]
