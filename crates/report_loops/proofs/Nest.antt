-- Law B: a loop of gets, with a loop of gets within the run under each cell found, shows what one loop with the joined test shows. Assumes nothing.
use Rattle.std.specs.Prelude.{Some}
use mathlib.Core.Path.{◌≡◌, refl, ap, sym, ◌∙◌}
use mathlib.Core.Bool.{Bool, true, false}
use mathlib.Core.List.{List, ◌++◌, map, map-append}
use Prim.Native.Nat.{ℕ, zero, suc, ◌-◌, ◌<◌, ◌≤◌}
use native.Mathlib.Omega.{arith}
use Rattle.terms.specs.declared.Status.TheVariants.{GE}
use Rattle.forest.specs.Forest.{inside, outside, side}
use Rattle.forest.specs.Good.{on, off, is}
use Rattle.rules.specs.Outcome.{Outcome}
use Rattle.report_loops.specs.Loops.{State, handed_on, Seen, is_last, ended, behind, loop, nested_loop}
use Rattle.report_loops.proofs.Hits.{clash, Without, hits, hits-split, hits-none, hits-from, hits-same, nothing, found, first}
use Rattle.report_loops.proofs.Scan.{after, Seeks, loop-seeks}

-- what the runs of n cells and three tests, outer, inner and joined, must be to each other
pub record Nests (n : ℕ) (end : ℕ → ℕ) (outer inner joined : ℕ → Bool) : Type 0 where
  -- a run is not empty, and ends among the cells
  pub later : (p : ℕ) → p < n → p < end p
  pub among : (p : ℕ) → p < n → end p ≤ n
  -- no cell of the outer test lies beneath another
  pub apart : (p q : ℕ) → q < n → outer p ≡ true → outer q ≡ true → p < q → q < end p → ⊥
  -- beneath a cell of the outer test, the inner test is the joined one
  pub below : (p k : ℕ) → k < n → outer p ≡ true → p < k → k < end p → inner k ≡ joined k
  -- a cell of the joined test lies beneath one of the outer test
  pub above : (k : ℕ) → k < n → joined k ≡ true → (p : ℕ) × (outer p ≡ true) × (p < k) × (k < end p)

-- one call of the outer loop
module _ (get₁ get₂ : State → Outcome) (m k : ℕ) (s : State) where
  nested-last : is_last (get₁ s) ≡ true → nested_loop get₁ get₂ m (suc k) s ≡ ended (get₁ s)
  unfolding nested_loop
  nested-last e = rw (nested_loop, e)

  nested-on : is_last (get₁ s) ≡ false → (loop get₂ m (handed_on (get₁ s))).last ≡ Some GE
      → nested_loop get₁ get₂ m (suc k) s ≡ behind (loop get₂ m (handed_on (get₁ s))).seen (nested_loop get₁ get₂ m k (loop get₂ m (handed_on (get₁ s))).handed)
  unfolding nested_loop
  nested-on e f = rw (nested_loop, e, f)

module _ (n : ℕ) (end : ℕ → ℕ) (outer inner joined : ℕ → Bool) (N : Nests n end outer inner joined) where
  -- no run of an outer cell before e reaches over e
  abbrev pub Closed : ℕ → Type 0
  Closed e = (p : ℕ) → p < e → outer p ≡ true → end p ≤ e

  -- from there up to the next outer cell, that cell too, nothing passes the joined test
  pub none-joined : (e j : ℕ) → Closed e → Without outer e j → (k : ℕ) → k < n → e ≤ k → k ≤ j → joined k ≡ false
  none-joined e j c h k l x y = elim (is (joined k)) [
    | off z ↦ z
    | on z ↦
        let w = N.above k l z in
        absurd (elim (side w.0 e) [
          | inside m ↦ omega (arith, c w.0 m w.1, w.3)
          | outside m ↦ clash (outer w.0) w.1 (h w.0 m (omega (arith, w.2)))
        ])
  ]

  pub none-under : (i j : ℕ) → i < n → outer i ≡ true → i < j → j < end i → outer j ≡ false
  none-under i j l s x y = elim (is (outer j)) [
    | off z ↦ z
    | on z ↦ absurd (N.apart i j (omega (arith, N.among i l)) s z x y)
  ]

  -- the run of the next outer cell closes again
  pub closed-next : (e i : ℕ) → Closed e → e ≤ i → i < n → outer i ≡ true → Without outer e i → Closed (end i)
  closed-next e i w u l s g p x y = elim (side p e) [
    | inside a ↦ omega (arith, w p a y, N.later i l)
    | outside a ↦ elim (side p i) [
      | inside b ↦ absurd (clash (outer p) y (g p a b))
      | outside b ↦ elim (side i p) [
        | inside d ↦ absurd (clash (outer p) y (none-under i p l s d x))
        | outside d ↦ (let z : p ≡ i = omega arith in rw z (omega arith))
      ]
    ]
  ]

  -- what passes the joined test from e on is what passes it in the run of the next outer cell i, and from there on
  pub joined-run : (e i : ℕ) → Closed e → e ≤ i → i < n → Without outer e i → hits joined e n ≡ hits joined (suc i) (end i) ++ hits joined (end i) n
  joined-run e i w u l g =
      let a : i < end i = N.later i l in
      let b : end i ≤ n = N.among i l in
      hits-from joined e (suc i) n (omega arith) (omega arith) (λ k x y. none-joined e i w g k (omega arith) x (omega arith)) ∙ hits-split joined (suc i) (end i) n a b

  module _ (see : ℕ → Seen) (Fit : State → Type 0) (Under : ℕ → State → Type 0) (get₁ get₂ : State → Outcome)
      (S₁ : Seeks see Fit Under outer n GE get₁) (S₂ : (p : ℕ) → p < n → Seeks see (Under p) (λ j. Under p) inner (end p) GE get₂)
      (again : (p : ℕ) (s : State) → Under p s → Fit s) (m : ℕ) (enough : n < m) where
    nested-from : (k e : ℕ) (s : State) → Fit s → after s ≤ e → e ≤ n → Without outer (after s) e → Closed e → n - e < k
        → ((nested_loop get₁ get₂ m k s).seen ≡ map see (hits joined e n)) × ((nested_loop get₁ get₂ m k s).last ≡ Some GE)
    nested-from zero e s f a b h w l = absurd (omega arith)
    nested-from (suc k) e s f a b h w l = elim (first outer e n) [
      | nothing g ↦
          let o = S₁.none s f (λ q x y. elim (side q e) [ inside z ↦ h q x z | outside z ↦ g q z y ]) in
          rw (nested-last get₁ get₂ m k s o.ends)
          (sym (ap (map see) (hits-none joined e n (λ j y z. none-joined e n w g j z y (omega arith)))), ap Some o.status)
      | found i u v t g ↦
          let o = S₁.one s i f (omega arith) v t (λ q x y. elim (side q e) [ inside z ↦ h q x z | outside z ↦ g q z y ]) in
          let a₁ : i < end i = N.later i v in
          let b₁ : end i ≤ n = N.among i v in
          let s₁ : State = handed_on (get₁ s) in
          let r = loop-seeks see (Under i) (λ j. Under i) inner (end i) GE get₂ (S₂ i v) (λ j q x. x) m s₁ o.fit (omega (arith, o.moves)) (omega (arith, o.moves)) in
          let s₂ : State = (loop get₂ m s₁).handed in
          let z : (loop get₂ m s₁).seen ≡ map see (hits joined (suc i) (end i)) =
          r.seen ∙ ap (λ (q : ℕ). map see (hits inner q (end i))) o.moves ∙ ap (map see) (hits-same inner joined (suc i) (end i) (λ q x y. N.below i q (omega arith) t x y)) in
          let ih = nested-from k (end i) s₂ (again i s₂ r.fit) (r.within refl) b₁ (λ q x y. none-under i q v t (omega (arith, r.on refl, o.moves)) y) (closed-next e i w u v t g) (omega arith) in
          rw (nested-on get₁ get₂ m k s o.goes_on r.last) (
            ap (λ (q : List Seen). q ++ (nested_loop get₁ get₂ m k s₂).seen) z ∙ ap (◌++◌ (map see (hits joined (suc i) (end i)))) ih.0
                ∙ sym (map-append see (hits joined (suc i) (end i)) (hits joined (end i) n)) ∙ sym (ap (map see) (joined-run e i w u v g)),
            ih.1,
          )
    ]

    -- LAW B: from the first cell on, with more calls allowed than there are cells
    pub nested-seeks : (k : ℕ) (s : State) → Fit s → after s ≡ 0 → n < k
        → ((nested_loop get₁ get₂ m k s).seen ≡ map see (hits joined 0 n)) × ((nested_loop get₁ get₂ m k s).last ≡ Some GE)
    nested-seeks k s f a l = nested-from k 0 s f (omega arith) (omega arith) (λ q x y. absurd (omega arith)) (λ p x y. absurd (omega arith)) (omega arith)
