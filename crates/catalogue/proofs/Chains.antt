-- Types by number, each with a parent before it: which types stand above a type, one step at a time. Assumes nothing.
use mathlib.Core.Path.{◌≡◌, refl, ap, sym, ◌∙◌}
use mathlib.Core.Bool.{Bool, true, false, ◌||◌, true≢false, or-true}
use Prim.Native.Nat.{ℕ, zero, suc, ◌+◌, ◌-◌, ◌<◌, ◌≤◌}
use native.Mathlib.Omega.{arith}
use lib.Dec.{eqb}
use borrow.Author.Tests.{eq-eqb, ne_eqb, eqb-true, eqb-false}
use Rattle.forest.specs.Good.{on, off, is}
use Rattle.forest.specs.Numbers.{is_in}
use Rattle.forest.specs.Types.{lower, lower-at, lineage_from, lineage, lineage-step, level, level-suc}

-- no test both passes and fails
pub clash : {b : Bool} → b ≡ true → b ≡ false → ⊥
clash e f = true≢false (sym e ∙ f)

-- no type stands above no type
pub none_in : (par : ℕ → ℕ) (u x : ℕ) → u ≤ 0 → is_in x (lineage par u) ≡ false
unfolding lineage lineage_from
none_in par zero x l = refl
none_in par (suc u) x l = absurd (omega arith)

module _ (par : ℕ → ℕ) (top : ℕ) (low : lower par top ≡ true) where
  in_step : (u x : ℕ) → 0 < u → u ≤ top → is_in x (lineage par u) ≡ (eqb x u || is_in x (lineage par (par u)))
  in_step u x a t = ap (is_in x) (lineage-step par top low u a t)

  pub in-self : (u : ℕ) → 0 < u → u ≤ top → is_in u (lineage par u) ≡ true
  in-self u a t = in_step u u a t ∙ rw (eq-eqb u u refl)

  pub in-up : (u x : ℕ) → 0 < u → u ≤ top → is_in x (lineage par (par u)) ≡ true → is_in x (lineage par u) ≡ true
  in-up u x a t e = in_step u x a t ∙ rw e (or-true (eqb x u))

  pub in-back : (u x : ℕ) → 0 < u → u ≤ top → is_in x (lineage par u) ≡ true → (x ≡ u → ⊥) → is_in x (lineage par (par u)) ≡ true
  in-back u x a t e n =
      let f : (eqb x u || is_in x (lineage par (par u))) ≡ true = sym (in_step u x a t) ∙ e in
      rw (ne_eqb x u n) at f

  -- the types above a type: what they are, by number and by level
  bounds : (n u x : ℕ) → u ≤ n → u ≤ top → is_in x (lineage par u) ≡ true → (0 < x) × (x ≤ u) × (level par x ≤ level par u)
  bounds zero u x l t e = absurd (clash e (none_in par u x l))
  bounds (suc n) zero x l t e = absurd (clash e (none_in par 0 x (omega arith)))
  bounds (suc n) (suc u) x l t e = elim (is (eqb x (suc u))) [
    | on h ↦ (let z : x ≡ suc u = eqb-true x (suc u) h in (omega arith, omega arith, rw z (omega arith)))
    | off h ↦
        let d : par (suc u) < suc u = lower-at par top (suc u) low (omega arith) t in
        let r = bounds n (par (suc u)) x (omega arith) (omega arith) (in-back (suc u) x (omega arith) t e (eqb-false x (suc u) h)) in
        (r.0, omega (arith, r.1), omega (arith, r.2, level-suc par top low (suc u) (omega arith) t))
  ]

  pub in_bounds : (u x : ℕ) → u ≤ top → is_in x (lineage par u) ≡ true → (0 < x) × (x ≤ u) × (level par x ≤ level par u)
  in_bounds u x t e = bounds u u x (omega arith) t e

  trans : (n u x y : ℕ) → u ≤ n → u ≤ top → is_in x (lineage par u) ≡ true → is_in y (lineage par x) ≡ true → is_in y (lineage par u) ≡ true
  trans zero u x y l t e f = absurd (clash e (none_in par u x l))
  trans (suc n) zero x y l t e f = absurd (clash e (none_in par 0 x (omega arith)))
  trans (suc n) (suc u) x y l t e f = elim (is (eqb x (suc u))) [
    | on h ↦ rw (eqb-true x (suc u) h) at f
    | off h ↦
        let d : par (suc u) < suc u = lower-at par top (suc u) low (omega arith) t in
        let g : is_in x (lineage par (par (suc u))) ≡ true = in-back (suc u) x (omega arith) t e (eqb-false x (suc u) h) in
        in-up (suc u) y (omega arith) t (trans n (par (suc u)) x y (omega arith) (omega arith) g f)
  ]

  -- what stands above a type above u stands above u
  pub in-trans : (u x y : ℕ) → u ≤ top → is_in x (lineage par u) ≡ true → is_in y (lineage par x) ≡ true → is_in y (lineage par u) ≡ true
  in-trans u x y t e f = trans u u x y (omega arith) t e f

  -- R7, hierarchic order: the parent of type k > 1 is k - 1 or stands above it
  module _ (next : (k : ℕ) → 0 < k → suc k ≤ top → is_in (par (suc k)) (lineage par k) ≡ true) where
    after : (n p v : ℕ) → p < v → v + n ≤ top → is_in p (lineage par (par v)) ≡ false → is_in p (lineage par (par (v + n))) ≡ false
    after zero p v a t e = let z : v + 0 ≡ v = omega arith in rw z e
    after (suc n) p v a t e = elim (is (is_in p (lineage par (par (v + suc n))))) [
      | off h ↦ h
      | on h ↦
          let z : v + suc n ≡ suc (v + n) = omega arith in
          let g : is_in p (lineage par (par (suc (v + n)))) ≡ true = rw z at h in
          let f : is_in p (lineage par (v + n)) ≡ true = in-trans (v + n) (par (suc (v + n))) p (omega arith) (next (v + n) (omega arith) (omega arith)) g in
          absurd (clash (in-back (v + n) p (omega arith) (omega arith) f (λ q. omega arith)) (after n p v a (omega arith) e))
    ]

    -- the types beneath p stand together right behind p: once one is not, none that follows is
    pub none_after : (p v w : ℕ) → p < v → v ≤ w → w ≤ top → is_in p (lineage par (par v)) ≡ false → is_in p (lineage par (par w)) ≡ false
    none_after p v w a l t e =
        let z : v + (w - v) ≡ w = omega arith in
        rw z at (after (w - v) p v a (omega arith) e)
