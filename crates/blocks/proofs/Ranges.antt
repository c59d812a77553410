-- The numbers of a range, tested one after another by a `for` that ends at the first that fails. Assumes nothing.
use Rattle.std.proofs.Common.{◌≡◌, ℕ, zero, suc, ◌+◌, ◌-◌, ◌<◌, ◌≤◌, Bool, true, false, refl, sym, ap, ◌∙◌, []}
use native.Mathlib.Omega.{arith}
use Rattle.forest.specs.Forest.{inside, outside, side}
use Rattle.forest.specs.Good.{on, off, is}
use Rattle.forest.specs.Numbers.{range}
use Rattle.rules.specs.Block.{every}
use Rattle.rules.proofs.Every.{every_in, every-out}

module _ (p : ℕ → Bool) where
  -- none is left to fail
  pub every_none : (a n : ℕ) → n ≡ 0 → every p (range a n) ≡ true
  unfolding every
  every_none a zero e = refl
  every_none a (suc n) e = absurd (omega arith)

  one_more : (n a : ℕ) → every p (range a n) ≡ true → p (a + n) ≡ true → every p (range a (suc n)) ≡ true
  unfolding every
  one_more zero a e f = (let z : a + 0 ≡ a = omega arith in every_in p a [] (rw z at f))
  one_more (suc n) a e f = elim (is (p a)) [
    | on h ↦
        let z : a + suc n ≡ suc a + n = omega arith in
        every_in p a (range (suc a) (suc n)) h ∙ one_more n (suc a) (sym (every_in p a (range (suc a) n) h) ∙ e) (rw z at f)
    | off h ↦ absurd (let z : false ≡ true = sym (every-out p a (range (suc a) n) h) ∙ e in cc)
  ]

  -- LAW: in `for k in a..`, those before k passed, and k passes too
  pub every_more : (a k : ℕ) → a ≤ k → every p (range a (k - a)) ≡ true → p k ≡ true → every p (range a (k + 1 - a)) ≡ true
  every_more a k h e f =
      let y : a + (k - a) ≡ k = omega arith in
      let z : k + 1 - a ≡ suc (k - a) = omega arith in
      rw z (one_more (k - a) a e (rw y f))

  -- LAW: one that fails decides for all
  pub every_fails : (a n k : ℕ) → a ≤ k → k < a + n → p k ≡ false → every p (range a n) ≡ false
  every_fails a zero k h l f = absurd (omega arith)
  every_fails a (suc n) k h l f = elim (is (p a)) [
    | on e ↦ elim (side a k) [
      | inside m ↦ every_in p a (range (suc a) n) e ∙ every_fails (suc a) n k (omega arith) (omega arith) f
      | outside m ↦ absurd (let y : a ≡ k = omega arith in let z : true ≡ false = sym e ∙ ap p y ∙ f in cc)
    ]
    | off e ↦ every-out p a (range (suc a) n) e
  ]
