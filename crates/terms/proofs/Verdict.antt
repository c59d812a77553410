-- A test that answers blank or a refusal, as a result (`verdict`). Assumes nothing.
use Rattle.std.specs.Prelude.{Bool, true, false, Result, Ok, Err}
use mathlib.Core.Path.{◌≡◌, refl}
use Prim.Native.Nat.{ℕ}
use lib.Dec.{eqb}
use native.Mathlib.Omega.{arith}
use borrow.Author.Tests.{ne_eqb, eqb-true, eqb-false}
use Rattle.terms.specs.declared.Status.{Status}
use Rattle.terms.specs.declared.Status.TheVariants.{Blank}
use Rattle.terms.specs.Statuses.{number, verdict}
use Rattle.terms.proofs.StatusTable.{numbers_apart}

abbrev Told : Type 0
Told = Result (Unit {0}) Status

abbrev by : Bool → Status → Told
by b s = elim b [ true ↦ Ok tt | false ↦ Err s ]

module _ (s : Status) where
  passes : (b : Bool) (u : Unit {0}) → by b s ≡ Ok u → b ≡ true
  passes true u e = refl
  passes false u e = absurd (let h : ◌≡◌ {A = Told} (Err s) (Ok u) = e in let z : ◌≡◌ {A = ℕ} 0 1 = cc in omega arith)

  refuses : (b : Bool) (t : Status) → by b s ≡ Err t → (b ≡ false) × (t ≡ s)
  refuses true t e = absurd (let h : ◌≡◌ {A = Told} (Ok tt) (Err t) = e in let z : ◌≡◌ {A = ℕ} 0 1 = cc in omega arith)
  refuses false t e = (refl, let h : ◌≡◌ {A = Told} (Err s) (Err t) = e in cc)

  -- LAW: what passes is blank
  pub verdict-ok : {u : Unit {0}} → verdict s ≡ Ok u → s ≡ Blank
  verdict-ok {u} e = numbers_apart s Blank (eqb-true (number s) 0 (passes (eqb (number s) 0) u e))

  -- LAW: what is refused is the status itself, and not blank
  pub verdict-err : {t : Status} → verdict s ≡ Err t → (number s ≡ 0 → ⊥) × (t ≡ s)
  verdict-err {t} e = let r = refuses (eqb (number s) 0) t e in (eqb-false (number s) 0 r.0, r.1)

  -- LAW: a status that is not blank refuses
  pub verdict-not : (number s ≡ 0 → ⊥) → verdict s ≡ Err s
  verdict-not n = rw (verdict, ne_eqb (number s) 0 n)

  pub verdict-fault : (s ≡ Blank → ⊥) → verdict s ≡ Err s
  verdict-fault n = verdict-not (λ z. n (numbers_apart s Blank z))
