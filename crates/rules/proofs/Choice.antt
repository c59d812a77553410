-- What holds of two values holds of the one that is picked; each may be shown where it is the one. Assumes nothing.
use mathlib.Core.Path.{◌≡◌, refl}
use mathlib.Core.Bool.{Bool, true, false}
use Rattle.terms.specs.Choice.{pick}

module _ {A : Type 0} (P : A → Type 0) where
  -- LAW
  pub pick-by : (b : Bool) (x y : A) → (b ≡ true → P x) → (b ≡ false → P y) → P (pick b x y)
  pick-by true x y f g = f refl
  pick-by false x y f g = g refl

  pub pick-of : (b : Bool) (x y : A) → P x → P y → P (pick b x y)
  pick-of b x y p q = pick-by b x y (λ e. p) (λ e. q)
