-- Blank is the one status of number 0. Assumes nothing.
use mathlib.Core.Path.{◌≡◌, refl}
use native.Mathlib.Omega.{arith}
use Rattle.terms.specs.declared.Status.{Status}
use Rattle.terms.specs.declared.Status.TheVariants.{Blank, GA, GK, GB, GE, GP, CX, TX, PX, AD, AC, AJ, AK, AH, AB, DJ, DA, II, FX, PD}
use Rattle.terms.specs.Statuses.{number}

pub blank-is : (s : Status) → number s ≡ 0 → s ≡ Blank
blank-is Blank e = refl
blank-is GA e = absurd (omega arith)
blank-is GK e = absurd (omega arith)
blank-is GB e = absurd (omega arith)
blank-is GE e = absurd (omega arith)
blank-is GP e = absurd (omega arith)
blank-is CX e = absurd (omega arith)
blank-is TX e = absurd (omega arith)
blank-is PX e = absurd (omega arith)
blank-is AD e = absurd (omega arith)
blank-is AC e = absurd (omega arith)
blank-is AJ e = absurd (omega arith)
blank-is AK e = absurd (omega arith)
blank-is AH e = absurd (omega arith)
blank-is AB e = absurd (omega arith)
blank-is DJ e = absurd (omega arith)
blank-is DA e = absurd (omega arith)
blank-is II e = absurd (omega arith)
blank-is FX e = absurd (omega arith)
blank-is PD e = absurd (omega arith)
