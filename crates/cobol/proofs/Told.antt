-- The parts of a result are the answer's own: five numbers, each in its own bytes, come out of one number as they went in. Assumes nothing.
use mathlib.Core.Path.{◌≡◌, refl}
use Prim.Native.Nat.{ℕ, ◌+◌, ◌*◌, ◌<◌}
use native.Mathlib.Omega.{arith}
use lib.Dec.{lit<}
use Rattle.terms.specs.declared.Status.{Status}
use Rattle.terms.specs.declared.Status.TheVariants.{Blank, GA, GK, GB, GE, GP, CX, TX, PX, AD, AC, AJ, AK, AH, AB, DJ, DA, II, FX, PD}
use Rattle.terms.specs.Statuses.{number}
use Rattle.umbristal.specs.Face.{packed, packed_report}
use Rattle.cobol.specs.Told.{Parts, AnswerTold, ReportTold}

number_small : (s : Status) → number s < 256
number_small Blank = lit< tt
number_small GA = lit< tt
number_small GK = lit< tt
number_small GB = lit< tt
number_small GE = lit< tt
number_small GP = lit< tt
number_small CX = lit< tt
number_small TX = lit< tt
number_small PX = lit< tt
number_small AD = lit< tt
number_small AC = lit< tt
number_small AJ = lit< tt
number_small AK = lit< tt
number_small AH = lit< tt
number_small AB = lit< tt
number_small DJ = lit< tt
number_small DA = lit< tt
number_small II = lit< tt
number_small FX = lit< tt
number_small PD = lit< tt

parts-of : (x s t l n r : ℕ) → x ≡ s + 256 * t + 65536 * l + 16777216 * n + 4294967296 * r → s < 256 → t < 256 → l < 256 → n < 256 → r < 65536
    → Parts x s t l n r
parts-of x s t l n r z a b c d e =
    record { status-told = omega arith; type-told = omega arith; level-told = omega arith; length-told = omega arith; removed-told = omega arith }

pub answer-told : AnswerTold
unfolding packed
answer-told a f =
    parts-of (packed a) (number a.status) a.code.0 a.level a.length a.removed refl (number_small a.status) f.code_fits
    f.level-fits f.length-fits f.removed-fits

pub report-told : ReportTold
unfolding packed_report
report-told r f =
    parts-of (packed_report r) (number r.status) 0 0 0 r.hits (omega arith) (number_small r.status) (omega arith) (omega arith) (omega arith) f
