use native.Mathlib.Omega.{arith}
use Rattle.cobol.specs.Lent.{length_at}
use Rattle.cobol.proofs.lengths.length_at.Goals as goal

pub returns : goal.returns
unfolding length_at
returns c = omega (arith, c.min.ensures, c.wide.ensures.0, c.wide-2.ensures.0, c.wide-3.ensures.0, c.wide-4.ensures.0)
