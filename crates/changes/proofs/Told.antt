-- What a call that changed the table leaves, by what the code has told and made. Assumes nothing.
use mathlib.Core.Path.{◌≡◌}
use Prim.Native.Nat.{ℕ}
use Rattle.terms.specs.declared.TypeCode.{TypeCode}
use Rattle.terms.specs.declared.Position.{Position}
use Rattle.terms.specs.declared.Status.{Status}
use Rattle.terms.specs.declared.Answer.{Answer}
use Rattle.rules.specs.Block.{Bytes}
use Rattle.answers.specs.Ready.{made}
use Rattle.answers.specs.Told.{told}

pub told-made : (cat area : Bytes) (s : Status) (t : TypeCode) (n : ℕ) {r : Answer} {p q : Position} {tab new : Bytes}
    → r ≡ told cat s p t n → p ≡ q → tab ≡ new → made r tab area ≡ made (told cat s q t n) new area
told-made cat area s t n e f g = rw (e, f, g)
