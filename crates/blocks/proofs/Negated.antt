-- What a test says of what it tests. Assumes nothing.
use Rattle.std.proofs.Common.{◌≡◌, Bool, true, false, sym, ◌∙◌}

-- a test r, which answers b, was refused or passed
pub told-no : {r b : Bool} → r ≡ b → r ≡ false → b ≡ false
told-no e h = sym e ∙ h

pub told-yes : {r b : Bool} → r ≡ b → r ≡ true → b ≡ true
told-yes e h = sym e ∙ h
