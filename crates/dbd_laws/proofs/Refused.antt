-- A pair that the writer refuses is read from no text (R84). Assumes nothing.
use Rattle.std.specs.Prelude.{None, Some, Option}
use mathlib.Core.Path.{◌≡◌, ap, sym, ◌∙◌}
use mathlib.Core.Bool.{true}
use Prim.Native.Nat.{ℕ}
use native.Mathlib.Omega.{arith}
use Rattle.rules.specs.Block.{Bytes}
use Rattle.statements.specs.Dbd.{Reading, dbd_read, could_give, dbd_write}
use Rattle.dbd_laws.specs.RoundTrip.{RefusesRest}
use Rattle.dbd_laws.proofs.Accepted.{accepts-given}

is_some : Option Bytes → ℕ
is_some None = 0
is_some (Some t) = 1

-- what the reader could have given is written
written-some : (c n : Bytes) → could_give c n ≡ true → is_some (dbd_write c n) ≡ 1
unfolding dbd_write is_some
written-some c n h = rw (dbd_write, h)

pub refuses-rest : RefusesRest
unfolding is_some
refuses-rest c n none_written text e =
    let f : (dbd_read text).fault ≡ 0 = ap (λ (r : Reading). r.fault) e in
    let a : (dbd_read text).catalogue ≡ c = ap (λ (r : Reading). r.catalogue) e in
    let b : (dbd_read text).names ≡ n = ap (λ (r : Reading). r.names) e in
    let g : could_give c n ≡ true = sym (ap (λ (x : Bytes). could_give x (dbd_read text).names) a ∙ ap (could_give c) b) ∙ accepts-given text f in
    let z : is_some (dbd_write c n) ≡ 1 = written-some c n g in
    let y : is_some (dbd_write c n) ≡ is_some None = ap is_some none_written in
    let k : ◌≡◌ {A = ℕ} 0 1 = sym y ∙ z in absurd (omega arith)
