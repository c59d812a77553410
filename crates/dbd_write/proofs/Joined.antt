-- Texts written one behind the other into a buffer, where there is room for them. Assumes nothing.
use mathlib.Core.Path.{◌≡◌, refl, ap, sym, ◌∙◌}
use mathlib.Core.List.{[], ◌∷◌, ◌++◌, append_assoc}
use Prim.Native.Nat.{ℕ, suc, ◌+◌, ◌-◌, ◌<◌, ◌≤◌}
use native.Mathlib.Nat.{add-zero}
use native.Mathlib.Omega.{arith}
use lib.ListN.{length, take, drop, set, length-append}
use lib.Seq.{sets, sets-eq, length-sets, drop-drop}
use borrow.Rule.Slice.PartMut.{put_mid}
use Rattle.rules.specs.Block.{Bytes}
use Rattle.blocks.proofs.Lent.{lent-tail}
use Rattle.dbd_write.specs.Wrote.{Wrote}

sets_then : (i : ℕ) (a b l : Bytes) → sets l i (a ++ b) ≡ sets (sets l i a) (i + length a) b
sets_then i [] b l = ap (λ (k : ℕ). sets l k b) (sym (add-zero i))
sets_then i (x ∷ a) b l =
    let e : suc i + length a ≡ i + suc (length a) = omega arith in
    sets_then (suc i) a b (set l i x) ∙ ap (λ (k : ℕ). sets (sets (set l i x) (suc i) a) k b) e

-- nothing is written
pub wrote_none : (at : ℕ) (out : Bytes) → Wrote at [] out at out
wrote_none at out = record { place = sym (add-zero at); long = refl; bytes = λ h. refl }

-- one text, and then another from the place behind it
pub wrote_then : {at : ℕ} {a out : Bytes} {next : ℕ} {mid b : Bytes} {last : ℕ} {end : Bytes} → Wrote at a out next mid → Wrote next b mid last end
    → Wrote at (a ++ b) out last end
wrote_then {at} {a} {out} {next} {mid} {b} {last} {end} p q = record {
  place = omega (arith, p.place, q.place, length-append a b);
  long = q.long ∙ p.long;
  bytes = λ h. q.bytes (omega (arith, p.long))
      ∙ ap (λ (k : ℕ). sets mid k b) p.place
      ∙ ap (λ (t : Bytes). sets t (at + length a) b) (p.bytes (omega (arith, q.place)))
      ∙ sym (sets_then at a b out);
}

-- the same text in other words
pub wrote_as : {at : ℕ} {a b out : Bytes} {next : ℕ} {end : Bytes} → Wrote at a out next end → a ≡ b → Wrote at b out next end
wrote_as {at} {a} {b} {out} {next} {end} w e = record {
  place = w.place ∙ ap (λ (t : Bytes). at + length t) e;
  long = w.long;
  bytes = λ h. w.bytes h ∙ ap (λ (t : Bytes). sets out at t) e;
}

-- the branches of `put_text`: there is room, and the lent tail is back with the text at its front; there is none
module _ (out from : Bytes) (at : ℕ) where
  pub text-room : (y : Bytes) → at + length from ≤ length out → y ≡ from ++ drop (length from) (take (length out - at) (drop at out))
      → Wrote at from out (at + length from) (put_mid at (length out - at) out y)
  text-room y h e =
      let z : put_mid at (length out - at) out y ≡ sets out at from =
      lent-tail (λ (t : Bytes). from ++ drop (length from) t) out y at e
      ∙ ap (λ (t : Bytes). take at out ++ (from ++ t)) (drop-drop (length from) at out)
      ∙ sym (append_assoc (take at out) from (drop (at + length from) out))
      ∙ sym (sets-eq from out at h) in
      record { place = refl; long = ap length z ∙ length-sets out at from; bytes = λ r. z }

  pub text-long : length out < at + length from → Wrote at from out (at + length from) out
  text-long h = record { place = refl; long = refl; bytes = λ r. absurd (omega arith) }
