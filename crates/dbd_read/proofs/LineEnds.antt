-- The first line of a text, as `split_inclusive` cuts it off behind its LF and `strip_suffix` takes the LF away. Assumes nothing.
use mathlib.Core.Path.{◌≡◌, refl, ap, sym, ◌∙◌}
use mathlib.Core.Bool.{Bool, true, false}
use mathlib.Core.List.{List, [], ◌∷◌, ◌++◌, append_assoc}
use Prim.Native.Nat.{ℕ, zero, suc, ◌+◌, ◌-◌, ◌<◌, ◌≤◌, min}
use native.Mathlib.Omega.{arith}
use lib.Dec.{eqb, ltb}
use lib.ListN.{length, take, drop, length-append, drop_of_length-le}
use lib.Seq.{take_at, drop_at, take-suc, take_all}
use lib.Pointwise.{pointwise, bytes_decides}
use borrow.Author.Tests.{eqb-true, not-true, ltb-true, ltb-false}
use Rattle.std.proofs.Common.{Bor, Option, Some, None}
use Rattle.std.specs.List.{AllWithin, IsFirstMatchOrLen}
use Rattle.std.specs.Option.{MatchOption, unwrap_or}
use Rattle.rules.specs.Block.{Bytes, byte, every}
use Rattle.rules.specs.Listing.{line_end}
use Rattle.statements.specs.Lines.{begins, lines_of}
use Rattle.statements.proofs.Words.{goes_on, clash, every_in, every-head, every-tail, lines-line}

goes : (b : ℕ) → eqb b 0x0A ≡ false → goes_on b ≡ true
unfolding goes_on
goes b n = rw n

goes-not : (b : ℕ) → goes_on b ≡ true → eqb b line_end ≡ false
unfolding goes_on
goes-not b e = not-true (eqb b line_end) e

lines_none : lines_of [] ≡ []
unfolding lines_of
lines_none = refl

line_on : (b : ℕ) (bs : Bytes) → goes_on b ≡ true → lines_of (b ∷ bs) ≡ begins b (lines_of bs)
unfolding lines_of
line_on b bs h = rw (lines_of, goes-not b h)

-- the last line, without an LF behind it
lines-last : (b : ℕ) (l : Bytes) → every goes_on (b ∷ l) ≡ true → lines_of (b ∷ l) ≡ (b ∷ l) ∷ []
unfolding begins
lines-last b [] e = line_on b [] (every-head goes_on b [] e) ∙ ap (begins b) lines_none
lines-last b (c ∷ l) e =
    line_on b (c ∷ l) (every-head goes_on b (c ∷ l) e) ∙ ap (begins b) (lines-last c l (every-tail goes_on b (c ∷ l) e))

lines_rest : (r : Bytes) → every goes_on r ≡ true → 0 < length r → lines_of r ≡ r ∷ []
lines_rest [] e h = absurd (omega arith)
lines_rest (b ∷ r) e h = lines-last b r e

-- no byte before the place that was found is an LF
every-before : (r : Bytes) (i : ℕ) → AllWithin (λ b. eqb b 0x0A ≡ false) r 0 i → every goes_on (take i r) ≡ true
unfolding every
every-before [] zero h = refl
every-before [] (suc i) h = refl
every-before (b ∷ r) zero h = refl
every-before (b ∷ r) (suc i) h =
    every_in goes_on b (take i r) (goes b (h 0 0 (omega arith) (omega arith))) ∙ every-before r i (λ k d l u. h (suc k) d (omega arith) (omega arith))

every-drop : (k : ℕ) (r : Bytes) → every goes_on r ≡ true → every goes_on (drop k r) ≡ true
every-drop zero r e = e
every-drop (suc k) [] e = e
every-drop (suc k) (b ∷ r) e = every-drop k r (every-tail goes_on b r e)

ended : every goes_on (0x0A ∷ []) ≡ true → false ≡ true
unfolding every goes_on
ended e = e

-- what `strip_suffix` tells of a part
abbrev pub Stripped : Bytes → Bytes → Option (Bor Bytes) → Type 0
Stripped part end o = MatchOption o (pointwise eqb (drop (length part - length end) part) end ≡ false)
    (λ x. (pointwise eqb (drop (length part - length end) part) end ≡ true) × (x.now ≡ take (length part - length end) part)
    × (length x.now + length end ≡ length part))

behind : (l : Bytes) → drop (length (l ++ (0x0A ∷ [])) - 1) (l ++ (0x0A ∷ [])) ≡ 0x0A ∷ []
behind l = drop_at l (0x0A ∷ []) (length (l ++ (0x0A ∷ [])) - 1) (omega (arith, length-append l (0x0A ∷ [])))

stripped-end : (p : Bor Bytes) (o : Option (Bor Bytes)) (l : Bytes) → p.now ≡ l ++ (0x0A ∷ []) → Stripped p.now (0x0A ∷ []) o → (unwrap_or o p).now ≡ l
stripped-end p None l e h =
    let z : pointwise eqb (drop (length (l ++ (0x0A ∷ [])) - 1) (l ++ (0x0A ∷ []))) (0x0A ∷ []) ≡ false = rw e at h in
    clash (sym z ∙ (bytes_decides _ _).1 (behind l))
stripped-end p (Some x) l e h =
    h.1 ∙ ap (λ (t : Bytes). take (length t - 1) t) e ∙ take_at l (0x0A ∷ []) (length (l ++ (0x0A ∷ [])) - 1) (omega (arith, length-append l (0x0A ∷ [])))

stripped-none : (p : Bor Bytes) (o : Option (Bor Bytes)) → every goes_on p.now ≡ true → Stripped p.now (0x0A ∷ []) o → (unwrap_or o p).now ≡ p.now
stripped-none p None e h = refl
stripped-none p (Some x) e h =
    let z : every goes_on (0x0A ∷ []) ≡ true = ap (every goes_on) (sym ((bytes_decides _ _).0 h.0)) ∙ every-drop (length p.now - 1) p.now e in
    clash (ended z)

-- LAW: the first part of a text is its first line with its LF, where it has one
module _ (rest more : Bytes) (p : Bor Bytes) (cut : rest ≡ p.now ++ more) (i : ℕ) (long : length p.now ≡ min (i + 1) (length rest))
    (first : IsFirstMatchOrLen (λ b. eqb b 0x0A) rest i) (end : Bytes) (lf : end ≡ 0x0A ∷ []) (o : Option (Bor Bytes)) (strip : Stripped p.now end o) where
  strip_lf : Stripped p.now (0x0A ∷ []) o
  strip_lf = rw lf at strip

  cut-behind : i < length rest → lines_of rest ≡ (unwrap_or o p).now ∷ lines_of more
  cut-behind h =
      let n : length p.now ≡ suc i = omega (arith, long) in
      let t : p.now ≡ take i rest ++ (0x0A ∷ []) = sym (ap (take (suc i)) cut ∙ take_at p.now more (suc i) n) ∙ take-suc rest i 0 h
      ∙ ap (λ (b : ℕ). take i rest ++ (b ∷ [])) (eqb-true (byte rest i) 0x0A (first.1 h 0)) in
      ap lines_of (cut ∙ ap (λ (x : Bytes). x ++ more) t ∙ append_assoc (take i rest) (0x0A ∷ []) more)
      ∙ lines-line (take i rest) more (every-before rest i first.0)
      ∙ ap (λ (x : Bytes). x ∷ lines_of more) (sym (stripped-end p o (take i rest) t strip_lf))

  cut-last : length rest ≤ i → 0 < length rest → lines_of rest ≡ (unwrap_or o p).now ∷ lines_of more
  cut-last h g =
      let n : length p.now ≡ length rest = omega (arith, long) in
      let m : more ≡ [] = sym (drop_at p.now more (length rest) n) ∙ ap (drop (length rest)) (sym cut) ∙ drop_of_length-le rest (omega arith) in
      let t : p.now ≡ rest = sym (take_at p.now more (length rest) n) ∙ ap (take (length rest)) (sym cut) ∙ take_all (length rest) rest (omega arith) in
      let e : every goes_on rest ≡ true = ap (every goes_on) (sym (take_all i rest h)) ∙ every-before rest i first.0 in
      lines_rest rest e g ∙ ap (λ (x : Bytes). x ∷ []) (sym (stripped-none p o (ap (every goes_on) t ∙ e) strip_lf ∙ t))
      ∙ ap (λ (x : List Bytes). (unwrap_or o p).now ∷ x) (sym (ap lines_of m ∙ lines_none))

  either : (t : Bool) → ltb i (length rest) ≡ t → 0 < length rest → lines_of rest ≡ (unwrap_or o p).now ∷ lines_of more
  either true e g = cut-behind (ltb-true i (length rest) e)
  either false e g = cut-last (ltb-false i (length rest) e) g

  pub line_cut : 0 < length rest → (w : Bor Bytes) → w ≡ unwrap_or o p → lines_of rest ≡ w.now ∷ lines_of more
  line_cut g w e = rw e (either (ltb i (length rest)) refl g)

  pub cut_short : 0 < length rest → length more < length rest
  cut_short g = omega (arith, ap length cut, length-append p.now more, long)
