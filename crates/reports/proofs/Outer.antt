-- Get-next with get-next-within-parent under each cell found: what the inner loops show, one behind the other, is what is picked with the joined list.
-- Assumes nothing.
use mathlib.Core.Path.{◌≡◌, refl, ap, sym, ◌∙◌}
use mathlib.Core.Bool.{Bool, true}
use mathlib.Core.List.{List, [], ◌++◌}
use Prim.Native.Nat.{ℕ, suc, ◌+◌, ◌<◌, ◌≤◌}
use native.Mathlib.Omega.{arith}
use lib.ListN.{length, length-append}
use Rattle.forest.specs.Forest.{inside, outside, side}
use Rattle.rules.specs.Block.{Bytes}
use Rattle.rules.specs.Cells.{end_at}
use Rattle.rules.specs.Table.{listing}
use Rattle.report_loops.specs.Plain.{picked}
use Rattle.report_loops.proofs.Hits.{clash, Without, hits, hits-none, hits-same}
use Rattle.report_loops.proofs.Nest.{Nests, none-joined, none-under, closed-next, joined-run}
use Rattle.report_loops.proofs.Demand.{hits-picked, nests}
use Rattle.reports.specs.declared.nesting.Onward.{Onward}
use Rattle.reports.specs.Shown.{shown_from}
use Rattle.reports.specs.Onward.{test, found_beneath, Went}
use Rattle.reports.specs.Given.{GivenBoth}
use Rattle.reports.proofs.Steps.{Turn}
use Rattle.reports.proofs.OneList.{room, accepted}
use Rattle.reports.proofs.Written.{show-none, show-append, show-length}

-- no outer cell lies between the place and e, where the run of the last one ended; what is behind e is left to be shown
pub record Outer (cat tab one two : Bytes) (before : Bytes) (k at : ℕ) (out : Bytes) : Type 0 where
  pub e : ℕ
  pub later : at ≤ e
  pub inside : e ≤ length (listing cat tab)
  pub none : Without (test cat tab one) at e
  pub closed : (p : ℕ) → p < e → test cat tab one p ≡ true → end_at cat (listing cat tab) p ≤ e
  pub fewer : k ≤ at
  pub left : k + length (hits (test cat tab (one ++ two)) e (length (listing cat tab))) ≡ length (picked cat tab (one ++ two))
  pub shown : shown_from k (hits (test cat tab (one ++ two)) e (length (listing cat tab))) out ≡ shown_from 0 (picked cat tab (one ++ two)) before
  pub room : length out ≡ length before

module _ {cat tab one two : Bytes} {size : ℕ} (g : GivenBoth cat tab one two size) where
  abbrev n : ℕ
  n = length (listing cat tab)

  abbrev end : ℕ → ℕ
  end = end_at cat (listing cat tab)

  abbrev outer : ℕ → Bool
  outer = test cat tab one

  abbrev inner : ℕ → Bool
  inner = test cat tab two

  abbrev both : ℕ → Bool
  both = test cat tab (one ++ two)

  nest : Nests n end outer inner both
  nest = nests cat tab room one two (accepted g.joined) (record { first = g.first.some; second = g.second.some; between = g.first.read })

  all : hits both 0 n ≡ picked cat tab (one ++ two)
  all = hits-picked cat tab room (one ++ two) (accepted g.joined)

  pub outer_start : (before : Bytes) → Outer cat tab one two before 0 0 before
  outer_start before = record {
    e = 0;
    later = omega arith;
    inside = omega arith;
    none = λ m x y. absurd (omega arith);
    closed = λ p x y. absurd (omega arith);
    fewer = omega arith;
    left = let y = ap length all in omega arith;
    shown = ap (λ (xs : List ℕ). shown_from 0 xs before) all;
    room = refl;
  }

  module _ {before : Bytes} {k at : ℕ} {out : Bytes} (o : Outer cat tab one two before k at out) where
    pub outer-done : Without outer at n → (k ≡ length (picked cat tab (one ++ two))) × (out ≡ shown_from 0 (picked cat tab (one ++ two)) before)
    outer-done h =
        let z : hits both o.e n ≡ [] =
        hits-none both o.e n (λ j x y. none-joined n end outer inner both nest o.e n o.closed (λ m a b. h m (omega (arith, o.later)) b)
        j y x (omega arith)) in
        let y = ap length z in
        (omega (arith, o.left), sym (show-none k out) ∙ ap (λ (xs : List ℕ). shown_from k xs out) (sym z) ∙ o.shown)

    -- under cell p, which GN found
    module _ {p : ℕ} (t : Turn outer at n p) where
      from-outer : o.e ≤ p
      from-outer = elim (side p o.e) [
        | inside h ↦ absurd (clash (outer p) t.passes (o.none p t.later h))
        | outside h ↦ h
      ]

      free : Without outer o.e p
      free j x y = t.before j (omega (arith, o.later)) y

      under-is : found_beneath cat tab two p ≡ hits both (suc p) (end p)
      under-is = hits-same inner both (suc p) (end p) (λ j x y. nest.below p j (omega (arith, nest.among p t.inside)) t.passes x y)

      pub outer-next : (u : Onward) (next : Bytes) → Went cat tab two p k out u next → Outer cat tab one two before u.hits (suc u.cell.0) next
      outer-next u next w =
          let run = joined-run n end outer inner both nest o.e p o.closed from-outer t.inside free in
          let x = ap length under-is in
          let y = ap length run ∙ length-append (hits both (suc p) (end p)) (hits both (end p) n) in
          record {
            e = end p;
            later = w.inside;
            inside = nest.among p t.inside;
            none = λ j a c. none-under n end outer inner both nest p j t.inside t.passes (omega (arith, w.later)) c;
            closed = closed-next n end outer inner both nest o.e p o.closed from-outer t.inside t.passes free;
            fewer = w.fewer;
            left = omega (arith, w.hits, o.left);
            shown = rw (w.out, w.hits, under-is) (show-append k (hits both (suc p) (end p)) (hits both (end p) n) out)
                ∙ ap (λ (xs : List ℕ). shown_from k xs out) (sym run) ∙ o.shown;
            room = ap length w.out ∙ show-length k (found_beneath cat tab two p) out ∙ o.room;
          }
