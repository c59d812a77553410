-- GU, GN and GNP over the forest are those over the cells: the same cell, the same status, and paths that are the same position. Assumes nothing.
use Rattle.std.specs.Prelude.{Some, None, Option}
use mathlib.Core.Path.{◌≡◌, refl, ap, sym, ◌∙◌}
use mathlib.Core.Bool.{Bool, true, ◌&&◌, and-true}
use mathlib.Core.List.{List, [], ◌∷◌}
use Prim.Native.Nat.{ℕ, suc, ◌<◌}
use native.Mathlib.Omega.{arith}
use lib.Dec.{ltb, leb}
use lib.ListN.{length}
use borrow.Author.Tests.{lt-ltb, le-leb, lt-leb, ltb-true}
use Rattle.terms.specs.declared.CellNumber.{CellNumber}
use Rattle.terms.specs.declared.Place.{Place}
use Rattle.terms.specs.declared.Place.TheVariants.{On, Before}
use Rattle.terms.specs.declared.Position.{Position}
use Rattle.terms.specs.declared.Status.{Status}
use Rattle.terms.specs.declared.Status.TheVariants.{Blank, GE}
use Rattle.terms.specs.Names.{cell, Parentage}
use Rattle.terms.specs.Moves.{after_place, moved_onto, hold_dropped}
use Rattle.forest.specs.Forest.{inside, outside, side}
use Rattle.forest.specs.Shape.{Levelled}
use Rattle.rules.specs.Block.{Bytes}
use Rattle.rules.specs.Cells.{Segment, segment, shown_bytes, level_at, end_at}
use Rattle.rules.specs.Change.{nothing}
use Rattle.rules.specs.Position.{good_place}
use Rattle.rules.specs.Arguments.{Level}
use Rattle.rules.specs.Matching.{path_to, first_match, along}
use Rattle.rules.specs.Calls.{After, refused, after_miss, over, answer_of, gotten, miss_status, level_status, parent_end, get_unique, get_next, get_next_within}
use Rattle.rules.specs.Paths.{Path, Standing, follows, beneath, moved_to, moved_within, let_go, parentage_of, numbered}
use Rattle.rules.specs.Tree.{select, data_part, eval, eval_along, step_status, retrieved, ran_out, int_gu, int_gn, int_gnp}
use Rattle.rules.proofs.Cells.{row-run}
use Rattle.rules.proofs.Paths.{end-path, prefix-row}
use Rattle.rules.proofs.Tree.{Heads, missing, leading, first_found}
use Rattle.model.proofs.Paths.{placed, parented, paths}
use Rattle.model.proofs.Along.{path-deep, along-heads}
use Rattle.model.proofs.Levels.{end-le}
use Rattle.model.proofs.Standing.{numbered-paths, parentage-back}

module _ (cat : Bytes) (cs : List Segment) (pos : Position) (area : Bytes) where
  abbrev here : Standing
  here = paths cat cs pos

  -- a cell got, and nothing got
  abbrev shows : Status → Position → ℕ → After
  shows s p i = record {
    answer = answer_of cat s p (segment cs i) 0;
    change = nothing;
    cells = None;
    area = over (shown_bytes cat (segment cs i)) area;
  }

  -- what a get makes of the first of its paths, and of the cell found; and of the position where there is none
  retrieved-agree : (miss : Status) (unfound : Standing) → numbered unfound ≡ after_miss miss pos
      → (on_p : Path → Status) (on_c : ℕ → Status) (moved : Path → Standing) (parentage : ℕ → Parentage) (hold : Bool) (ls : List Level)
      (ps : List Path) (f : Option CellNumber) → Heads cat cs ls ps f → ((i : ℕ) → i < length cs → on_p (path_to cat cs i) ≡ on_c i)
      → ((i : ℕ) → numbered (moved (path_to cat cs i)) ≡ moved_onto i (parentage i) hold)
      → retrieved cat cs here area miss unfound on_p moved ps ≡ gotten cat cs pos area miss on_c parentage hold f
  retrieved-agree miss unfound left on_p on_c moved parentage hold ls ps f h status onto = elim h [
    | missing a b ↦
        ap (retrieved cat cs here area miss unfound on_p moved) a
        ∙ ap (λ (p : Position). refused miss p area) left
        ∙ sym (ap (gotten cat cs pos area miss on_c parentage hold) b)
    | leading i qs l m a b ↦
        ap (retrieved cat cs here area miss unfound on_p moved) a
        ∙ ap (λ (k : ℕ). shows (on_p (path_to cat cs i)) (numbered (moved (path_to cat cs i))) k) (end-path cat cs i)
        ∙ ap (λ (s : Status). shows s (numbered (moved (path_to cat cs i))) i) (status i l)
        ∙ ap (λ (p : Position). shows (on_c i) p i) (onto i)
        ∙ sym (ap (gotten cat cs pos area miss on_c parentage hold) b)
  ]

  -- with a list the hold goes and nothing else; GN without one begins anew
  let-go : numbered (let_go here) ≡ hold_dropped pos
  let-go = ap hold_dropped (numbered-paths cat cs pos)

  ran_out_lem : (ls : List Level) → numbered (ran_out cat cs here area ls) ≡ after_miss (miss_status ls) pos
  ran_out_lem [] = refl
  ran_out_lem (l ∷ ls) = let-go

  -- the parentage that a get leaves: R36 of GU and GN, R35 of GNP
  moved-both : (hold : Bool) (i : ℕ) → numbered (moved_to (path_to cat cs i) hold) ≡ moved_onto i (Some (cell i)) hold
  moved-both hold i = ap (λ (k : ℕ). moved_onto k (Some (cell k)) hold) (end-path cat cs i)

  moved-within : (hold : Bool) (i : ℕ) → numbered (moved_within here.parent (path_to cat cs i) hold) ≡ moved_onto i pos.parentage hold
  moved-within hold i =
      ap (λ (k : ℕ). moved_onto k (parentage_of here.parent) hold) (end-path cat cs i)
      ∙ ap (λ (m : Parentage). moved_onto i m hold) (parentage-back cat cs pos.parentage)

  next-takes : (q : Place) (i : ℕ) → i < length cs → follows (placed cat cs q) (path_to cat cs i) ≡ (leb (after_place q) i && ltb i (length cs))
  next-takes (On c) i l =
      rw (end-path cat cs i, end-path cat cs c.0, lt-ltb i (length cs) l) (sym (and-true (leb (suc c.0) i)))
  next-takes (Before c) i l = rw (end-path cat cs i, lt-ltb i (length cs) l) (sym (and-true (leb c.0 i)))

  within-takes : (q : Place) (c : CellNumber) → c.0 < length cs → c.0 < after_place q → (i : ℕ) → i < length cs
      → (follows (placed cat cs q) (path_to cat cs i) && beneath (Some (path_to cat cs c.0)) (path_to cat cs i))
      ≡ (leb (after_place q) i && ltb i (end_at cat cs c.0))
  within-takes q c b h i l = elim (side i (after_place q)) [
    | inside m ↦ rw (next-takes q i l, lt-leb (after_place q) i m)
    | outside m ↦
        rw (
          next-takes q i l,
          le-leb (after_place q) i m,
          lt-ltb i (length cs) l,
          prefix-row cat cs c.0 i,
          prefix-row cat cs i c.0,
          row-run cat cs c.0 i l,
          row-run cat cs i c.0 b,
          le-leb c.0 i (omega arith),
          lt-leb i c.0 (omega arith),
        )
        (and-true (ltb i (end_at cat cs c.0)))
  ]

  module _ (exact : Levelled (level_at cat cs) 1 (data_part cat cs)) (place : good_place cat cs pos.place ≡ true) where
    -- GA and GK: a path is as long as its end is deep
    status-agree : (ls : List Level) (q : Place) → good_place cat cs q ≡ true → (i : ℕ) → i < length cs
        → step_status cat cs ls (placed cat cs q) (path_to cat cs i) ≡ level_status cat cs ls q i
    status-agree [] (On c) g i l =
        let b : c.0 < length cs = ltb-true c.0 (length cs) g in
        rw (path-deep cat cs exact i l, path-deep cat cs exact c.0 b, end-path cat cs i, end-path cat cs c.0)
    status-agree [] (Before c) g i l = refl
    status-agree (k ∷ ls) q g i l = refl

    -- LAW: GU
    pub unique-agree : (hold : Bool) (ls : List Level) → int_gu cat cs here area hold ls ≡ get_unique cat cs pos area hold ls
    unfolding int_gu get_unique
    unique-agree hold ls =
        retrieved-agree GE (let_go here) let-go (λ p. Blank) (λ i. Blank) (λ p. moved_to p hold) (λ i. Some (cell i)) hold ls
        (eval_along cat cs ls (placed cat cs pos.place)) (along cat cs ls pos.place) (along-heads cat cs exact ls pos.place place)
        (λ i l. refl) (moved-both hold)

    -- LAW: GN
    pub next_agree : (hold : Bool) (ls : List Level) → int_gn cat cs here area hold ls ≡ get_next cat cs pos area hold ls
    unfolding int_gn get_next
    next_agree hold ls =
        retrieved-agree (miss_status ls) (ran_out cat cs here area ls) (ran_out_lem ls)
        (step_status cat cs ls (placed cat cs pos.place)) (level_status cat cs ls pos.place)
        (λ p. moved_to p hold) (λ i. Some (cell i)) hold ls
        (select (follows (placed cat cs pos.place)) (eval cat cs ls)) (first_match cat cs ls (after_place pos.place) (length cs))
        (first_found cat cs ls (follows (placed cat cs pos.place)) (after_place pos.place) (length cs) (omega arith) (next-takes pos.place))
        (status-agree ls pos.place place) (moved-both hold)

    -- LAW: GNP, where the parentage lies before the place, as in a good position
    pub within-agree : (hold : Bool) (ls : List Level) (c : CellNumber) → pos.parentage ≡ Some c → c.0 < length cs → c.0 < after_place pos.place
        → int_gnp cat cs here area hold ls ≡ get_next_within cat cs pos area hold ls
    unfolding int_gnp get_next_within
    within-agree hold ls c p l h =
        retrieved-agree GE (let_go here) let-go (step_status cat cs ls (placed cat cs pos.place)) (level_status cat cs ls pos.place)
        (λ x. moved_within here.parent x hold) (λ i. pos.parentage) hold ls
        (select (λ x. follows (placed cat cs pos.place) x && beneath (parented cat cs pos.parentage) x) (eval cat cs ls))
        (first_match cat cs ls (after_place pos.place) (parent_end cat cs pos.parentage))
        (rw p
        (first_found cat cs ls (λ x. follows (placed cat cs pos.place) x && beneath (Some (path_to cat cs c.0)) x) (after_place pos.place)
        (end_at cat cs c.0) (end-le cat cs c.0 l) (within-takes pos.place c l h)))
        (status-agree ls pos.place place) (moved-within hold)
