-- A delete, an insert and a replacement keep a listing good. Assumes nothing.
use mathlib.Core.Path.{◌≡◌, refl, ap, sym, ◌∙◌, subst}
use mathlib.Core.Bool.{Bool, true, false, ◌&&◌}
use mathlib.Core.List.{List, [], ◌∷◌, ◌++◌}
use Prim.Native.Nat.{ℕ, suc, ◌+◌, ◌-◌, ◌<◌}
use native.Mathlib.Omega.{arith}
use lib.Dec.{eqb}
use lib.ListN.{length, get_or, take, drop, set}
use Rattle.terms.specs.declared.Position.{Position}
use Rattle.forest.specs.Forest.{Forest, cells_of, forest_of}
use Rattle.forest.proofs.Forest.{cells-forest}
use Rattle.forest.specs.Good.{Wf, formed, wf-formed}
use Rattle.forest.specs.Shape.{Levelled}
use Rattle.forest.specs.Edit.{size, kids}
use Rattle.forest.specs.Runs.{run_len, prune, swap}
use Rattle.forest.proofs.Runs.{run_length, cells-prune, cells-swap}
use Rattle.forest.specs.Insert.{graft, insert_under as graft_under, spot}
use Rattle.forest.proofs.Insert.{cells-insert}
use Rattle.forest.specs.Keep.{Sits, wf-prune, wf-graft, wf-insert}
use Rattle.rules.specs.Block.{Bytes}
use Rattle.rules.specs.Catalogue.{key_kind, good_catalogue}
use Rattle.rules.specs.Cells.{Segment, segment, blank, type_number, key, is_child, siblings, goes_before, segment_level, good_listing, run_at, end_at}
use Rattle.rules.specs.Calls.{key_taken}
use Rattle.rules.specs.Tree.{has_key}
use Rattle.encoding.specs.Determined.{All, Fits}
use Rattle.encoding.proofs.Determined.{formed-forest}
use Rattle.encoding.proofs.Lists.{all_take, all_drop}
use Rattle.model.proofs.Parents.{listing-wf, listing-levelled}
use Rattle.model.proofs.Insert.{placed-spot, taken-cells, cells-top, kids-levelled, kids-cells, run-size}
use Rattle.model.proofs.Twins.{wf-sized, sized-wf, siblings-trans, sits-row, wf-swap}
use Rattle.model.proofs.Model.{kids-run}

module _ (cat : Bytes) (g : good_catalogue cat ≡ true) where
  -- the listing of a well-formed forest is good
  formed-good : (f : Forest Segment) → Wf type_number (is_child cat) (siblings cat) 0 f → good_listing cat (cells_of f) ≡ true
  unfolding good_listing
  formed-good f w =
      let e : formed type_number (is_child cat) (siblings cat) 0 f ≡ true = wf-formed type_number (is_child cat) (siblings cat) 0 f w in
      ap (formed type_number (is_child cat) (siblings cat) 0) (formed-forest cat g 0 f e) ∙ e

  module _ (cs : List Segment) (good : good_listing cat cs ≡ true) (fits : All (Fits cat) cs) where
    abbrev F : Forest Segment
    F = forest_of (segment_level cat) cs

    F-cells : cells_of F ≡ cs
    F-cells = cells-forest (segment_level cat) cs

    F-wf : Wf type_number (is_child cat) (siblings cat) 0 F
    F-wf = listing-wf cat g cs good

    F-fits : All (Fits cat) (cells_of F)
    F-fits = subst (All (Fits cat)) (sym F-cells) fits

    run-same : (i : ℕ) → i < length cs → run_len (segment_level cat) blank i cs ≡ run_at cat cs i
    unfolding run_at
    run-same i l = omega (arith, run_length (segment_level cat) blank i cs l, kids-run cat cs g good i l)

    -- LAW: DLET
    pub delete-good : (i : ℕ) → i < length cs → good_listing cat (take i cs ++ drop (end_at cat cs i) cs) ≡ true
    unfolding end_at
    delete-good i l =
        let w : Wf type_number (is_child cat) (siblings cat) 0 (prune (segment_level cat) i F) =
        sized-wf cat 0 (prune (segment_level cat) i F)
        (wf-prune (segment_level cat) type_number _ (siblings cat) (siblings-trans cat) i 0 F (wf-sized cat 0 F F-fits F-wf)) in
        ap (λ (n : ℕ). good_listing cat (take i cs ++ drop (i + n) cs)) (sym (run-same i l))
        ∙ ap (good_listing cat) (sym (cells-prune (segment_level cat) blank i cs l)) ∙ formed-good (prune (segment_level cat) i F) w

    -- LAW: REPL
    pub replace-good : (i : ℕ) (x : Segment) → i < length cs → type_number x ≡ type_number (segment cs i) → key cat x ≡ key cat (segment cs i)
        → good_listing cat (set cs i x) ≡ true
    replace-good i x l e h =
        let m : i < size F = rw F-cells l in
        let q : get_or (cells_of F) i blank ≡ segment cs i = ap (λ (ys : List Segment). get_or ys i blank) F-cells in
        ap (good_listing cat) (sym (cells-swap (segment_level cat) blank x i cs l))
        ∙ formed-good (swap (segment_level cat) x i F) (wf-swap cat x (segment cs i) e h blank i 0 F m q F-wf)

    -- LAW: ISRT
    module _ (pos : Position) (area : Bytes) (x : Segment) (new : Fits cat x) where
      abbrev lev : Segment → ℕ
      lev s = segment_level cat s

      abbrev before : Segment → Bool
      before s = goes_before cat x s

      -- x among the cells from i on
      abbrev spot_from : ℕ → ℕ
      spot_from i = i + spot lev x before (drop i cs)

      abbrev with-x : ℕ → List Segment
      with-x r = take r cs ++ x ∷ drop r cs

      -- II not given
      abbrev Free : Bool → Type 0
      Free taken = (eqb (key_kind cat x.code) 1 && taken) ≡ false

      free : (taken had : Bool) → Free taken → had ≡ taken → eqb (key_kind cat x.code) 1 ≡ true → had ≡ false
      free taken had f e h = e ∙ (rw h at f)

      pub top-good : Levelled lev (lev x) F → is_child cat 0 x ≡ true → Free (key_taken cat cs x 0 (length cs)) → good_listing cat (with-x (spot_from 0)) ≡ true
      top-good a c f =
          let t : Sits lev type_number (is_child cat) (siblings cat) x before F =
          sits-row cat cs pos area x new F F-fits
          (free (key_taken cat cs x 0 (length cs)) (has_key cat cs x F) f
          (taken-cells cat cs pos area x 0 (length cs) F a (omega arith) (F-cells ∙ sym (take_whole cs)))) in
          ap (good_listing cat) (sym (cells-top cat cs pos area x a ∙ placed-spot cat cs pos area x 0))
          ∙ formed-good (graft lev x before F) (wf-graft lev type_number (is_child cat) (siblings cat) x before 0 F c F-wf t)
        where
          take_whole : (ys : List Segment) → take (length ys) ys ≡ ys
          take_whole [] = refl
          take_whole (y ∷ ys) = ap (◌∷◌ y) (take_whole ys)

      pub under-good : (p : ℕ) → p < length cs → suc (lev (segment cs p)) ≡ lev x → is_child cat (type_number (segment cs p)) x ≡ true
          → Free (key_taken cat cs x (suc p) (run_at cat cs p - 1))
          → good_listing cat (with-x (spot_from (suc p))) ≡ true
      under-good p l deep c f =
          let exact : Levelled lev 1 F = listing-levelled cat g cs good in
          let m : p < size F = rw F-cells l in
          let q : get_or (cells_of F) p blank ≡ segment cs p = ap (λ (ys : List Segment). get_or ys p blank) F-cells in
          let e : run_at cat cs p - 1 ≡ size (kids p F) = kids-run cat cs g good p l in
          let kc : cells_of (kids p F) ≡ take (size (kids p F)) (drop (suc p) cs) = kids-cells cat cs pos area x p l exact deep in
          let kf : All (Fits cat) (cells_of (kids p F)) =
          subst (All (Fits cat)) (sym kc) (all_take (Fits cat) (size (kids p F)) (drop (suc p) cs) (all_drop (Fits cat) (suc p) cs fits)) in
          let had : has_key cat cs x (kids p F) ≡ key_taken cat cs x (suc p) (run_at cat cs p - 1) =
          taken-cells cat cs pos area x (suc p) (run_at cat cs p - 1) (kids p F) (kids-levelled cat cs pos area x p l exact deep)
          (omega (arith, (run-size cat cs pos area x p l exact deep).1))
          (kc ∙ ap (λ (k : ℕ). take k (drop (suc p) cs)) (sym e)) in
          let t : Sits lev type_number (is_child cat) (siblings cat) x before (kids p F) =
          sits-row cat cs pos area x new (kids p F) kf (free (key_taken cat cs x (suc p) (run_at cat cs p - 1)) (has_key cat cs x (kids p F)) f had) in
          ap (good_listing cat) (sym (cells-insert lev x before blank 1 p cs l exact deep ∙ placed-spot cat cs pos area x (suc p)))
          ∙ formed-good (graft_under lev x before p F)
          (wf-insert lev type_number (is_child cat) (siblings cat) x before blank p 0 F m F-wf (rw q c) t)
