-- The calls over the forest are the calls over the cells: what specs/Model.antt states. Assumes nothing.
use Rattle.std.specs.Prelude.{Some, None}
use mathlib.Core.Path.{◌≡◌, refl, ap, sym, ◌∙◌, subst}
use mathlib.Core.Bool.{Bool, true, false}
use mathlib.Core.List.{List, [], ◌∷◌}
use Prim.Native.Nat.{ℕ, suc, ◌-◌, ◌<◌, ◌≤◌}
use native.Mathlib.Omega.{arith}
use lib.Dec.{eqb}
use lib.ListN.{length}
use borrow.Author.Tests.{eqb-true, eqb-false}
use Rattle.terms.specs.declared.TypeCode.{TypeCode}
use Rattle.terms.specs.declared.CellNumber.{CellNumber}
use Rattle.terms.specs.declared.Position.{Position}
use Rattle.terms.specs.declared.Argument.{Argument}
use Rattle.terms.specs.declared.Status.TheVariants.{GE}
use Rattle.terms.specs.Names.{code, cell, Parentage}
use Rattle.terms.specs.Moves.{is_absent, place_number, after_place}
use Rattle.forest.specs.Forest.{Forest, forest_of}
use Rattle.forest.specs.Shape.{Levelled}
use Rattle.forest.specs.Edit.{size, kids}
use Rattle.forest.specs.Insert.{graft, insert_under as graft_under}
use Rattle.rules.specs.Block.{Bytes}
use Rattle.rules.specs.Catalogue.{parent_of, level, is_type, good_catalogue}
use Rattle.rules.specs.Cells.{Segment, segment, segment_of, arriving, segment_level, goes_before, good_listing, level_at, run_at}
use Rattle.rules.specs.Table.{room, listing}
use Rattle.rules.specs.Position.{good_place, good_parentage, good_position}
use Rattle.rules.specs.Arguments.{Level, complete, list_read, last_argument, get_levels}
use Rattle.rules.specs.Matching.{matches, path_to, along}
use Rattle.rules.specs.Calls.{missed, get_next_within, insert_among, insert_under, insert, called}
use Rattle.rules.specs.Outcome.{is_blank, is_gnp, is_isrt, is_held, unsound, misused, stopped, unless, after_sound, after_call, landed, outcome_of, outcome}
use Rattle.rules.specs.Paths.{Path, Standing, current_path}
use Rattle.rules.specs.Tree.{data_part, eval_along, segments, int_gnp, insert_rec, insert_at, int_isrt, call_of, interpreted, tree_outcome}
use Rattle.rules.proofs.Paths.{end-path}
use Rattle.rules.proofs.Tree.{missing, leading, segments-cells}
use Rattle.encoding.proofs.Bytes.{table-listing}
use Rattle.model.specs.Model.{ModelIsCells}
use Rattle.model.proofs.Paths.{kids-map, size-map, placed, paths}
use Rattle.model.proofs.Along.{run-kids, along-heads}
use Rattle.model.proofs.Parents.{never, level-child, level-root, parent-type, listing-levelled, numbers-levelled, match-type}
use Rattle.model.proofs.Standing.{standing-paths, numbered-paths}
use Rattle.model.proofs.Insert.{top-agree, under-agree}
use Rattle.model.proofs.Gets.{unique-agree, next_agree, within-agree}
use Rattle.model.proofs.Held.{replace-agree, delete-agree}
use Rattle.model.proofs.Asked.{pick_same, by_number, Sound, sound-of, Usable, usable-of, last-type}
use Rattle.model.proofs.Asked.{good-place, good-parentage, good-hold, parent-before, held_on, held-path}

module _ (cat : Bytes) (cs : List Segment) (g : good_catalogue cat ≡ true) (good : good_listing cat cs ≡ true) where
  pub kids-run : (i : ℕ) → i < length cs → run_at cat cs i - 1 ≡ size (kids i (forest_of (segment_level cat) cs))
  unfolding segments
  kids-run i l =
      let r : suc (size (kids i (data_part cat cs))) ≡ run_at cat cs i = run-kids cat cs i l in
      let s : size (kids i (forest_of (segment_level cat) cs)) ≡ size (kids i (data_part cat cs)) =
      sym (ap (λ (f : Forest Segment). size (kids i f)) (segments-cells cat cs)) ∙ ap size (kids-map (segment cs) i (data_part cat cs))
      ∙ size-map (segment cs) (kids i (data_part cat cs)) in
      omega arith

  module _ (pos : Position) (area : Bytes) (place : good_place cat cs pos.place ≡ true) where
    -- ISRT
    module _ (m : ℕ) (t : TypeCode) (known : is_type cat t ≡ true) where
      abbrev x : Segment
      x = arriving cat t area

      level-new : segment_level cat x ≡ level cat t
      unfolding arriving segment_of
      level-new = refl

      top-same : t.0 ≡ 1
          → insert_rec cat cs (paths cat cs pos) area m x [] 0 (segments cat cs) (graft (segment_level cat) x (goes_before cat x) (segments cat cs))
          ≡ insert_among cat cs pos area m x [] 0 (length cs)
      top-same e =
          ap (λ (f : Forest Segment). insert_rec cat cs (paths cat cs pos) area m x [] 0 f (graft (segment_level cat) x (goes_before cat x) f))
          (segments-cells cat cs)
          ∙ top-agree cat cs pos area x
          (subst (λ (n : ℕ). Levelled (segment_level cat) n (forest_of (segment_level cat) cs)) (sym (level-new ∙ level-root cat g t known e))
          (listing-levelled cat g cs good)) m

      beneath-same : (i : ℕ) (qs : List Path) → i < length cs → suc (segment_level cat (segment cs i)) ≡ segment_level cat x
          → insert_at cat cs (paths cat cs pos) area m x (path_to cat cs i ∷ qs) ≡ insert_under cat cs pos area m x (Some (cell i))
      beneath-same i qs l deep =
          ap (λ (k : ℕ). insert_rec cat cs (paths cat cs pos) area m x (path_to cat cs i) (suc k) (kids k (segments cat cs))
          (graft_under (segment_level cat) x (goes_before cat x) k (segments cat cs))) (end-path cat cs i)
          ∙ ap (λ (f : Forest Segment). insert_rec cat cs (paths cat cs pos) area m x (path_to cat cs i) (suc i) (kids i f)
          (graft_under (segment_level cat) x (goes_before cat x) i f)) (segments-cells cat cs)
          ∙ under-agree cat cs pos area x i l (listing-levelled cat g cs good) deep m (run_at cat cs i - 1) (kids-run i l)

      under_same : (ls : List Level) → ((i : ℕ) → matches cat cs ls i ≡ true → suc (segment_level cat (segment cs i)) ≡ segment_level cat x)
          → insert_at cat cs (paths cat cs pos) area m x (eval_along cat cs ls (placed cat cs pos.place))
          ≡ insert_under cat cs pos area m x (along cat cs ls pos.place)
      under_same ls deep = elim (along-heads cat cs (numbers-levelled cat g cs good) ls pos.place place) [
        | missing a b ↦
            ap (insert_at cat cs (paths cat cs pos) area m x) a ∙ ap (λ (p : Position). missed GE p area) (numbered-paths cat cs pos)
            ∙ sym (ap (insert_under cat cs pos area m x) b)
        | leading i qs l h a b ↦
            ap (insert_at cat cs (paths cat cs pos) area m x) a ∙ beneath-same i qs l (deep i h) ∙ sym (ap (insert_under cat cs pos area m x) b)
      ]

      -- LAW: ISRT over the forest is ISRT over the cells
      insert-agree : (list : Bytes) (ar : List Argument) → int_isrt cat cs (paths cat cs pos) area m t (complete cat list ar (parent_of cat t))
          ≡ insert cat cs pos area m t (complete cat list ar (parent_of cat t))
      unfolding int_isrt insert
      insert-agree list ar =
          let ls : List Level = complete cat list ar (parent_of cat t) in
          pick_same (eqb t.0 1)
          (insert_rec cat cs (paths cat cs pos) area m x [] 0 (segments cat cs) (graft (segment_level cat) x (goes_before cat x) (segments cat cs)))
          (insert_at cat cs (paths cat cs pos) area m x (eval_along cat cs ls (placed cat cs pos.place)))
          (insert_among cat cs pos area m x [] 0 (length cs)) (insert_under cat cs pos area m x (along cat cs ls pos.place))
          (λ e. top-same (eqb-true t.0 1 e))
          (λ e. under_same ls (λ i h.
          let k : is_type cat (parent_of cat t) ≡ true = parent-type cat g t known (eqb-false t.0 1 e) in
          let z : (parent_of cat t).0 ≡ (segment cs i).code.0 = match-type cat cs g list ar (parent_of cat t) k i h in
          sym (level-new ∙ level-child cat g t known ∙ ap (λ (u : ℕ). suc (level cat (code u))) z)))

  module _ (pos : Position) (area : Bytes) (sits : good_position cat cs pos ≡ true) where
    abbrev here : Standing
    here = paths cat cs pos

    place : good_place cat cs pos.place ≡ true
    place = good-place cat cs pos sits

    known-parent : (c : CellNumber) → pos.parentage ≡ Some c → (c.0 < length cs) × (c.0 < after_place pos.place)
    known-parent c q =
        let f : good_parentage cat cs pos.place (Some c) ≡ true = rw q at (good-parentage cat cs pos sits) in
        parent-before cat cs pos.place c place f

    beneath-agree : (hold : Bool) (ls : List Level) → is_absent pos.parentage ≡ false
        → int_gnp cat cs here area hold ls ≡ get_next_within cat cs pos area hold ls
    beneath-agree hold ls e = go pos.parentage refl e
      where
        go : (q : Parentage) → pos.parentage ≡ q → is_absent q ≡ false → int_gnp cat cs here area hold ls ≡ get_next_within cat cs pos area hold ls
        go None q e = never true refl e
        go (Some c) q e =
            let b = known-parent c q in
            within-agree cat cs pos area (numbers-levelled cat g cs good) place hold ls c q b.0 b.1

    held-cell : pos.hold ≡ true → place_number pos.place < length cs
    held-cell e = held_on cat cs pos.place pos.hold place (good-hold cat cs pos sits) e

    on-path : pos.hold ≡ true → current_path here.current ≡ path_to cat cs (place_number pos.place)
    on-path e = held-path cat cs pos.place pos.hold (good-hold cat cs pos sits) e

    -- what is asked of the call of a number, and what it then is
    abbrev Same : ℕ → Bytes → List Argument → ℕ → Type 0
    Same m list ar c = (is_gnp c ≡ true → is_absent pos.parentage ≡ false) → (is_held c ≡ true → pos.hold ≡ true)
        → (is_isrt c ≡ true → is_type cat (last_argument ar).code ≡ true) → call_of cat cs here area m c list ar ≡ called cat cs pos area m c list ar

    -- LAW: each call over the forest is the call over the cells
    calls-agree : (m : ℕ) (list : Bytes) (ar : List Argument) (c : ℕ) → 1 ≤ c → c ≤ 9 → Same m list ar c
    unfolding call_of called
    calls-agree m list ar =
        let ls : List Level = get_levels cat list ar in
        let exact : Levelled (level_at cat cs) 1 (data_part cat cs) = numbers-levelled cat g cs good in
        by_number (Same m list ar)
        (λ p h l. unique-agree cat cs pos area exact place false ls)
        (λ p h l. next_agree cat cs pos area exact place false ls)
        (λ p h l. beneath-agree false ls (p refl))
        (λ p h l. unique-agree cat cs pos area exact place true ls)
        (λ p h l. next_agree cat cs pos area exact place true ls)
        (λ p h l. beneath-agree true ls (p refl))
        (λ p h l. insert-agree pos area place m (last_argument ar).code (l refl) list ar)
        (λ p h l. replace-agree cat cs pos area (held-cell (h refl)) (on-path (h refl)))
        (λ p h l. delete-agree cat cs pos area (held-cell (h refl)) (on-path (h refl)) (λ c q. (known-parent c q).0))

    -- LAW: at the position as paths
    pub interpreted-agree : (m c : ℕ) (list : Bytes) (ar : List Argument) → 1 ≤ c → c ≤ 9
        → (is_gnp c ≡ true → is_absent pos.parentage ≡ false) → (is_held c ≡ true → pos.hold ≡ true)
        → (is_isrt c ≡ true → is_type cat (last_argument ar).code ≡ true)
        → interpreted cat cs pos area m c list ar ≡ called cat cs pos area m c list ar
    unfolding interpreted
    interpreted-agree m c list ar a b p h l =
        ap (λ (s : Standing). call_of cat cs s area m c list ar) (standing-paths cat cs pos sits) ∙ calls-agree m list ar c a b p h l

-- THEOREM: on every input the outcome by the forest is the outcome by the cells
pub model-is-cells : ModelIsCells outcome
unfolding tree_outcome outcome outcome_of after_call after_sound unless
model-is-cells cat tab pos c list area =
    ap (landed cat tab)
    (pick_same (is_blank (unsound cat tab pos)) _ (stopped (unsound cat tab pos) pos area) _ (stopped (unsound cat tab pos) pos area)
    (λ e.
    let s : Sound cat tab pos = sound-of cat tab pos e in
    pick_same (is_blank (misused cat pos c list area)) _ (stopped (misused cat pos c list area) pos area) _ (stopped (misused cat pos c list area) pos area)
    (λ f.
    let u : Usable cat pos c list area = usable-of cat pos c list area f in
    interpreted-agree cat (listing cat tab) s.catalogue (table-listing cat tab s.table) pos area s.position
    (room cat tab) c list (list_read cat list).arguments u.first u.last u.parent u.held (λ i. last-type cat list (u.some i)))
    (λ f. refl))
    (λ e. refl))
