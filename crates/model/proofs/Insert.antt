-- ISRT: the leaf put among the siblings of a forest is the cell put among the cells, at the same number, with the same twins. Assumes nothing.
use Rattle.std.specs.Prelude.{None, Some}
use mathlib.Core.Path.{◌≡◌, refl, ap, sym, ◌∙◌}
use mathlib.Core.Bool.{Bool, true, false, ◌&&◌, ◌||◌, not}
use mathlib.Core.List.{List, [], ◌∷◌, ◌++◌, map, append_assoc, append-nil}
use Prim.Native.Nat.{ℕ, suc, ◌+◌, ◌-◌, ◌<◌, ◌≤◌}
use native.Mathlib.Omega.{arith}
use lib.Dec.{eqb}
use lib.ListN.{length, get_or, take, drop, length-append, length-drop}
use lib.Seq.{take-add, drop-drop, take_at}
use borrow.Author.Tests.{lt-ltb, le-ltb, eq-eqb, ne_eqb, eqb-true}
use Rattle.terms.specs.declared.Place.TheVariants.{On}
use Rattle.terms.specs.declared.Position.{Position}
use Rattle.terms.specs.declared.Status.TheVariants.{II, FX, PD}
use Rattle.terms.specs.Choice.{pick}
use Rattle.terms.specs.Names.{code, cell, same_type, Parentage}
use Rattle.terms.specs.Moves.{after_insert}
use Rattle.forest.specs.Forest.{Forest, void, node, cells_of, forest_of, rest}
use Rattle.forest.proofs.Forest.{cells-forest}
use Rattle.forest.specs.Good.{on, off, is, both_left}
use Rattle.forest.specs.Shape.{Levelled, TopAtMost, top-rest}
use Rattle.forest.specs.Edit.{size, kids}
use Rattle.forest.specs.Runs.{under, run_len, levelled-kids}
use Rattle.forest.proofs.Runs.{run_length, tail-split, past-run}
use Rattle.forest.specs.Insert.{graft, insert_under as graft_under, passes, place, spot, place-spot, Low, cells-graft}
use Rattle.forest.proofs.Insert.{cells-insert}
use Rattle.forest.specs.Numbers.{range, is_in}
use Rattle.rules.specs.Block.{Bytes, every, any_of}
use Rattle.rules.specs.Catalogue.{key_kind, level}
use Rattle.rules.specs.Cells.{Segment, segment, blank, segment_level, keyed, same_key, key_order, goes_before, row_at}
use Rattle.rules.specs.Matching.{path_to}
use Rattle.rules.specs.Change.{put}
use Rattle.rules.specs.Calls.{After, refused, changed, is_one_of, key_taken, inserted, insert_among}
use Rattle.std.specs.Ordering.{is_eq}
use Rattle.rules.specs.Paths.{Path, adjust_insertion, after_put, parentage_of, numbered}
use Rattle.rules.specs.Tree.{data_part, segments, find_position, has_key, put_under, insert_rec}
use Rattle.rules.proofs.Paths.{end-append, end-path, prefix-row, prefix-none}
use Rattle.rules.proofs.Tree.{segments-cells}
use Rattle.model.proofs.Paths.{take-map, drop-map, cells-map, parented, paths}
use Rattle.model.proofs.Standing.{numbered-paths}
use Rattle.model.proofs.Along.{drop-range, take_range, cells-numbers}
use Rattle.model.proofs.Parents.{never}

-- the spot, step by step
module _ {A : Type 0} (lev : A → ℕ) (x : A) (stop : A → Bool) where
  pub spot_in : (c : A) (cs : List A) → passes lev x stop c ≡ true → spot lev x stop (c ∷ cs) ≡ suc (spot lev x stop cs)
  unfolding spot
  spot_in c cs e = rw (spot, e)

  pub spot_out : (c : A) (cs : List A) → passes lev x stop c ≡ false → spot lev x stop (c ∷ cs) ≡ 0
  unfolding spot
  spot_out c cs e = rw (spot, e)

  spot-none : (xs : List A) → Low lev x stop xs → spot lev x stop xs ≡ 0
  unfolding spot
  spot-none [] h = refl
  spot-none (c ∷ cs) h = spot_out c cs (rw (le-ltb (lev x) (lev c) (omega arith), ne_eqb (lev c) (lev x) (λ e. omega arith)))

  -- all cells beneath a sibling are passed
  spot-deep : (n : ℕ) (k : Forest A) (xs : List A) → Levelled lev n k → lev x < n → spot lev x stop (cells_of k ++ xs) ≡ size k + spot lev x stop xs
  spot-deep n void xs a h = omega arith
  spot-deep n (node c k s) xs a h =
      spot_in c (cells_of k ++ cells_of s ++ xs) (rw (lt-ltb (lev x) (lev c) (omega (arith, a.0))))
      ∙ ap (λ (ys : List A). suc (spot lev x stop ys)) (append_assoc (cells_of k) (cells_of s) xs)
      ∙ ap suc (spot-deep (suc n) k (cells_of s ++ xs) a.1 (omega arith) ∙ ap (◌+◌ (size k)) (spot-deep n s xs a.2 h))
      ∙ sums k s (spot lev x stop xs)
    where
      sums : (k s : Forest A) (m : ℕ) → suc (size k + (size s + m)) ≡ suc (length (cells_of k ++ cells_of s)) + m
      sums k s m = omega (arith, length-append (cells_of k) (cells_of s))

  low-rest : (n : ℕ) (f : Forest A) → TopAtMost lev n f → n < lev x → Low lev x stop (cells_of f)
  low-rest n void t h = tt
  low-rest n (node c k s) t h = omega arith

  -- behind a run stands nothing so deep as what belongs into it
  low-past : (d : A) (i : ℕ) (cs : List A) → lev (get_or cs i d) < lev x → Low lev x stop (drop (i + run_len lev d i cs) cs)
  low-past d i cs h =
      let n : ℕ = lev (get_or cs i d) in
      let t : List A = drop (suc i) cs in
      let q : i + run_len lev d i cs ≡ suc i + under lev n t = omega arith in
      rw (q, ← drop-drop (under lev n t) (suc i) cs, past-run lev n t) (low-rest n (rest lev n (forest_of lev t)) (top-rest lev n (forest_of lev t)) h)

module _ {A : Type 0} where
  pub every_some : (p : A → Bool) (x : A) (xs : List A) → p x ≡ true → every p (x ∷ xs) ≡ every p xs
  unfolding every
  every_some p x xs e = rw (every, e)

  pub every-not : (p : A → Bool) (x : A) (xs : List A) → p x ≡ false → every p (x ∷ xs) ≡ false
  unfolding every
  every-not p x xs e = rw (every, e)

  pub every_append : (p : A → Bool) (xs ys : List A) → every p xs ≡ true → every p (xs ++ ys) ≡ every p ys
  unfolding every
  every_append p [] ys e = refl
  every_append p (x ∷ xs) ys e = elim (is (p x)) [
    | on h ↦ every_some p x (xs ++ ys) h ∙ every_append p xs ys (sym (every_some p x xs h) ∙ e)
    | off h ↦ never (every p (x ∷ xs)) e (every-not p x xs h)
  ]

pub every_map : {A B : Type 0} (f : A → B) (p : B → Bool) (xs : List A) → every p (map f xs) ≡ every (λ x. p (f x)) xs
unfolding every
every_map f p [] = refl
every_map f p (x ∷ xs) = elim (is (p (f x))) [
  | on h ↦ every_some p (f x) (map f xs) h ∙ every_map f p xs ∙ sym (every_some (λ y. p (f y)) x xs h)
  | off h ↦ every-not p (f x) (map f xs) h ∙ sym (every-not (λ y. p (f y)) x xs h)
]

pub any_append : {A : Type 0} (p : A → Bool) (xs ys : List A) → any_of p xs ≡ false → any_of p (xs ++ ys) ≡ any_of p ys
unfolding any_of
any_append p [] ys e = refl
any_append p (x ∷ xs) ys e = elim (is (p x)) [
  | on h ↦ absurd (let z : ◌≡◌ {A = Bool} true false = rw h at e in let y : ◌≡◌ {A = ℕ} 0 1 = cc in omega arith)
  | off h ↦ rw h (any_append p xs ys (rw h at e))
]

pub any-map : {A B : Type 0} (f : A → B) (p : B → Bool) (xs : List A) → any_of p (map f xs) ≡ any_of (λ x. p (f x)) xs
unfolding any_of
any-map f p [] = refl
any-map f p (x ∷ xs) = ap (◌||◌ (p (f x))) (any-map f p xs)

module _ (cat : Bytes) (cs : List Segment) where
  cells-listing : cs ≡ map (segment cs) (range 0 (length cs))
  unfolding segments
  cells-listing =
      sym (cells-forest (segment_level cat) cs) ∙ sym (ap cells_of (segments-cells cat cs))
      ∙ cells-map (segment cs) (data_part cat cs) ∙ ap (map (segment cs)) (cells-numbers cat cs)

  pub cells-between : (i n : ℕ) → i + n ≤ length cs → take n (drop i cs) ≡ map (segment cs) (range i n)
  cells-between i n l =
      let z : 0 + i ≡ i = omega arith in
      ap (λ (ys : List Segment). take n (drop i ys)) cells-listing
      ∙ ap (take n)
      (drop-map (segment cs) i (range 0 (length cs)) ∙ ap (map (segment cs)) (drop-range i 0 (length cs) ∙ ap (λ (k : ℕ). range k (length cs - i)) z))
      ∙ take-map (segment cs) n (range i (length cs - i)) ∙ ap (map (segment cs)) (take_range n i (length cs - i) (omega arith))

  module _ (pos : Position) (area : Bytes) (x : Segment) where
    abbrev lev : Segment → ℕ
    lev s = segment_level cat s

    abbrev stop : Segment → Bool
    stop s = goes_before cat x s

    abbrev position : Forest Segment → ℕ
    position f = find_position cat cs x f

    position_here : (c : Segment) (k s : Forest Segment) → stop c ≡ true → position (node c k s) ≡ 0
    unfolding find_position
    position_here c k s e = rw (find_position, e)

    position-next : (c : Segment) (k s : Forest Segment) → stop c ≡ false → position (node c k s) ≡ suc (size k) + position s
    unfolding find_position
    position-next c k s e = rw (find_position, e)

    -- LAW: the number at which the new segment stands, by the siblings and by the cells
    position-spot : (f : Forest Segment) (xs : List Segment) → Levelled lev (lev x) f → Low lev x stop xs → position f ≡ spot lev x stop (cells_of f ++ xs)
    unfolding find_position
    position-spot void xs a h = sym (spot-none lev x stop xs h)
    position-spot (node c k s) xs a h = elim (is (stop c)) [
      | on e ↦ position_here c k s e
          ∙ sym (spot_out lev x stop c (cells_of k ++ cells_of s ++ xs) (rw (le-ltb (lev x) (lev c) (omega (arith, a.0)), eq-eqb (lev c) (lev x) a.0, e)))
      | off e ↦
          let r : spot lev x stop (cells_of k ++ (cells_of s ++ xs)) ≡ size k + spot lev x stop (cells_of s ++ xs) =
          spot-deep lev x stop (suc (lev x)) k (cells_of s ++ xs) a.1 (omega arith) in
          let q : position s ≡ spot lev x stop (cells_of s ++ xs) = position-spot s xs a.2 h in
          position-next c k s e
          ∙ sym (spot_in lev x stop c (cells_of k ++ cells_of s ++ xs) (rw (le-ltb (lev x) (lev c) (omega (arith, a.0)), eq-eqb (lev c) (lev x) a.0, e))
          ∙ ap (λ (ys : List Segment). suc (spot lev x stop ys)) (append_assoc (cells_of k) (cells_of s) xs) ∙ omega arith)
    ]

    same-level : (c : Segment) → same_key cat x c ≡ true → lev x ≡ lev c
    unfolding same_key
    same-level c e =
        let z : x.code.0 ≡ c.code.0 = eqb-true x.code.0 c.code.0 (both_left (same_type x.code c.code) (is_eq (key_order cat x c)) e) in
        ap (λ (t : ℕ). level cat (code t)) z

    none_deep : (n : ℕ) (k : Forest Segment) → Levelled lev n k → lev x < n → any_of (same_key cat x) (cells_of k) ≡ false
    unfolding any_of
    none_deep n void a h = refl
    none_deep n (node c k s) a h = elim (is (same_key cat x c)) [
      | on e ↦ absurd (omega (arith, same-level c e, a.0))
      | off e ↦ rw e (any_append (same_key cat x) (cells_of k) (cells_of s) (none_deep (suc n) k a.1 (omega arith)) ∙ none_deep n s a.2 h)
    ]

    has_here : (c : Segment) (k s : Forest Segment) → has_key cat cs x (node c k s) ≡ (same_key cat x c || has_key cat cs x s)
    unfolding has_key
    has_here c k s = refl

    -- LAW: a twin's key among the siblings is one among all cells beneath the parent
    has-key : (f : Forest Segment) → Levelled lev (lev x) f → has_key cat cs x f ≡ any_of (same_key cat x) (cells_of f)
    unfolding has_key any_of
    has-key void a = refl
    has-key (node c k s) a =
        has_here c k s
        ∙ ap (◌||◌ (same_key cat x c))
        (has-key s a.2 ∙ sym (any_append (same_key cat x) (cells_of k) (cells_of s) (none_deep (suc (lev x)) k a.1 (omega arith))))

    pub taken-cells : (i n : ℕ) (f : Forest Segment) → Levelled lev (lev x) f → i + n ≤ length cs → cells_of f ≡ take n (drop i cs)
        → has_key cat cs x f ≡ key_taken cat cs x i n
    unfolding key_taken
    taken-cells i n f a l e = has-key f a ∙ ap (any_of (same_key cat x)) (e ∙ cells-between i n l) ∙ any-map (segment cs) (same_key cat x) (range i n)

    -- R42, of the parentage: the parent path is the front of the path to its parent
    parentage-kept : (p : ℕ) (q : Parentage) → parentage_of (adjust_insertion (path_to cat cs p) (parented cat cs q)) ≡ pick (is_one_of (row_at cat cs p) q) q None
    parentage-kept p None = refl
    parentage-kept p (Some q) =
        ap (λ (b : Bool). parentage_of (pick b (Some (path_to cat cs q.0)) None)) (prefix-row cat cs q.0 p) ∙ go (is_in q.0 (row_at cat cs p))
      where
        go : (b : Bool) → parentage_of (pick b (Some (path_to cat cs q.0)) None) ≡ pick b (Some q) None
        go true = ap (λ (i : ℕ). Some (cell i)) (end-path cat cs q.0)
        go false = refl

    -- and the top is beneath none
    parentage-top : (q : Parentage) → parentage_of (adjust_insertion [] (parented cat cs q)) ≡ pick (is_one_of [] q) q None
    parentage-top None = refl
    parentage-top (Some q) = ap (λ (b : Bool). parentage_of (pick b (Some (path_to cat cs q.0)) None)) (prefix-none cat cs q.0)

    -- what an insert answers, by its position before and after
    abbrev after : ℕ → Position → Position → Bool → ℕ → List Segment → After
    after m before then taken r new =
        pick (not (keyed cat x)) (refused PD before area)
        (pick (eqb (key_kind cat x.code) 1 && taken) (refused II before area)
        (pick (eqb (length cs) m) (refused FX before area)
        (changed cat then x 0 (put r (x ∷ [])) new area)))

    put-after : (m : ℕ) (inspos : Path) (taken : Bool) (r : ℕ) (new : List Segment)
        → put_under cat cs (paths cat cs pos) area m x inspos taken r new
        ≡ after m (numbered (paths cat cs pos)) (numbered (after_put inspos r (paths cat cs pos))) taken r new
    unfolding put_under
    put-after m inspos taken r new = refl

    inserted-after : (m : ℕ) (above : List ℕ) (taken : Bool) (r : ℕ) (new : List Segment)
        → inserted cat cs pos area m x above taken r new ≡ after m pos (after_insert r (is_one_of above pos.parentage) pos) taken r new
    unfolding inserted
    inserted-after m above taken r new = refl

    moved_same : (inspos above : List ℕ) (r : ℕ)
        → parentage_of (adjust_insertion inspos (parented cat cs pos.parentage)) ≡ pick (is_one_of above pos.parentage) pos.parentage None
        → numbered (after_put inspos r (paths cat cs pos)) ≡ after_insert r (is_one_of above pos.parentage) pos
    moved_same inspos above r e =
        ap (λ (i : ℕ). record { place = On (cell i); parentage = parentage_of (adjust_insertion inspos (parented cat cs pos.parentage)); hold = false })
        (end-append inspos r)
        ∙ ap (λ (q : Parentage). record { place = On (cell r); parentage = q; hold = false }) e

    inserted_same : (m : ℕ) (inspos above : List ℕ) (taken had : Bool) (r k : ℕ) (new ds : List Segment)
        → parentage_of (adjust_insertion inspos (parented cat cs pos.parentage)) ≡ pick (is_one_of above pos.parentage) pos.parentage None
        → taken ≡ had → r ≡ k → new ≡ ds
        → put_under cat cs (paths cat cs pos) area m x inspos taken r new ≡ inserted cat cs pos area m x above had k ds
    inserted_same m inspos above taken had r k new ds a b c d =
        put-after m inspos taken r new
        ∙ ap (λ (p : Position). after m p (numbered (after_put inspos r (paths cat cs pos))) taken r new) (numbered-paths cat cs pos)
        ∙ ap (λ (p : Position). after m pos p taken r new) (moved_same inspos above r a)
        ∙ ap (λ (y : Bool). after m pos (after_insert r (is_one_of above pos.parentage) pos) y r new) b
        ∙ ap (λ (y : ℕ). after m pos (after_insert y (is_one_of above pos.parentage) pos) had y new) c
        ∙ ap (after m pos (after_insert k (is_one_of above pos.parentage) pos) had k) d
        ∙ sym (inserted-after m above had k ds)

    pub placed-spot : (i : ℕ) → take i cs ++ place lev x stop (drop i cs)
        ≡ take (i + spot lev x stop (drop i cs)) cs ++ x ∷ drop (i + spot lev x stop (drop i cs)) cs
    placed-spot i =
        let r : ℕ = spot lev x stop (drop i cs) in
        ap (◌++◌ (take i cs)) (place-spot lev x stop (drop i cs))
        ∙ sym (append_assoc (take i cs) (take r (drop i cs)) (x ∷ drop r (drop i cs)))
        ∙ ap (λ (ys : List Segment). ys ++ x ∷ drop r (drop i cs)) (sym (take-add i r cs))
        ∙ ap (λ (ys : List Segment). take (i + r) cs ++ x ∷ ys) (drop-drop r i cs)

    -- at the top
    module _ (a : Levelled lev (lev x) (forest_of lev cs)) where
      pub cells-top : cells_of (graft lev x stop (forest_of lev cs)) ≡ place lev x stop cs
      cells-top =
          let F : Forest Segment = forest_of lev cs in
          sym (append-nil (cells_of (graft lev x stop F))) ∙ cells-graft lev x stop F [] a tt
          ∙ ap (place lev x stop) (append-nil (cells_of F) ∙ cells-forest lev cs)

      pub top-agree : (m : ℕ) → insert_rec cat cs (paths cat cs pos) area m x [] 0 (forest_of lev cs) (graft lev x stop (forest_of lev cs))
          ≡ insert_among cat cs pos area m x [] 0 (length cs)
      unfolding insert_among
      top-agree m =
          let F : Forest Segment = forest_of lev cs in
          let e : cells_of F ≡ cs = cells-forest lev cs in
          inserted_same m [] [] (has_key cat cs x F) (key_taken cat cs x 0 (length cs)) (0 + position F) (0 + spot lev x stop cs)
          (cells_of (graft lev x stop F)) (take (0 + spot lev x stop cs) cs ++ x ∷ drop (0 + spot lev x stop cs) cs)
          (parentage-top pos.parentage)
          (taken-cells 0 (length cs) F a (omega arith) (e ∙ sym (take_whole cs)))
          (ap (◌+◌ 0) (position-spot F [] a tt ∙ ap (spot lev x stop) (append-nil (cells_of F) ∙ e)))
          (cells-top ∙ placed-spot 0)
        where
          take_whole : (ys : List Segment) → take (length ys) ys ≡ ys
          take_whole [] = refl
          take_whole (y ∷ ys) = ap (◌∷◌ y) (take_whole ys)

    -- beneath cell p
    module _ (p : ℕ) (l : p < length cs) (exact : Levelled lev 1 (forest_of lev cs)) (deep : suc (lev (segment cs p)) ≡ lev x) where
      abbrev K : Forest Segment
      K = kids p (forest_of lev cs)

      pub kids-levelled : Levelled lev (lev x) K
      kids-levelled =
          let e : cells_of (forest_of lev cs) ≡ cs = cells-forest lev cs in
          rw (e, deep) at (levelled-kids lev blank 1 p (forest_of lev cs) (rw e l) exact)

      pub run-size : (suc (size K) ≡ run_len lev blank p cs) × (p + size K < length cs)
      run-size =
          let r : suc (size K) ≡ run_len lev blank p cs = run_length lev blank p cs l in
          let t : cells_of K ++ drop (p + run_len lev blank p cs) cs ≡ drop (suc p) cs = tail-split lev blank p cs l in
          (r, room t)
        where
          room : cells_of K ++ drop (p + run_len lev blank p cs) cs ≡ drop (suc p) cs → p + size K < length cs
          room t = omega (arith, simp (length-append, length-drop) at (ap length t))

      pub kids-cells : cells_of K ≡ take (size K) (drop (suc p) cs)
      kids-cells = sym (take_at (cells_of K) (drop (p + run_len lev blank p cs) cs) (size K) refl) ∙ ap (take (size K)) (tail-split lev blank p cs l)

      pub under-agree : (m n : ℕ) → n ≡ size K
          → insert_rec cat cs (paths cat cs pos) area m x (path_to cat cs p) (suc p) K (graft_under lev x stop p (forest_of lev cs))
          ≡ insert_among cat cs pos area m x (row_at cat cs p) (suc p) n
      unfolding insert_among
      under-agree m n e =
          let r : ℕ = spot lev x stop (drop (suc p) cs) in
          inserted_same m (path_to cat cs p) (row_at cat cs p) (has_key cat cs x K) (key_taken cat cs x (suc p) n) (suc p + position K) (suc p + r)
          (cells_of (graft_under lev x stop p (forest_of lev cs))) (take (suc p + r) cs ++ x ∷ drop (suc p + r) cs)
          (parentage-kept p pos.parentage)
          (taken-cells (suc p) n K kids-levelled (omega (arith, run-size.1)) (kids-cells ∙ ap (λ (k : ℕ). take k (drop (suc p) cs)) (sym e)))
          (ap (◌+◌ (suc p)) (position-spot K (drop (p + run_len lev blank p cs) cs) kids-levelled (low-past lev x stop blank p cs (omega arith))
          ∙ ap (spot lev x stop) (tail-split lev blank p cs l)))
          (cells-insert lev x stop blank 1 p cs l exact deep ∙ placed-spot (suc p))
