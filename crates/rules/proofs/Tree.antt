-- Forest and cells: the search of document 000 finds exactly the matches of R28. Assumes nothing.
use Rattle.terms.specs.declared.CellNumber.{CellNumber}
use Rattle.std.specs.Prelude.{Some, None, Option}
use mathlib.Core.Path.{◌≡◌, refl, ap, sym, ◌∙◌}
use mathlib.Core.Bool.{Bool, true, false, ◌&&◌}
use mathlib.Core.List.{List, [], ◌∷◌, ◌++◌, map, reverse, append_assoc, reverse-cons, map-map, map-id}
use Prim.Native.Nat.{ℕ, zero, suc, ◌+◌, ◌-◌, ◌<◌, ◌≤◌}
use native.Mathlib.Omega.{arith}
use lib.ListN.{length, get_or, drop, length-drop}
use lib.Seq.{get_or-drop}
use lib.Dec.{ltb, leb}
use borrow.Author.Tests.{lt-ltb, le-ltb, le-leb, lt-leb}
use Rattle.forest.specs.Forest.{Forest, void, node, forest_of, inside, outside, side}
use Rattle.forest.specs.Good.{on, off, is}
use Rattle.forest.specs.Rows.{rows, map-append}
use Rattle.forest.proofs.Rows.{forest-map}
use Rattle.forest.specs.Runs.{under, under-in, under-out, run_len}
use Rattle.forest.specs.Numbers.{range}
use Rattle.forest.proofs.Numbers.{row_number, length-rows}
use Rattle.rules.specs.Block.{Bytes}
use Rattle.rules.specs.Cells.{Segment, segment, blank, segment_level, level_at, run_at, row_at}
use Rattle.terms.specs.Names.{cell}
use Rattle.rules.specs.Arguments.{Level}
use Rattle.rules.specs.Matching.{agrees, agree, path_to, matches, seek, first_match}
use Rattle.rules.proofs.Search.{seek-none, seek-here, seek-next}
use Rattle.rules.specs.Paths.{Path}
use Rattle.rules.specs.Tree.{select, all_paths, data_part, search, eval, segments}

select_in : (t : Path → Bool) (p : Path) (ps : List Path) → t p ≡ true → select t (p ∷ ps) ≡ p ∷ select t ps
unfolding select
select_in t p ps e = rw (select, e)

select-out : (t : Path → Bool) (p : Path) (ps : List Path) → t p ≡ false → select t (p ∷ ps) ≡ select t ps
unfolding select
select-out t p ps e = rw (select, e)

pub select-append : (t : Path → Bool) (ps qs : List Path) → select t (ps ++ qs) ≡ select t ps ++ select t qs
unfolding select
select-append t [] qs = refl
select-append t (p ∷ ps) qs = elim (is (t p)) [
  | on e ↦ rw (select_in t p (ps ++ qs) e, select_in t p ps e, select-append t ps qs)
  | off e ↦ rw (select-out t p (ps ++ qs) e, select-out t p ps e, select-append t ps qs)
]

module _ (cat : Bytes) (cs : List Segment) where
  abbrev onto : ℕ → List Path → List Path
  onto i ps = map (λ p. i ∷ p) ps

  agree-in : (l : Level) (ls : List Level) (i : ℕ) (p : Path) → agrees cat l (segment cs i) ≡ true → agree cat cs (l ∷ ls) (i ∷ p) ≡ agree cat cs ls p
  unfolding agree
  agree-in l ls i p e = rw (agree, e)

  agree-out : (l : Level) (ls : List Level) (i : ℕ) (p : Path) → agrees cat l (segment cs i) ≡ false → agree cat cs (l ∷ ls) (i ∷ p) ≡ false
  unfolding agree
  agree-out l ls i p e = rw (agree, e)

  agree-end : (i : ℕ) (p : Path) → agree cat cs [] (i ∷ p) ≡ false
  unfolding agree
  agree-end i p = refl

  none-onto : (i : ℕ) (ps : List Path) → select (agree cat cs []) (onto i ps) ≡ []
  unfolding select
  none-onto i [] = refl
  none-onto i (p ∷ ps) = select-out (agree cat cs []) (i ∷ p) (onto i ps) (agree-end i p) ∙ none-onto i ps

  none-all : (f : Forest ℕ) → select (agree cat cs []) (all_paths f) ≡ []
  unfolding all_paths select
  none-all void = refl
  none-all (node i k s) =
      select-out (agree cat cs []) (i ∷ []) (onto i (all_paths k) ++ all_paths s) (agree-end i [])
      ∙ select-append (agree cat cs []) (onto i (all_paths k)) (all_paths s)
      ∙ rw (none-onto i (all_paths k)) (none-all s)

  select_yes : (l : Level) (ls : List Level) (i : ℕ) (ps : List Path) → agrees cat l (segment cs i) ≡ true
      → select (agree cat cs (l ∷ ls)) (onto i ps) ≡ onto i (select (agree cat cs ls) ps)
  unfolding select
  select_yes l ls i [] e = refl
  select_yes l ls i (p ∷ ps) e = elim (is (agree cat cs ls p)) [
    | on h ↦ rw (select_in (agree cat cs (l ∷ ls)) (i ∷ p) (onto i ps) (agree-in l ls i p e ∙ h), select_in (agree cat cs ls) p ps h, select_yes l ls i ps e)
    | off h ↦ rw (select-out (agree cat cs (l ∷ ls)) (i ∷ p) (onto i ps) (agree-in l ls i p e ∙ h), select-out (agree cat cs ls) p ps h, select_yes l ls i ps e)
  ]

  select_no : (l : Level) (ls : List Level) (i : ℕ) (ps : List Path) → agrees cat l (segment cs i) ≡ false → select (agree cat cs (l ∷ ls)) (onto i ps) ≡ []
  unfolding select
  select_no l ls i [] e = refl
  select_no l ls i (p ∷ ps) e = select-out (agree cat cs (l ∷ ls)) (i ∷ p) (onto i ps) (agree-out l ls i p e) ∙ select_no l ls i ps e

  search-in : (l : Level) (ls : List Level) (i : ℕ) (k s : Forest ℕ) → agrees cat l (segment cs i) ≡ true
      → search cat cs (l ∷ ls) (node i k s) ≡ onto i (search cat cs ls k) ++ search cat cs (l ∷ ls) s
  unfolding search
  search-in l ls i k s e = rw (search, e)

  search-out : (l : Level) (ls : List Level) (i : ℕ) (k s : Forest ℕ) → agrees cat l (segment cs i) ≡ false
      → search cat cs (l ∷ ls) (node i k s) ≡ search cat cs (l ∷ ls) s
  unfolding search
  search-out l ls i k s e = rw (search, e)

  search-end : (k : Forest ℕ) → search cat cs [] k ≡ [] ∷ []
  unfolding search
  search-end void = refl
  search-end (node i k s) = refl

  agree-last : agree cat cs [] [] ≡ true
  unfolding agree
  agree-last = refl

  agree-short : (l : Level) (ls : List Level) → agree cat cs (l ∷ ls) [] ≡ false
  unfolding agree
  agree-short l ls = refl

  paths-node : (i : ℕ) (k s : Forest ℕ) → all_paths (node i k s) ≡ (i ∷ []) ∷ (onto i (all_paths k) ++ all_paths s)
  unfolding all_paths
  paths-node i k s = refl

  skipped : (l : Level) (ls : List Level) (i : ℕ) (k s : Forest ℕ) → agrees cat l (segment cs i) ≡ false
      → select (agree cat cs (l ∷ ls)) (all_paths (node i k s)) ≡ select (agree cat cs (l ∷ ls)) (all_paths s)
  skipped l ls i k s e =
      ap (select (agree cat cs (l ∷ ls))) (paths-node i k s)
      ∙ select-out (agree cat cs (l ∷ ls)) (i ∷ []) (onto i (all_paths k) ++ all_paths s) (agree-out l ls i [] e)
      ∙ select-append (agree cat cs (l ∷ ls)) (onto i (all_paths k)) (all_paths s)
      ∙ rw (select_no l ls i (all_paths k) e)

  taken-last : (l : Level) (i : ℕ) (k s : Forest ℕ) → agrees cat l (segment cs i) ≡ true
      → select (agree cat cs (l ∷ [])) (all_paths (node i k s)) ≡ (i ∷ []) ∷ select (agree cat cs (l ∷ [])) (all_paths s)
  taken-last l i k s e =
      ap (select (agree cat cs (l ∷ []))) (paths-node i k s)
      ∙ select_in (agree cat cs (l ∷ [])) (i ∷ []) (onto i (all_paths k) ++ all_paths s) (agree-in l [] i [] e ∙ agree-last)
      ∙ rw (select-append (agree cat cs (l ∷ [])) (onto i (all_paths k)) (all_paths s), select_yes l [] i (all_paths k) e, none-all k)

  taken-on : (l m : Level) (ls : List Level) (i : ℕ) (k s : Forest ℕ) → agrees cat l (segment cs i) ≡ true
      → select (agree cat cs (l ∷ (m ∷ ls))) (all_paths (node i k s))
      ≡ onto i (select (agree cat cs (m ∷ ls)) (all_paths k)) ++ select (agree cat cs (l ∷ (m ∷ ls))) (all_paths s)
  taken-on l m ls i k s e =
      ap (select (agree cat cs (l ∷ (m ∷ ls)))) (paths-node i k s)
      ∙ select-out (agree cat cs (l ∷ (m ∷ ls))) (i ∷ []) (onto i (all_paths k) ++ all_paths s) (agree-in l (m ∷ ls) i [] e ∙ agree-short m ls)
      ∙ rw (select-append (agree cat cs (l ∷ (m ∷ ls))) (onto i (all_paths k)) (all_paths s), select_yes l (m ∷ ls) i (all_paths k) e)

  search-void : (l : Level) (ls : List Level) → search cat cs (l ∷ ls) void ≡ select (agree cat cs (l ∷ ls)) (all_paths void)
  unfolding search all_paths select
  search-void l ls = refl

  -- LAW 29: of all paths, those that agree with the completed list level by level
  pub search-select : (l : Level) (ls : List Level) (f : Forest ℕ) → search cat cs (l ∷ ls) f ≡ select (agree cat cs (l ∷ ls)) (all_paths f)
  search-select l ls void = search-void l ls
  search-select l [] (node i k s) = elim (is (agrees cat l (segment cs i))) [
    | on e ↦ search-in l [] i k s e ∙ rw (search-end k, search-select l [] s) (sym (taken-last l i k s e))
    | off e ↦ search-out l [] i k s e ∙ search-select l [] s ∙ sym (skipped l [] i k s e)
  ]
  search-select l (m ∷ ls) (node i k s) = elim (is (agrees cat l (segment cs i))) [
    | on e ↦ search-in l (m ∷ ls) i k s e ∙ rw (search-select m ls k, search-select l (m ∷ ls) s) (sym (taken-on l m ls i k s e))
    | off e ↦ search-out l (m ∷ ls) i k s e ∙ search-select l (m ∷ ls) s ∙ sym (skipped l (m ∷ ls) i k s e)
  ]

onto-rows : (i : ℕ) (up : List ℕ) (ps : List Path) → map (λ p. reverse (i ∷ up) ++ p) ps ≡ map (λ p. reverse up ++ p) (map (λ p. i ∷ p) ps)
onto-rows i up [] = refl
onto-rows i up (p ∷ ps) =
    let h : reverse (i ∷ up) ++ p ≡ reverse up ++ (i ∷ p) = ap (λ (r : List ℕ). r ++ p) (reverse-cons i up) ∙ append_assoc (reverse up) (i ∷ []) p in
    ap (λ (r : List ℕ). r ∷ map (λ q. reverse (i ∷ up) ++ q) ps) h ∙ ap (◌∷◌ (reverse up ++ (i ∷ p))) (onto-rows i up ps)

rows-paths : (up : List ℕ) (f : Forest ℕ) → map reverse (rows up f) ≡ map (λ p. reverse up ++ p) (all_paths f)
unfolding all_paths
rows-paths up void = refl
rows-paths up (node i k s) =
    ap (◌∷◌ (reverse (i ∷ up))) (map-append reverse (rows (i ∷ up) k) (rows up s))
    ∙ ap (λ (r : List ℕ). r ∷ (map reverse (rows (i ∷ up) k) ++ map reverse (rows up s))) (reverse-cons i up)
    ∙ ap (λ (r : List Path). (reverse up ++ (i ∷ [])) ∷ (r ++ map reverse (rows up s))) (rows-paths (i ∷ up) k ∙ onto-rows i up (all_paths k))
    ∙ ap (λ (r : List Path). (reverse up ++ (i ∷ [])) ∷ (map (λ p. reverse up ++ p) (map (λ p. i ∷ p) (all_paths k)) ++ r)) (rows-paths up s)
    ∙ ap (◌∷◌ (reverse up ++ (i ∷ []))) (sym (map-append (λ p. reverse up ++ p) (map (λ p. i ∷ p) (all_paths k)) (all_paths s)))

-- what is found is the end of the first of these paths: none of either, or a cell that matches the list and its path
pub data Heads (cat : Bytes) (cs : List Segment) (ls : List Level) (ps : List Path) (f : Option CellNumber) : Type 0 where
  missing : ps ≡ [] → f ≡ None → Heads cat cs ls ps f
  leading : (i : ℕ) (qs : List Path) → i < length cs → matches cat cs ls i ≡ true → ps ≡ path_to cat cs i ∷ qs → f ≡ Some (cell i) → Heads cat cs ls ps f

pub heads-by : (cat : Bytes) (cs : List Segment) (ls : List Level) (ps qs : List Path) (f g : Option CellNumber) → ps ≡ qs → f ≡ g → Heads cat cs ls qs g
    → Heads cat cs ls ps f
heads-by cat cs ls ps qs f g a b h = elim h [
  | missing x y ↦ missing (a ∙ x) (b ∙ y)
  | leading i rs l m x y ↦ leading i rs l m (a ∙ x) (b ∙ y)
]

-- a list is what each of its places holds
list_ext : {A : Type 0} (f : ℕ → A) (d : A) (xs : List A) (i n : ℕ) → length xs ≡ n → ((k : ℕ) → k < n → get_or xs k d ≡ f (i + k)) → xs ≡ map f (range i n)
list_ext f d [] i zero e h = refl
list_ext f d [] i (suc n) e h = absurd (omega arith)
list_ext f d (x ∷ xs) i zero e h = absurd (omega arith)
list_ext f d (x ∷ xs) i (suc n) e h =
    let z : i + 0 ≡ i = omega arith in
    let a : x ≡ f i = h 0 (omega arith) ∙ ap f z in
    let b : xs ≡ map f (range (suc i) n) =
    list_ext f d xs (suc i) n (omega arith) (λ k l. h (suc k) (omega arith) ∙ (let y : i + suc k ≡ suc i + k = omega arith in ap f y)) in
    ap (λ (y : _). y ∷ xs) a ∙ ap (◌∷◌ (f i)) b

module _ (cat : Bytes) (cs : List Segment) where
  rows_at : rows [] (data_part cat cs) ≡ map (row_at cat cs) (range 0 (length cs))
  unfolding data_part row_at
  rows_at =
      list_ext (row_at cat cs) [] (rows [] (data_part cat cs)) 0 (length cs) (length-rows (level_at cat cs) (length cs))
      (λ k l. row_number (level_at cat cs) (length cs) k l ∙ (let y : k ≡ 0 + k = omega arith in ap (row_at cat cs) y))

  -- LAW 30: the paths of the forest are the paths of the cells, in their order
  pub paths-cells : all_paths (data_part cat cs) ≡ map (path_to cat cs) (range 0 (length cs))
  unfolding path_to
  paths-cells =
      sym (map-id (all_paths (data_part cat cs))) ∙ sym (rows-paths [] (data_part cat cs)) ∙ ap (map reverse) rows_at
      ∙ map-map reverse (row_at cat cs) (range 0 (length cs))

  -- a path matches a list, which is empty or completed
  abbrev wanted : List Level → Path → Bool
  wanted [] p = true
  wanted (l ∷ ls) p = agree cat cs (l ∷ ls) p

  wanted-matches : (ls : List Level) (i : ℕ) → wanted ls (path_to cat cs i) ≡ matches cat cs ls i
  unfolding matches
  wanted-matches [] i = refl
  wanted-matches (l ∷ ls) i = refl

  select-all : (ps : List Path) → select (wanted []) ps ≡ ps
  unfolding select
  select-all [] = refl
  select-all (p ∷ ps) = ap (◌∷◌ p) (select-all ps)

  abbrev cell_paths : ℕ → ℕ → List Path
  cell_paths i n = map (path_to cat cs) (range i n)

  eval-wanted : (ls : List Level) → eval cat cs ls ≡ select (wanted ls) (cell_paths 0 (length cs))
  eval-wanted [] = paths-cells ∙ sym (select-all (cell_paths 0 (length cs)))
  eval-wanted (l ∷ ls) = search-select cat cs l ls (data_part cat cs) ∙ ap (select (wanted (l ∷ ls))) paths-cells

  -- the paths of those cells that a test t takes, where t takes the cells from a on and before e
  module _ (ls : List Level) (t : Path → Bool) (a e : ℕ) (e-le : e ≤ length cs)
      (takes : (i : ℕ) → i < length cs → t (path_to cat cs i) ≡ (leb a i && ltb i e)) where
    abbrev found : ℕ → ℕ → List Path
    found i n = select t (select (wanted ls) (cell_paths i n))

    none_found : (i : ℕ) → found i 0 ≡ []
    unfolding select
    none_found i = refl

    found-skip : (i n : ℕ) → wanted ls (path_to cat cs i) ≡ false → found i (suc n) ≡ found (suc i) n
    found-skip i n w = ap (select t) (select-out (wanted ls) (path_to cat cs i) (cell_paths (suc i) n) w)

    found_take : (i n : ℕ) → wanted ls (path_to cat cs i) ≡ true → found i (suc n) ≡ select t (path_to cat cs i ∷ select (wanted ls) (cell_paths (suc i) n))
    found_take i n w = ap (select t) (select_in (wanted ls) (path_to cat cs i) (cell_paths (suc i) n) w)

    found-past : (i n : ℕ) → t (path_to cat cs i) ≡ false → found i (suc n) ≡ found (suc i) n
    found-past i n f = elim (is (wanted ls (path_to cat cs i))) [
      | on w ↦ found_take i n w ∙ select-out t (path_to cat cs i) (select (wanted ls) (cell_paths (suc i) n)) f
      | off w ↦ found-skip i n w
    ]

    nothing-sought : (i k : ℕ) → k ≡ 0 → seek cat cs ls i k ≡ None
    nothing-sought i k z = ap (seek cat cs ls i) z ∙ seek-none cat cs ls i

    -- from cell i on, with as many of the cells left before e
    found_from : (i n : ℕ) → i + n ≡ length cs → a ≤ i → Heads cat cs ls (found i n) (seek cat cs ls i (e - i))
    found_from i zero q l = missing (none_found i) (nothing-sought i (e - i) (omega arith))
    found_from i (suc n) q l = elim (side i e) [
      | inside m ↦
          let y : t (path_to cat cs i) ≡ true = takes i (omega arith) ∙ rw (le-leb a i l, lt-ltb i e m) in
          elim (is (wanted ls (path_to cat cs i))) [
            | on w ↦
                let h : matches cat cs ls i ≡ true = sym (wanted-matches ls i) ∙ w in
                leading i (select t (select (wanted ls) (cell_paths (suc i) n))) (omega arith) h
                (found_take i n w ∙ select_in t (path_to cat cs i) (select (wanted ls) (cell_paths (suc i) n)) y)
                (seek-here cat cs ls i (e - i) (omega arith) h)
            | off w ↦
                let z : e - i - 1 ≡ e - suc i = omega arith in
                heads-by cat cs ls (found i (suc n)) (found (suc i) n) (seek cat cs ls i (e - i)) (seek cat cs ls (suc i) (e - suc i)) (found-skip i n w)
                (seek-next cat cs ls i (e - i) (omega arith) (sym (wanted-matches ls i) ∙ w) ∙ ap (seek cat cs ls (suc i)) z)
                (found_from (suc i) n (omega arith) (omega arith))
          ]
      | outside m ↦
          let y : t (path_to cat cs i) ≡ false = takes i (omega arith) ∙ rw (le-leb a i l, le-ltb i e m) in
          heads-by cat cs ls (found i (suc n)) (found (suc i) n) (seek cat cs ls i (e - i)) (seek cat cs ls (suc i) (e - suc i)) (found-past i n y)
          (nothing-sought i (e - i) (omega arith) ∙ sym (nothing-sought (suc i) (e - suc i) (omega arith)))
          (found_from (suc i) n (omega arith) (omega arith))
    ]

    found-to : (i n : ℕ) → i + n ≡ length cs → i ≤ a → Heads cat cs ls (found i n) (seek cat cs ls a (e - a))
    found-to i zero q l = missing (none_found i) (nothing-sought a (e - a) (omega arith))
    found-to i (suc n) q l = elim (side i a) [
      | inside m ↦
          let y : t (path_to cat cs i) ≡ false = takes i (omega arith) ∙ rw (lt-leb a i m) in
          heads-by cat cs ls (found i (suc n)) (found (suc i) n) (seek cat cs ls a (e - a)) (seek cat cs ls a (e - a)) (found-past i n y) refl
          (found-to (suc i) n (omega arith) (omega arith))
      | outside m ↦
          let z : a ≡ i = omega arith in
          heads-by cat cs ls (found i (suc n)) (found i (suc n)) (seek cat cs ls a (e - a)) (seek cat cs ls i (e - i)) refl
          (ap (λ (k : ℕ). seek cat cs ls k (e - k)) z) (found_from i (suc n) q (omega arith))
    ]

    -- LAW 31: what such a search finds first is the first match among those cells
    pub first_found : Heads cat cs ls (select t (eval cat cs ls)) (first_match cat cs ls a e)
    unfolding first_match
    first_found =
        heads-by cat cs ls (select t (eval cat cs ls)) (found 0 (length cs)) (seek cat cs ls a (e - a)) (seek cat cs ls a (e - a))
        (ap (select t) (eval-wanted ls)) refl (found-to 0 (length cs) (omega arith) (omega arith))

under-map : {A B : Type 0} (g : A → B) (lev : B → ℕ) (m : ℕ) (xs : List A) → under lev m (map g xs) ≡ under (λ x. lev (g x)) m xs
unfolding under
under-map g lev m [] = refl
under-map g lev m (x ∷ xs) = elim (side m (lev (g x))) [
  | inside l ↦ under-in lev m (g x) (map g xs) l ∙ ap suc (under-map g lev m xs) ∙ sym (under-in (λ y. lev (g y)) m x xs l)
  | outside l ↦ under-out lev m (g x) (map g xs) l ∙ sym (under-out (λ y. lev (g y)) m x xs l)
]

module _ (cat : Bytes) (cs : List Segment) where
  cells-from : (j : ℕ) → drop j cs ≡ map (segment cs) (range j (length cs - j))
  cells-from j = list_ext (segment cs) blank (drop j cs) j (length cs - j) (length-drop j cs) (λ k l. get_or-drop j cs k blank)

  -- LAW 33: the forest of the segments is the forest of the listing
  pub segments-cells : segments cat cs ≡ forest_of (segment_level cat) cs
  unfolding segments data_part level_at
  segments-cells =
      let z : length cs - 0 ≡ length cs = omega arith in
      sym (forest-map (segment cs) (segment_level cat) (range 0 (length cs)))
      ∙ ap (forest_of (segment_level cat)) (sym (cells-from 0 ∙ ap (λ (k : ℕ). map (segment cs) (range 0 k)) z))

  pub run-cells : (i : ℕ) → run_len (segment_level cat) blank i cs ≡ run_at cat cs i
  unfolding run_at level_at
  run-cells i =
      ap (λ (r : List Segment). suc (under (segment_level cat) (segment_level cat (segment cs i)) r)) (cells-from (suc i))
      ∙ ap suc (under-map (segment cs) (segment_level cat) (segment_level cat (segment cs i)) (range (suc i) (length cs - suc i)))
