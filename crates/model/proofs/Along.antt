-- Along the position: the search of document 000 along a path (formulas 36 to 38) finds what R30 finds by cell numbers. Assumes nothing.
use Rattle.terms.specs.declared.CellNumber.{CellNumber}
use Rattle.std.specs.Prelude.{Some, None, Option}
use mathlib.Core.Path.{◌≡◌, refl, ap, sym, ◌∙◌}
use mathlib.Core.Bool.{Bool, true, false}
use mathlib.Core.List.{List, [], ◌∷◌, ◌++◌, map, append-nil, map-id}
use Prim.Native.Nat.{ℕ, zero, suc, ◌+◌, ◌-◌, ◌<◌, ◌≤◌}
use native.Mathlib.Omega.{arith}
use lib.Dec.{ltb}
use lib.ListN.{length, get_or, take, drop, length-drop}
use lib.Seq.{length-take-le}
use borrow.Author.Tests.{ltb-true, lt-ltb, le-ltb, eq-eqb, ne_eqb}
use Rattle.terms.specs.declared.Place.{Place}
use Rattle.terms.specs.declared.Place.TheVariants.{On, Before}
use Rattle.terms.specs.Choice.{pick}
use Rattle.terms.specs.Names.{cell}
use Rattle.forest.specs.Forest.{Forest, void, node, cells_of, inside, outside, side}
use Rattle.forest.proofs.Forest.{cells-forest}
use Rattle.forest.specs.Good.{on, off, is}
use Rattle.forest.specs.Shape.{Levelled}
use Rattle.forest.specs.Edit.{size, kids, kids-fit}
use Rattle.forest.proofs.Runs.{run_length}
use Rattle.forest.specs.Numbers.{range, length-range, get_d-range}
use Rattle.rules.specs.Block.{Bytes}
use Rattle.rules.specs.Cells.{Segment, segment, level_at, run_at, end_at}
use Rattle.rules.specs.Position.{good_place}
use Rattle.rules.specs.Arguments.{Level}
use Rattle.rules.specs.Matching.{is_implied, agrees, path_to, agree, matches, seek, first_match, kept_on, sought_beneath, along}
use Rattle.rules.specs.Paths.{Path, end}
use Rattle.rules.specs.Tree.{select, all_paths, last_implied, data_part, get_dp, search, try_path, search_along, eval_along}
use Rattle.rules.proofs.Search.{seek-none, seek-here, seek-next}
use Rattle.rules.proofs.Paths.{end-path}
use Rattle.rules.proofs.Tree.{Heads, missing, leading, heads-by, search-select, paths-cells}
use Rattle.model.proofs.Paths.{take-map, drop-map, path_of, path-front, path-level, paths-beneath, placed, path-of}

pub drop-range : (k i n : ℕ) → drop k (range i n) ≡ range (i + k) (n - k)
drop-range zero i n = let y : i ≡ i + 0 = omega arith in let z : n ≡ n - 0 = omega arith in ap (λ (x : ℕ). range x n) y ∙ ap (range (i + 0)) z
drop-range (suc k) i zero = let z : 0 ≡ 0 - suc k = omega arith in ap (range (i + suc k)) z
drop-range (suc k) i (suc n) =
    let y : suc i + k ≡ i + suc k = omega arith in
    let z : n - k ≡ suc n - suc k = omega arith in
    drop-range k (suc i) n ∙ ap (λ (x : ℕ). range x (n - k)) y ∙ ap (range (i + suc k)) z

pub take_range : (m i n : ℕ) → m ≤ n → take m (range i n) ≡ range i m
take_range zero i n l = refl
take_range (suc m) i zero l = absurd (omega arith)
take_range (suc m) i (suc n) l = ap (◌∷◌ i) (take_range m (suc i) n (omega arith))

take-le : {A : Type 0} (t : ℕ) (xs : List A) → length (take t xs) ≤ t
take-le zero xs = omega arith
take-le (suc t) [] = omega arith
take-le (suc t) (x ∷ xs) = omega (arith, take-le t xs)

end-cons : (i : ℕ) (p : Path) → 0 < length p → end (i ∷ p) ≡ end p
end-cons i [] l = absurd (omega arith)
end-cons i (j ∷ p) l = refl

implied-le : (ls : List Level) → last_implied ls ≤ length ls
unfolding last_implied
implied-le [] = omega arith
implied-le (l ∷ ls) = elim (side 0 (last_implied ls)) [
  | inside m ↦ rw (lt-ltb 0 (last_implied ls) m) (omega (arith, implied-le ls))
  | outside m ↦ rw (le-ltb 0 (last_implied ls) m) (elim (is (is_implied l.asked)) [ on e ↦ rw e (omega arith) | off e ↦ rw e (omega arith) ])
]

select_in : (t : Path → Bool) (p : Path) (ps : List Path) → t p ≡ true → select t (p ∷ ps) ≡ p ∷ select t ps
unfolding select
select_in t p ps e = rw (select, e)

select-out : (t : Path → Bool) (p : Path) (ps : List Path) → t p ≡ false → select t (p ∷ ps) ≡ select t ps
unfolding select
select-out t p ps e = rw (select, e)

select-all : (ps : List Path) → select (λ p. true) ps ≡ ps
unfolding select
select-all [] = refl
select-all (p ∷ ps) = ap (◌∷◌ p) (select-all ps)

-- a test that looks only behind a common front
select-map : (t u : Path → Bool) (x : Path) → ((p : Path) → t (x ++ p) ≡ u p) → (ps : List Path)
    → map (λ p. x ++ p) (select u ps) ≡ select t (map (λ p. x ++ p) ps)
unfolding select
select-map t u x h [] = refl
select-map t u x h (p ∷ ps) = elim (is (u p)) [
  | on e ↦ ap (map (λ q. x ++ q)) (select_in u p ps e) ∙ ap (◌∷◌ (x ++ p)) (select-map t u x h ps) ∙ sym (select_in t (x ++ p) (map (λ q. x ++ q) ps) (h p ∙ e))
  | off e ↦ ap (map (λ q. x ++ q)) (select-out u p ps e) ∙ select-map t u x h ps ∙ sym (select-out t (x ++ p) (map (λ q. x ++ q) ps) (h p ∙ e))
]

module _ (cat : Bytes) (cs : List Segment) where
  abbrev cell_paths : ℕ → ℕ → List Path
  cell_paths i n = map (path_to cat cs) (range i n)

  -- a test that says of each cell's path whether the cell matches finds the first match
  heads-select : (ls : List Level) (t : Path → Bool) → ((i : ℕ) → t (path_to cat cs i) ≡ matches cat cs ls i) → (i n : ℕ) → i + n ≤ length cs
      → Heads cat cs ls (select t (cell_paths i n)) (seek cat cs ls i n)
  unfolding select
  heads-select ls t says i zero l = missing refl (seek-none cat cs ls i)
  heads-select ls t says i (suc n) l = elim (is (matches cat cs ls i)) [
    | on e ↦
        leading i (select t (cell_paths (suc i) n)) (omega arith) e (select_in t (path_to cat cs i) (cell_paths (suc i) n) (says i ∙ e))
        (seek-here cat cs ls i (suc n) (omega arith) e)
    | off e ↦
        let z : suc n - 1 ≡ n = omega arith in
        heads-by cat cs ls (select t (cell_paths i (suc n))) (select t (cell_paths (suc i) n)) (seek cat cs ls i (suc n)) (seek cat cs ls (suc i) n)
        (select-out t (path_to cat cs i) (cell_paths (suc i) n) (says i ∙ e)) (seek-next cat cs ls i (suc n) (omega arith) e ∙ ap (seek cat cs ls (suc i)) z)
        (heads-select ls t says (suc i) n (omega arith))
  ]

  says_none : (i : ℕ) → true ≡ matches cat cs [] i
  unfolding matches
  says_none i = refl

  says_some : (l : Level) (ls : List Level) (i : ℕ) → agree cat cs (l ∷ ls) (path_to cat cs i) ≡ matches cat cs (l ∷ ls) i
  unfolding matches
  says_some l ls i = refl

  heads-none : Heads cat cs [] (all_paths (data_part cat cs)) (first_match cat cs [] 0 (length cs))
  unfolding first_match
  heads-none =
      let z : length cs - 0 ≡ length cs = omega arith in
      heads-by cat cs [] (all_paths (data_part cat cs)) (select (λ p. true) (cell_paths 0 (length cs))) (seek cat cs [] 0 (length cs - 0))
      (seek cat cs [] 0 (length cs))
      (paths-cells cat cs ∙ sym (select-all (cell_paths 0 (length cs)))) (ap (seek cat cs [] 0) z)
      (heads-select [] (λ p. true) says_none 0 (length cs) (omega arith))

  heads-whole : (l : Level) (ls : List Level) → Heads cat cs (l ∷ ls) (search cat cs (l ∷ ls) (data_part cat cs)) (first_match cat cs (l ∷ ls) 0 (length cs))
  unfolding first_match
  heads-whole l ls =
      let z : length cs - 0 ≡ length cs = omega arith in
      heads-by cat cs (l ∷ ls) (search cat cs (l ∷ ls) (data_part cat cs)) (select (agree cat cs (l ∷ ls)) (cell_paths 0 (length cs)))
      (seek cat cs (l ∷ ls) 0 (length cs - 0)) (seek cat cs (l ∷ ls) 0 (length cs))
      (search-select cat cs l ls (data_part cat cs) ∙ ap (select (agree cat cs (l ∷ ls))) (paths-cells cat cs)) (ap (seek cat cs (l ∷ ls) 0) z)
      (heads-select (l ∷ ls) (agree cat cs (l ∷ ls)) (says_some l ls) 0 (length cs) (omega arith))

  -- the stretch, step by step
  try-in : (l : Level) (ls : List Level) (i : ℕ) (p : Path) → agrees cat l (segment cs i) ≡ true → try_path cat cs (l ∷ ls) (i ∷ p) ≡ suc (try_path cat cs ls p)
  unfolding try_path
  try-in l ls i p e = rw (try_path, e)

  try-out : (l : Level) (ls : List Level) (i : ℕ) (p : Path) → agrees cat l (segment cs i) ≡ false → try_path cat cs (l ∷ ls) (i ∷ p) ≡ 0
  unfolding try_path
  try-out l ls i p e = rw (try_path, e)

  try-le : (ls : List Level) (p : Path) → (try_path cat cs ls p ≤ length p) × (try_path cat cs ls p ≤ length ls)
  unfolding try_path
  try-le [] p = (omega arith, omega arith)
  try-le (l ∷ ls) [] = (omega arith, omega arith)
  try-le (l ∷ ls) (i ∷ p) = elim (is (agrees cat l (segment cs i))) [
    | on e ↦ (let r = try-le ls p in rw (try-in l ls i p e) (omega (arith, r.0), omega (arith, r.1)))
    | off e ↦ rw (try-out l ls i p e) (omega arith, omega arith)
  ]

  pub agree-in : (l : Level) (ls : List Level) (i : ℕ) (p : Path) → agrees cat l (segment cs i) ≡ true → agree cat cs (l ∷ ls) (i ∷ p) ≡ agree cat cs ls p
  unfolding agree
  agree-in l ls i p e = rw (agree, e)

  -- within the stretch the list agrees: what is left to ask is the rest of it
  agree-front : (k : ℕ) (ls : List Level) (cur p : Path) → k ≤ try_path cat cs ls cur → agree cat cs ls (take k cur ++ p) ≡ agree cat cs (drop k ls) p
  unfolding try_path
  agree-front zero ls cur p h = refl
  agree-front (suc k) [] cur p h = absurd (omega arith)
  agree-front (suc k) (l ∷ ls) [] p h = absurd (omega arith)
  agree-front (suc k) (l ∷ ls) (i ∷ cur) p h = elim (is (agrees cat l (segment cs i))) [
    | on e ↦
        agree-in l ls i (take k cur ++ p) e
        ∙ agree-front k ls cur p (let g : suc k ≤ suc (try_path cat cs ls cur) = rw (try-in l ls i cur e) at h in omega arith)
    | off e ↦ absurd (let g : suc k ≤ 0 = rw (try-out l ls i cur e) at h in omega arith)
  ]

  -- R30: how much of a path is kept
  abbrev keep_length : List Level → Path → ℕ
  keep_length ls p = last_implied (take (try_path cat cs ls p) ls)

  keep-le : (ls : List Level) (p : Path) → keep_length ls p ≤ try_path cat cs ls p
  keep-le ls p = omega (arith, implied-le (take (try_path cat cs ls p) ls), take-le (try_path cat cs ls p) ls)

  keep-in : (l : Level) (ls : List Level) (i : ℕ) (p : Path) → agrees cat l (segment cs i) ≡ true
      → keep_length (l ∷ ls) (i ∷ p) ≡ pick (ltb 0 (keep_length ls p)) (suc (keep_length ls p)) (pick (is_implied l.asked) 1 0)
  unfolding last_implied
  keep-in l ls i p e = ap (λ (n : ℕ). last_implied (take n (l ∷ ls))) (try-in l ls i p e)

  keep_out : (l : Level) (ls : List Level) (i : ℕ) (p : Path) → agrees cat l (segment cs i) ≡ false → keep_length (l ∷ ls) (i ∷ p) ≡ 0
  unfolding last_implied
  keep_out l ls i p e = ap (λ (n : ℕ). last_implied (take n (l ∷ ls))) (try-out l ls i p e)

  kept_in : (l : Level) (ls : List Level) (i : ℕ) (p : Path) (q : Option CellNumber) → agrees cat l (segment cs i) ≡ true
      → kept_on cat cs (l ∷ ls) (i ∷ p) q ≡ kept_on cat cs ls p (pick (is_implied l.asked) (Some (cell i)) q)
  unfolding kept_on
  kept_in l ls i p q e = rw (kept_on, e)

  kept_out : (l : Level) (ls : List Level) (i : ℕ) (p : Path) (q : Option CellNumber) → agrees cat l (segment cs i) ≡ false → kept_on cat cs (l ∷ ls) (i ∷ p) q ≡ q
  unfolding kept_on
  kept_out l ls i p q e = rw (kept_on, e)

  -- what is kept so far, of a path of which k segments are kept
  abbrev kept_at : ℕ → Path → Option CellNumber → Option CellNumber
  kept_at k p q = pick (ltb 0 k) (Some (cell (end (take k p)))) q

  kept-some : (n : ℕ) (p : Path) (q : Option CellNumber) → kept_at (suc n) p q ≡ Some (cell (end (take (suc n) p)))
  kept-some n p q = ap (λ (b : Bool). pick b (Some (cell (end (take (suc n) p)))) q) (lt-ltb 0 (suc n) (omega arith))

  -- LAW: the cell kept is the end of the path kept
  kept-length : (ls : List Level) (p : Path) (q : Option CellNumber) → kept_on cat cs ls p q ≡ kept_at (keep_length ls p) p q
  unfolding kept_on try_path last_implied
  kept-length [] p q = refl
  kept-length (l ∷ ls) [] q = refl
  kept-length (l ∷ ls) (i ∷ p) q = elim (is (agrees cat l (segment cs i))) [
    | on e ↦
        let q' : Option CellNumber = pick (is_implied l.asked) (Some (cell i)) q in
        let r : kept_on cat cs (l ∷ ls) (i ∷ p) q ≡ kept_at (keep_length ls p) p q' = kept_in l ls i p q e ∙ kept-length ls p q' in
        elim (side 0 (keep_length ls p)) [
          | inside m ↦
              let f : length (take (keep_length ls p) p) ≡ keep_length ls p = length-take-le (keep_length ls p) p (omega (arith, keep-le ls p, (try-le ls p).0)) in
              let s : keep_length (l ∷ ls) (i ∷ p) ≡ suc (keep_length ls p) = keep-in l ls i p e ∙ rw (lt-ltb 0 (keep_length ls p) m) in
              r ∙ ap (λ (b : Bool). pick b (Some (cell (end (take (keep_length ls p) p)))) q') (lt-ltb 0 (keep_length ls p) m)
              ∙ ap (λ (x : ℕ). Some (cell x)) (sym (end-cons i (take (keep_length ls p) p) (omega arith)))
              ∙ sym (ap (λ (x : ℕ). kept_at x (i ∷ p) q) s ∙ kept-some (keep_length ls p) (i ∷ p) q)
          | outside m ↦
              let s : keep_length (l ∷ ls) (i ∷ p) ≡ pick (is_implied l.asked) 1 0 = keep-in l ls i p e ∙ rw (le-ltb 0 (keep_length ls p) m) in
              r ∙ ap (λ (b : Bool). pick b (Some (cell (end (take (keep_length ls p) p)))) q') (le-ltb 0 (keep_length ls p) m)
              ∙ implied-or (is_implied l.asked) i p q ∙ sym (ap (λ (x : ℕ). kept_at x (i ∷ p) q) s)
        ]
    | off e ↦ kept_out l ls i p q e ∙ sym (ap (λ (x : ℕ). kept_at x (i ∷ p) q) (keep_out l ls i p e))
  ]
    where
      implied-or : (b : Bool) (i : ℕ) (p : Path) (q : Option CellNumber) → pick b (Some (cell i)) q ≡ kept_at (pick b 1 0) (i ∷ p) q
      implied-or true i p q = refl
      implied-or false i p q = refl

  pub cells-numbers : cells_of (data_part cat cs) ≡ range 0 (length cs)
  unfolding data_part
  cells-numbers = cells-forest (level_at cat cs) (range 0 (length cs))

  pub size-numbers : size (data_part cat cs) ≡ length cs
  size-numbers = ap length cells-numbers ∙ length-range 0 (length cs)

  pub run-kids : (i : ℕ) → i < length cs → suc (size (kids i (data_part cat cs))) ≡ run_at cat cs i
  unfolding data_part run_at
  run-kids i l =
      let z : 0 + i ≡ i = omega arith in
      run_length (level_at cat cs) 0 i (range 0 (length cs)) (rw length-range l)
      ∙ rw (get_d-range 0 (length cs) i 0 l, z, drop-range (suc i) 0 (length cs)) (let y : 0 + suc i ≡ suc i = omega arith in rw y)

  -- the paths beneath cell i are those of the cells of its run behind it
  paths-run : (i : ℕ) → i < length cs
      → map (λ p. path_to cat cs i ++ p) (all_paths (kids i (data_part cat cs))) ≡ cell_paths (suc i) (size (kids i (data_part cat cs)))
  paths-run i l =
      let n : ℕ = size (kids i (data_part cat cs)) in
      let s : size (data_part cat cs) ≡ length cs = size-numbers in
      let m : i < size (data_part cat cs) = omega arith in
      let f : i + n < size (data_part cat cs) = kids-fit i (data_part cat cs) m in
      let y : 0 + suc i ≡ suc i = omega arith in
      ap (λ (x : Path). map (λ p. x ++ p) (all_paths (kids i (data_part cat cs)))) (sym (path-of cat cs i l))
      ∙ paths-beneath i (data_part cat cs) m
      ∙ ap (λ (ps : List Path). take n (drop (suc i) ps)) (paths-cells cat cs)
      ∙ ap (take n)
      (drop-map (path_to cat cs) (suc i) (range 0 (length cs))
      ∙ ap (map (path_to cat cs)) (drop-range (suc i) 0 (length cs) ∙ ap (λ (x : ℕ). range x (length cs - suc i)) y))
      ∙ take-map (path_to cat cs) n (range (suc i) (length cs - suc i))
      ∙ ap (map (path_to cat cs)) (take_range n (suc i) (length cs - suc i) (omega arith))

  beneath-path : (p : Path) → 0 < length p → get_dp cat cs p ≡ kids (end p) (data_part cat cs)
  beneath-path [] l = absurd (omega arith)
  beneath-path (i ∷ p) l = refl

  search-end : (f : Forest ℕ) → search cat cs [] f ≡ [] ∷ []
  unfolding search
  search-end void = refl
  search-end (node i k s) = refl

  agree-last : agree cat cs [] [] ≡ true
  unfolding agree
  agree-last = refl

  -- in a listing whose forest has its levels
  module _ (exact : Levelled (level_at cat cs) 1 (data_part cat cs)) where
    pub path-deep : (i : ℕ) → i < length cs → length (path_to cat cs i) ≡ level_at cat cs i
    path-deep i l =
        let s : size (data_part cat cs) ≡ length cs = size-numbers in
        let z : 0 + i ≡ i = omega arith in
        let e : get_or (cells_of (data_part cat cs)) i 0 ≡ i = rw cells-numbers (get_d-range 0 (length cs) i 0 l ∙ z) in
        let h : length (path_of i (data_part cat cs)) + 1 ≡ suc (level_at cat cs (get_or (cells_of (data_part cat cs)) i 0)) =
        path-level (level_at cat cs) 1 i (data_part cat cs) exact (omega arith) in
        let g : length (path_to cat cs i) + 1 ≡ suc (level_at cat cs i) = rw (path-of cat cs i l, e) at h in
        omega arith

    module _ (l : Level) (ls : List Level) where
      abbrev whole : List Level
      whole = l ∷ ls

      to_end : (j n : ℕ) → suc n ≡ run_at cat cs j → first_match cat cs whole (suc j) (end_at cat cs j) ≡ seek cat cs whole (suc j) n
      unfolding first_match end_at
      to_end j n r = let z : j + run_at cat cs j - suc j ≡ n = omega arith in ap (seek cat cs whole (suc j)) z

      -- beneath cell j, the end of the first n segments of a path that agree, with this much of the list left
      heads-rest : (n j : ℕ) (left : List Level) → drop n whole ≡ left → n ≤ length whole → j < length cs → level_at cat cs j ≡ n
          → ((p : Path) → agree cat cs whole (path_to cat cs j ++ p) ≡ agree cat cs left p)
          → Heads cat cs whole (map (λ p. path_to cat cs j ++ p) (search cat cs left (kids j (data_part cat cs)))) (sought_beneath cat cs whole (Some (cell j)))
      heads-rest n j [] d a b h g =
          let e : length (drop n whole) ≡ length whole - n = length-drop n whole in
          let f : length (drop n whole) ≡ 0 = rw d in
          leading j [] b (sym (says_some l ls j) ∙ ap (agree cat cs whole) (sym (append-nil (path_to cat cs j))) ∙ g [] ∙ agree-last)
          (ap (map (λ p. path_to cat cs j ++ p)) (search-end (kids j (data_part cat cs))) ∙ ap (λ (p : Path). p ∷ []) (append-nil (path_to cat cs j)))
          (rw (eq-eqb (level_at cat cs j) (length whole) (omega arith)))
      heads-rest n j (m ∷ ms) d a b h g =
          let e : length (drop n whole) ≡ length whole - n = length-drop n whole in
          let f : length (drop n whole) ≡ suc (length ms) = rw d in
          let K : Forest ℕ = kids j (data_part cat cs) in
          let r : suc (size K) ≡ run_at cat cs j = run-kids j b in
          let s : size (data_part cat cs) ≡ length cs = size-numbers in
          let fit : j + size K < size (data_part cat cs) = kids-fit j (data_part cat cs) (omega arith) in
          heads-by cat cs whole (map (λ p. path_to cat cs j ++ p) (search cat cs (m ∷ ms) K)) (select (agree cat cs whole) (cell_paths (suc j) (size K)))
          (sought_beneath cat cs whole (Some (cell j))) (seek cat cs whole (suc j) (size K))
          (ap (map (λ p. path_to cat cs j ++ p)) (search-select cat cs m ms K)
          ∙ select-map (agree cat cs whole) (agree cat cs (m ∷ ms)) (path_to cat cs j) g (all_paths K)
          ∙ ap (select (agree cat cs whole)) (paths-run j b))
          (rw (ne_eqb (level_at cat cs j) (length whole) (λ z. omega arith)) (to_end j (size K) r))
          (heads-select whole (agree cat cs whole) (says_some l ls) (suc j) (size K) (omega arith))

      -- beneath the first suc n segments of the path to cell c
      heads-front : (c n : ℕ) → c < length cs → suc n ≤ try_path cat cs whole (path_to cat cs c)
          → Heads cat cs whole
          (map (λ p. take (suc n) (path_to cat cs c) ++ p) (search cat cs (drop (suc n) whole) (get_dp cat cs (take (suc n) (path_to cat cs c)))))
          (sought_beneath cat cs whole (Some (cell (end (take (suc n) (path_to cat cs c))))))
      heads-front c n b h =
          let cur : Path = path_to cat cs c in
          let s : size (data_part cat cs) ≡ length cs = size-numbers in
          let t = try-le whole (path_to cat cs c) in
          let q : path_of c (data_part cat cs) ≡ path_to cat cs c = path-of cat cs c b in
          let r = path-front c n (data_part cat cs) (omega arith) (rw q (omega (arith, t.0))) in
          let j : ℕ = r.0 in
          let b' : j < length cs = omega (arith, r.1) in
          let e : take (suc n) (path_to cat cs c) ≡ path_to cat cs j = sym (ap (take (suc n)) q) ∙ r.2 ∙ path-of cat cs j b' in
          let w : length (take (suc n) (path_to cat cs c)) ≡ suc n = length-take-le (suc n) (path_to cat cs c) (omega (arith, t.0)) in
          let v : length (path_to cat cs j) ≡ suc n = sym (ap length e) ∙ w in
          let u : length (path_to cat cs j) ≡ level_at cat cs j = path-deep j b' in
          heads-by cat cs whole (map (λ p. take (suc n) cur ++ p) (search cat cs (drop (suc n) whole) (get_dp cat cs (take (suc n) cur))))
          (map (λ p. path_to cat cs j ++ p) (search cat cs (drop (suc n) whole) (kids j (data_part cat cs))))
          (sought_beneath cat cs whole (Some (cell (end (take (suc n) cur))))) (sought_beneath cat cs whole (Some (cell j)))
          (ap (λ (x : Path). map (λ p. x ++ p) (search cat cs (drop (suc n) whole) (get_dp cat cs x))) e
          ∙ ap (λ (f : Forest ℕ). map (λ p. path_to cat cs j ++ p) (search cat cs (drop (suc n) whole) f))
          (beneath-path (path_to cat cs j) (omega arith) ∙ ap (λ (x : ℕ). kids x (data_part cat cs)) (end-path cat cs j)))
          (ap (λ (x : Path). sought_beneath cat cs whole (Some (cell (end x)))) e ∙ ap (λ (x : ℕ). sought_beneath cat cs whole (Some (cell x))) (end-path cat cs j))
          (heads-rest (suc n) j (drop (suc n) whole) refl (omega (arith, t.1)) b' (omega arith)
          (λ p. ap (λ (x : Path). agree cat cs whole (x ++ p)) (sym e) ∙ agree-front (suc n) whole (path_to cat cs c) p h))

      heads-kept : (c k : ℕ) → c < length cs → k ≤ try_path cat cs whole (path_to cat cs c)
          → Heads cat cs whole (map (λ p. take k (path_to cat cs c) ++ p) (search cat cs (drop k whole) (get_dp cat cs (take k (path_to cat cs c)))))
          (sought_beneath cat cs whole (kept_at k (path_to cat cs c) None))
      heads-kept c zero b h =
          heads-by cat cs whole (map (λ p. p) (search cat cs whole (data_part cat cs))) (search cat cs whole (data_part cat cs))
          (first_match cat cs whole 0 (length cs)) (first_match cat cs whole 0 (length cs))
          (map-id (search cat cs whole (data_part cat cs))) refl (heads-whole l ls)
      heads-kept c (suc n) b h = rw (kept-some n (path_to cat cs c) None) (heads-front c n b h)

    kept-none : (p : Path) → kept_on cat cs [] p None ≡ None
    unfolding kept_on
    kept-none p = refl

    -- LAW: the search along the position
    pub along-heads : (ls : List Level) (q : Place) → good_place cat cs q ≡ true → Heads cat cs ls (eval_along cat cs ls (placed cat cs q)) (along cat cs ls q)
    unfolding along search_along
    along-heads [] (Before c) g = heads-none
    along-heads [] (On c) g =
        heads-by cat cs [] (all_paths (data_part cat cs)) (all_paths (data_part cat cs)) (sought_beneath cat cs [] (kept_on cat cs [] (path_to cat cs c.0) None))
        (first_match cat cs [] 0 (length cs))
        refl (ap (sought_beneath cat cs []) (kept-none (path_to cat cs c.0))) heads-none
    along-heads (l ∷ ls) (Before c) g = heads-whole l ls
    along-heads (l ∷ ls) (On c) g =
        let b : c.0 < length cs = ltb-true c.0 (length cs) g in
        let p : Path = path_to cat cs c.0 in
        let k : ℕ = keep_length (l ∷ ls) (path_to cat cs c.0) in
        heads-by cat cs (l ∷ ls) (search_along cat cs (l ∷ ls) p) (search_along cat cs (l ∷ ls) p)
        (sought_beneath cat cs (l ∷ ls) (kept_on cat cs (l ∷ ls) p None)) (sought_beneath cat cs (l ∷ ls) (kept_at k p None))
        refl (ap (sought_beneath cat cs (l ∷ ls)) (kept-length (l ∷ ls) p None))
        (heads-kept l ls c.0 k b (keep-le (l ∷ ls) p))
