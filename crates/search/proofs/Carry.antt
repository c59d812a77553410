-- How the stretch goes on from cell to cell: one number is enough. Assumes nothing.
use Rattle.terms.specs.declared.CellNumber.{CellNumber}
use Rattle.std.specs.Prelude.{Some, None, Option}
use mathlib.Core.Path.{◌≡◌, refl, ap, sym, ◌∙◌}
use mathlib.Core.Bool.{Bool, true, false}
use mathlib.Core.List.{List, [], ◌∷◌, ◌++◌, reverse, reverse-cons}
use mathlib.Core.Logic.{◌⊎◌, inl, inr}
use Prim.Native.Nat.{ℕ, zero, suc, ◌-◌, ◌<◌, ◌≤◌}
use native.Mathlib.Omega.{arith}
use lib.ListN.{length, drop, length-reverse}
use Rattle.terms.specs.Choice.{pick}
use Rattle.terms.specs.Names.{cell}
use Rattle.forest.specs.Forest.{inside, outside, side}
use Rattle.forest.specs.Good.{on, off, is}
use Rattle.forest.specs.Rows.{back, back_in, back-out}
use Rattle.forest.specs.Numbers.{down_to, ancestors}
use Rattle.rules.specs.Block.{Bytes}
use Rattle.rules.specs.Cells.{Segment, segment, level_at, row_at}
use Rattle.rules.specs.Arguments.{Level}
use Rattle.rules.specs.Matching.{agrees, is_implied, agree, path_to, matches, kept_on}
use Rattle.rules.specs.Tree.{try_path}
use Rattle.search.specs.Stretch.{stretch, stretch_above, stretch_before, Carried}
use Rattle.search.proofs.Rows.{deepest, Regular, length_back}

module _ (cat : Bytes) (cs : List Segment) where
  -- cell i agrees with the first of the levels that are left
  abbrev pub head_agrees : List Level → ℕ → Bool
  head_agrees [] i = false
  head_agrees (l ∷ ls) i = agrees cat l (segment cs i)

  abbrev pub head_implied : List Level → Bool
  head_implied [] = false
  head_implied (l ∷ ls) = is_implied l.asked

  try-in : (l : Level) (ls : List Level) (i : ℕ) (p : List ℕ) → agrees cat l (segment cs i) ≡ true → try_path cat cs (l ∷ ls) (i ∷ p) ≡ suc (try_path cat cs ls p)
  unfolding try_path
  try-in l ls i p e = rw (try_path, e)

  try-out : (l : Level) (ls : List Level) (i : ℕ) (p : List ℕ) → agrees cat l (segment cs i) ≡ false → try_path cat cs (l ∷ ls) (i ∷ p) ≡ 0
  unfolding try_path
  try-out l ls i p e = rw (try_path, e)

  pub try-none : (ls : List Level) → try_path cat cs ls [] ≡ 0
  unfolding try_path
  try-none [] = refl
  try-none (l ∷ ls) = refl

  try-le : (ls : List Level) (p : List ℕ) → (try_path cat cs ls p ≤ length p) × (try_path cat cs ls p ≤ length ls)
  unfolding try_path
  try-le [] p = (omega arith, omega arith)
  try-le (l ∷ ls) [] = (omega arith, omega arith)
  try-le (l ∷ ls) (i ∷ p) = elim (is (agrees cat l (segment cs i))) [
    | on e ↦ (let h = try-le ls p in rw (try-in l ls i p e) (omega (arith, h.0), omega (arith, h.1)))
    | off e ↦ rw (try-out l ls i p e) (omega arith, omega arith)
  ]

  -- one cell more at the end of a path that agrees as a whole
  try-on : (ls : List Level) (p : List ℕ) (i : ℕ) → try_path cat cs ls p ≡ length p → head_agrees (drop (length p) ls) i ≡ true
      → try_path cat cs ls (p ++ (i ∷ [])) ≡ suc (length p)
  unfolding try_path
  try-on [] [] i f e = absurd (let z : ◌≡◌ {A = ℕ} 0 1 = cc in omega arith)
  try-on [] (x ∷ p) i f e = absurd (omega arith)
  try-on (l ∷ ls) [] i f e = try-in l ls i [] e ∙ ap suc (try-none ls)
  try-on (l ∷ ls) (x ∷ p) i f e = elim (is (agrees cat l (segment cs x))) [
    | on h ↦ (let g : suc (try_path cat cs ls p) ≡ suc (length p) = rw (try-in l ls x p h) at f in try-in l ls x (p ++ (i ∷ [])) h ∙ ap suc (try-on ls p i (omega arith) e))
    | off h ↦ absurd (let g : 0 ≡ suc (length p) = rw (try-out l ls x p h) at f in omega arith)
  ]

  -- and where that cell does not agree, or a cell before it does not
  try-off : (ls : List Level) (p : List ℕ) (i : ℕ) → (head_agrees (drop (length p) ls) i ≡ false) ⊎ (try_path cat cs ls p < length p)
      → try_path cat cs ls (p ++ (i ∷ [])) ≡ try_path cat cs ls p
  unfolding try_path
  try-off [] [] i e = refl
  try-off [] (x ∷ p) i e = refl
  try-off (l ∷ ls) [] i (inl e) = try-out l ls i [] e
  try-off (l ∷ ls) [] i (inr e) = absurd (omega arith)
  try-off (l ∷ ls) (x ∷ p) i e = elim (is (agrees cat l (segment cs x))) [
    | on h ↦ try-in l ls x (p ++ (i ∷ [])) h ∙ ap suc (try-off ls p i (elim e [
      | inl f ↦ inl f
      | inr f ↦ inr (let g : suc (try_path cat cs ls p) < suc (length p) = rw (try-in l ls x p h) at f in omega arith)
    ])) ∙ sym (try-in l ls x p h)
    | off h ↦ try-out l ls x (p ++ (i ∷ [])) h ∙ sym (try-out l ls x p h)
  ]

  -- a whole list agrees with a path of as many cells, all of them in the stretch
  agree-all : (ls : List Level) (p : List ℕ) → length p ≡ length ls → try_path cat cs ls p ≡ length ls → agree cat cs ls p ≡ true
  unfolding agree try_path
  agree-all [] [] a b = refl
  agree-all [] (i ∷ p) a b = absurd (omega arith)
  agree-all (l ∷ ls) [] a b = absurd (omega arith)
  agree-all (l ∷ ls) (i ∷ p) a b = elim (is (agrees cat l (segment cs i))) [
    | on e ↦ (let g : suc (try_path cat cs ls p) ≡ suc (length ls) = rw (try-in l ls i p e) at b in rw (agree, e) (agree-all ls p (omega arith) (omega arith)))
    | off e ↦ absurd (let g : 0 ≡ suc (length ls) = rw (try-out l ls i p e) at b in omega arith)
  ]

  agree-not : (ls : List Level) (p : List ℕ) → ((length p ≡ length ls) → (try_path cat cs ls p ≡ length ls) → ⊥) → agree cat cs ls p ≡ false
  unfolding agree try_path
  agree-not [] [] f = absurd (f refl refl)
  agree-not [] (i ∷ p) f = refl
  agree-not (l ∷ ls) [] f = refl
  agree-not (l ∷ ls) (i ∷ p) f = elim (is (agrees cat l (segment cs i))) [
    | on e ↦ rw (agree, e) (agree-not ls p (λ a b. f (omega arith) (try-in l ls i p e ∙ ap suc b)))
    | off e ↦ rw (agree, e)
  ]

  all-match : (ls : List Level) (i : ℕ) → 0 < length ls → length (path_to cat cs i) ≡ length ls → stretch cat cs ls i ≡ length ls → matches cat cs ls i ≡ true
  unfolding matches stretch
  all-match [] i l a b = refl
  all-match (m ∷ ms) i l a b = agree-all (m ∷ ms) (path_to cat cs i) a b

  none-match : (ls : List Level) (i : ℕ) → 0 < length ls → ((length (path_to cat cs i) ≡ length ls) → (stretch cat cs ls i ≡ length ls) → ⊥) → matches cat cs ls i ≡ false
  unfolding matches stretch
  none-match [] i l f = absurd (omega arith)
  none-match (m ∷ ms) i l f = agree-not (m ∷ ms) (path_to cat cs i) f

  -- what is kept of a path with one cell more at its end
  kept_in : (l : Level) (ls : List Level) (i : ℕ) (p : List ℕ) (q : Option CellNumber) → agrees cat l (segment cs i) ≡ true
      → kept_on cat cs (l ∷ ls) (i ∷ p) q ≡ kept_on cat cs ls p (pick (is_implied l.asked) (Some (cell i)) q)
  unfolding kept_on
  kept_in l ls i p q e = rw (kept_on, e)

  kept_out : (l : Level) (ls : List Level) (i : ℕ) (p : List ℕ) (q : Option CellNumber) → agrees cat l (segment cs i) ≡ false → kept_on cat cs (l ∷ ls) (i ∷ p) q ≡ q
  unfolding kept_on
  kept_out l ls i p q e = rw (kept_on, e)

  pub kept-none : (ls : List Level) (q : Option CellNumber) → kept_on cat cs ls [] q ≡ q
  unfolding kept_on
  kept-none [] q = refl
  kept-none (l ∷ ls) q = refl

  kept_on_lem : (ls : List Level) (p : List ℕ) (i : ℕ) (q : Option CellNumber) → try_path cat cs ls (p ++ (i ∷ [])) ≡ suc (length p)
      → kept_on cat cs ls (p ++ (i ∷ [])) q ≡ pick (head_implied (drop (length p) ls)) (Some (cell i)) (kept_on cat cs ls p q)
  unfolding try_path
  kept_on_lem [] [] i q f = absurd (omega arith)
  kept_on_lem [] (x ∷ p) i q f = absurd (omega arith)
  kept_on_lem (l ∷ ls) [] i q f = elim (is (agrees cat l (segment cs i))) [
    | on e ↦ kept_in l ls i [] q e ∙ kept-none ls (pick (is_implied l.asked) (Some (cell i)) q) ∙ ap (pick (is_implied l.asked) (Some (cell i))) (sym (kept-none (l ∷ ls) q))
    | off e ↦ absurd (let g : 0 ≡ 1 = rw (try-out l ls i [] e) at f in omega arith)
  ]
  kept_on_lem (l ∷ ls) (x ∷ p) i q f = elim (is (agrees cat l (segment cs x))) [
    | on e ↦
        let r : Option CellNumber = pick (is_implied l.asked) (Some (cell x)) q in
        let g : suc (try_path cat cs ls (p ++ (i ∷ []))) ≡ suc (suc (length p)) = rw (try-in l ls x (p ++ (i ∷ [])) e) at f in
        kept_in l ls x (p ++ (i ∷ [])) q e ∙ kept_on_lem ls p i r (omega arith) ∙ ap (pick (head_implied (drop (length p) ls)) (Some (cell i))) (sym (kept_in l ls x p q e))
    | off e ↦ absurd (let g : 0 ≡ suc (suc (length p)) = rw (try-out l ls x (p ++ (i ∷ [])) e) at f in omega arith)
  ]

  kept_off : (ls : List Level) (p : List ℕ) (i : ℕ) (q : Option CellNumber) → try_path cat cs ls (p ++ (i ∷ [])) ≤ length p
      → kept_on cat cs ls (p ++ (i ∷ [])) q ≡ kept_on cat cs ls p q
  unfolding kept_on try_path
  kept_off [] [] i q f = refl
  kept_off [] (x ∷ p) i q f = refl
  kept_off (l ∷ ls) [] i q f = elim (is (agrees cat l (segment cs i))) [
    | on e ↦ absurd (let g : suc (try_path cat cs ls []) ≤ 0 = rw (try-in l ls i [] e) at f in omega arith)
    | off e ↦ kept_out l ls i [] q e
  ]
  kept_off (l ∷ ls) (x ∷ p) i q f = elim (is (agrees cat l (segment cs x))) [
    | on e ↦
        let g : suc (try_path cat cs ls (p ++ (i ∷ []))) ≤ suc (length p) = rw (try-in l ls x (p ++ (i ∷ [])) e) at f in
        kept_in l ls x (p ++ (i ∷ [])) q e ∙ kept_off ls p i (pick (is_implied l.asked) (Some (cell x)) q) (omega arith) ∙ sym (kept_in l ls x p q e)
    | off e ↦ kept_out l ls x (p ++ (i ∷ [])) q e ∙ sym (kept_out l ls x p q e)
  ]

  module _ (ls : List Level) where
    -- the same, for a row, nearest first
    abbrev pub tried : List ℕ → ℕ
    tried row = try_path cat cs ls (reverse row)

    pub tried-le : (row : List ℕ) → tried row ≤ length row
    tried-le row = omega (arith, (try-le ls (reverse row)).0, length-reverse row)

    pub tried-on : (row : List ℕ) (i : ℕ) → tried row ≡ length row → head_agrees (drop (length row) ls) i ≡ true → tried (i ∷ row) ≡ suc (length row)
    tried-on row i f e =
        rw (reverse-cons i row) (try-on ls (reverse row) i (f ∙ sym (length-reverse row)) (rw (length-reverse row) e) ∙ ap suc (length-reverse row))

    pub tried-off : (row : List ℕ) (i : ℕ) → head_agrees (drop (length row) ls) i ≡ false → tried (i ∷ row) ≡ tried row
    tried-off row i e = rw (reverse-cons i row) (try-off ls (reverse row) i (inl (rw (length-reverse row) e)))

    pub tried-short : (row : List ℕ) (i : ℕ) → tried row < length row → tried (i ∷ row) ≡ tried row
    tried-short row i h = rw (reverse-cons i row) (try-off ls (reverse row) i (inr (rw (length-reverse row) h)))

    tried-either : (row : List ℕ) (i : ℕ) → (tried (i ∷ row) ≡ tried row) ⊎ ((tried row ≡ length row) × (tried (i ∷ row) ≡ suc (length row)))
    tried-either row i = elim (side (tried row) (length row)) [
      | inside l ↦ inl (tried-short row i l)
      | outside l ↦
          let f : tried row ≡ length row = omega (arith, tried-le row) in
          elim (is (head_agrees (drop (length row) ls) i)) [
            | on e ↦ inr (f, tried-on row i f e)
            | off e ↦ inl (tried-off row i e)
          ]
    ]

    -- and what is kept of it
    abbrev pub kept_tried : List ℕ → Option CellNumber
    kept_tried row = kept_on cat cs ls (reverse row) None

    pub keeps_on : (row : List ℕ) (i : ℕ) → tried (i ∷ row) ≡ suc (length row)
        → kept_tried (i ∷ row) ≡ pick (head_implied (drop (length row) ls)) (Some (cell i)) (kept_tried row)
    keeps_on row i f =
        let g : try_path cat cs ls (reverse row ++ (i ∷ [])) ≡ suc (length (reverse row)) =
        ap (try_path cat cs ls) (sym (reverse-cons i row)) ∙ f ∙ ap suc (sym (length-reverse row)) in
        ap (λ (p : List ℕ). kept_on cat cs ls p None) (reverse-cons i row) ∙ kept_on_lem ls (reverse row) i None g
        ∙ ap (λ (m : ℕ). pick (head_implied (drop m ls)) (Some (cell i)) (kept_tried row)) (length-reverse row)

    pub keeps-off : (row : List ℕ) (i : ℕ) → tried (i ∷ row) ≤ length row → kept_tried (i ∷ row) ≡ kept_tried row
    keeps-off row i l =
        let e : tried (i ∷ row) ≡ try_path cat cs ls (reverse row ++ (i ∷ [])) = ap (try_path cat cs ls) (reverse-cons i row) in
        ap (λ (p : List ℕ). kept_on cat cs ls p None) (reverse-cons i row)
        ∙ kept_off ls (reverse row) i None (omega (arith, length-reverse row))

    abbrev lev : ℕ → ℕ
    lev = level_at cat cs

    -- the stretch of the row above level m, before cell j
    abbrev above : ℕ → ℕ → ℕ
    above m j = tried (back lev m (down_to j))

    module _ (n : ℕ) (reg : Regular lev n) where
      -- a shorter row has the shorter of the stretch and its own length
      cut : (j m d : ℕ) → j ≤ n → 1 ≤ m → m ≤ d → d ≤ deepest lev j → (above d j < m → above m j ≡ above d j) × (m ≤ suc (above d j) → suc (above m j) ≡ m)
      unfolding back
      cut zero m d h a b c = (λ x. refl, λ x. omega (arith, try-none ls))
      cut (suc j) m d h a b c =
          let g = reg j (omega arith) in
          elim (side (lev j) m) [
            | inside l ↦
                let e : d ≡ m = omega arith in
                rw e (λ x. refl, λ x. omega (arith, tried-le (back lev m (down_to (suc j))), length_back lev n reg (suc j) m h a (omega arith)))
            | outside l ↦
                let o : above m (suc j) ≡ above m j = ap tried (back-out lev m j (down_to j) l) in
                elim (side (lev j) d) [
                  | inside k ↦
                      let u : above d (suc j) ≡ tried (j ∷ back lev (lev j) (down_to j)) = ap tried (back_in lev d j (down_to j) k) in
                      let i = cut j m (lev j) (omega arith) a l g.1 in
                      elim (tried-either (back lev (lev j) (down_to j)) j) [
                        | inl e ↦ (λ x. o ∙ i.0 (omega arith) ∙ sym (u ∙ e), λ x. omega (arith, i.1 (omega arith)))
                        | inr e ↦
                            let w = length_back lev n reg j (lev j) (omega arith) g.0 g.1 in
                            (λ x. absurd (omega (arith, e.1)), λ x. omega (arith, i.1 (omega (arith, e.0))))
                      ]
                  | outside k ↦
                      let u : above d (suc j) ≡ above d j = ap tried (back-out lev d j (down_to j) k) in
                      let i = cut j m d (omega arith) a b (omega (arith, g.1)) in
                      (λ x. o ∙ i.0 (omega arith) ∙ sym u, λ x. omega (arith, i.1 (omega arith)))
                ]
          ]

      abbrev row_of : ℕ → List ℕ
      row_of i = ancestors lev i

      pub length-row : (i : ℕ) → i < n → suc (length (row_of i)) ≡ lev i
      length-row i h = let g = reg i h in length_back lev n reg i (lev i) (omega arith) g.0 g.1

      pub stretch-row : (i : ℕ) → stretch cat cs ls i ≡ tried (i ∷ row_of i)
      unfolding stretch path_to row_at
      stretch-row i = refl

      above-row : (i : ℕ) → stretch_above cat cs ls i ≡ tried (row_of i)
      unfolding stretch_above
      above-row i = refl

      pub stretch-le : (i : ℕ) → i < n → stretch cat cs ls i ≤ lev i
      stretch-le i h = omega (arith, stretch-row i, tried-le (i ∷ row_of i), length-row i h)

      pub stretch-within : (i : ℕ) → stretch cat cs ls i ≤ length ls
      unfolding stretch
      stretch-within i = (try-le ls (path_to cat cs i)).1

      -- what the cell before cell i had is carried to it
      pub carried-before : (i : ℕ) → i < n → Carried cat cs ls i (stretch_before cat cs ls i)
      unfolding back
      carried-before zero h =
          let g = reg 0 h in
          let c = cut 0 (lev 0) 1 (omega arith) g.0 g.1 (omega arith) in
          record { short = λ x. above-row 0 ∙ try-none ls; full = λ x. omega (arith, above-row 0, c.1 (omega (arith, try-none ls))) }
      carried-before (suc i) h =
          let g = reg (suc i) h in
          let u : above (suc (lev i)) (suc i) ≡ stretch cat cs ls i = ap tried (back_in lev (suc (lev i)) i (down_to i) (omega arith)) ∙ sym (stretch-row i) in
          let c = cut (suc i) (lev (suc i)) (suc (lev i)) (omega arith) g.0 g.1 (omega arith) in
          record { short = λ x. above-row (suc i) ∙ c.0 (omega arith) ∙ u; full = λ x. omega (arith, above-row (suc i), c.1 (omega arith)) }

      module _ (i k : ℕ) (h : i < n) (c : Carried cat cs ls i k) where
        long : length (row_of i) ≡ lev i - 1
        long = omega (arith, length-row i h)

        -- LAW: from what was carried to the stretch of cell i; where it does not reach the parent, the cell need not be looked at
        pub next-short : k < lev i - 1 → k ≡ stretch cat cs ls i
        next-short l =
            let e : tried (row_of i) ≡ k = sym (above-row i) ∙ c.short (omega arith) in
            sym (stretch-row i ∙ tried-short (row_of i) i (omega (arith, long)) ∙ e)

        pub next-on : lev i - 1 ≤ k → head_agrees (drop (lev i - 1) ls) i ≡ true → lev i ≡ stretch cat cs ls i
        next-on l a =
            let e : tried (row_of i) ≡ length (row_of i) = omega (arith, above-row i, c.full (omega arith), length-row i h) in
            omega (arith, stretch-row i, tried-on (row_of i) i e (ap (λ (m : ℕ). head_agrees (drop m ls) i) long ∙ a), length-row i h)

        pub next-off : lev i - 1 ≤ k → head_agrees (drop (lev i - 1) ls) i ≡ false → lev i - 1 ≡ stretch cat cs ls i
        next-off l a =
            omega (arith, stretch-row i, tried-off (row_of i) i (ap (λ (m : ℕ). head_agrees (drop m ls) i) long ∙ a), above-row i, c.full (omega arith), length-row i h)

        -- a stretch that goes down to the cell has the cell in it
        pub full-agrees : stretch cat cs ls i ≡ lev i → head_agrees (drop (lev i - 1) ls) i ≡ true
        full-agrees e = elim (is (head_agrees (drop (lev i - 1) ls) i)) [
          | on a ↦ a
          | off a ↦ absurd (elim (side k (lev i - 1)) [
            | inside l ↦ omega (arith, next-short l)
            | outside l ↦ omega (arith, next-off l a, length-row i h)
          ])
        ]

      length-path : (i : ℕ) → i < n → length (path_to cat cs i) ≡ lev i
      unfolding path_to row_at
      length-path i h = length-reverse (i ∷ row_of i) ∙ length-row i h

      -- LAW: a cell matches a list that is not empty where its level is the list's last and its stretch goes there
      pub match-yes : (i : ℕ) → i < n → 0 < length ls → lev i ≡ length ls → stretch cat cs ls i ≡ length ls → matches cat cs ls i ≡ true
      match-yes i h some a b = all-match ls i some (length-path i h ∙ a) b

      pub match-not : (i : ℕ) → i < n → 0 < length ls → ((lev i ≡ length ls) → (stretch cat cs ls i ≡ length ls) → ⊥) → matches cat cs ls i ≡ false
      match-not i h some f = none-match ls i some (λ a b. f (sym (length-path i h) ∙ a) b)

      -- what is kept of the path to cell i, from what is kept of the path to its parent
      abbrev kept_at : ℕ → Option CellNumber
      kept_at i = kept_on cat cs ls (path_to cat cs i) None

      pub kept_row : (i : ℕ) → kept_at i ≡ kept_tried (i ∷ row_of i)
      unfolding path_to row_at
      kept_row i = refl

      pub kept-short : (i : ℕ) → i < n → stretch cat cs ls i < lev i → kept_at i ≡ kept_tried (row_of i)
      kept-short i h l = kept_row i ∙ keeps-off (row_of i) i (omega (arith, stretch-row i, length-row i h))

      pub kept_full : (i : ℕ) → i < n → stretch cat cs ls i ≡ lev i → kept_at i ≡ pick (head_implied (drop (lev i - 1) ls)) (Some (cell i)) (kept_tried (row_of i))
      kept_full i h e =
          let w : length (row_of i) ≡ lev i - 1 = omega (arith, length-row i h) in
          kept_row i ∙ keeps_on (row_of i) i (omega (arith, stretch-row i, length-row i h))
          ∙ ap (λ (m : ℕ). pick (head_implied (drop m ls)) (Some (cell i)) (kept_tried (row_of i))) w
