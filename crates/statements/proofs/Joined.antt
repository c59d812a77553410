-- A joined row of entries of one width: its rows are the entries, and its bytes are theirs. Assumes nothing.
use mathlib.Core.Path.{◌≡◌, refl, ap, sym, ◌∙◌}
use mathlib.Core.List.{List, [], ◌∷◌, ◌++◌, append_assoc, append-nil}
use Prim.Native.Nat.{ℕ, zero, suc, ◌+◌, ◌*◌, ◌<◌}
use native.Mathlib.Omega.{arith}
use native.Mathlib.Nat.{mul-suc}
use lib.ListN.{length, get_or, take, drop, length-append, get_or-append}
use lib.Seq.{take_at, drop_at, get_or-append-add, get_or-drop, drop-drop}
use Rattle.rules.specs.Block.{Bytes, byte, part}
use Rattle.statements.specs.Draft.{joined_row, rows}

-- something holds of each of a list
abbrev pub All : {A : Type 0} → (A → Type 0) → List A → Type 0
All P [] = Unit {0}
All P (x ∷ xs) = P x × All P xs

module _ {A : Type 0} (P : A → Type 0) where
  pub all-at : (xs : List A) → All P xs → (i : ℕ) (d : A) → i < length xs → P (get_or xs i d)
  all-at [] h i d l = absurd (omega arith)
  all-at (x ∷ xs) h zero d l = h.0
  all-at (x ∷ xs) h (suc i) d l = all-at xs h.1 i d (omega arith)

  pub all_of : (xs : List A) (d : A) → ((i : ℕ) → i < length xs → P (get_or xs i d)) → All P xs
  all_of [] d f = tt
  all_of (x ∷ xs) d f = (f 0 (omega arith), all_of xs d (λ i l. f (suc i) (omega arith)))

  pub all_append : (xs ys : List A) → All P xs → All P ys → All P (xs ++ ys)
  all_append [] ys h g = g
  all_append (x ∷ xs) ys h g = (h.0, all_append xs ys h.1 g)

  pub all_snoc : (xs : List A) (y : A) → All P xs → P y → All P (xs ++ (y ∷ []))
  all_snoc xs y h g = all_append xs (y ∷ []) h (g, tt)

  pub all-mono : (Q : A → Type 0) → ((x : A) → P x → Q x) → (xs : List A) → All P xs → All Q xs
  all-mono Q f [] h = tt
  all-mono Q f (x ∷ xs) h = (f x h.0, all-mono Q f xs h.1)

-- each entry has w bytes
abbrev pub Wide : ℕ → List Bytes → Type 0
Wide w xs = All (λ x. length x ≡ w) xs

pub joined-append : (xs ys : List Bytes) → joined_row (xs ++ ys) ≡ joined_row xs ++ joined_row ys
unfolding joined_row
joined-append [] ys = refl
joined-append (x ∷ xs) ys = ap (◌++◌ x) (joined-append xs ys) ∙ sym (append_assoc x (joined_row xs) (joined_row ys))

-- one entry more
pub joined_snoc : (xs : List Bytes) (y : Bytes) → joined_row (xs ++ (y ∷ [])) ≡ joined_row xs ++ y
unfolding joined_row
joined_snoc xs y = joined-append xs (y ∷ []) ∙ ap (◌++◌ (joined_row xs)) (append-nil y)

pub joined_length : (w : ℕ) (xs : List Bytes) → Wide w xs → length (joined_row xs) ≡ w * length xs
unfolding joined_row
joined_length w [] h = omega arith
joined_length w (x ∷ xs) h = length-append x (joined_row xs) ∙ omega (arith, h.0, joined_length w xs h.1, mul-suc w (length xs))

-- what stands at an entry's place, with anything behind the row
module _ (w : ℕ) (post : Bytes) where
  pub joined-byte : (xs : List Bytes) → Wide w xs → (k j : ℕ) → k < length xs → j < w → byte (joined_row xs ++ post) (w * k + j) ≡ byte (get_or xs k []) j
  unfolding joined_row
  joined-byte [] h k j l m = absurd (omega arith)
  joined-byte (x ∷ xs) h zero j l m =
      let z : w * 0 + j ≡ j = omega arith in
      let n : j < length x = omega (arith, h.0) in
      rw (z, append_assoc x (joined_row xs) post) (get_or-append x (joined_row xs ++ post) 0 j n)
  joined-byte (x ∷ xs) h (suc k) j l m =
      let z : w * suc k + j ≡ length x + (w * k + j) = omega (arith, mul-suc w k, h.0) in
      rw (z, append_assoc x (joined_row xs) post) (get_or-append-add x (joined_row xs ++ post) (w * k + j) 0 ∙ joined-byte xs h.1 k j (omega arith) m)

  pub joined-part : (xs : List Bytes) → Wide w xs → (k : ℕ) → k < length xs → part (joined_row xs ++ post) (w * k) w ≡ get_or xs k []
  unfolding joined_row
  joined-part [] h k l = absurd (omega arith)
  joined-part (x ∷ xs) h zero l =
      let z : w * 0 ≡ 0 = omega arith in
      rw (z, append_assoc x (joined_row xs) post) (take_at x (joined_row xs ++ post) w h.0)
  joined-part (x ∷ xs) h (suc k) l =
      let z : w * suc k ≡ w + w * k = omega (arith, mul-suc w k) in
      rw (z, append_assoc x (joined_row xs) post)
      (ap (take w) (sym (drop-drop (w * k) w (x ++ (joined_row xs ++ post))) ∙ ap (drop (w * k)) (drop_at x (joined_row xs ++ post) w h.0))
      ∙ joined-part xs h.1 k (omega arith))

  -- the row stands at byte i of a block
  module _ (b : Bytes) (i : ℕ) where
    pub row-byte : (xs : List Bytes) → Wide w xs → drop i b ≡ joined_row xs ++ post → (k j : ℕ) → k < length xs → j < w
        → byte b (i + (w * k + j)) ≡ byte (get_or xs k []) j
    row-byte xs h e k j l m = sym (get_or-drop i b (w * k + j) 0) ∙ ap (λ (c : Bytes). byte c (w * k + j)) e ∙ joined-byte xs h k j l m

    pub row-part : (xs : List Bytes) → Wide w xs → drop i b ≡ joined_row xs ++ post → (k : ℕ) → k < length xs → part b (i + w * k) w ≡ get_or xs k []
    row-part xs h e k l = ap (take w) (sym (drop-drop (w * k) i b)) ∙ ap (λ (c : Bytes). part c (w * k) w) e ∙ joined-part xs h k l

  pub row-rows : (b : Bytes) (xs : List Bytes) → Wide w xs → (i : ℕ) → drop i b ≡ joined_row xs ++ post → rows w b i (length xs) ≡ xs
  unfolding rows joined_row
  row-rows b [] h i e = refl
  row-rows b (x ∷ xs) h i e =
      let f : drop i b ≡ x ++ (joined_row xs ++ post) = e ∙ append_assoc x (joined_row xs) post in
      let p : part b i w ≡ x = ap (take w) f ∙ take_at x (joined_row xs ++ post) w h.0 in
      let d : drop (i + w) b ≡ joined_row xs ++ post = sym (drop-drop w i b) ∙ ap (drop w) f ∙ drop_at x (joined_row xs ++ post) w h.0 in
      ap (λ (y : Bytes). y ∷ rows w b (i + w) (length xs)) p ∙ ap (◌∷◌ x) (row-rows b xs h.1 (i + w) d)

-- where a row stands between two others
pub drop-between : (pre xs post : Bytes) → drop (length pre) (pre ++ xs ++ post) ≡ xs ++ post
drop-between pre xs post = ap (drop (length pre)) (append_assoc pre xs post) ∙ drop_at pre (xs ++ post) (length pre) refl

-- the law
pub rows-joined : (w : ℕ) (pre : Bytes) (xs : List Bytes) (post : Bytes) → Wide w xs → rows w (pre ++ joined_row xs ++ post) (length pre) (length xs) ≡ xs
rows-joined w pre xs post h = row-rows w post (pre ++ joined_row xs ++ post) xs h (length pre) (drop-between pre (joined_row xs) post)
