-- The writer's text as it grows: one field more, one type more (R81). Assumes nothing.
use mathlib.Core.Path.{◌≡◌, refl, ap, sym, ◌∙◌}
use mathlib.Core.Bool.{Bool, true, false}
use mathlib.Core.List.{List, [], ◌∷◌, ◌++◌, map, append_assoc, append-nil}
use Prim.Native.Nat.{ℕ, zero, suc, ◌+◌}
use native.Mathlib.Numerals.{add-one}
use native.Mathlib.Omega.{arith}
use lib.Dec.{eqb}
use borrow.Author.Tests.{eq-eqb, ne_eqb}
use Rattle.terms.specs.declared.TypeCode.{TypeCode}
use Rattle.terms.specs.Choice.{pick}
use Rattle.terms.specs.Names.{field as field_of}
use Rattle.forest.specs.Good.{on, off, is}
use Rattle.forest.specs.Numbers.{range}
use Rattle.rules.specs.Block.{Bytes}
use Rattle.rules.specs.Catalogue.{types, fields, key_kind, field_type, field_length, field_start}
use Rattle.rules.specs.Listing.{line_end}
use Rattle.statements.specs.Words.{trimmed}
use Rattle.statements.specs.Lines.{text_of}
use Rattle.statements.specs.Statement.{Statement, dbd, field}
use Rattle.statements.specs.Dbd.{spelled, those, own_fields, key_field, name_at, field_name, segm_statement, field_statement, type_statements, statements}

-- numbers from i on, and one more
range_last : (i n : ℕ) → range i (suc n) ≡ range i n ++ ((i + n) ∷ [])
range_last i zero = let z : i ≡ i + 0 = omega arith in ap (λ (j : ℕ). j ∷ []) z
range_last i (suc n) =
    let z : suc i + n ≡ i + suc n = omega arith in
    ap (◌∷◌ i) (range_last (suc i) n) ∙ ap (λ (j : ℕ). i ∷ (range (suc i) n ++ (j ∷ []))) z

range-next : (n : ℕ) → range 1 (n + 1) ≡ range 1 n ++ ((n + 1) ∷ [])
range-next n =
    let z : 1 + n ≡ n + 1 = omega arith in
    ap (range 1) (add-one n) ∙ range_last 1 n ∙ ap (λ (j : ℕ). range 1 n ++ (j ∷ [])) z

-- one that passes is kept, and one that does not is not
module _ (p : ℕ → Bool) where
  those-in : (i : ℕ) (is : List ℕ) → p i ≡ true → those p (i ∷ is) ≡ i ∷ those p is
  unfolding those
  those-in i is e = rw (those, e)

  those-out : (i : ℕ) (is : List ℕ) → p i ≡ false → those p (i ∷ is) ≡ those p is
  unfolding those
  those-out i is e = rw (those, e)

  those-append : (xs ys : List ℕ) → those p (xs ++ ys) ≡ those p xs ++ those p ys
  unfolding those
  those-append [] ys = refl
  those-append (x ∷ xs) ys = elim (is (p x)) [
    | on e ↦ rw (those-in x (xs ++ ys) e, those-in x xs e) (ap (◌∷◌ x) (those-append xs ys))
    | off e ↦ rw (those-out x (xs ++ ys) e, those-out x xs e) (those-append xs ys)
  ]

  those-more : (n : ℕ) → p (n + 1) ≡ true → those p (range 1 (n + 1)) ≡ those p (range 1 n) ++ ((n + 1) ∷ [])
  unfolding those
  those-more n e =
      ap (those p) (range-next n) ∙ those-append (range 1 n) ((n + 1) ∷ []) ∙ ap (λ (t : List ℕ). those p (range 1 n) ++ t) (those-in (n + 1) [] e)

  those-same : (n : ℕ) → p (n + 1) ≡ false → those p (range 1 (n + 1)) ≡ those p (range 1 n)
  unfolding those
  those-same n e =
      ap (those p) (range-next n) ∙ those-append (range 1 n) ((n + 1) ∷ []) ∙ ap (λ (t : List ℕ). those p (range 1 n) ++ t) (those-out (n + 1) [] e)
      ∙ append-nil (those p (range 1 n))

-- rows of lines
text-append : (xs ys : List Bytes) → text_of (xs ++ ys) ≡ text_of xs ++ text_of ys
unfolding text_of
text-append [] ys = refl
text-append (x ∷ xs) ys = ap (λ (t : Bytes). x ++ (line_end ∷ t)) (text-append xs ys) ∙ sym (append_assoc x (line_end ∷ text_of xs) (text_of ys))

map-append : {A B : Type 0} (f : A → B) (xs ys : List A) → map f (xs ++ ys) ≡ map f xs ++ map f ys
map-append f [] ys = refl
map-append f (x ∷ xs) ys = ap (◌∷◌ (f x)) (map-append f xs ys)

-- the text of a row of statements
abbrev pub text_by : List Statement → Bytes
text_by ss = text_of (map spelled ss)

by_append : (xs ys : List Statement) → text_by (xs ++ ys) ≡ text_by xs ++ text_by ys
by_append xs ys = ap text_of (map-append spelled xs ys) ∙ text-append (map spelled xs) (map spelled ys)

by_one : (s : Statement) → text_by (s ∷ []) ≡ spelled s ++ (line_end ∷ [])
unfolding text_of
by_one s = refl

by-cons : (s : Statement) (ss : List Statement) → text_by (s ∷ ss) ≡ (spelled s ++ (line_end ∷ [])) ++ text_by ss
unfolding text_of
by-cons s ss = sym (append_assoc (spelled s) (line_end ∷ []) (text_by ss))

module _ (cat names : Bytes) (t : TypeCode) where
  -- the text of the fields of type t up to number f
  abbrev pub fields_to : ℕ → Bytes
  fields_to f = text_by (map (field_statement cat names t.0) (those (λ i. eqb (field_type cat (field_of i)).0 t.0) (range 1 f)))

  -- the line of field f
  abbrev pub line_by : ℕ → ℕ → Bytes
  line_by f kind =
      spelled (field (trimmed (field_name cat names f)) kind (field_length cat (field_of f)) (field_start cat (field_of f))) ++ (line_end ∷ [])

  pub fields-none : [] ≡ fields_to 0
  unfolding those text_of
  fields-none = refl

  -- field f, behind n others, is of type t: its line stands behind theirs
  pub fields-more : (n m f kind : ℕ) (u : TypeCode) → f ≡ n + 1 → m ≡ n + 1 → u ≡ field_type cat (field_of f) → u.0 ≡ t.0
      → kind ≡ pick (eqb f (key_field cat t.0)) (key_kind cat t) 0
      → fields_to n ++ line_by f kind ≡ fields_to m
  unfolding field_statement
  fields-more n m f kind u i j a b d =
      let p : ℕ → Bool = λ i. eqb (field_type cat (field_of i)).0 t.0 in
      let g : ℕ → Statement = field_statement cat names t.0 in
      let h : p f ≡ true = eq-eqb (field_type cat (field_of f)).0 t.0 (ap (λ (v : TypeCode). v.0) (sym a) ∙ b) in
      ap (λ (v : ℕ). fields_to n ++ line_by f v) d
      ∙ ap (λ (v : Bytes). fields_to n ++ v) (sym (by_one (g f)))
      ∙ sym (by_append (map g (those p (range 1 n))) (g f ∷ []))
      ∙ ap text_by (sym (map-append g (those p (range 1 n)) (f ∷ [])))
      ∙ rw (i, j) (ap (λ (l : List ℕ). text_by (map g l)) (sym (those-more p n (rw i at h))))

  -- it is not
  pub fields-same : (n m f : ℕ) (u : TypeCode) → f ≡ n + 1 → m ≡ n + 1 → u ≡ field_type cat (field_of f) → (u.0 ≡ t.0 → ⊥) → fields_to n ≡ fields_to m
  fields-same n m f u i j a b =
      let p : ℕ → Bool = λ i. eqb (field_type cat (field_of i)).0 t.0 in
      let h : p f ≡ false = ne_eqb (field_type cat (field_of f)).0 t.0 (λ z. b (ap (λ (v : TypeCode). v.0) a ∙ z)) in
      rw j (ap (λ (l : List ℕ). text_by (map (field_statement cat names t.0) l)) (sym (those-same p n (rw i at h))))

  -- all were looked at
  pub fields-all : (n last : ℕ) → last ≡ fields cat → n ≡ last → fields_to n ≡ text_by (map (field_statement cat names t.0) (own_fields cat t.0))
  unfolding own_fields
  fields-all n last e a = ap fields_to (a ∙ e)

module _ (cat names : Bytes) where
  types-append : (xs ys : List ℕ) → type_statements cat names (xs ++ ys) ≡ type_statements cat names xs ++ type_statements cat names ys
  unfolding type_statements
  types-append [] ys = refl
  types-append (x ∷ xs) ys =
      let s : List Statement = segm_statement cat names x ∷ map (field_statement cat names x) (own_fields cat x) in
      ap (λ (t : List Statement). s ++ t) (types-append xs ys) ∙ sym (append_assoc s (type_statements cat names xs) (type_statements cat names ys))

  -- the text of the types up to k
  abbrev pub types_to : ℕ → Bytes
  types_to k = text_by (type_statements cat names (range 1 k))

  pub types-none : [] ≡ types_to 0
  unfolding text_of type_statements
  types-none = refl

  -- type k, behind n others
  pub types_more : (n m k : ℕ) → k ≡ n + 1 → m ≡ n + 1
      → types_to n ++ ((spelled (segm_statement cat names k) ++ (line_end ∷ [])) ++ text_by (map (field_statement cat names k) (own_fields cat k)))
      ≡ types_to m
  unfolding type_statements
  types_more n m k i j =
      let s : Statement = segm_statement cat names k in
      let fs : List Statement = map (field_statement cat names k) (own_fields cat k) in
      let z : range 1 n ++ (k ∷ []) ≡ range 1 m = rw (i, j) (sym (range-next n)) in
      ap (λ (t : Bytes). types_to n ++ t) (sym (by-cons s fs))
      ∙ sym (by_append (type_statements cat names (range 1 n)) (s ∷ fs))
      ∙ ap (λ (l : List Statement). text_by (type_statements cat names (range 1 n) ++ l)) (sym (append-nil (s ∷ fs)))
      ∙ ap text_by (sym (types-append (range 1 n) (k ∷ [])))
      ∙ ap (λ (l : List ℕ). text_by (type_statements cat names l)) z

  -- DBD and all types
  pub types-all : (n top : ℕ) → top ≡ types cat → n ≡ top
      → (spelled (dbd (trimmed (name_at names 0))) ++ (line_end ∷ [])) ++ types_to n ≡ text_by (statements cat names)
  unfolding statements
  types-all n top e a =
      let d : Statement = dbd (trimmed (name_at names 0)) in
      sym (by-cons d (type_statements cat names (range 1 n))) ∙ ap (λ (k : ℕ). text_by (d ∷ type_statements cat names (range 1 k))) (a ∙ e)
