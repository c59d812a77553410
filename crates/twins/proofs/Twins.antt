-- How a new segment x stands to one cell: it goes before it, has its key, or passes it. Assumes nothing.
use Rattle.std.specs.declared.cmp.Ordering.{Ordering}
use Rattle.std.specs.declared.cmp.Ordering.TheVariants.{Equal, Greater, Less}
use mathlib.Core.Path.{◌≡◌, refl, ap, sym, ◌∙◌}
use mathlib.Core.Bool.{true, false, not}
use Prim.Native.Nat.{ℕ, ◌<◌, ◌≤◌}
use native.Mathlib.Omega.{arith}
use borrow.Author.Tests.{lt-ltb, le-ltb, eq-eqb, ne_eqb}
use Rattle.terms.specs.Names.{code}
use Rattle.std.specs.Ordering.{is_lt, is_eq}
use Rattle.forest.specs.Forest.{inside, outside, side}
use Rattle.forest.specs.Insert.{passes}
use Rattle.rules.specs.Block.{Bytes}
use Rattle.rules.specs.Order.{value_order}
use Rattle.rules.specs.Catalogue.{key_kind, key_value, level}
use Rattle.rules.specs.Cells.{Segment, type_number, key, key_order, twin_order, same_key, siblings, goes_before, segment_level}
use Rattle.rules.proofs.Values.{value-transitive}
use Rattle.twins.specs.Among.{stands_to}
use Rattle.twins.proofs.Rows.{pass-deep, pass_same}

-- two numbers, by which is less
data Against (n m : ℕ) : Type 0 where
  less : n < m → Against n m
  same : n ≡ m → Against n m
  more : m < n → Against n m

against : (n m : ℕ) → Against n m
against n m = elim (side n m) [
  | inside l ↦ less l
  | outside l ↦ elim (side m n) [ inside k ↦ more k | outside k ↦ same (omega arith) ]
]

pub smaller-is : (o : Ordering) → is_lt o ≡ true → o ≡ Less
smaller-is Less e = refl
smaller-is Equal e = let z : ◌≡◌ {A = ℕ} 0 1 = cc in absurd (omega arith)
smaller-is Greater e = let z : ◌≡◌ {A = ℕ} 0 1 = cc in absurd (omega arith)

module _ (cat : Bytes) (x : Segment) where
  -- goes before, by cases of the types
  before-less : (c : Segment) → type_number x < type_number c → goes_before cat x c ≡ true
  unfolding goes_before
  before-less c l = rw (lt-ltb (type_number x) (type_number c) l)

  before_more : (c : Segment) → type_number c < type_number x → goes_before cat x c ≡ false
  unfolding goes_before
  before_more c l = rw (le-ltb (type_number x) (type_number c) (omega arith), ne_eqb (type_number x) (type_number c) (λ e. omega arith))

  before_same : (c : Segment) → type_number x ≡ type_number c → goes_before cat x c ≡ is_lt (key_order cat x c)
  unfolding goes_before
  before_same c e = rw (le-ltb (type_number x) (type_number c) (omega arith), eq-eqb (type_number x) (type_number c) e)

  key-other : (c : Segment) → (type_number x ≡ type_number c → ⊥) → same_key cat x c ≡ false
  unfolding same_key
  key-other c n = rw (ne_eqb (type_number x) (type_number c) n)

  key-same : (c : Segment) → type_number x ≡ type_number c → same_key cat x c ≡ is_eq (key_order cat x c)
  unfolding same_key
  key-same c e = rw (eq-eqb (type_number x) (type_number c) e)

  -- segments of one type are of one level
  same-level : (c : Segment) → type_number x ≡ type_number c → segment_level cat x ≡ segment_level cat c
  same-level c e = ap (λ (n : ℕ). level cat (code n)) e

  -- a deeper cell is no twin
  pub key-deep : (c : Segment) → segment_level cat x < segment_level cat c → same_key cat x c ≡ false
  key-deep c h = key-other c (λ e. omega (arith, same-level c e))

  -- nor has a cell that x goes before its key
  pub key-past : (c : Segment) → goes_before cat x c ≡ true → same_key cat x c ≡ false
  key-past c h = elim (against (type_number x) (type_number c)) [
    | less l ↦ key-other c (λ e. omega arith)
    | same e ↦ key-same c e ∙ ap is_eq (smaller-is (key_order cat x c) (sym (before_same c e) ∙ h))
    | more l ↦ key-other c (λ e. omega arith)
  ]

  before-le : (c : Segment) → goes_before cat x c ≡ true → type_number x ≤ type_number c
  before-le c h = elim (side (type_number c) (type_number x)) [
    | inside l ↦ absurd (let f : false ≡ true = sym (before_more c l) ∙ h in let z : ◌≡◌ {A = ℕ} 0 1 = cc in omega arith)
    | outside l ↦ l
  ]

  siblings-le : (c d : Segment) → siblings cat c d ≡ true → type_number c ≤ type_number d
  siblings-le c d h = elim (side (type_number d) (type_number c)) [
    | inside l ↦ absurd (let f : false ≡ true = rw (le-ltb (type_number c) (type_number d) (omega arith), ne_eqb (type_number c) (type_number d) (λ e. omega arith)) at h in let z : ◌≡◌ {A = ℕ} 0 1 = cc in omega arith)
    | outside l ↦ l
  ]

  -- R15, of a unique key
  twins-ascend : (c d : Segment) → key_kind cat c.code ≡ 1 → type_number c ≡ type_number d → siblings cat c d ≡ true → key_order cat c d ≡ Less
  unfolding twin_order
  twins-ascend c d k e h =
      smaller-is (key_order cat c d)
      (rw (le-ltb (type_number c) (type_number d) (omega arith), eq-eqb (type_number c) (type_number d) e, k) at h)

  -- so with a unique key x goes before each sibling that stands behind one that it goes before
  pub before-onward : key_kind cat x.code ≡ 1 → (c d : Segment) → goes_before cat x c ≡ true → siblings cat c d ≡ true → goes_before cat x d ≡ true
  unfolding key_order
  before-onward k c d h g = elim (side (type_number x) (type_number d)) [
    | inside l ↦ before-less d l
    | outside l ↦
        let e : type_number x ≡ type_number c = omega (arith, before-le c h, siblings-le c d g) in
        let f : type_number c ≡ type_number d = omega (arith, before-le c h, siblings-le c d g) in
        let kc : key_kind cat c.code ≡ 1 = sym (ap (λ (n : ℕ). key_kind cat (code n)) e) ∙ k in
        let a : key_order cat x c ≡ Less = smaller-is (key_order cat x c) (sym (before_same c e) ∙ h) in
        let b : value_order (key_value cat x.code) (key cat c) (key cat d) ≡ Less = ap (λ (n : ℕ). value_order (key_value cat (code n)) (key cat c) (key cat d)) e ∙ twins-ascend c d kc f g in
        before_same d (e ∙ f) ∙ ap is_lt (value-transitive (key_value cat x.code) (key cat x) (key cat c) (key cat d) a b)
  ]

  module _ (c : Segment) where
    -- the cases of stands_to
    pub stands-more : type_number c < type_number x → Greater ≡ stands_to cat x c
    unfolding stands_to
    stands-more l = rw (lt-ltb (type_number c) (type_number x) l)

    pub stands-twin : type_number x ≡ type_number c → key_order cat x c ≡ stands_to cat x c
    unfolding stands_to
    stands-twin e = rw (le-ltb (type_number c) (type_number x) (omega arith), eq-eqb (type_number c) (type_number x) (sym e))

    module _ (l : type_number x < type_number c) where
      pub stands-deep : segment_level cat x < segment_level cat c → Greater ≡ stands_to cat x c
      unfolding stands_to
      stands-deep h =
          rw (le-ltb (type_number c) (type_number x) (omega arith), ne_eqb (type_number c) (type_number x) (λ e. omega arith), lt-ltb (segment_level cat x) (segment_level cat c) h)

      pub stands-less : segment_level cat c ≤ segment_level cat x → Less ≡ stands_to cat x c
      unfolding stands_to
      stands-less h =
          rw (le-ltb (type_number c) (type_number x) (omega arith), ne_eqb (type_number c) (type_number x) (λ e. omega arith), le-ltb (segment_level cat x) (segment_level cat c) h)

    -- Smaller: x goes before it, or it is deeper
    before_stands : segment_level cat c ≤ segment_level cat x → goes_before cat x c ≡ is_lt (stands_to cat x c)
    before_stands h = elim (against (type_number x) (type_number c)) [
      | less l ↦ before-less c l ∙ ap is_lt (stands-less l h)
      | same e ↦ before_same c e ∙ ap is_lt (stands-twin e)
      | more l ↦ before_more c l ∙ ap is_lt (stands-more l)
    ]

    deep-stands : segment_level cat x < segment_level cat c → Greater ≡ stands_to cat x c
    deep-stands h = elim (against (type_number x) (type_number c)) [
      | less l ↦ stands-deep l h
      | same e ↦ absurd (omega (arith, same-level c e))
      | more l ↦ stands-more l
    ]

    -- in a row no cell is less deep than x, and x passes those to which it does not stand Smaller
    pub passes-stands : segment_level cat x ≤ segment_level cat c → passes (segment_level cat) x (goes_before cat x) c ≡ not (is_lt (stands_to cat x c))
    passes-stands h = elim (side (segment_level cat x) (segment_level cat c)) [
      | inside l ↦ pass-deep (segment_level cat) x (goes_before cat x) c l ∙ ap (λ (o : Ordering). not (is_lt o)) (deep-stands l)
      | outside l ↦ pass_same (segment_level cat) x (goes_before cat x) c (omega arith) ∙ ap not (before_stands l)
    ]

    -- Equal: c is a twin with its key
    pub key-stands : same_key cat x c ≡ is_eq (stands_to cat x c)
    key-stands = elim (against (type_number x) (type_number c)) [
      | less l ↦ key-other c (λ e. omega arith) ∙ elim (side (segment_level cat x) (segment_level cat c)) [
        | inside h ↦ ap is_eq (stands-deep l h)
        | outside h ↦ ap is_eq (stands-less l h)
      ]
      | same e ↦ key-same c e ∙ ap is_eq (stands-twin e)
      | more l ↦ key-other c (λ e. omega arith) ∙ ap is_eq (stands-more l)
    ]
