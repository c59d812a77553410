-- Twins in the order of their keys: the order is transitive, a new segment sits where it is put, and a segment with the same key may take another's place.
-- Assumes nothing.
use Rattle.std.specs.declared.cmp.Ordering.{Ordering}
use Rattle.std.specs.declared.cmp.Ordering.TheVariants.{Equal, Greater, Less}
use mathlib.Core.Path.{◌≡◌, refl, ap, sym, ◌∙◌}
use mathlib.Core.Bool.{Bool, true, false, ◌&&◌, ◌||◌, not}
use mathlib.Core.List.{List, [], ◌∷◌, ◌++◌}
use Prim.Native.Nat.{ℕ, zero, suc, ◌-◌, ◌<◌, min}
use native.Mathlib.Omega.{arith}
use lib.Dec.{ltb, eqb}
use lib.ListN.{length, get_or, drop, length-take, length-drop, get_or-append}
use borrow.Author.Tests.{ltb-true, lt-ltb, le-ltb, eq-eqb, eqb-true}
use Rattle.terms.specs.declared.Position.{Position}
use Rattle.terms.specs.Choice.{pick}
use Rattle.terms.specs.Names.{code}
use Rattle.std.specs.Ordering.{is_lt, is_eq, is_gt}
use Rattle.forest.specs.Forest.{Forest, void, node, cells_of, inside, outside, side}
use Rattle.forest.specs.Good.{on, off, is, both_left, both_right, Next, Wf}
use Rattle.forest.specs.Edit.{size, edit, edit-in, edit-out, get_d_past}
use Rattle.forest.specs.Runs.{swap, size-node}
use Rattle.forest.specs.Keep.{Sits}
use Rattle.rules.specs.Block.{Bytes, same_bytes}
use Rattle.rules.specs.Order.{is_value, value_order}
use Rattle.rules.specs.Catalogue.{parent_of, length_of, key_kind, key_start, key_length, key_value, is_type}
use Rattle.rules.specs.Cells.{Segment, type_number, key, keyed, key_order, twin_order, same_key, is_child, siblings, goes_before, segment_level}
use Rattle.rules.specs.Tree.{has_key}
use Rattle.rules.proofs.Order.{turned}
use Rattle.rules.proofs.Values.{value-turned, value-transitive, value-left, value-right}
use Rattle.encoding.specs.Determined.{All, Fits}
use Rattle.model.proofs.Parents.{never}

pub all-front : {A : Type 0} (P : A → Type 0) (xs ys : List A) → All P (xs ++ ys) → All P xs
all-front P [] ys a = tt
all-front P (x ∷ xs) ys a = (a.0, all-front P xs ys a.1)

pub all_back : {A : Type 0} (P : A → Type 0) (xs ys : List A) → All P (xs ++ ys) → All P ys
all_back P [] ys a = a
all_back P (x ∷ xs) ys a = all_back P xs ys a.1

or_right : (a b : Bool) → (a || b) ≡ true → a ≡ false → b ≡ true
or_right true b e f = never true e f
or_right false b e f = e

or_left : (a b : Bool) → (a || b) ≡ false → a ≡ false
or_left true b e = e
or_left false b e = refl

or-second : (a b : Bool) → (a || b) ≡ false → b ≡ false
or-second true b e = never true refl e
or-second false b e = e

pub same_bytes_lem : (xs ys : Bytes) → same_bytes xs ys ≡ true → xs ≡ ys
unfolding same_bytes
same_bytes_lem [] [] e = refl
same_bytes_lem [] (y ∷ ys) e = never false e refl
same_bytes_lem (x ∷ xs) [] e = never false e refl
same_bytes_lem (x ∷ xs) (y ∷ ys) e = elim (is (eqb x y)) [
  | on h ↦
      let f : same_bytes xs ys ≡ true = rw (same_bytes, h) at e in
      ap (λ (z : ℕ). z ∷ xs) (eqb-true x y h) ∙ ap (◌∷◌ y) (same_bytes_lem xs ys f)
  | off h ↦ (let f : false ≡ true = rw (same_bytes, h) at e in never false f refl)
]

-- the order that a kind of key asks of twins
abbrev by_kind : ℕ → Ordering → Bool
by_kind k o = pick (eqb k 0) true (pick (eqb k 1) (is_lt o) (not (is_gt o)))

is-smaller : (o : Ordering) → is_lt o ≡ true → o ≡ Less
is-smaller Less e = refl
is-smaller Equal e = never false e refl
is-smaller Greater e = never false e refl

module _ (w : ℕ) (xs ys zs : Bytes) (a : length xs ≡ length ys) (b : length ys ≡ length zs) where
  rises : (o p : Ordering) → value_order w xs ys ≡ o → value_order w ys zs ≡ p → not (is_gt o) ≡ true → not (is_gt p) ≡ true
      → not (is_gt (value_order w xs zs)) ≡ true
  rises Greater p e f g h = never false g refl
  rises Less Greater e f g h = never false h refl
  rises Equal Greater e f g h = never false h refl
  rises Less Less e f g h = ap (λ (o : Ordering). not (is_gt o)) (value-transitive w xs ys zs e f)
  rises Less Equal e f g h = ap (λ (o : Ordering). not (is_gt o)) (sym (value-right w xs ys zs b f) ∙ e)
  rises Equal Less e f g h = ap (λ (o : Ordering). not (is_gt o)) (value-left w xs ys zs a e ∙ f)
  rises Equal Equal e f g h = ap (λ (o : Ordering). not (is_gt o)) (value-left w xs ys zs a e ∙ f)

  kind-trans : (k : ℕ) → by_kind k (value_order w xs ys) ≡ true → by_kind k (value_order w ys zs) ≡ true → by_kind k (value_order w xs zs) ≡ true
  kind-trans k e f = elim (is (eqb k 0)) [
    | on h ↦ rw h
    | off h ↦ elim (is (eqb k 1)) [
      | on q ↦
          let u : is_lt (value_order w xs ys) ≡ true = rw (h, q) at e in
          let v : is_lt (value_order w ys zs) ≡ true = rw (h, q) at f in
          rw (h, q) (ap is_lt (value-transitive w xs ys zs (is-smaller (value_order w xs ys) u) (is-smaller (value_order w ys zs) v)))
      | off q ↦
          let u : not (is_gt (value_order w xs ys)) ≡ true = rw (h, q) at e in
          let v : not (is_gt (value_order w ys zs)) ≡ true = rw (h, q) at f in
          rw (h, q) (rises (value_order w xs ys) (value_order w ys zs) refl refl u v)
    ]
  ]

-- behind a key that is not greater, and not the same where it is to be unique
kind-behind : (w k : ℕ) (xs ys : Bytes) → length xs ≡ length ys → is_lt (value_order w xs ys) ≡ false
    → (eqb k 1 ≡ true → is_eq (value_order w xs ys) ≡ false) → by_kind k (value_order w ys xs) ≡ true
kind-behind w k xs ys l e f = ap (by_kind k) (value-turned w xs ys l) ∙ go (value_order w xs ys) e f
  where
    go : (o : Ordering) → is_lt o ≡ false → (eqb k 1 ≡ true → is_eq o ≡ false) → by_kind k (turned o) ≡ true
    go Less e f = never true refl e
    go Greater e f = elim (is (eqb k 0)) [ on h ↦ rw h | off h ↦ elim (is (eqb k 1)) [ on q ↦ rw (h, q) | off q ↦ rw (h, q) ] ]
    go Equal e f = elim (is (eqb k 0)) [ on h ↦ rw h | off h ↦ elim (is (eqb k 1)) [ on q ↦ never true refl (f q) | off q ↦ rw (h, q) ] ]

kind-before : (k : ℕ) (o : Ordering) → is_lt o ≡ true → by_kind k o ≡ true
kind-before k o e = elim (is (eqb k 0)) [
  | on h ↦ rw h
  | off h ↦ elim (is (eqb k 1)) [
    | on q ↦ rw (h, q) e
    | off q ↦ rw (h, q) (ap (λ (p : Ordering). not (is_gt p)) (is-smaller o e))
  ]
]

-- how a sibling may stand behind another
data Stands (a b : ℕ) (t : Bool) : Type 0 where
  less : a < b → Stands a b t
  twin : a ≡ b → t ≡ true → Stands a b t

stands : (a b : ℕ) (t : Bool) → (ltb a b || (eqb a b && t)) ≡ true → Stands a b t
stands a b t e = elim (is (ltb a b)) [
  | on h ↦ less (ltb-true a b h)
  | off h ↦
      let f : (eqb a b && t) ≡ true = or_right (ltb a b) (eqb a b && t) e h in
      twin (eqb-true a b (both_left (eqb a b) t f)) (both_right (eqb a b) t f)
]

stood : (a b : ℕ) (t : Bool) → Stands a b t → (ltb a b || (eqb a b && t)) ≡ true
stood a b t s = elim s [ less l ↦ rw (lt-ltb a b l) | twin e h ↦ rw (le-ltb a b (omega arith), eq-eqb a b e, h) ]

module _ (cat : Bytes) where
  -- a segment with as many bytes as its type has
  abbrev pub sized : Segment → Bool
  sized s = eqb (length s.bytes) (length_of cat s.code)

  abbrev pub sized_child : ℕ → Segment → Bool
  sized_child p s = is_child cat p s && sized s

  pub fits-sized : (s : Segment) → Fits cat s → sized s ≡ true
  fits-sized s f = eq-eqb (length s.bytes) (length_of cat s.code) f.long

  -- well formed, and each segment has its length
  pub wf-sized : (p : ℕ) (f : Forest Segment) → All (Fits cat) (cells_of f) → Wf type_number (is_child cat) (siblings cat) p f
      → Wf type_number sized_child (siblings cat) p f
  wf-sized p void a w = tt
  wf-sized p (node c k s) a w = (
    rw (w.0, fits-sized c a.0),
    w.1,
    wf-sized (type_number c) k (all-front (Fits cat) (cells_of k) (cells_of s) a.1) w.2,
    wf-sized p s (all_back (Fits cat) (cells_of k) (cells_of s) a.1) w.3,
  )

  pub sized-wf : (p : ℕ) (f : Forest Segment) → Wf type_number sized_child (siblings cat) p f → Wf type_number (is_child cat) (siblings cat) p f
  sized-wf p void w = tt
  sized-wf p (node c k s) w = (both_left (is_child cat p c) (sized c) w.0, w.1, sized-wf (type_number c) k w.2, sized-wf p s w.3)

  key-size : (s : Segment) → sized s ≡ true → length (key cat s) ≡ min (key_length cat s.code) (length_of cat s.code - (key_start cat s.code - 1))
  unfolding key
  key-size s e =
      length-take (key_length cat s.code) (drop (key_start cat s.code - 1) s.bytes)
      ∙ ap (min (key_length cat s.code)) (length-drop (key_start cat s.code - 1) s.bytes
      ∙ ap (λ (n : ℕ). n - (key_start cat s.code - 1)) (eqb-true (length s.bytes) (length_of cat s.code) e))

  -- twins have keys of one length
  key-same : (c d : Segment) → type_number c ≡ type_number d → sized c ≡ true → sized d ≡ true → length (key cat c) ≡ length (key cat d)
  key-same c d e f g =
      key-size c f ∙ ap (λ (t : ℕ). min (key_length cat (code t)) (length_of cat (code t) - (key_start cat (code t) - 1))) e ∙ sym (key-size d g)

  twin-kind : (c d : Segment) → twin_order cat c d ≡ by_kind (key_kind cat c.code) (value_order (key_value cat c.code) (key cat c) (key cat d))
  unfolding twin_order key_order
  twin-kind c d = refl

  kind-same : (c d : Segment) → type_number c ≡ type_number d → key_kind cat c.code ≡ key_kind cat d.code
  kind-same c d e = ap (λ (t : ℕ). key_kind cat (code t)) e

  value_same : (c d : Segment) → type_number c ≡ type_number d
      → value_order (key_value cat c.code) (key cat c) (key cat d) ≡ value_order (key_value cat d.code) (key cat c) (key cat d)
  value_same c d e = ap (λ (t : ℕ). value_order (key_value cat (code t)) (key cat c) (key cat d)) e

  twin-trans : (a b c : Segment) → type_number a ≡ type_number b → type_number b ≡ type_number c → sized a ≡ true → sized b ≡ true → sized c ≡ true
      → twin_order cat a b ≡ true → twin_order cat b c ≡ true → twin_order cat a c ≡ true
  twin-trans a b c p q f g h e e' =
      twin-kind a c ∙ kind-trans (key_value cat a.code) (key cat a) (key cat b) (key cat c) (key-same a b p f g) (key-same b c q g h) (key_kind cat a.code)
      (sym (twin-kind a b) ∙ e)
      (ap (λ (t : ℕ). by_kind (key_kind cat (code t)) (value_order (key_value cat (code t)) (key cat b) (key cat c))) p ∙ sym (twin-kind b c) ∙ e')

  -- LAW: child types by their codes (R14), twins in order: what stands behind what stands behind a sibling stands behind it
  pub siblings-trans : (p : ℕ) (a b c : Segment) → sized_child p a ≡ true → sized_child p b ≡ true → sized_child p c ≡ true
      → siblings cat a b ≡ true → siblings cat b c ≡ true → siblings cat a c ≡ true
  siblings-trans p a b c f g h e e' =
      stood (type_number a) (type_number c) (twin_order cat a c)
      (elim (stands (type_number a) (type_number b) (twin_order cat a b) e) [
        | less l ↦ elim (stands (type_number b) (type_number c) (twin_order cat b c) e') [ less m ↦ less (omega arith) | twin q t ↦ less (omega arith) ]
        | twin q t ↦ elim (stands (type_number b) (type_number c) (twin_order cat b c) e') [
          | less m ↦ less (omega arith)
          | twin r u ↦ twin (q ∙ r)
              (twin-trans a b c q r (both_right (is_child cat p a) (sized a) f) (both_right (is_child cat p b) (sized b) g)
              (both_right (is_child cat p c) (sized c) h) t u)
        ]
      ])

  -- LAW: a new segment may stand before what it goes before, and behind what it does not go before
  stands-before : (x c : Segment) → goes_before cat x c ≡ true → siblings cat x c ≡ true
  unfolding goes_before key_order
  stands-before x c e =
      stood (type_number x) (type_number c) (twin_order cat x c)
      (elim (stands (type_number x) (type_number c) (is_lt (value_order (key_value cat x.code) (key cat x) (key cat c))) e) [
        | less l ↦ less l
        | twin q t ↦ twin q (twin-kind x c ∙ kind-before (key_kind cat x.code) (value_order (key_value cat x.code) (key cat x) (key cat c)) t)
      ])

  stands-behind : (x c : Segment) → sized x ≡ true → sized c ≡ true → (eqb (key_kind cat x.code) 1 ≡ true → same_key cat x c ≡ false)
      → goes_before cat x c ≡ false → siblings cat c x ≡ true
  unfolding goes_before same_key key_order
  stands-behind x c f g u e =
      let n : ltb (type_number x) (type_number c) ≡ false =
      or_left (ltb (type_number x) (type_number c))
      (eqb (type_number x) (type_number c) && is_lt (value_order (key_value cat x.code) (key cat x) (key cat c))) e in
      let k : (eqb (type_number x) (type_number c) && is_lt (value_order (key_value cat x.code) (key cat x) (key cat c))) ≡ false =
      or-second (ltb (type_number x) (type_number c))
      (eqb (type_number x) (type_number c) && is_lt (value_order (key_value cat x.code) (key cat x) (key cat c))) e in
      stood (type_number c) (type_number x) (twin_order cat c x)
      (elim (side (type_number c) (type_number x)) [
        | inside l ↦ less l
        | outside l ↦ elim (side (type_number x) (type_number c)) [
          | inside m ↦ never (ltb (type_number x) (type_number c)) (lt-ltb (type_number x) (type_number c) m) n
          | outside m ↦
              let q : type_number x ≡ type_number c = omega arith in
              let r : eqb (type_number x) (type_number c) ≡ true = eq-eqb (type_number x) (type_number c) q in
              twin (sym q)
              (twin-kind c x ∙ kind-behind (key_value cat c.code) (key_kind cat c.code) (key cat x) (key cat c) (key-same x c q f g)
              (sym (ap is_lt (value_same x c q)) ∙ rw r at k)
              (λ h. sym (ap is_eq (value_same x c q)) ∙ rw r at (u (ap (λ (t : ℕ). eqb t 1) (kind-same x c q) ∙ h))))
        ]
      ])

  module _ (cs : List Segment) (pos : Position) (area : Bytes) (x : Segment) (fits : Fits cat x) where
    has-none : (c : Segment) (k s : Forest Segment) → has_key cat cs x (node c k s) ≡ false → (same_key cat x c ≡ false) × (has_key cat cs x s ≡ false)
    unfolding has_key
    has-none c k s e = (or_left (same_key cat x c) (has_key cat cs x s) e, or-second (same_key cat x c) (has_key cat cs x s) e)

    -- LAW: so a new segment sits among its siblings, if no twin has a unique key of the same value
    pub sits-row : (f : Forest Segment) → All (Fits cat) (cells_of f) → (eqb (key_kind cat x.code) 1 ≡ true → has_key cat cs x f ≡ false)
        → Sits (segment_level cat) type_number (is_child cat) (siblings cat) x (goes_before cat x) f
    sits-row void a u = tt
    sits-row (node c k s) a u = (
      stands-before x c,
      stands-behind x c (fits-sized x fits) (fits-sized c a.0) (λ h. (has-none c k s (u h)).0),
      sits-row s (all_back (Fits cat) (cells_of k) (cells_of s) a.1) (λ h. (has-none c k s (u h)).1),
    )

  -- a segment of the same type with the same key
  module _ (x c : Segment) (e : type_number x ≡ type_number c) (h : key cat x ≡ key cat c) where
    abbrev stand : ℕ → ℕ → Bytes → Bytes → Bool
    stand a b xs ys = ltb a b || (eqb a b && by_kind (key_kind cat (code a)) (value_order (key_value cat (code a)) xs ys))

    stand_of : (a b : Segment) → siblings cat a b ≡ stand (type_number a) (type_number b) (key cat a) (key cat b)
    unfolding twin_order key_order
    stand_of a b = refl

    -- LAW: its key is a value where the other's is
    pub keyed-same : keyed cat x ≡ keyed cat c
    unfolding keyed
    keyed-same = ap (λ (t : ℕ). is_value (key_value cat (code t)) (key cat x)) e ∙ ap (is_value (key_value cat c.code)) h

    before_same : (b : Segment) → siblings cat c b ≡ true → siblings cat x b ≡ true
    before_same b s =
        stand_of x b ∙ ap (λ (t : ℕ). stand t (type_number b) (key cat x) (key cat b)) e
        ∙ ap (λ (v : Bytes). stand (type_number c) (type_number b) v (key cat b)) h ∙ sym (stand_of c b) ∙ s

    behind-same : (b : Segment) → siblings cat b c ≡ true → siblings cat b x ≡ true
    behind-same b s =
        stand_of b x ∙ ap (λ (t : ℕ). stand (type_number b) t (key cat b) (key cat x)) e
        ∙ ap (λ (v : Bytes). stand (type_number b) (type_number c) (key cat b) v) h ∙ sym (stand_of b c) ∙ s

    child-same : (p : ℕ) → is_child cat p c ≡ true → is_child cat p x ≡ true
    unfolding is_child
    child-same p s = ap (λ (t : ℕ). is_type cat (code t) && eqb (parent_of cat (code t)).0 p) e ∙ s

    next-same : (f : Forest Segment) → Next type_number (is_child cat) (siblings cat) c f → Next type_number (is_child cat) (siblings cat) x f
    next-same void n = tt
    next-same (node d k s) n = before_same d n

    next-swap : (d b : Segment) (i : ℕ) (f : Forest Segment) → i < size f → get_or (cells_of f) i d ≡ c → Next type_number (is_child cat) (siblings cat) b f
        → Next type_number (is_child cat) (siblings cat) b (swap (segment_level cat) x i f)
    unfolding edit
    next-swap d b i void l q n = tt
    next-swap d b zero (node a k s) l q n = behind-same b (ap (siblings cat b) (sym q) ∙ n)
    next-swap d b (suc i) (node a k s) l q n = elim (side i (size k)) [
      | inside m ↦ rw (edit-in (λ y z. node x z void) i a k s m) n
      | outside m ↦ rw (edit-out (λ y z. node x z void) i a k s m) n
    ]

    -- LAW: it may take the other's place
    pub wf-swap : (d : Segment) (i p : ℕ) (f : Forest Segment) → i < size f → get_or (cells_of f) i d ≡ c → Wf type_number (is_child cat) (siblings cat) p f
        → Wf type_number (is_child cat) (siblings cat) p (swap (segment_level cat) x i f)
    unfolding edit
    wf-swap d i p void l q w = tt
    wf-swap d zero p (node a k s) l q w =
        (child-same p (ap (is_child cat p) (sym q) ∙ w.0), next-same s (rw q at w.1), rw (e ∙ ap type_number (sym q)) w.2, w.3)
    wf-swap d (suc i) p (node a k s) l q w = elim (side i (size k)) [
      | inside m ↦ rw (edit-in (λ y z. node x z void) i a k s m)
          (w.0, w.1, wf-swap d i (type_number a) k m (sym (get_or-append (cells_of k) (cells_of s) d i m) ∙ q) w.2, w.3)
      | outside m ↦
          let b : i - size k < size s = omega (arith, size-node a k s) in
          let r : get_or (cells_of s) (i - size k) d ≡ c = sym (get_d_past (cells_of k) (cells_of s) i d m) ∙ q in
          rw (edit-out (λ y z. node x z void) i a k s m) (w.0, next-swap d a (i - size k) s b r w.1, w.2, wf-swap d (i - size k) p s b r w.3)
    ]
