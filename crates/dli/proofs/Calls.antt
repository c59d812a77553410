-- A call that is stopped, and a call that goes on: what each leaves is the promised outcome. Assumes nothing.
use mathlib.Core.Path.{◌≡◌, ap, sym, ◌∙◌}
use mathlib.Core.Bool.{Bool, true, false, false≢true}
use mathlib.Core.List.{List}
use Prim.Native.Nat.{ℕ, suc, ◌-◌, ◌<◌, ◌≤◌}
use native.Mathlib.Omega.{arith}
use lib.Dec.{leb, eqb}
use lib.ListN.{length}
use borrow.Author.Tests.{eq-eqb, ne_eqb, eqb-true, eqb-false}
use Rattle.terms.specs.declared.Position.{Position}
use Rattle.terms.specs.declared.Status.{Status}
use Rattle.terms.specs.Statuses.{number}
use Rattle.forest.specs.Good.{on, off, is, is_nil}
use Rattle.rules.specs.Block.{Bytes, byte}
use Rattle.rules.specs.Cells.{Segment}
use Rattle.rules.specs.Table.{cell_size, room, listing}
use Rattle.rules.specs.Arguments.{Level, ListRead, list_read, last_argument, get_levels, parent_levels}
use Rattle.rules.specs.Calls.{After, called, get_unique, get_next, get_next_within, insert, replace, delete}
use Rattle.rules.specs.Outcome.{is_isrt, is_dlet, is_gnp, is_held, landed, unsound, misused, stopped, unless, after_sound}
use Rattle.rules.specs.Outcome.{after_call, outcome_of, outcome, sound_outcome}
use Rattle.model.proofs.Asked.{Usable, usable-of, sound-of}
use Rattle.cells.specs.Sound.{Sound}
use Rattle.cells.proofs.Located.{good-housed, good-sized}
use Rattle.arguments.proofs.Sound.{list-empty}
use Rattle.answers.specs.Told.{stopped_answer}
use Rattle.answers.specs.Ready.{SoundFor, Ready, Held, made}
use Rattle.answers.proofs.Statuses.{blank-is}
use Rattle.dli.specs.Called.{Callable, Getting, called_after, called_outcome, get_of}

third : {c : ℕ} → c < 4 → 1 ≤ c → (c ≡ 1 → ⊥) → (c ≡ 2 → ⊥) → c ≡ 3
third l h n m = omega arith

last_get : {c : ℕ} → 4 ≤ c → c < 7 → (c ≡ 4 → ⊥) → (c ≡ 5 → ⊥) → c ≡ 6
last_get g l n m = omega arith

sixth : {c : ℕ} → 4 ≤ c → c < 7 → (c - 3 ≡ 1 → ⊥) → (c - 3 ≡ 2 → ⊥) → c ≡ 6
sixth g l n m = last_get g l (λ e. n (omega arith)) (λ e. m (omega arith))

-- a refusal or a miss, as the code answers it
stopped-made : (cat tab area : Bytes) (pos : Position) (s : Status) → made (stopped_answer s pos) tab area ≡ landed cat tab (stopped s pos area)
unfolding stopped
stopped-made cat tab area pos s = elim (is (leb 20 (number s))) [
  | on e ↦ rw e
  | off e ↦ rw e
]

unless_not : (s : Status) (pos : Position) (area : Bytes) (done : After) → (number s ≡ 0 → ⊥) → unless s pos area done ≡ stopped s pos area
unfolding unless
unless_not s pos area done n = rw (ne_eqb (number s) 0 n)

unless-done : (s : Status) (pos : Position) (area : Bytes) (done : After) → number s ≡ 0 → unless s pos area done ≡ done
unfolding unless
unless-done s pos area done e = rw (eq-eqb (number s) 0 e)

module _ (cat tab : Bytes) (pos : Position) (c : ℕ) (list area : Bytes) where
  abbrev cs : List Segment
  cs = listing cat tab

  abbrev ls : List Level
  ls = get_levels cat list (list_read cat list).arguments

  -- the check stops a call, or lets it go on
  pub call-stopped : (s : Status) (n : ℕ) → s ≡ unsound cat tab pos → n ≡ number s → (n ≡ 0 → ⊥) → made (stopped_answer s pos) tab area ≡ outcome cat tab pos c list area
  unfolding outcome outcome_of after_call
  call-stopped s n e h z =
      stopped-made cat tab area pos s ∙ ap (λ (t : Status). landed cat tab (stopped t pos area)) e
      ∙ sym (ap (landed cat tab) (unless_not (unsound cat tab pos) pos area (after_sound called cat tab pos c list area) (λ q. z (h ∙ ap number e ∙ q))))

  pub call-on : (s : Status) (n : ℕ) → s ≡ unsound cat tab pos → n ≡ number s → n ≡ 0 → sound_outcome cat tab pos c list area ≡ outcome cat tab pos c list area
  unfolding outcome outcome_of after_call sound_outcome
  call-on s n e h z = sym (ap (landed cat tab) (unless-done (unsound cat tab pos) pos area (after_sound called cat tab pos c list area) (sym (ap number e) ∙ sym h ∙ z)))

  pub call-sound : (s : Status) (n : ℕ) → s ≡ unsound cat tab pos → n ≡ number s → n ≡ 0 → SoundFor cat tab pos
  call-sound s n e h z =
      let k = sound-of cat tab pos (eq-eqb (number (unsound cat tab pos)) 0 (sym (ap number e) ∙ sym h ∙ z)) in
      record { catalogue = k.catalogue; table = k.table; position = k.position }

  -- the same for what is asked
  pub asked-stopped : (s : Status) (n : ℕ) → s ≡ misused cat pos c list area → n ≡ number s → (n ≡ 0 → ⊥) → made (stopped_answer s pos) tab area ≡ sound_outcome cat tab pos c list area
  unfolding sound_outcome after_sound
  asked-stopped s n e h z =
      stopped-made cat tab area pos s ∙ ap (λ (t : Status). landed cat tab (stopped t pos area)) e
      ∙ sym (ap (landed cat tab) (unless_not (misused cat pos c list area) pos area (called cat cs pos area (room cat tab) c list (list_read cat list).arguments) (λ q. z (h ∙ ap number e ∙ q))))

  next-is : c ≡ 2 → landed cat tab (get_next cat cs pos area false ls) ≡ called_outcome cat tab pos c list area
  unfolding called_outcome called_after called
  next-is k = rw k

  module _ (f : SoundFor cat tab pos) where
    pub five-in : 5 < length tab
    five-in = omega (arith, (good-housed cat tab f.table).whole)

    pub size_is : (size : ℕ) → size ≡ byte tab 5 → size ≡ cell_size cat
    size_is size e = e ∙ (good-housed cat tab f.table).told

    pub sound-blocks : (size : ℕ) → size ≡ byte tab 5 → Sound cat tab size
    sound-blocks size e = record { catalogue = f.catalogue; table = f.table; sized = rw (size_is size e) (good-sized cat tab f.catalogue f.table) }

    module _ (s : Status) (n : ℕ) (e : s ≡ misused cat pos c list area) (h : n ≡ number s) (z : n ≡ 0) where
      none : number (misused cat pos c list area) ≡ 0
      none = sym (ap number e) ∙ sym h ∙ z

      pub callable : (size : ℕ) → size ≡ byte tab 5 → Callable cat tab size pos c list area
      callable size w = record { sound = sound-blocks size w; position = f.position; asked = blank-is (misused cat pos c list area) none }

      pub did-call : called_outcome cat tab pos c list area ≡ sound_outcome cat tab pos c list area
      unfolding sound_outcome after_sound called_outcome called_after
      did-call = ap (landed cat tab) (sym (unless-done (misused cat pos c list area) pos area (called_after cat tab pos c list area) none))

      pub did-next : c ≡ 2 → landed cat tab (get_next cat cs pos area false ls) ≡ sound_outcome cat tab pos c list area
      did-next k = next-is k ∙ did-call

  -- the call itself
  module _ {size : ℕ} (k : Callable cat tab size pos c list area) where
    usable : Usable cat pos c list area
    usable = usable-of cat pos c list area (eq-eqb (number (misused cat pos c list area)) 0 (ap number k.asked))

    pub ready : Ready cat tab size pos list
    ready = record {
      sound = k.sound;
      position = k.position;
      asked = blank-is (list_read cat list).fault (eqb-true (number (list_read cat list).fault) 0 usable.read);
    }

    pub long-enough : is_dlet c ≡ false → size ≤ suc (length area)
    long-enough d = omega (arith, usable.long d, k.sound.sized.is)

    pub is-held : is_held c ≡ true → Held cat tab size pos
    is-held d = record { sound = k.sound; position = k.position; hold = usable.held d }

    pub has-list : is_isrt c ≡ true → 0 < length list
    has-list d = elim (is (eqb (length list) 0)) [
      | on q ↦ absurd (
          let e : length list ≡ 0 = eqb-true (length list) 0 q in
          let y : is_nil (list_read cat list).arguments ≡ true = ap (λ (l : ListRead). is_nil l.arguments) (list-empty cat list e) in
          false≢true (sym (usable.some d) ∙ y))
      | off q ↦ (let m : (length list ≡ 0) → ⊥ = eqb-false (length list) 0 q in omega arith)
    ]

    -- the three gets, and the three with hold
    pub getting : c < 4 → Getting cat tab size pos c list area
    getting l = record {
      ready = ready;
      long = long-enough (ne_eqb c 9 (λ e. omega arith));
      parent = λ n m. usable.parent (ap is_gnp (third l usable.first n m));
    }

    pub getting-hold : 4 ≤ c → c < 7 → Getting cat tab size pos (c - 3) list area
    getting-hold g l = record {
      ready = ready;
      long = long-enough (ne_eqb c 9 (λ e. omega arith));
      parent = λ n m. usable.parent (ap is_gnp (sixth g l n m));
    }

    pub got-plain : c < 4 → landed cat tab (get_of cat tab pos c list area false) ≡ called_outcome cat tab pos c list area
    unfolding called_outcome called_after called get_of
    got-plain l = elim (is (eqb c 1)) [
      | on e ↦ rw (eqb-true c 1 e)
      | off e ↦ elim (is (eqb c 2)) [
        | on f ↦ rw (eqb-true c 2 f)
        | off f ↦ rw (third l usable.first (eqb-false c 1 e) (eqb-false c 2 f))
      ]
    ]

    pub got-hold : 4 ≤ c → c < 7 → landed cat tab (get_of cat tab pos (c - 3) list area true) ≡ called_outcome cat tab pos c list area
    unfolding called_outcome called_after called get_of
    got-hold g l = elim (is (eqb c 4)) [
      | on e ↦ rw (eqb-true c 4 e)
      | off e ↦ elim (is (eqb c 5)) [
        | on f ↦ rw (eqb-true c 5 f)
        | off f ↦ (let x : c ≡ 6 = last_get g l (eqb-false c 4 e) (eqb-false c 5 f) in rw x)
      ]
    ]

    -- the three changes
    pub did-insert : c ≡ 7
        → (let ar = (list_read cat list).arguments in
        landed cat tab (insert cat cs pos area (room cat tab) (last_argument ar).code (parent_levels cat list ar)) ≡ called_outcome cat tab pos c list area)
    unfolding called_outcome called_after called
    did-insert e = rw e

    pub did-replace : c ≡ 8 → landed cat tab (replace cat cs pos area) ≡ called_outcome cat tab pos c list area
    unfolding called_outcome called_after called
    did-replace e = rw e

    pub is-nine : 7 ≤ c → (c ≡ 7 → ⊥) → (c ≡ 8 → ⊥) → c ≡ 9
    is-nine l n₇ n₈ = let u : c ≤ 9 = usable.last in omega arith

    pub did-delete : c ≡ 9 → landed cat tab (delete cat cs pos area) ≡ called_outcome cat tab pos c list area
    unfolding called_outcome called_after called
    did-delete e = rw e

-- the get of each form
module _ (cat tab : Bytes) (pos : Position) (form : ℕ) (list area : Bytes) (hold : Bool) where
  abbrev gs : List Level
  gs = get_levels cat list (list_read cat list).arguments

  pub of-unique : form ≡ 1 → get_unique cat (listing cat tab) pos area hold gs ≡ get_of cat tab pos form list area hold
  unfolding get_of
  of-unique e = rw e

  pub of-next : form ≡ 2 → get_next cat (listing cat tab) pos area hold gs ≡ get_of cat tab pos form list area hold
  unfolding get_of
  of-next e = rw e

  pub of-within : (form ≡ 1 → ⊥) → (form ≡ 2 → ⊥) → get_next_within cat (listing cat tab) pos area hold gs ≡ get_of cat tab pos form list area hold
  unfolding get_of
  of-within n m = rw (ne_eqb form 1 n, ne_eqb form 2 m)
