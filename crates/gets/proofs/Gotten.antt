-- The gets, branch by branch: what was found or not, and its status. Assumes nothing.
use Rattle.std.specs.Prelude.{Some, None, Option}
use mathlib.Core.Path.{◌≡◌, refl, ap, sym, ◌∙◌}
use mathlib.Core.Bool.{Bool, true, false}
use mathlib.Core.List.{List, [], ◌∷◌, ◌++◌}
use Prim.Native.Nat.{ℕ, suc, ◌-◌, ◌<◌, ◌≤◌}
use native.Mathlib.Omega.{arith}
use lib.Dec.{ltb}
use lib.ListN.{length, drop}
use borrow.Author.Tests.{ltb-true, ltb-false}
use Rattle.terms.specs.declared.TypeCode.{TypeCode}
use Rattle.terms.specs.declared.CellNumber.{CellNumber}
use Rattle.terms.specs.declared.Place.{Place}
use Rattle.terms.specs.declared.Position.{Position}
use Rattle.terms.specs.declared.Status.{Status}
use Rattle.terms.specs.declared.Status.TheVariants.{Blank, GB, GE}
use Rattle.terms.specs.declared.Answer.{Answer}
use Rattle.terms.specs.Choice.{pick}
use Rattle.terms.specs.Names.{cell, Parentage}
use Rattle.terms.specs.Moves.{after_place, is_absent, moved_onto}
use Rattle.rules.specs.Block.{Bytes, part}
use Rattle.rules.specs.Catalogue.{length_of}
use Rattle.rules.specs.Cells.{Segment, segment, shown_bytes, long as segment_long, end_at}
use Rattle.rules.specs.Table.{count, listing}
use Rattle.rules.specs.Arguments.{Level, ListRead, list_read, last_argument, complete, get_levels}
use Rattle.rules.specs.Matching.{first_match, along}
use Rattle.rules.specs.Calls.{over, bare, after_miss, answer_of, miss_status, level_status, get_unique, get_next, get_next_within}
use Rattle.rules.proofs.Cells.{listing-length}
use Rattle.catalogue.proofs.Hierarchy.{type-range, cell_holds, level-least}
use Rattle.cells.specs.Sound.{Sound}
use Rattle.cells.proofs.Located.{end-within}
use Rattle.cells.proofs.Data.{data-long}
use Rattle.cells.proofs.Ancestry.{sound-known, sound-data, sound-part}
use Rattle.arguments.specs.Sound.{SoundList}
use Rattle.arguments.proofs.Sound.{list-empty, last-asks}
use Rattle.arguments.proofs.Complete.{complete-length}
use Rattle.search.specs.Good.{Good, Beneath}
use Rattle.search.proofs.Branches.{first-none, all-match, known-last}
use Rattle.search.proofs.Levels.{get-levels}
use Rattle.gets.proofs.Found.{parent_in, around}
use Rattle.answers.specs.Told.{told}
use Rattle.answers.specs.Ready.{Ready, left, got_at}

-- a cell's data lies within the cell
pub data-fits : {cat tab : Bytes} {size : ℕ} → Sound cat tab size → (i : ℕ) → i < count tab → suc (length_of cat (segment (listing cat tab) i).code) ≤ size
data-fits {cat} {tab} {size} s i l =
    let r = type-range cat (segment (listing cat tab) i).code (sound-known s i l) in
    omega (arith, cell_holds cat s.catalogue (segment (listing cat tab) i).code r.0 r.1, s.sized.is)

-- what a get writes, once cell i is found: `from` are the bytes that are put over the front of the area
module _ {cat tab : Bytes} {size i : ℕ} (snd : Sound cat tab size) (l : i < count tab) {t : TypeCode} (g : t ≡ (segment (listing cat tab) i).code)
    {long : ℕ} (f : long ≡ length_of cat t) {from : Bytes} (b : from ≡ part (segment (listing cat tab) i).bytes (1 - 1) long) (area : Bytes) where
  pub got-fits : size ≤ suc (length area) → length from ≤ length area
  got-fits m = omega (arith, ap length b, data-long (sound-data snd l g f), f ∙ ap (length_of cat) g, data-fits snd i l)

  pub shown-is : {out : Bytes} → out ≡ from ++ drop (length from) area → out ≡ over (shown_bytes cat (segment (listing cat tab) i)) area
  unfolding shown_bytes
  shown-is o = rw (o, b ∙ sound-part snd l g f)

-- what a get answers, once cell i is found and shown
pub got-is : (cat tab : Bytes) (i : ℕ) (s : Status) (parentage : Parentage) (hold : Bool) (area : Bytes)
    {t : TypeCode} {out : Bytes} {r : Answer} {p : Position} → t ≡ (segment (listing cat tab) i).code → out ≡ over (shown_bytes cat (segment (listing cat tab) i)) area
    → p ≡ moved_onto i parentage hold → r ≡ told cat s p t 0 → left r out ≡ got_at cat (listing cat tab) s parentage hold i area
unfolding told answer_of segment_long
got-is cat tab i s parentage hold area g o h k = rw (o, k, h, g)

module _ {cat tab : Bytes} {size : ℕ} {pos : Position} {list : Bytes} (r : Ready cat tab size pos list) where
  abbrev cs : List Segment
  cs = listing cat tab

  abbrev ls : List Level
  ls = get_levels cat list (list_read cat list).arguments

  abbrev last : TypeCode
  last = (last_argument (list_read cat list).arguments).code

  sound-list : SoundList cat list
  sound-list = record { catalogue = r.sound.catalogue; read = r.asked }

  pub search-good : (t : TypeCode) → t ≡ last → Good cat tab list size t
  search-good t e = record {
    catalogue = r.sound.catalogue;
    table = r.sound.table;
    sized = r.sound.sized;
    sound = r.asked;
    known = rw e (known-last cat list sound-list);
  }

  -- where a search beneath p begins: the list is not empty
  pub search-beneath : (t : TypeCode) → t ≡ last → (length list ≡ 0 → ⊥) → (p : CellNumber) → pos.parentage ≡ Some p → (from : ℕ) → from ≡ after_place pos.place
      → Beneath cat tab t p.0 from
  search-beneath t e n p f from z =
      let k = type-range cat last (last-asks cat list sound-list (omega arith)).type in
      let a = around cat tab pos r.position p f in
      record {
        some = rw e k.0;
        cell = parent_in cat tab pos r.position p f;
        later = rw z a.0;
        most = rw z a.1;
      }

  levels-of : (t : TypeCode) → t ≡ last → complete cat list (list_read cat list).arguments t ≡ ls
  levels-of t e = rw e (sym (get-levels cat list (list_read cat list).arguments))

  levels-none : length list ≡ 0 → ls ≡ []
  levels-none e = ap (λ (l : ListRead). get_levels cat list l.arguments) (list-empty cat list e)

  levels-some : (length list ≡ 0 → ⊥) → 0 < length ls
  levels-some n =
      let a = last-asks cat list sound-list (omega arith) in
      let k = type-range cat last a.type in
      omega (
        arith,
        ap length (get-levels cat list (list_read cat list).arguments),
        complete-length cat list (list_read cat list).arguments last,
        level-least cat r.sound.catalogue last k.0 k.1,
      )

  miss-filled : (m : List Level) → 0 < length m → miss_status m ≡ GE
  miss-filled [] h = absurd (omega arith)
  miss-filled (l ∷ m) h = refl

  status-filled : (m : List Level) (q : Place) (i : ℕ) → 0 < length m → level_status cat cs m q i ≡ Blank
  status-filled [] q i h = absurd (omega arith)
  status-filled (l ∷ m) q i h = refl

  miss-empty : length list ≡ 0 → GB ≡ miss_status ls
  miss-empty e = sym (ap miss_status (levels-none e))

  -- an empty list has no levels
  pub next-empty : (area : Bytes) (hold : Bool) → length list ≡ 0 → get_next cat cs pos area hold [] ≡ get_next cat cs pos area hold ls
  next-empty area hold e = ap (get_next cat cs pos area hold) (sym (levels-none e))

  pub within-empty : (area : Bytes) (hold : Bool) → length list ≡ 0 → get_next_within cat cs pos area hold [] ≡ get_next_within cat cs pos area hold ls
  within-empty area hold e = ap (get_next_within cat cs pos area hold) (sym (levels-none e))

  pub miss-named : (length list ≡ 0 → ⊥) → GE ≡ miss_status ls
  miss-named n = sym (miss-filled ls (levels-some n))

  -- what is ready for any list is ready for an empty one, whose status is that of no levels
  pub ready-none : Ready cat tab size pos []
  ready-none = record { sound = r.sound; position = r.position; asked = ap (λ (l : ListRead). l.fault) (list-empty cat [] refl) }

  pub status-none : (i : ℕ) → length list ≡ 0 → level_status cat cs [] pos.place i ≡ level_status cat cs ls pos.place i
  status-none i e = ap (λ (l : List Level). level_status cat cs l pos.place i) (sym (levels-none e))

  module _ (i : ℕ) where
    pub status-named : (length list ≡ 0 → ⊥) → Blank ≡ level_status cat cs ls pos.place i
    status-named n = sym (status-filled ls pos.place i (levels-some n))

  module _ (area : Bytes) (hold : Bool) (t : TypeCode) (found : Option CellNumber) (te : t ≡ last) where
    module _ (e : found ≡ along cat cs (complete cat list (list_read cat list).arguments t) pos.place) where
      along-is : along cat cs ls pos.place ≡ found
      along-is = ap (λ (l : List Level). along cat cs l pos.place) (sym (levels-of t te)) ∙ sym e

      pub unique-found : (c : CellNumber) → found ≡ Some c → got_at cat cs Blank (Some c) hold c.0 area ≡ get_unique cat cs pos area hold ls
      unfolding get_unique
      unique-found c f = rw (along-is ∙ f)

      pub unique-missed : found ≡ None → left (bare GE (after_miss GE pos)) area ≡ get_unique cat cs pos area hold ls
      unfolding get_unique
      unique-missed f = rw (along-is ∙ f)

    module _ (from : ℕ) (fe : from ≡ after_place pos.place) (to : ℕ) (e : found ≡ first_match cat cs (complete cat list (list_read cat list).arguments t) from to) where
      first-is : first_match cat cs ls (after_place pos.place) to ≡ found
      first-is = ap (λ (l : List Level). first_match cat cs l (after_place pos.place) to) (sym (levels-of t te)) ∙ ap (λ (n : ℕ). first_match cat cs (complete cat list (list_read cat list).arguments t) n to) (sym fe) ∙ sym e

      pub next-found : (c : CellNumber) (s : Status) → to ≡ length cs → found ≡ Some c → s ≡ level_status cat cs ls pos.place c.0
          → got_at cat cs s (Some c) hold c.0 area ≡ get_next cat cs pos area hold ls
      unfolding get_next
      next-found c s n f z = rw (← n, first-is ∙ f, z)

      pub next-missed : (s : Status) → to ≡ length cs → found ≡ None → s ≡ miss_status ls → left (bare s (after_miss s pos)) area ≡ get_next cat cs pos area hold ls
      unfolding get_next
      next-missed s n f z = rw (← n, first-is ∙ f, z)

      pub within-found : (p c : CellNumber) (s : Status) → pos.parentage ≡ Some p → to ≡ end_at cat cs p.0 → found ≡ Some c → s ≡ level_status cat cs ls pos.place c.0
          → got_at cat cs s (Some p) hold c.0 area ≡ get_next_within cat cs pos area hold ls
      unfolding get_next_within
      within-found p c s x n f z = rw (x, ← n, first-is ∙ f, z)

      pub within-missed : (p : CellNumber) → pos.parentage ≡ Some p → to ≡ end_at cat cs p.0 → found ≡ None → left (bare GE (after_miss GE pos)) area ≡ get_next_within cat cs pos area hold ls
      unfolding get_next_within
      within-missed p x n f = rw (x, ← n, first-is ∙ f)

-- with an empty list the cell after the place is the match
module _ {cat tab : Bytes} {size : ℕ} {pos : Position} (r : Ready cat tab size pos []) (area : Bytes) (hold : Bool)
    (i : ℕ) (at : i ≡ after_place pos.place) (n : ℕ) (to : n ≡ count tab) where
  abbrev last_code : TypeCode
  last_code = (last_argument (list_read cat []).arguments).code

  no_code : last_code.0 ≡ 0
  no_code = ap (λ (l : ListRead). (last_argument l.arguments).code.0) (list-empty cat [] refl)

  to_end : n ≡ length (listing cat tab)
  to_end = to ∙ sym (listing-length cat tab)

  pub cell-found : (s : Status) → i < n → s ≡ level_status cat (listing cat tab) [] pos.place i
      → got_at cat (listing cat tab) s (Some (cell i)) hold i area ≡ get_next cat (listing cat tab) pos area hold []
  cell-found s l e =
      next-found r area hold last_code (Some (cell i)) refl i at n (all-match (search-good r last_code refl) i n no_code l) (cell i) s to_end refl
      (e ∙ status-none r i refl) ∙ sym (next-empty r area hold refl)

  pub cell-missed : n ≤ i → left (bare GB (after_miss GB pos)) area ≡ get_next cat (listing cat tab) pos area hold []
  cell-missed l =
      next-missed r area hold last_code None refl i at n
      (first-none cat (listing cat tab) (complete cat [] (list_read cat []).arguments last_code) i n l) GB to_end refl (miss-empty r refl)
      ∙ sym (next-empty r area hold refl)

pub cell-in-run : (cat tab : Bytes) (p i : ℕ) → p < count tab → ltb i (end_at cat (listing cat tab) p) ≡ true → i < count tab
cell-in-run cat tab p i k e = omega (arith, ltb-true i (end_at cat (listing cat tab) p) e, end-within cat (listing cat tab) p (omega (arith, listing-length cat tab)), listing-length cat tab)

-- GNP with an empty list: the cell after the place is the match, if it lies in the parentage's run
module _ {cat tab : Bytes} {size : ℕ} {pos : Position} (r : Ready cat tab size pos []) (area : Bytes) (hold : Bool)
    (i : ℕ) (at : i ≡ after_place pos.place) (p : CellNumber) (x : pos.parentage ≡ Some p) (b : Bool) (w : b ≡ ltb i (end_at cat (listing cat tab) p.0)) where
  abbrev no_type : TypeCode
  no_type = (last_argument (list_read cat []).arguments).code

  no-type : no_type.0 ≡ 0
  no-type = ap (λ (l : ListRead). (last_argument l.arguments).code.0) (list-empty cat [] refl)

  abbrev end : ℕ
  end = end_at cat (listing cat tab) p.0

  pub cell-within : (s : Status) → b ≡ true → s ≡ level_status cat (listing cat tab) [] pos.place i
      → got_at cat (listing cat tab) s (Some p) hold i area ≡ get_next_within cat (listing cat tab) pos area hold []
  cell-within s l e =
      within-found r area hold no_type (Some (cell i)) refl i at end
      (all-match (search-good r no_type refl) i end no-type (ltb-true i end (sym w ∙ l))) p (cell i) s x refl refl
      (e ∙ status-none r i refl) ∙ sym (within-empty r area hold refl)

  pub cell-outside : b ≡ false → left (bare GE (after_miss GE pos)) area ≡ get_next_within cat (listing cat tab) pos area hold []
  cell-outside l =
      within-missed r area hold no_type None refl i at end
      (first-none cat (listing cat tab) (complete cat [] (list_read cat []).arguments no_type) i end (ltb-false i end (sym w ∙ l))) p x refl refl
      ∙ sym (within-empty r area hold refl)

pub absent-not : (pos : Position) → pos.parentage ≡ None → is_absent pos.parentage ≡ false → ⊥
absent-not pos e h = let z : true ≡ false = rw e at h in let y : ◌≡◌ {A = ℕ} 1 0 = ap (λ (b : Bool). pick b 1 0) z in omega arith
