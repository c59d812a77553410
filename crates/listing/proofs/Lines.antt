-- The listing's call on sound blocks, its line in the buffer, and the lines one behind the other. Assumes nothing.
use Rattle.terms.specs.declared.CellNumber.{CellNumber}
use Rattle.terms.specs.Names.{Parentage}
use Rattle.std.specs.Prelude.{Some, None, Option}
use mathlib.Core.Path.{◌≡◌, refl, ap, sym, ◌∙◌}
use mathlib.Core.Bool.{Bool, true, false}
use mathlib.Core.List.{List, [], ◌++◌}
use Prim.Native.Nat.{ℕ, suc, ◌+◌, ◌-◌, ◌<◌, ◌≤◌}
use native.Mathlib.Omega.{arith}
use lib.Dec.{ltb, leb}
use lib.ListN.{length, take, drop, replicate}
use lib.Seq.{take_at}
use borrow.Author.Tests.{lt-ltb, le-ltb, le-leb}
use Rattle.terms.specs.declared.Position.{Position}
use Rattle.terms.specs.declared.Status.{Status}
use Rattle.terms.specs.declared.Status.TheVariants.{Blank, CX, TX}
use Rattle.terms.specs.declared.Answer.{Answer}
use Rattle.terms.specs.Choice.{pick}
use Rattle.terms.specs.Statuses.{number}
use Rattle.terms.specs.Moves.{after_place, fresh}
use Rattle.forest.specs.Good.{on, off, is}
use Rattle.rules.specs.Block.{Bytes, byte}
use Rattle.rules.specs.Catalogue.{good_catalogue}
use Rattle.rules.specs.Cells.{Segment, long as segment_long}
use Rattle.rules.specs.Table.{count, cell_size, listing, good_table}
use Rattle.rules.specs.Position.{good_position}
use Rattle.rules.specs.Arguments.{Level, ListRead, list_read, get_levels}
use Rattle.rules.specs.Matching.{first_match}
use Rattle.rules.specs.Calls.{After, refused, answer_of, gotten, get_next}
use Rattle.rules.specs.Outcome.{Outcome, unsound, misused, stopped, unless, after_call, outcome_of, outcome, landed, check_catalogue, check_table}
use Rattle.rules.specs.Listing.{cell_line, last_line, lines_from, listing_text}
use Rattle.rules.proofs.Cells.{listing-length}
use Rattle.encoding.specs.Determined.{IsBytes}
use Rattle.encoding.proofs.Lists.{bytes-zeros}
use Rattle.model.specs.Kept.{Kept}
use Rattle.model.proofs.Kept.{tables-stay-good}
use Rattle.model.proofs.Session.{sound-same}
use Rattle.catalogue.proofs.Hierarchy.{cell-most}
use Rattle.arguments.proofs.Sound.{list-empty}
use Rattle.cells.specs.Sound.{Sound}
use Rattle.answers.specs.Ready.{SoundFor, Ready, made, left}
use Rattle.gets.proofs.Found.{first-in}
use Rattle.gets.proofs.Gotten.{data-fits}
use Rattle.dli.proofs.Calls.{sound-blocks, did-next}
use Rattle.listing.specs.declared.Line.{Line}
use Rattle.listing.specs.Written.{Wrote}
use Rattle.listing.specs.Lines.{issued, ends_listing, line_of, Listed, listing_refusal}
use Rattle.listing.proofs.Written.{written_is, wrote_as}

abbrev zero_area : Bytes
zero_area = replicate 120 0

module _ (cat tab : Bytes) (pos : Position) (f : SoundFor cat tab pos) where
  abbrev cs : List Segment
  cs = listing cat tab

  abbrev ls : List Level
  ls = get_levels cat [] (list_read cat []).arguments

  abbrev got : After
  got = get_next cat cs pos zero_area false ls

  blocks-sound : (size : ℕ) → size ≡ byte tab 5 → Sound cat tab size
  blocks-sound size e = sound-blocks cat tab pos 2 [] zero_area f size e

  pub size_small : byte tab 5 ≤ 121
  size_small = (blocks-sound (byte tab 5) refl).sized.narrow

  pub list-ready : Ready cat tab (byte tab 5) pos []
  list-ready = record {
    sound = blocks-sound (byte tab 5) refl;
    position = f.position;
    asked = ap (λ (l : ListRead). l.fault) (list-empty cat [] refl);
  }

  -- nothing is wrong with what the listing asks
  asked-blank : Blank ≡ misused cat pos 2 [] zero_area
  unfolding misused
  asked-blank = rw (list-empty cat [] refl, le-ltb 120 (cell_size cat - 1) (omega (arith, cell-most cat f.catalogue)))

  -- so the call is the get itself
  issued-is : landed cat tab got ≡ issued cat tab pos
  issued-is =
      did-next cat tab pos 2 [] zero_area f Blank 0 asked-blank refl refl refl
      ∙ sym (sound-same cat tab pos f.catalogue f.table f.position 2 [] zero_area)

  found-short : (miss : Status) (status : ℕ → Status) (parentage : ℕ → Parentage) (k : Option CellNumber) → first_match cat cs ls (after_place pos.place) (length cs) ≡ k
      → (gotten cat cs pos zero_area miss status parentage false k).answer.length ≤ 120
  unfolding answer_of segment_long
  found-short miss status parentage None e = omega arith
  found-short miss status parentage (Some c) e =
      let l : c.0 < count tab = omega (arith, first-in cat cs ls (after_place pos.place) (length cs) c e, listing-length cat tab) in
      omega (arith, data-fits (blocks-sound (byte tab 5) refl) c.0 l, size_small)

  got-short : got.answer.length ≤ 120
  unfolding get_next
  got-short = found-short _ _ _ (first_match cat cs ls (after_place pos.place) (length cs)) refl

  kept : IsBytes tab → Kept cat tab zero_area 2 (issued cat tab pos)
  kept b = tables-stay-good cat tab pos 2 [] zero_area f.catalogue b (bytes-zeros 120) f.table f.position

  -- r and area are what the get answered and wrote
  module _ (r : Answer) (area : Bytes) (e : left r area ≡ got) where
    made-is : made r tab area ≡ issued cat tab pos
    made-is = ap (landed cat tab) e ∙ issued-is

    pub answer-short : r.length ≤ 120
    answer-short = omega (arith, ap (λ (a : After). a.answer.length) e, got-short)

    module _ (b : IsBytes tab) where
      sound-next : SoundFor cat tab r.position
      sound-next = record {
        catalogue = f.catalogue;
        table = f.table;
        position = ap (λ (o : Outcome). good_position cat (listing cat o.table) o.answer.position) made-is ∙ (kept b).position;
      }

      module _ (n : ℕ) (h : n ≡ number r.status) (before : Bytes) (end : ℕ) (after : Bytes) (fits : end ≤ length after) where
        pub listed-line : Wrote 0 (pick (leb 10 n) (last_line r.status) (cell_line r area)) before end after
            → Listed cat tab pos before (record { position = r.position; long = end; done = leb 10 n }) after
        unfolding line_of
        listed-line w =
            let d : leb 10 n ≡ ends_listing (made r tab area) = ap (leb 10) h in
            record {
              position = ap (λ (o : Outcome). o.answer.position) made-is;
              done = d ∙ ap ends_listing made-is;
              text = wrote_as w (ap (λ (b : Bool). pick b (last_line r.status) (cell_line r area)) d ∙ ap line_of made-is);
              fits = fits;
              sound = sound-next;
            }

lines-stop : (cat tab : Bytes) (pos : Position) (k : ℕ) → ends_listing (issued cat tab pos) ≡ true
    → lines_from (suc k) cat tab pos ≡ last_line (issued cat tab pos).answer.status
unfolding lines_from
lines-stop cat tab pos k q = rw (lines_from, q)

-- LAW: the bytes in front of the buffer are the line, and the lines one behind the other are the text
module _ {cat tab : Bytes} {pos : Position} {before : Bytes} {r : Line} {after : Bytes} (l : Listed cat tab pos before r after) where
  line-bytes : take r.long after ≡ line_of (issued cat tab pos)
  line-bytes =
      let t : Bytes = line_of (issued cat tab pos) in
      let n : length t ≡ r.long = omega (arith, l.text.place) in
      let m : 0 + length t ≤ length before = omega (arith, l.text.long, l.fits) in
      ap (take r.long) (l.text.bytes ∙ written_is 0 t before m) ∙ take_at t (drop (0 + length t) before) r.long n

  pub lines-last : (k : ℕ) → r.done ≡ true → lines_from (suc k) cat tab pos ≡ take r.long after
  unfolding lines_from line_of
  lines-last k d =
      let q : ends_listing (issued cat tab pos) ≡ true = sym l.done ∙ d in
      rw (line-bytes, lines_from, q)

  pub lines_next : (k : ℕ) → r.done ≡ false → lines_from (suc k) cat tab pos ≡ take r.long after ++ lines_from k cat tab r.position
  unfolding lines_from line_of
  lines_next k d =
      let q : ends_listing (issued cat tab pos) ≡ false = sym l.done ∙ d in
      rw (line-bytes, l.position, lines_from, q)

-- what is refused, test by test
module _ (cat tab : Bytes) where
  module _ (s : Status) (n : ℕ) (e : s ≡ check_catalogue cat) (h : n ≡ number s) where
    pub refused-first : (n ≡ 0 → ⊥) → s ≡ listing_refusal cat tab
    unfolding listing_refusal check_catalogue
    refused-first z = elim (is (good_catalogue cat)) [
      | on g ↦ (let y : s ≡ Blank = rw g at e in absurd (z (h ∙ ap number y)))
      | off g ↦ (let y : s ≡ CX = rw g at e in rw g y)
    ]

    good-first : n ≡ 0 → good_catalogue cat ≡ true
    unfolding check_catalogue
    good-first z = elim (is (good_catalogue cat)) [
      | on g ↦ g
      | off g ↦ (let y : s ≡ CX = rw g at e in absurd (omega (arith, ap number y)))
    ]

    pub refused-long : n ≡ 0 → 65536 < length tab → TX ≡ listing_refusal cat tab
    unfolding listing_refusal
    refused-long z l = rw (good-first z, lt-ltb 65536 (length tab))

    pub refused-table : n ≡ 0 → length tab ≤ 65536 → (t : Status) → t ≡ check_table cat tab → t ≡ listing_refusal cat tab
    unfolding listing_refusal
    refused-table z l t y = rw (good-first z, le-ltb 65536 (length tab)) y

  table-refused : good_catalogue cat ≡ true → good_table cat tab ≡ false → issued cat tab fresh ≡ landed cat tab (refused TX fresh zero_area)
  unfolding outcome outcome_of after_call unless unsound stopped
  table-refused g t = rw (g, t)

  first-refused : good_catalogue cat ≡ true → good_table cat tab ≡ false → (k : ℕ) → lines_from (suc k) cat tab fresh ≡ last_line TX
  first-refused g t k =
      let o = table-refused g t in
      lines-stop cat tab fresh k (ap ends_listing o) ∙ ap (λ (x : Outcome). last_line x.answer.status) o

  -- LAW: a refusal is the whole text
  pub listing-refused : (number (listing_refusal cat tab) ≡ 0 → ⊥) → listing_text cat tab ≡ last_line (listing_refusal cat tab)
  unfolding listing_refusal listing_text check_table
  listing-refused z = elim (is (good_catalogue cat)) [
    | off g ↦ rw g
    | on g ↦ elim (is (ltb 65536 (length tab))) [
      | on l ↦ rw (g, l)
      | off l ↦ elim (is (good_table cat tab)) [
        | off t ↦ rw (g, l, t) (first-refused g t (count tab))
        | on t ↦ absurd (z (rw (g, l, t)))
      ]
    ]
  ]

  -- LAW: otherwise the text is the lines from a fresh position on, which is sound
  pub listing-starts : number (listing_refusal cat tab) ≡ 0 → (listing_text cat tab ≡ lines_from (suc (count tab)) cat tab fresh) × SoundFor cat tab fresh
  unfolding listing_refusal listing_text check_table good_position
  listing-starts z = elim (is (good_catalogue cat)) [
    | off g ↦ absurd (let y : 20 ≡ 0 = rw g at z in omega arith)
    | on g ↦ elim (is (ltb 65536 (length tab))) [
      | on l ↦ absurd (let y : 21 ≡ 0 = rw (g, l) at z in omega arith)
      | off l ↦ elim (is (good_table cat tab)) [
        | off t ↦ absurd (let y : 21 ≡ 0 = rw (g, l, t) at z in omega arith)
        | on t ↦ (rw (g, l), record { catalogue = g; table = t; position = rw (le-leb 0 (length (listing cat tab)) (omega arith)) })
      ]
    ]
  ]
