-- What the tests of a list of names say: that it fits its catalogue, how long both are then, and whether the names differ (R82). Assumes nothing.
use mathlib.Core.Path.{◌≡◌, ap, sym, ◌∙◌}
use mathlib.Core.Bool.{Bool, true, ◌&&◌}
use Prim.Native.Nat.{ℕ, ◌+◌, ◌-◌, ◌*◌}
use native.Mathlib.Omega.{arith}
use lib.ListN.{length}
use borrow.Author.Tests.{eqb-true}
use borrow.Rule.Slice.PartMut.{mid_of}
use Rattle.forest.specs.Numbers.{range}
use Rattle.rules.specs.Block.{Bytes, every}
use Rattle.rules.specs.Catalogue.{types, fields, good_catalogue}
use Rattle.rules.proofs.Joined.{six}
use Rattle.rules.proofs.Entries.{header-facts}
use Rattle.statements.specs.Draft.{rows, own_names}
use Rattle.statements.specs.Dbd.{name_at, good_name, distinct, good_names, differ}
use Rattle.dbd_given.proofs.Apart.{rows-tail}

-- the name at place i is good
abbrev pub good_at : Bytes → ℕ → Bool
good_at names i = good_name (name_at names i)

-- how long a good block and its list are
pub block-long : (cat : Bytes) → good_catalogue cat ≡ true → length cat ≡ 8 + 8 * types cat + 4 * fields cat
block-long cat g = (header-facts cat g).size

pub list-long : (cat names : Bytes) → good_names cat names ≡ true → length names ≡ 16 + 8 * types cat + 8 * fields cat
unfolding good_names
list-long cat names g = eqb-true (length names) (16 + 8 * types cat + 8 * fields cat) (six _ _ _ _ _ _ g).0

-- the names of the fields of type k differ
abbrev pub own_apart : Bytes → Bytes → ℕ → Bool
own_apart cat names k = distinct (own_names k (rows 4 cat (8 + 8 * types cat) (fields cat)) (rows 8 names (16 + 8 * types cat) (fields cat)))

-- the names of the segments, and then those of each type's fields
module _ (cat names : Bytes) (t : ℕ) (ts : t ≡ types cat) where
  segments : distinct (rows 8 names 16 (types cat)) ≡ distinct (rows 8 (mid_of 16 (length names - 16) names) 0 t)
  segments = sym (ap distinct (rows-tail 8 names 16 t ∙ ap (rows 8 names 16) ts))

  pub differ-tests : differ cat names ≡ (distinct (rows 8 (mid_of 16 (length names - 16) names) 0 t) && every (own_apart cat names) (range 1 (types cat)))
  unfolding differ
  differ-tests = rw segments

  pub distinct-own_apart : (f k entries own : ℕ) → f ≡ fields cat → entries ≡ 8 + 8 * t → own ≡ 16 + 8 * t
      → distinct (own_names k (rows 4 (mid_of entries (length cat - entries) cat) 0 f) (rows 8 (mid_of own (length names - own) names) 0 f))
      ≡ own_apart cat names k
  distinct-own_apart f k entries own fs e o =
      let a : entries ≡ 8 + 8 * types cat = omega arith in
      let b : own ≡ 16 + 8 * types cat = omega arith in
      rw (rows-tail 4 cat entries f, rows-tail 8 names own f, a, b, fs)
