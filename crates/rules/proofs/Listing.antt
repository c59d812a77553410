-- Which files the listing program takes, by their length: laws, since a file of 65,537 bytes is dear to compute with. Assumes nothing.
use mathlib.Core.Path.{◌≡◌}
use mathlib.Core.Bool.{true, false}
use Prim.Native.Nat.{suc, ◌<◌, ◌≤◌}
use borrow.Author.Tests.{lt-ltb, le-ltb}
use lib.ListN.{length}
use Rattle.terms.specs.declared.Status.TheVariants.{CX, TX}
use Rattle.terms.specs.Moves.{fresh}
use Rattle.rules.specs.Block.{Bytes}
use Rattle.rules.specs.Catalogue.{good_catalogue}
use Rattle.rules.specs.Table.{count}
use Rattle.rules.specs.Listing.{last_line, lines_from, listing_text}

module _ (cat tab : Bytes) where
  -- CX comes first, whatever the table
  pub catalogue-first : good_catalogue cat ≡ false → listing_text cat tab ≡ last_line CX
  unfolding listing_text
  catalogue-first e = rw e

  -- R68: a file that is too long
  pub longer-file : good_catalogue cat ≡ true → 65536 < length tab → listing_text cat tab ≡ last_line TX
  unfolding listing_text
  longer-file e l = rw (e, lt-ltb 65536 (length tab) l)

  -- R68: a file that is not
  pub taken-file : good_catalogue cat ≡ true → length tab ≤ 65536 → listing_text cat tab ≡ lines_from (suc (count tab)) cat tab fresh
  unfolding listing_text
  taken-file e l = rw (e, le-ltb 65536 (length tab) l)
