-- Where a cell begins: within the slice, and where the rules say. Only this file looks into `start_of`. Assumes nothing.
use mathlib.Core.Path.{◌≡◌, refl, ap}
use mathlib.Core.Bool.{true, ◌&&◌}
use Prim.Native.Nat.{ℕ, suc, ◌+◌, ◌*◌, ◌<◌, ◌≤◌}
use native.Mathlib.Nat.{mul-le-mul_right, add-mul}
use native.Mathlib.Omega.{arith}
use lib.Dec.{leb, eqb}
use lib.ListN.{length}
use borrow.Author.Tests.{leb-true, eqb-true}
use Rattle.forest.specs.Good.{both_left, both_right}
use Rattle.rules.specs.Block.{Bytes}
use Rattle.rules.specs.Catalogue.{good_catalogue}
use Rattle.rules.specs.Table.{count, cell_size, cell_start, room, good_room}
use Rattle.cells.specs.Lent.{Sized, Inside, start_of}
use Rattle.cells.proofs.Entries.{largest-some, largest-few}

-- cells follow each other without a gap
pub start-next : (tab : Bytes) (size i : ℕ) → start_of tab size (suc i) ≡ start_of tab size i + size
unfolding start_of
start-next tab size i = omega (arith, add-mul i 1 size)

-- what the code works out
pub start-made : (tab : Bytes) (size i : ℕ) → 8 + i * size ≡ start_of tab size i
unfolding start_of
start-made tab size i = refl

pub start_is : {cat tab : Bytes} {size : ℕ} → Sized cat tab size → (i : ℕ) → start_of tab size i ≡ cell_start cat i
unfolding start_of cell_start
start_is s i = ap (λ (n : ℕ). 8 + i * n) s.is

pub inside-sized : {cat tab : Bytes} {size : ℕ} → Sized cat tab size → Inside tab size (count tab)
inside-sized s = record { few = s.few; some = omega (arith, s.some); narrow = s.narrow; within = s.within }

module _ {tab : Bytes} {size n : ℕ} (s : Inside tab size n) (i : ℕ) where
  -- so many cells as lie within the slice
  pub inside-less : i ≤ n → Inside tab size i
  unfolding start_of
  inside-less l =
      let m : i * size ≤ n * size = mul-le-mul_right size l in
      record { few = omega (arith, s.few); some = s.some; narrow = s.narrow; within = omega (arith, s.within) }

-- a cell lies whole within the slice
pub start-in : {tab : Bytes} {size n : ℕ} → Inside tab size n → (i : ℕ) → i < n → start_of tab size i + size ≤ length tab
start-in {tab} {size} s i l = omega (arith, start-next tab size i, (inside-less s (suc i) (omega arith)).within)

-- so many cells as the slice has room for
module _ (cat tab : Bytes) {size : ℕ} (e : size ≡ cell_size cat) (g : good_catalogue cat ≡ true) (h : good_room cat tab ≡ true) where
  pub inside-room : Inside tab size (room cat tab)
  unfolding start_of cell_start cell_size good_room
  inside-room =
      let end : ℕ = cell_start cat (room cat tab) in
      let q = both_left (leb 8 (length tab) && eqb (length tab) end) (leb (room cat tab) 4096) h in
      let w : length tab ≡ 8 + room cat tab * cell_size cat = eqb-true (length tab) end (both_right (leb 8 (length tab)) (eqb (length tab) end) q) in
      let z : room cat tab * size ≡ room cat tab * cell_size cat = ap (λ (n : ℕ). room cat tab * n) e in
      record {
        few = leb-true (room cat tab) 4096 (both_right (leb 8 (length tab) && eqb (length tab) end) (leb (room cat tab) 4096) h);
        some = omega (arith, largest-some cat g);
        narrow = omega (arith, largest-few cat g);
        within = omega arith;
      }

  -- the cells in use are among them
  pub room-sized : count tab ≤ room cat tab → Sized cat tab size
  unfolding start_of cell_size
  room-sized l =
      let s = inside-less inside-room (count tab) l in
      record { header = omega (arith, s.within); is = e; some = omega (arith, largest-some cat g); narrow = s.narrow; few = s.few; within = s.within }
