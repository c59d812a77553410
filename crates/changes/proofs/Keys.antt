-- The key of a cell and the key in the area, as REPL compares them. Assumes nothing.
use mathlib.Core.Path.{◌≡◌, refl, sym, ◌∙◌, ap₂}
use mathlib.Core.Bool.{true}
use Prim.Native.Nat.{ℕ, zero, suc, ◌+◌, ◌-◌, ◌<◌, ◌≤◌}
use native.Mathlib.Omega.{arith}
use lib.ListN.{length}
use Rattle.terms.specs.declared.TypeCode.{TypeCode}
use Rattle.rules.specs.Block.{Bytes, part, same_bytes}
use Rattle.rules.specs.Catalogue.{is_type, length_of, key_start, key_length}
use Rattle.rules.specs.Cells.{segment, segment_of, arriving, key}
use Rattle.rules.specs.Table.{count, cell_size, listing}
use Rattle.cells.specs.Lent.{InData}
use Rattle.cells.specs.Sound.{Sound}
use Rattle.cells.proofs.Entries.{key_in, length-in}
use Rattle.cells.proofs.Ancestry.{sound-known}
use Rattle.twins.specs.Among.{New}
use Rattle.twins.proofs.Keys.{new-brought, key-area, key-cell, new-key, old-key}

-- the area has the bytes of each type
pub area-long : {cat tab : Bytes} {size : ℕ} → Sound cat tab size → (t : TypeCode) (area : Bytes) → is_type cat t ≡ true → size ≤ suc (length area) → length_of cat t ≤ length area
unfolding cell_size
area-long {cat} s t area h l = omega (arith, length-in cat s.catalogue t h, s.sized.is)

module _ {cat tab : Bytes} {size i : ℕ} {t : TypeCode} (s : Sound cat tab size) (l : i < count tab) (e : t ≡ (segment (listing cat tab) i).code) (area : Bytes) (a : size ≤ suc (length area)) where
  known : is_type cat t ≡ true
  known = rw e (sound-known s i l)

  as-new : New cat tab size t area
  as-new = record { sound = s; known = known; enough = area-long s t area known a }

  module _ (long : ℕ) (f : long ≡ key_length cat t) where
    -- without a key there is nothing to compare
    pub key-none : long ≡ 0 → true ≡ same_bytes (key cat (segment (listing cat tab) i)) (key cat (arriving cat t area))
    unfolding key arriving segment_of same_bytes
    key-none z =
        let k : key_length cat t ≡ 0 = sym f ∙ z in
        let m : key_length cat (segment (listing cat tab) i).code ≡ 0 = rw (← e) k in
        rw (k, m)

    module _ (start : ℕ) (g : start ≡ key_start cat t) (ne : long ≡ 0 → ⊥) where
      pub key-bounds : (1 ≤ start) × (start - 1 + long ≤ length area)
      key-bounds = (first start (λ z. ne (f ∙ (key_in cat s.catalogue t known).1 (sym g ∙ z))), omega (arith, key-area (new-brought as-new), f, g))
        where
          first : (n : ℕ) → (n ≡ 0 → ⊥) → 1 ≤ n
          first zero k = absurd (k refl)
          first (suc n) k = omega arith

      pub key-held : InData cat tab size i start long
      key-held = key-cell as-new l (sym e) g f

      -- the bytes that the code compares are the keys
      pub key-same : {x : Bytes} → x ≡ part (segment (listing cat tab) i).bytes (start - 1) long
          → same_bytes x (part area (start - 1) (start - 1 + long - (start - 1)))
          ≡ same_bytes (key cat (segment (listing cat tab) i)) (key cat (arriving cat t area))
      key-same h = ap₂ same_bytes (h ∙ old-key as-new l (sym e) g f) (new-key (new-brought as-new) g f key-bounds.0)
