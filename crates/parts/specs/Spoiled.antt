-- A list that is spoiled stays so, and every call refuses it: its first type is 0, which no catalogue has (R26). Assumes nothing: these are definitions, and
-- the proofs are in proofs/.
use Rattle.std.specs.Prelude.{◌≡◌, ◌∷◌, ◌++◌, ℕ, ◌<◌, length, take}
use Rattle.terms.specs.declared.Status.TheVariants.{AC}
use Rattle.rules.specs.Block.{Bytes, byte}
use Rattle.rules.specs.Arguments.{list_read}
use Rattle.parts.specs.Lists.{Built, spoiled, list_all, list_test}

-- the list has a first byte, and that is 0
pub record Spoiled (x : Built) : Type 0 where
  pub begun : 0 < x.used
  pub there : 0 < length x.buffer
  pub typeless : byte x.buffer 0 ≡ 0

-- any list that begins with 0 is refused with AC, whatever the catalogue is; so is a spoiled one, whatever was added behind it, by the builder or not
pub record SpoiledRefused : Type 0 where
  pub any : (cat rest : Bytes) → (list_read cat (0 ∷ rest)).fault ≡ AC
  pub built : (x : Built) → Spoiled x → (cat more : Bytes) → (list_read cat (take x.used x.buffer ++ more)).fault ≡ AC

-- what cannot be right spoils the list, and no argument that is added makes it good again
pub record SpoiledForGood : Type 0 where
  pub spoils : (b : Bytes) → Spoiled (spoiled b)
  pub all : (x : Built) → Spoiled x → (code : ℕ) → Spoiled (list_all x.buffer x.used code)
  pub test : (x : Built) → Spoiled x → (cat : Bytes) (code operator f : ℕ) (value : Bytes)
      → Spoiled (list_test cat x.buffer x.used code operator f value)
