-- Packed numbers by themselves (R87, R88): which bytes are one, its digits and sign, and how two stand to each other. The claim is in proofs/Cases.antt.
-- Assumes nothing: these are definitions.
use Rattle.std.specs.declared.cmp.Ordering.{Ordering}
use Rattle.std.specs.declared.cmp.Ordering.TheVariants.{Equal, Greater, Less}
use Rattle.std.specs.Prelude.{Bool, true, false, not, ◌&&◌, List, [], ◌∷◌, ℕ, eqb}
use Rattle.rules.specs.Block.{Bytes}
use Rattle.rules.specs.Packed.{is_number, magnitude, is_minus}
use Rattle.rules.specs.Order.{is_value, value_order}
use Rattle.rules.specs.Cases.{same_test}

pub data NumberCase : Type 0 where
  -- a number: its digits, and whether its sign is minus
  is_one : Bytes → ℕ → Bool → NumberCase
  is_none : Bytes → NumberCase
  -- how two values of a value type stand to each other, and so turned round
  stand : ℕ → Bytes → Ordering → Bytes → NumberCase

abbrev rank : Ordering → ℕ
rank Less = 0
rank Equal = 1
rank Greater = 2

abbrev turned_rank : Ordering → ℕ
turned_rank Less = 2
turned_rank Equal = 1
turned_rank Greater = 0

abbrev pub meets : NumberCase → Bool
meets (is_one b n m) = is_number b && is_value 1 b && eqb (magnitude b) n && same_test (is_minus b) m
meets (is_none b) = not (is_number b) && not (is_value 1 b) && is_value 0 b
meets (stand w a o b) = eqb (rank (value_order w a b)) (rank o) && eqb (rank (value_order w b a)) (turned_rank o)

-- fifteen bytes, and more behind them
abbrev fifteen : ℕ → Bytes → Bytes
fifteen x b = x ∷ x ∷ x ∷ x ∷ x ∷ x ∷ x ∷ x ∷ x ∷ x ∷ x ∷ x ∷ x ∷ x ∷ x ∷ b

unfoldable pub number_cases : List NumberCase
number_cases =
    -- every sign, and no sign
    is_one (0x7A ∷ []) 7 false
    ∷ is_one (0x7B ∷ []) 7 true
    ∷ is_one (0x7C ∷ []) 7 false
    ∷ is_one (0x7D ∷ []) 7 true
    ∷ is_one (0x7E ∷ []) 7 false
    ∷ is_one (0x7F ∷ []) 7 false
    ∷ is_none (0x70 ∷ [])
    ∷ is_none (0x79 ∷ [])
    ∷ is_none (0x01 ∷ 0x29 ∷ [])
    -- every place of a digit, at its border
    ∷ is_one (0x99 ∷ 0x9F ∷ []) 999 false
    ∷ is_none (0xA9 ∷ 0x9F ∷ [])
    ∷ is_none (0x9A ∷ 0x9F ∷ [])
    ∷ is_none (0x99 ∷ 0xAF ∷ [])
    ∷ is_none (0x1C ∷ 0x2C ∷ [])
    ∷ is_none (0xFF ∷ [])
    ∷ is_none []
    -- zeros
    ∷ is_one (0x0C ∷ []) 0 false
    ∷ is_one (0x00 ∷ 0x0D ∷ []) 0 true
    ∷ stand 1 (0x0C ∷ []) Equal (0x0D ∷ [])
    ∷ stand 1 (0x0B ∷ []) Equal (0x0F ∷ [])
    ∷ stand 1 (0x0B ∷ []) Equal (0x0D ∷ [])
    ∷ stand 1 (0x1D ∷ []) Less (0x0D ∷ [])
    ∷ stand 1 (0x0D ∷ []) Less (0x1C ∷ [])
    ∷ stand 1 (0x1B ∷ []) Less (0x0C ∷ [])
    -- 12 in its forms, and -12
    ∷ is_one (0x01 ∷ 0x2C ∷ []) 12 false
    ∷ is_one (0x01 ∷ 0x2D ∷ []) 12 true
    ∷ stand 1 (0x01 ∷ 0x2C ∷ []) Equal (0x01 ∷ 0x2F ∷ [])
    ∷ stand 1 (0x01 ∷ 0x2A ∷ []) Equal (0x01 ∷ 0x2E ∷ [])
    ∷ stand 1 (0x01 ∷ 0x2D ∷ []) Less (0x01 ∷ 0x2C ∷ [])
    ∷ stand 1 (0x01 ∷ 0x2B ∷ []) Equal (0x01 ∷ 0x2D ∷ [])
    -- as bytes these stand otherwise
    ∷ stand 0 (0x01 ∷ 0x2C ∷ []) Less (0x01 ∷ 0x2F ∷ [])
    ∷ stand 0 (0x01 ∷ 0x2D ∷ []) Greater (0x01 ∷ 0x2C ∷ [])
    ∷ stand 0 (0x02 ∷ 0x0D ∷ []) Greater (0x01 ∷ 0x2D ∷ [])
    -- the first digits are the heaviest; below zero the greater digits are the smaller value
    ∷ stand 1 (0x01 ∷ 0x9F ∷ []) Less (0x02 ∷ 0x0A ∷ [])
    ∷ stand 1 (0x02 ∷ 0x0D ∷ []) Less (0x01 ∷ 0x2D ∷ [])
    ∷ stand 1 (0x10 ∷ 0x0C ∷ []) Greater (0x09 ∷ 0x9C ∷ [])
    -- sixteen bytes: 31 digits
    ∷ is_one (fifteen 0x99 (0x9C ∷ [])) 9999999999999999999999999999999 false
    ∷ is_one (fifteen 0x00 (0x0D ∷ [])) 0 true
    ∷ is_none (fifteen 0x99 (0x99 ∷ []))
    ∷ stand 1 (fifteen 0x99 (0x9C ∷ [])) Equal (fifteen 0x99 (0x9E ∷ []))
    ∷ stand 1 (fifteen 0x99 (0x8C ∷ [])) Less (fifteen 0x99 (0x9C ∷ []))
    ∷ stand 1 (fifteen 0x99 (0x9D ∷ [])) Less (fifteen 0x00 (0x0C ∷ []))
    ∷ stand 1 (fifteen 0x00 (0x0D ∷ [])) Equal (fifteen 0x00 (0x0C ∷ []))
    ∷ []
