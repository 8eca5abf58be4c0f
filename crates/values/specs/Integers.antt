-- Integers. Document 01, 'Constraint text': "integer: optional `-` and digits"; "An integer is spelled without needless zeros, isn't `-0`, and
-- lies in -2,147,483,648..2,147,483,647". An integer of that range is kept as its distance from -2,147,483,648, so that the order of the integers
-- is the order of their distances. Assumes nothing.
use Rattle.std.specs.Prelude.{Bool, true, cond, ◌&&◌, List, [], ◌∷◌, ℕ, ◌+◌, ◌*◌, ◌-◌, ◌%◌, ◌^◌, eqb, leb, length, get_or, drop}
use Rattle.std.specs.Prelude.{Option, None, Some}
use Rattle.lexis.specs.Text.{byte}
use Rattle.lexis.specs.Bytes.{is, digit}
use Rattle.lexis.specs.Runs.{all}

-- the number that digits spell, behind the number n
unfoldable pub value_of : ℕ → List ℕ → ℕ
value_of n [] = n
value_of n (b ∷ bs) = value_of (n * 10 + (b - byte "0")) bs

-- 0 as a distance: the integers below it are spelled with `-`
abbrev pub nought : ℕ
nought = 2_147_483_648

-- 2,147,483,647 as a distance
abbrev pub greatest : ℕ
greatest = 4_294_967_295

-- one digit or more, and no needless zero in front
abbrev pub plain : List ℕ → Bool
plain ds = all (is digit) ds && leb 1 (length ds) && (cond (eqb (get_or ds 0 0) (byte "0")) (eqb (length ds) 1) true)

abbrev pub not_negative : List ℕ → Option ℕ
not_negative ds = let n = value_of 0 ds in cond (plain ds && leb n 2_147_483_647) (Some (nought + n)) None

abbrev pub negative : List ℕ → Option ℕ
negative ds = let n = value_of 0 ds in cond (plain ds && leb 1 n && leb n 2_147_483_648) (Some (nought - n)) None

-- the integer that bytes spell, as a distance
unfoldable pub integer_of : List ℕ → Option ℕ
integer_of w = cond (eqb (get_or w 0 0) (byte "-")) (negative (drop 1 w)) (not_negative w)

-- a distance as the 32 bits of two's complement that the table holds (document 01, 'Table', kind 4), and back
abbrev pub twos_complement : ℕ → ℕ
twos_complement x = (x + nought) % 2 ^ 32

-- a low and a high end
pub record Pair : Type 0 where
  pub low : ℕ
  pub high : ℕ

abbrev pub pair : ℕ → ℕ → Pair
pair low high = record { low = low; high = high }

-- how far d lies from 0
abbrev pub magnitude : ℕ → ℕ
magnitude d = cond (leb nought d) (d - nought) (nought - d)

-- both a - d and a + d lie in the range
unfoldable pub inside : ℕ → ℕ → Bool
inside a d = leb (magnitude d) a && leb (a + magnitude d) greatest

-- the ends of |a+/-d|: with d below 0 the low end is the higher, and the interval is empty
unfoldable pub around : ℕ → ℕ → Pair
around a d =
    cond (leb nought d) (pair (a - magnitude d) (a + magnitude d)) (pair (a + magnitude d) (a - magnitude d))
