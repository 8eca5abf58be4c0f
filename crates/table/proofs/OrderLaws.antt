-- Byte order: what is put is got back in the order it was put in, whichever of the two that is. Assumes nothing.
use mathlib.Core.Path.{◌≡◌, refl, sym, ap, ◌∙◌}
use mathlib.Core.Bool.{Bool, true, false}
use mathlib.Core.List.{List, [], ◌∷◌, reverse-reverse}
use Prim.Native.Nat.{ℕ, zero, suc, ◌+◌, ◌*◌, ◌/◌, ◌%◌, ◌^◌, ◌<◌}
use native.Mathlib.Nat.{mod-add-div, div-lt_iff_lt-mul, pow-suc}
use native.Mathlib.Omega.{arith}
use lib.ListN.{length, length-reverse}
use Rattle.table.specs.Order.{lowest_first, bytes_value, put, get}

-- a number that fits so many bytes is the value of its bytes
pub value_lowest : (width n : ℕ) → n < 256 ^ width → bytes_value (lowest_first width n) ≡ n
value_lowest zero n h = omega arith
value_lowest (suc width) n h =
    rw (value_lowest width (n / 256) ((div-lt_iff_lt-mul (omega arith)).1 (rw pow-suc at h))) (mod-add-div n 256)

-- what is got back in the order it was put in is the value of the lowest bytes first: the order is in the parameter alone
pub get-put-value : (little : Bool) (width n : ℕ) → get little (put little width n) ≡ bytes_value (lowest_first width n)
get-put-value true width n = refl
get-put-value false width n = ap bytes_value (reverse-reverse (lowest_first width n))

-- so it is the same for either order
pub order_free : (a b : Bool) (width n : ℕ) → get a (put a width n) ≡ get b (put b width n)
order_free a b width n = get-put-value a width n ∙ sym (get-put-value b width n)

-- a number that fits is got back
pub get-put : (little : Bool) (width n : ℕ) → n < 256 ^ width → get little (put little width n) ≡ n
get-put little width n h = get-put-value little width n ∙ value_lowest width n h

-- there are as many bytes as asked, the lowest first
pub length_lowest : (width n : ℕ) → length (lowest_first width n) ≡ width
length_lowest zero n = refl
length_lowest (suc width) n = ap suc (length_lowest width (n / 256))

-- and in either order
pub length-put : (little : Bool) (width n : ℕ) → length (put little width n) ≡ width
length-put true width n = length_lowest width n
length-put false width n = length-reverse (lowest_first width n) ∙ length_lowest width n

-- a number with a byte in front: its lowest byte, and what is above it
lowest_front : (x v : ℕ) → x < 256 → (x + 256 * v) % 256 ≡ x
lowest_front x v h = omega arith

rest_front : (x v : ℕ) → x < 256 → (x + 256 * v) / 256 ≡ v
rest_front x v h = omega arith

-- each is a byte
abbrev pub Bytes : List ℕ → Type 0
Bytes [] = Unit {0}
Bytes (x ∷ xs) = (x < 256) × Bytes xs

-- bytes are those of their value, the lowest first
pub lowest_value : (xs : List ℕ) → Bytes xs → lowest_first (length xs) (bytes_value xs) ≡ xs
lowest_value [] h = refl
lowest_value (x ∷ xs) h = rw (lowest_front x (bytes_value xs) h.0, rest_front x (bytes_value xs) h.0, lowest_value xs h.1)
