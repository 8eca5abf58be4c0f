-- Digits: the number that they spell, by the relation and by the definition, and bytes of a shape taken apart. Assumes nothing.
use mathlib.Core.Path.{◌≡◌, refl, ◌∙◌, subst, subst₂}
use mathlib.Core.Bool.{Bool, true, false, cond, ◌&&◌}
use mathlib.Core.List.{List, [], ◌∷◌, ◌++◌, append-nil}
use Prim.Native.Nat.{ℕ, zero, suc, ◌+◌, ◌*◌, ◌-◌, ◌≤◌}
use native.Mathlib.Omega.{arith}
use lib.Dec.{eqb, leb}
use lib.ListN.{length}
use lib.Seq.{append_snoc}
use borrow.Author.Tests.{eqb-true, leb-true}
use Rattle.lexis.specs.Text.{byte}
use Rattle.lexis.specs.Bytes.{is, digit, sort_of, among, within, blanks, marks}
use Rattle.lexis.specs.Runs.{any_digit, shaped, all}
use Rattle.lexis.proofs.Cases.{by_cond, either, and_left, and_right}
use Rattle.values.specs.Integers.{value_of}
use Rattle.values.specs.Dates.{exactly}
use Rattle.values.proofs.IntegerLaws.{digit_is}
use Rattle.values.specs.WordRules.{DigitsSay, Fixed, fixed}
use Rattle.values.specs.WordRules
use Rattle.lexis.proofs.TestLaws.{false_true}

-- a list of no length
pub no_more_lem : (w : List ℕ) → length w ≡ 0 → w ≡ []
no_more_lem [] e = refl
no_more_lem (b ∷ w) e = absurd (omega arith)

-- a digit is a byte from `0` to `9`
pub digit-byte : (b : ℕ) → is digit b ≡ true → (byte "0" ≤ b) × (b ≤ byte "9")
unfolding sort_of
digit-byte b =
    let P : ℕ → Type 0 = λ n. eqb n digit ≡ true → (byte "0" ≤ b) × (b ≤ byte "9") in
    let never : eqb 0 digit ≡ true → (byte "0" ≤ b) × (b ≤ byte "9") = λ h. absurd (false_true h) in
    either P (among b blanks) never
    (by_cond P (within (byte "0") (byte "9") b)
    (λ e h. (leb-true (byte "0") b (and_left (leb (byte "0") b) (leb b (byte "9")) e), leb-true b (byte "9") (and_right (leb (byte "0") b) (leb b (byte "9")) e)))
    (λ e. either P (within (byte "a") (byte "z") b) never (either P (within (byte "A") (byte "Z") b) never (either P (among b marks) never never))))

-- digits behind digits
value_last : (n : ℕ) (w : List ℕ) (b : ℕ) → value_of n (w ++ (b ∷ [])) ≡ value_of n w * 10 + (b - byte "0")
unfolding value_of
value_last n [] b = refl
value_last n (x ∷ w) b = value_last (n * 10 + (x - byte "0")) w b

all_last : (w : List ℕ) (b : ℕ) → all (is digit) w ≡ true → is digit b ≡ true → all (is digit) (w ++ (b ∷ [])) ≡ true
unfolding all
all_last [] b h e = rw e
all_last (x ∷ w) b h e = rw (and_left (is digit x) (all (is digit) w) h) (all_last w b (and_right (is digit x) (all (is digit) w) h) e)

say_behind : (v : List ℕ) (n : ℕ) (w : List ℕ) → DigitsSay v n → all (is digit) w ≡ true
    → DigitsSay (v ++ w) (value_of n w)
unfolding all value_of
say_behind v n [] s h = rw append-nil s
say_behind v n (b ∷ w) s h =
    let l = digit-byte b (and_left (is digit b) (all (is digit) w) h) in
    let e : byte "0" + (b - byte "0") ≡ b = omega arith in
    let t = subst (λ (x : ℕ). DigitsSay (v ++ (x ∷ [])) (n * 10 + (b - byte "0"))) e (WordRules.further s (omega arith)) in
    rw append_snoc at (say_behind (v ++ (b ∷ [])) (n * 10 + (b - byte "0")) w t (and_right (is digit b) (all (is digit) w) h))

-- bytes that are digits spell their number, and what spells a number is digits
pub digits_say : (w : List ℕ) → all (is digit) w ≡ true → DigitsSay w (value_of 0 w)
digits_say w h = say_behind [] 0 w WordRules.none h

pub say_digits : {w : List ℕ} {n : ℕ} → DigitsSay w n → (all (is digit) w ≡ true) × (value_of 0 w ≡ n)
unfolding all value_of
say_digits WordRules.none = (refl, refl)
say_digits (WordRules.further {w = w} {n = n} {d = d} s h) =
    let t = say_digits s in
    let v = t.1 in
    (all_last w (byte "0" + d) t.0 (digit_is d (omega arith)), value_last 0 w (byte "0" + d) ∙ omega arith)

-- digits by their number, from the front: behind a number, so many of them spell another
pub data Row : (count before : ℕ) → List ℕ → ℕ → Type 0 where
  done : {m : ℕ} → Row 0 m [] m
  more : {k m b n : ℕ} {w : List ℕ} → is digit b ≡ true → Row k (m * 10 + (b - byte "0")) w n → Row (suc k) m (b ∷ w) n

row : (w : List ℕ) (m : ℕ) → all (is digit) w ≡ true → Row (length w) m w (value_of m w)
unfolding all value_of
row [] m h = done
row (b ∷ w) m h = more (and_left (is digit b) (all (is digit) w) h) (row w (m * 10 + (b - byte "0")) (and_right (is digit b) (all (is digit) w) h))

pub fixed_row : {k : ℕ} {w : List ℕ} {n : ℕ} → Fixed k w n → Row k 0 w n
fixed_row {w = w} (fixed l s) = let t = say_digits s in subst₂ (λ (k n : ℕ). Row k 0 w n) l t.1 (row w 0 t.0)

pub digits_fixed : (w : List ℕ) → all (is digit) w ≡ true → Fixed (length w) w (value_of 0 w)
digits_fixed w h = fixed refl (digits_say w h)

-- ten times a number, so many times
unfoldable pub tenfold : ℕ → ℕ → ℕ
tenfold zero m = m
tenfold (suc k) m = tenfold k (m * 10)

tenfold_least : (k m : ℕ) → m ≤ tenfold k m
unfolding tenfold
tenfold_least zero m = omega arith
tenfold_least (suc k) m = let h = tenfold_least k (m * 10) in omega arith

pub tenfold_more : (k j m : ℕ) → k ≤ j → tenfold k m ≤ tenfold j m
unfolding tenfold
tenfold_more zero j m h = tenfold_least j m
tenfold_more (suc k) zero m h = absurd (omega arith)
tenfold_more (suc k) (suc j) m h = tenfold_more k j (m * 10) (omega arith)

-- so many digits behind a number
pub value_many : (n m : ℕ) (ds : List ℕ) → m ≤ n → tenfold (length ds) m ≤ value_of n ds
unfolding value_of tenfold
value_many n m [] h = h
value_many n m (b ∷ bs) h = value_many (n * 10 + (b - byte "0")) (m * 10) bs (omega arith)

-- what holds of all bytes of a shape holds of bytes that begin in it
abbrev pub Shaped : List ℕ → (List ℕ → Type 0) → Type 0
Shaped [] P = (w : List ℕ) → P w
Shaped (x ∷ xs) P = cond (eqb x any_digit) ((b : ℕ) → is digit b ≡ true → Shaped xs (λ w. P (b ∷ w))) (Shaped xs (λ w. P (x ∷ w)))

pub by_shape : (P : List ℕ → Type 0) (shape w : List ℕ) → Shaped shape P → shaped shape w ≡ true → P w
unfolding shaped
by_shape P [] w f h = f w
by_shape P (x ∷ xs) [] f h = absurd (false_true h)
by_shape P (x ∷ xs) (b ∷ w) f h = go (λ Q g k. by_shape Q xs w g k) (eqb x any_digit) f h
  where
    go : ((Q : List ℕ → Type 0) → Shaped xs Q → shaped xs w ≡ true → Q w) → (t : Bool)
        → cond t ((y : ℕ) → is digit y ≡ true → Shaped xs (λ v. P (y ∷ v))) (Shaped xs (λ v. P (x ∷ v)))
        → (cond t (is digit b) (eqb x b) && shaped xs w) ≡ true → P (b ∷ w)
    go deeper true g k = deeper (λ v. P (b ∷ v)) (g b (and_left (is digit b) (shaped xs w) k)) (and_right (is digit b) (shaped xs w) k)
    go deeper false g k =
        subst (λ (y : ℕ). P (y ∷ w)) (eqb-true x b (and_left (eqb x b) (shaped xs w) k)) (deeper (λ v. P (x ∷ v)) g (and_right (eqb x b) (shaped xs w) k))

-- the same of bytes that are of a shape, all of them
pub by_exactly : (P : List ℕ → Type 0) (shape w : List ℕ) → Shaped shape (λ v. length v ≡ length shape → P v)
    → exactly shape w ≡ true → P w
by_exactly P shape w f e =
    by_shape (λ v. length v ≡ length shape → P v) shape w f
    (and_right (eqb (length w) (length shape)) (shaped shape w) e)
    (eqb-true (length w) (length shape) (and_left (eqb (length w) (length shape)) (shaped shape w) e))

-- two digits, and four
pub two : (a b : ℕ) → is digit a ≡ true → is digit b ≡ true → Fixed 2 (a ∷ b ∷ []) (value_of 0 (a ∷ b ∷ []))
unfolding all
two a b p q = digits_fixed (a ∷ b ∷ []) (rw (p, q))

pub two_most : (a b : ℕ) → is digit a ≡ true → is digit b ≡ true → value_of 0 (a ∷ b ∷ []) ≤ 99
unfolding value_of
two_most a b p q = omega (arith, digit-byte a p, digit-byte b q)

pub four : (a b c d : ℕ) → is digit a ≡ true → is digit b ≡ true → is digit c ≡ true → is digit d ≡ true
    → Fixed 4 (a ∷ b ∷ c ∷ d ∷ []) (value_of 0 (a ∷ b ∷ c ∷ d ∷ []))
unfolding all
four a b c d p q r s = digits_fixed (a ∷ b ∷ c ∷ d ∷ []) (rw (p, q, r, s))
