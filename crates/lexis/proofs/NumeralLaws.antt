-- Digits in integers, dates and codes, by the rules and by the definitions. Assumes nothing.
use mathlib.Core.Path.{◌≡◌, refl, sym, ap}
use mathlib.Core.Logic.{◌↔◌, ◌≢◌}
use mathlib.Core.Bool.{Bool, true, false, ◌&&◌, ◌||◌}
use mathlib.Core.List.{List, [], ◌∷◌, ◌++◌, append_assoc, append-nil}
use Prim.Native.Nat.{ℕ, suc, ◌+◌}
use native.Mathlib.Omega.{arith}
use lib.Dec.{eqb}
use lib.ListN.{length, take}
use borrow.Author.Tests.{eqb-true}
use Rattle.lexis.specs.Text.{byte, bytes}
use Rattle.lexis.specs.Bytes.{is, sort_of, digit}
use Rattle.lexis.specs.Runs.{shaped, allows, all}
use Rattle.lexis.specs.Spelling.{date_shape}
use Rattle.lexis.specs.Tokens.{code_end}
use Rattle.lexis.specs.Tokens
use Rattle.lexis.proofs.Cases.{and_left, and_right}
use Rattle.lexis.proofs.ReadBack.{grouped}
use Rattle.lexis.specs.SpellingRules.{Digit, All, Digits, CodeNumbers, Spells}
use Rattle.lexis.proofs.TestLaws.{true_or_false, and_both}
use Rattle.lexis.proofs.ByteRules.{never, is_digit, is_all}

-- no digit is 0
pub digit_some : {b : ℕ} → Digit b → b ≢ 0
digit_some (Digit.digit l h) = omega arith

-- digits pass the test of digits
pub digits_all : {w : List ℕ} → Digits w → all (is digit) w ≡ true
digits_all (Digits.digits {b = b} {w = w} d a) = (is_all Digit (is digit) is_digit (b ∷ w)).1 (All.more d a)

-- ten bytes of a date
pub date_shape_lem : {a b c d e f g h : ℕ} → All Digit (a ∷ b ∷ c ∷ d ∷ e ∷ f ∷ g ∷ h ∷ [])
    → shaped date_shape (a ∷ b ∷ c ∷ d ∷ byte "-" ∷ e ∷ f ∷ byte "-" ∷ g ∷ h ∷ []) ≡ true
unfolding shaped
date_shape_lem {a} {b} {c} {d} {e} {f} {g} {h} (All.more p (All.more q (All.more r (All.more s (All.more t (All.more u (All.more v (All.more w All.none)))))))) =
    rw ((is_digit a).1 p, (is_digit b).1 q, (is_digit c).1 r, (is_digit d).1 s, (is_digit e).1 t, (is_digit f).1 u, (is_digit g).1 v, (is_digit h).1 w)

-- the first byte of bytes in a shape
shape_first : (P : List ℕ → Type 0) (n x : ℕ) (xs bs : List ℕ) → shaped (x ∷ xs) bs ≡ true
    → ((b : ℕ) (r : List ℕ) → allows x b ≡ true → shaped xs r ≡ true → P (b ∷ take n r))
    → P (take (suc n) bs)
unfolding shaped
shape_first P n x xs [] h f = never h
shape_first P n x xs (b ∷ bs) h f = f b bs (and_left (allows x b) (shaped xs bs) h) (and_right (allows x b) (shaped xs bs) h)

-- ten bytes in the shape of a date
pub date-spelled : (bs : List ℕ) → shaped date_shape bs ≡ true → Spells Tokens.date (take 10 bs)
date-spelled bs h =
    shape_first (Spells Tokens.date) 9 (byte "d") (bytes "ddd-dd-dd") bs h (λ a r p h.
    shape_first (λ l. Spells Tokens.date (a ∷ l)) 8 (byte "d") (bytes "dd-dd-dd") r h (λ b r q h.
    shape_first (λ l. Spells Tokens.date (a ∷ b ∷ l)) 7 (byte "d") (bytes "d-dd-dd") r h (λ c r u h.
    shape_first (λ l. Spells Tokens.date (a ∷ b ∷ c ∷ l)) 6 (byte "d") (bytes "-dd-dd") r h (λ d r v h.
    shape_first (λ l. Spells Tokens.date (a ∷ b ∷ c ∷ d ∷ l)) 5 (byte "-") (bytes "dd-dd") r h (λ m r x h.
    shape_first (λ l. Spells Tokens.date (a ∷ b ∷ c ∷ d ∷ m ∷ l)) 4 (byte "d") (bytes "d-dd") r h (λ e r w h.
    shape_first (λ l. Spells Tokens.date (a ∷ b ∷ c ∷ d ∷ m ∷ e ∷ l)) 3 (byte "d") (bytes "-dd") r h (λ f r y h.
    shape_first (λ l. Spells Tokens.date (a ∷ b ∷ c ∷ d ∷ m ∷ e ∷ f ∷ l)) 2 (byte "-") (bytes "dd") r h (λ n r z h.
    shape_first (λ l. Spells Tokens.date (a ∷ b ∷ c ∷ d ∷ m ∷ e ∷ f ∷ n ∷ l)) 1 (byte "d") (bytes "d") r h (λ g r i h.
    shape_first (λ l. Spells Tokens.date (a ∷ b ∷ c ∷ d ∷ m ∷ e ∷ f ∷ n ∷ g ∷ l)) 0 (byte "d") [] r h (λ k r j h.
    rw (← eqb-true (byte "-") m x, ← eqb-true (byte "-") n z)
    (Spells.date (All.more ((is_digit a).0 p) (All.more ((is_digit b).0 q) (All.more ((is_digit c).0 u) (All.more ((is_digit d).0 v)
    (All.more ((is_digit e).0 w) (All.more ((is_digit f).0 y) (All.more ((is_digit g).0 i) (All.more ((is_digit k).0 j) All.none)))))))))))))))))))

-- digits, then any number of dot and digits
all_grouped : (w : List ℕ) → all (is digit) w ≡ true → grouped true w ≡ true
unfolding all grouped
all_grouped [] a = refl
all_grouped (b ∷ w) a = rw (and_left (is digit b) (all (is digit) w) a) (all_grouped w (and_right (is digit b) (all (is digit) w) a))

digits_grouped : {w : List ℕ} → Digits w → grouped false w ≡ true
unfolding grouped
digits_grouped (Digits.digits {b = b} {w = w} d a) = rw ((is_digit b).1 d) (all_grouped w ((is_all Digit (is digit) is_digit w).1 a))

grouped_on : (some : Bool) (w v : List ℕ) → grouped some w ≡ true → grouped false v ≡ true
    → grouped some (w ++ (byte "." ∷ v)) ≡ true
unfolding grouped sort_of
grouped_on some [] v g k = rw g k
grouped_on some (b ∷ w) v g k =
    let d = is digit b || eqb b (byte ".") && some in
    and_both d _ (and_left d (grouped (is digit b) w) g) (grouped_on (is digit b) w v (and_right d (grouped (is digit b) w) g) k)

numbers_grouped : {w : List ℕ} → CodeNumbers w → grouped false w ≡ true
numbers_grouped (CodeNumbers.one d) = digits_grouped d
numbers_grouped (CodeNumbers.further {w = w} {v = v} c d) = grouped_on false w v (numbers_grouped c) (digits_grouped d)

-- what digits and dots have come to: numbers, or what a digit makes numbers
abbrev State : Bool → List ℕ → Type 0
State true v = CodeNumbers v
State false v = (d : ℕ) → Digit d → CodeNumbers (v ++ (d ∷ []))

all_snoc : {Such : ℕ → Type 0} {b : ℕ} {w : List ℕ} → All Such w → Such b → All Such (w ++ (b ∷ []))
all_snoc All.none h = All.more h All.none
all_snoc (All.more k a) h = All.more k (all_snoc a h)

digits_snoc : {b : ℕ} {w : List ℕ} → Digits w → Digit b → Digits (w ++ (b ∷ []))
digits_snoc (Digits.digits d a) h = Digits.digits d (all_snoc a h)

numbers_snoc : {b : ℕ} {w : List ℕ} → CodeNumbers w → Digit b → CodeNumbers (w ++ (b ∷ []))
numbers_snoc (CodeNumbers.one d) h = CodeNumbers.one (digits_snoc d h)
numbers_snoc {b} (CodeNumbers.further {w = w} {v = v} c d) h = rw (append_assoc w (byte "." ∷ v) (b ∷ [])) (CodeNumbers.further c (digits_snoc d h))

-- a digit, and a dot behind a digit
state_digit : (some : Bool) (v : List ℕ) {b : ℕ} → State some v → Digit b → CodeNumbers (v ++ (b ∷ []))
state_digit true v c h = numbers_snoc c h
state_digit false v {b} f h = f b h

state_dot : (some : Bool) (v : List ℕ) → some ≡ true → State some v → State false (v ++ (byte "." ∷ []))
state_dot true v e c = λ d h. rw (append_assoc v (byte "." ∷ []) (d ∷ [])) (CodeNumbers.further c (Digits.digits h All.none))
state_dot false v e c = never e

numbers-from : (some : Bool) (v w : List ℕ) → State some v → grouped some w ≡ true → CodeNumbers (v ++ w)
unfolding grouped sort_of
numbers-from true v [] c g = rw (append-nil v) c
numbers-from false v [] c g = never g
numbers-from some v (b ∷ w) c g =
    let x = is digit b || eqb b (byte ".") && some in
    let y = eqb b (byte ".") in
    let k = and_right x (grouped (is digit b) w) g in
    true_or_false (is digit b)
    (λ e. joined (numbers-from true (v ++ (b ∷ [])) w (state_digit some v c ((is_digit b).0 e)) (rw e at k)))
    (λ e.
    let l : (y && some) ≡ true = rw e at (and_left x (grouped (is digit b) w) g) in
    let d : byte "." ≡ b = sym (eqb-true b (byte ".") (and_left y some l)) in
    joined (numbers-from false (v ++ (b ∷ [])) w (rw d at (state_dot some v (and_right y some l) c)) (rw e at k)))
  where
    joined : CodeNumbers (v ++ (b ∷ []) ++ w) → CodeNumbers (v ++ (b ∷ w))
    joined n = rw (append_assoc v (b ∷ []) w) at n

grouped_numbers : (w : List ℕ) → grouped false w ≡ true → CodeNumbers w
grouped_numbers w g = numbers-from false [] w (λ d h. CodeNumbers.one (Digits.digits h All.none)) g

-- the test of codes and the rule are one
pub is_grouped : (w : List ℕ) → (grouped false w ≡ true) ↔ CodeNumbers w
is_grouped w = (grouped_numbers w, numbers_grouped)

-- bytes behind `[at` up to `]`, and the rest
pub record CodeSplit (some : Bool) (at : ℕ) (bs : List ℕ) : Type 0 where
  pub run : List ℕ
  pub rest : List ℕ
  pub both : bs ≡ run ++ (byte "]" ∷ rest)
  pub end : code_end some at bs ≡ at + length run + 1
  pub pass : grouped some run ≡ true

code_more : (some : Bool) (at b : ℕ) (bs : List ℕ) → (is digit b || eqb b (byte ".") && some) ≡ true
    → CodeSplit (is digit b) (at + 1) bs
    → CodeSplit some at (b ∷ bs)
unfolding code_end grouped
code_more some at b bs e m =
    record { run = b ∷ m.run; rest = m.rest; both = ap (λ l. b ∷ l) m.both; end = rw (e, m.end) (omega arith); pass = and_both _ _ e m.pass }

pub code_split : (some : Bool) (at : ℕ) (bs : List ℕ) → code_end some at bs ≢ 0 → CodeSplit some at bs
unfolding code_end grouped
code_split some at [] n = absurd (n refl)
code_split some at (b ∷ bs) n =
    let z = eqb b (byte "]") in
    true_or_false (is digit b || eqb b (byte ".") && some)
    (λ e. code_more some at b bs e (code_split (is digit b) (at + 1) bs (λ q. n (rw (e, q)))))
    (λ e. true_or_false (z && some)
    (λ f. record { run = []; rest = bs; both = ap (λ c. c ∷ bs) (eqb-true b (byte "]") (and_left z some f)); end = rw (e, f) (omega arith); pass = and_right z some f })
    (λ f. absurd (n (rw (e, f)))))
