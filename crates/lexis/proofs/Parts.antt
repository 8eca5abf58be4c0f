-- Parts of a text, one behind another, and what comes from them. Assumes nothing.
use mathlib.Core.Path.{◌≡◌, subst}
use mathlib.Core.List.{List, [], ◌∷◌, ◌++◌, append-nil}
use Prim.Native.Nat.{ℕ, ◌+◌, ◌-◌, ◌≤◌}
use native.Mathlib.Omega.{arith}
use lib.ListN.{length, length-take, length-drop}
use lib.Seq.{take-add, drop-drop}
use native.Mathlib.Decide.{dec_le}
use Rattle.lexis.specs.Runs.{part}
use Rattle.lexis.specs.Clauses.Subsequence.{Sub, none, keep, pass}

-- the bytes of a part of the text are as many as its places say
pub part_length : (s : List ℕ) (start end : ℕ) → end ≤ length s → length (part s start end) ≡ end - start
part_length s start end h = simp (length-take, length-drop) (omega arith)

pub sub_none : (ys : List ℕ) → Sub [] ys
sub_none [] = none
sub_none (y ∷ ys) = pass (sub_none ys)

pub sub_all : (xs : List ℕ) → Sub xs xs
sub_all [] = none
sub_all (x ∷ xs) = keep (sub_all xs)

pub sub_append : {a b c d : List ℕ} → Sub a b → Sub c d → Sub (a ++ c) (b ++ d)
sub_append none y = y
sub_append (keep x) y = keep (sub_append x y)
sub_append (pass x) y = pass (sub_append x y)

-- there are no more of them
pub sub_length : {a b : List ℕ} → Sub a b → length a ≤ length b
sub_length none = omega arith
sub_length (keep x) = let h = sub_length x in omega arith
sub_length (pass x) = let h = sub_length x in omega arith

module _ (s : List ℕ) where
  pub part_split : (a b c : ℕ) → a ≤ b → b ≤ c → part s a c ≡ part s a b ++ part s b c
  part_split a b c h k =
      let n : c - a ≡ b - a + (c - b) = omega arith in
      let m : a + (b - a) ≡ b = omega arith in
      rw (n, take-add, drop-drop, m)

  -- parts that follow one another
  pub sub_join : (a b c : ℕ) {xs ys : List ℕ} → a ≤ b → b ≤ c → Sub xs (part s a b) → Sub ys (part s b c)
      → Sub (xs ++ ys) (part s a c)
  sub_join a b c h k x y = rw (part_split a b c h k) (sub_append x y)

  -- a part of a part
  pub sub_wider : (a b c d : ℕ) {xs : List ℕ} → a ≤ b → b ≤ c → c ≤ d → Sub xs (part s b c) → Sub xs (part s a d)
  sub_wider a b c d h k l x = rw (part_split a b d h (omega arith), part_split b c d k l) (sub_append (sub_none (part s a b)) (at_front x))
    where
      at_front : {xs : List ℕ} → Sub xs (part s b c) → Sub xs (part s b c ++ part s c d)
      at_front {xs} y = subst (λ (l : List ℕ). Sub l (part s b c ++ part s c d)) (append-nil xs) (sub_append y (sub_none (part s c d)))

  -- a part between two places of a part
  pub part_sub : (a b c d : ℕ) → a ≤ b → c ≤ d → Sub (part s b c) (part s a d)
  part_sub a b c d h k = by_order (dec_le b c)
    where
      by_order : Dec (b ≤ c) → Sub (part s b c) (part s a d)
      by_order (yes l) = sub_wider a b c d h l k (sub_all (part s b c))
      by_order (no l) = let e : c - b ≡ 0 = omega arith in rw e (sub_none (part s a d))
