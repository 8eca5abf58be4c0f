-- What holds of a buffer that bytes of standard input were read into, of which nothing can be said; so many bytes of a buffer, and the front of one buffer copied to another. Assumes nothing.
use Rattle.std.specs.Prelude.{◌≡◌, false, ◌||◌, cond, List, ℕ, ◌≤◌, ◌<◌, eqb, ltb, length, get_or, take, drop, Option, Some, None, IfSome}
use Rattle.std.proofs.lemmas.List.Edits.{sets}
use Rattle.std.specs.declared.result.Result.{Result}
use Rattle.std.specs.declared.result.Result.TheVariants.{Ok, Err}
use Rattle.refusals.specs.declared.Refusal.{Refusal}
use Rattle.table.specs.Order.{get}
use Rattle.vectors.specs.declared.reading.Head.{Head}

-- what a case begins with, by six bytes of which so many were read: its kind, its order, and a number with the highest byte first; nothing where there are fewer, or the kind is 0
abbrev pub case_head : List ℕ → ℕ → Option Head
case_head bs n =
    cond (ltb n 6 || eqb (get_or bs 0 0) 0) None
    (Some (record { kind = get_or bs 0 0; little = eqb (get_or bs 1 0) 1; number = get false (take 4 (drop 2 bs)) }))

-- it is that of some bytes
pub record HeadRead (r : Option Head) : Type 0 where
  pub bytes : List ℕ
  pub count : ℕ
  pub is : r ≡ case_head bytes count

-- the buffer is as long as before, and the place behind what was read to a place lies in it
pub record Grown (at : ℕ) (before after : List ℕ) (r : Option ℕ) : Type 0 where
  pub long : length after ≡ length before
  pub behind : IfSome r (λ next. (at < next) × (next ≤ length after))

-- so many bytes of a buffer, or all where it has fewer
abbrev pub cut : ℕ → List ℕ → ℕ
cut n buf = cond (ltb n (length buf)) n (length buf)

-- the front of one buffer has the bytes of another, as far as both go, and the rest is as before
pub record Copied (from before after : List ℕ) : Type 0 where
  pub is : after ≡ sets before 0 (take (length before) from)
  pub long : length after ≡ length before

-- how long the table is that was compiled, 0 where there is none
abbrev pub length_or_nought : Result ℕ Refusal → ℕ
length_or_nought (Ok length) = length
length_or_nought (Err r) = 0
