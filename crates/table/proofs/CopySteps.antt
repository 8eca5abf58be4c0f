-- Steps of copying bytes. Assumes nothing.
use mathlib.Core.Path.{◌≡◌, refl, sym, ◌∙◌}
use mathlib.Core.Bool.{Bool, true, false}
use mathlib.Core.List.{List, append_assoc}
use Prim.Native.Nat.{ℕ, suc, ◌+◌, ◌-◌, ◌≤◌, ◌<◌}
use native.Mathlib.Nat.{add-zero}
use native.Mathlib.Omega.{arith}
use borrow.Rule.Slice.PartMut.{put_mid}
use lib.ListN.{length, get_or, set, length-set, take, drop, drop_of_length-le}
use lib.Seq.{sets, drop-cons, drop-drop}
use Rattle.std.specs.Int.{to_le_bytes, to_be_bytes, w32}
use Rattle.std.proofs.Math.Nat.{div-div-eq-div-mul}
use Rattle.std.proofs.lemmas.List.Edits.{sets-eq}
use Rattle.table.specs.Order.{put}
use Rattle.table.proofs.OrderLaws.{length-put}

-- bytes copied over a part of as many are stored there
part-set : (out x bs : List ℕ) (at k : ℕ) → x ≡ bs → k ≡ length bs → at + k ≤ length out
    → put_mid at k out x ≡ sets out at bs
part-set out x bs at k e l h = rw (e, l, drop-drop (length bs) at out) (sym (append_assoc (take at out) bs _) ∙ sym (sets-eq bs out at (omega arith)))

-- bytes, one after the other: what is left to copy, put behind what is copied, makes the whole
pub record InCopy (bs : List ℕ) (from to i : ℕ) (before after : List ℕ) : Type 0 where
  pub long : length after ≡ length before
  pub is : sets after (to + i) (drop (from + i) bs) ≡ sets before to (drop from bs)

module _ (bs : List ℕ) (from to i : ℕ) (before after : List ℕ) (inv : InCopy bs from to i before after) where
  pub copy_on : i < length bs - from
      → InCopy bs from to (i + 1) before (set after (to + i) (get_or bs (from + i) 0))
  copy_on h =
      let a : to + (i + 1) ≡ suc (to + i) = omega arith in
      let b : from + (i + 1) ≡ suc (from + i) = omega arith in
      record {
        long = simp length-set inv.long;
        is = rw (a, b) (rw (drop-cons bs (from + i) 0 (omega arith)) at inv.is);
      }

  pub copy_end : length bs - from ≤ i → after ≡ sets before to (drop from bs)
  copy_end h = let k : length bs ≤ from + i = omega arith in rw (drop_of_length-le bs k) at inv.is

pub copy_first : (bs : List ℕ) (from to : ℕ) (before : List ℕ) → InCopy bs from to 0 before before
copy_first bs from to before = record { long = refl; is = simp add-zero refl }

pub ruleset of_copies = (copy_first, copy_on, copy_end)

-- the four bytes of a number, in either order
module _ (out x b : List ℕ) (at n : ℕ) (little : Bool) (e : x ≡ b) (h : at + 4 ≤ length out) where
  number_copied : b ≡ put little 4 n → put_mid at (at + 4 - at) out x ≡ sets out at (put little 4 n)
  number_copied q =
      rw q at (part-set out x b at (at + 4 - at) e (rw (q, length-put little 4 n) (omega arith)) (omega arith))

  pub little_copied : little ≡ true → b ≡ to_le_bytes w32 n → put_mid at (at + 4 - at) out x ≡ sets out at (put little 4 n)
  little_copied l q = number_copied (rw (l, q) (simp div-div-eq-div-mul))

  pub big_copied : little ≡ false → b ≡ to_be_bytes w32 n → put_mid at (at + 4 - at) out x ≡ sets out at (put little 4 n)
  big_copied l q = number_copied (rw (l, q) (simp div-div-eq-div-mul))
