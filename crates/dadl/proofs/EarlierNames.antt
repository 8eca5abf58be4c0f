-- The names of the earlier members of a block, as the rows on the tape lead from one to the next. Assumes nothing.
use mathlib.Core.Path.{◌≡◌, refl, ap, ◌∙◌}
use mathlib.Core.Bool.{Bool, true, false, ◌||◌}
use mathlib.Core.List.{List, [], ◌∷◌, ◌++◌}
use Prim.Native.Nat.{ℕ, zero, suc, ◌+◌, ◌*◌, ◌-◌, ◌≤◌, ◌<◌}
use native.Mathlib.Omega.{arith}
use lib.ListN.{length, get_or}
use borrow.Author.Tests.{lt-ltb, le-ltb}
use Rattle.lexis.specs.Runs.{same, listed}
use Rattle.dadl.specs.Clauses.Tape.{row_size}
use Rattle.dadl.specs.Clauses.Answers.{number_at, names_from, earlier_names, NamedRow, Chain, Earlier}

-- rows whose numbers stay lead where they led
pub chain_kept : (s tape after : List ℕ) (end n : ℕ) (ws : List (List ℕ))
    → ((j : ℕ) → j < row_size * end → get_or after j 0 ≡ get_or tape j 0) → Chain s tape n end ws → Chain s after n end ws
unfolding Chain
chain_kept s tape after end n [] f h = h
chain_kept s tape after end n (w ∷ ws) f h =
    let r = h.0 in
    let a : number_at after n 1 ≡ number_at tape n 1 = f (row_size * n + 1) (omega arith) in
    let b : number_at after n 2 ≡ number_at tape n 2 = f (row_size * n + 2) (omega arith) in
    let d : number_at after n 8 ≡ number_at tape n 8 = f (row_size * n + 8) (omega arith) in (
      record { is = rw (a, b) r.is; order = rw (a, b) r.order; inside = rw b r.inside; up = rw d r.up; most = rw d r.most },
      rw d (chain_kept s tape after end (number_at tape n 8) ws f h.1),
    )

-- one row more
pub chain_more : (s tape : List ℕ) (n end last : ℕ) (ws : List (List ℕ)) (w : List ℕ) → Chain s tape n end ws
    → NamedRow s tape end last w → number_at tape end 8 ≡ last → Chain s tape n last (ws ++ (w ∷ []))
unfolding Chain
chain_more s tape n end last [] w h r e = rw h (r, e)
chain_more s tape n end last (x ∷ xs) w h r e =
    let a = h.0 in
    (record { is = a.is; order = a.order; inside = a.inside; up = a.up; most = omega arith }, chain_more s tape (number_at tape n 8) end last xs w h.1 r e)

-- the names that the rows lead to
pub chain_names : (s tape : List ℕ) (fuel n end : ℕ) (ws : List (List ℕ)) → Chain s tape n end ws → end ≤ n + fuel
    → names_from s tape fuel n end ≡ ws
unfolding Chain names_from
chain_names s tape zero n end [] h l = refl
chain_names s tape zero n end (w ∷ ws) h l = let r = h.0 in absurd (omega arith)
chain_names s tape (suc fuel) n end [] h l = rw (le-ltb n end (omega arith))
chain_names s tape (suc fuel) n end (w ∷ ws) h l =
    let r = h.0 in
    let e = chain_names s tape fuel (number_at tape n 8) end ws h.1 (omega arith) in
    let b : n < end = omega arith in
    rw (lt-ltb n end b, r.is, e)

or_swap : (a b c : Bool) → (a || (b || c)) ≡ (b || (a || c))
or_swap true true c = refl
or_swap true false c = refl
or_swap false true c = refl
or_swap false false c = refl

-- a name at the end is a name at the start
pub listed_last : (w : List ℕ) (xs : List (List ℕ)) (x : List ℕ) → listed w (xs ++ (x ∷ [])) ≡ (same w x || listed w xs)
unfolding listed
listed_last w [] x = refl
listed_last w (y ∷ ys) x = let h = listed_last w ys x in rw h (or_swap (same w y) (same w x) (listed w ys))

-- the names on the tape are the names that were seen
pub record Seen (s tape : List ℕ) (first end : ℕ) (seen : List (List ℕ)) : Type 0 where
  pub rows : Earlier s tape first end
  pub same : (w : List ℕ) → listed w (earlier_names s tape first end) ≡ listed w seen

-- before the first member none was
pub seen_none : (s tape : List ℕ) (n : ℕ) → row_size * n ≤ length tape → Seen s tape n n []
unfolding Chain names_from
seen_none s tape n h =
    let e : n - n ≡ 0 = omega arith in
    record { rows = record { chain = rw e refl; room = h }; same = rw e (λ w. refl) }

-- one more was, once its row stands on the tape
pub seen_more : (s tape after : List ℕ) (n end last : ℕ) (seen : List (List ℕ)) (w : List ℕ) → Seen s tape n end seen
    → ((j : ℕ) → j < row_size * end → get_or after j 0 ≡ get_or tape j 0) → NamedRow s after end last w
    → number_at after end 8 ≡ last → row_size * last ≤ length after → Seen s after n last (w ∷ seen)
unfolding listed
seen_more s tape after n end last seen w h f r e room =
    let ws = earlier_names s tape n end in
    let c = chain_more s after n end last ws w (chain_kept s tape after end n ws f h.rows.chain) r e in
    let g : earlier_names s after n last ≡ ws ++ (w ∷ []) = chain_names s after (last - n) n last (ws ++ (w ∷ [])) c (omega arith) in
    record {
      rows = record { chain = rw g c; room = room };
      same = λ v. ap (listed v) g ∙ listed_last v ws w ∙ ap (λ b. same v w || b) (h.same v);
    }
