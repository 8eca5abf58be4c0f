-- The next token starts where the rules of blanks and comments say. Assumes nothing.
use mathlib.Core.Path.{◌≡◌, refl, sym, ap, ◌∙◌, subst}
use mathlib.Core.Logic.{◌↔◌}
use mathlib.Core.Bool.{Bool, true, false, not, ◌||◌}
use mathlib.Core.List.{List, [], ◌∷◌, ◌++◌}
use Prim.Native.Nat.{ℕ, ◌+◌}
use native.Mathlib.Omega.{arith}
use lib.Dec.{eqb}
use lib.ListN.{length, drop, length-drop, drop_of_length-le}
use borrow.Author.Tests.{eqb-true, ne_eqb}
use Rattle.lexis.specs.Runs.{StandsAt}
use Rattle.lexis.specs.Text.{byte, bytes}
use Rattle.lexis.specs.Bytes.{is, blank, line_end, sort_of}
use Rattle.lexis.specs.Blanks.{skip, opens_comment, token_start}
use Rattle.lexis.proofs.Cases.{and_left, and_right}
use Rattle.lexis.proofs.RunLaws.{behind, first_inside}
use Rattle.lexis.proofs.StartBack.{clear, start_here}
use Rattle.lexis.specs.LongestMatch.{LineEnd, Blank, CommentTo, Separates}
use Rattle.lexis.proofs.TestLaws.{true_or_false, false_true}
use Rattle.lexis.proofs.ByteRules.{never, is_blank, is_line_end, stands_split, split_stands, cons_first}

-- no blank opens a comment
blank_no_comment : (b : ℕ) (bs : List ℕ) → Blank b → opens_comment b bs ≡ false
unfolding sort_of
blank_no_comment b bs h = rw (ne_eqb b (byte "-") (λ q. false_true ((is_blank (byte "-")).1 (subst Blank q h))))

-- `-` ends no line
minus_in_line : ¬ LineEnd (byte "-")
unfolding line_end
minus_in_line h = false_true ((is_line_end (byte "-")).1 h)

-- bytes that open a comment are `--`
opened : (b : ℕ) (bs : List ℕ) → opens_comment b bs ≡ true → (rest : List ℕ) × (b ∷ bs ≡ bytes "--" ++ rest)
opened b [] h = never (and_right (eqb b (byte "-")) false h)
opened b (c ∷ bs) h =
    let p = eqb-true b (byte "-") (and_left (eqb b (byte "-")) (eqb c (byte "-")) h) in
    let q = eqb-true c (byte "-") (and_right (eqb b (byte "-")) (eqb c (byte "-")) h) in
    (bs, λ i. p i ∷ q i ∷ bs)

-- a comment that a byte goes on in goes on behind that byte
comment_on : {s : List ℕ} {from over b : ℕ} → CommentTo s from over → StandsAt s from (b ∷ []) → ¬ LineEnd b
    → CommentTo s (from + 1) over
comment_on {s} {from} {b = b} (CommentTo.text_ends l) h n =
    let k = first_inside s from b _ (stands_split s from (b ∷ []) h) in
    absurd (omega arith)
comment_on (CommentTo.line_ends g e) h n = absurd (n (subst LineEnd (cons_first (sym g ∙ h)) e))
comment_on (CommentTo.onward g m c) h n = c

-- neither of two tests passes
not_or : (x y : Bool) → (x ≡ true → ⊥) → (y ≡ true → ⊥) → not (x || y) ≡ true
not_or true y f g = absurd (f refl)
not_or false true f g = absurd (g refl)
not_or false false f g = refl

-- what the walk has behind it: blanks and comments, or, inside a comment, its rest and then those
abbrev Passed : Bool → List ℕ → ℕ → ℕ → Type 0
Passed false s from to = Separates s from to
Passed true s from to = (over : ℕ) × CommentTo s from over × Separates s over to

-- neither a blank nor a comment starts at a clear place
nothing_at : (s : List ℕ) (from : ℕ) → clear (drop from s) ≡ true → Separates s from from
unfolding clear sort_of
nothing_at s from c = Separates.nothing no_blank no_comment
  where
    no_blank : (b : ℕ) → StandsAt s from (b ∷ []) → ¬ Blank b
    no_blank b g k = false_true (rw (stands_split s from (b ∷ []) g, (is_blank b).1 k) at c)

    no_comment : ¬ StandsAt s from (bytes "--")
    no_comment g = false_true (rw (stands_split s from (bytes "--") g) at c)

-- the walk passes blanks and comments, and stops where neither starts
passed : (bs : List ℕ) (inside : Bool) (s : List ℕ) (from : ℕ) → drop from s ≡ bs
    → Passed inside s from (skip inside from bs)
unfolding skip clear
passed [] true s from h =
    let l = length-drop from s in
    let n = ap length h in
    (from, CommentTo.text_ends {from = from} (omega arith), nothing_at s from (rw h))
passed [] false s from h = nothing_at s from (rw h)
passed (b ∷ bs) true s from h =
    let g = split_stands s from (b ∷ []) bs h in
    let t = behind s from (b ∷ []) bs h in
    let m = passed bs true s (from + 1) t in
    let n = passed bs false s (from + 1) t in
    true_or_false (line_end b)
    (λ e. let k = (is_line_end b).0 e in rw (e, skip) (from, CommentTo.line_ends g k, Separates.blank g (Blank.line_end k) n))
    (λ e. rw (e, skip) (m.0, CommentTo.onward g (λ k. false_true (sym e ∙ (is_line_end b).1 k)) m.1, m.2))
passed (b ∷ bs) false s from h =
    let g = split_stands s from (b ∷ []) bs h in
    let t = behind s from (b ∷ []) bs h in
    let m = passed bs true s (from + 1) t in
    let n = passed bs false s (from + 1) t in
    true_or_false (is blank b)
    (λ e. let k = (is_blank b).0 e in rw (e, blank_no_comment b bs k) (Separates.blank g k n))
    (λ e. true_or_false (opens_comment b bs)
    (λ f. rw (e, f) (comment (opened b bs f) m))
    (λ f. rw (e, f) (nothing_at s from (rw (h, e, f)))))
  where
    comment : (rest : List ℕ) × (b ∷ bs ≡ bytes "--" ++ rest) → Passed true s (from + 1) (skip true (from + 1) bs)
        → Separates s from (skip true (from + 1) bs)
    comment r m =
        let p : drop from s ≡ bytes "--" ++ r.0 = h ∙ r.1 in
        let q = split_stands s (from + 1) (byte "-" ∷ []) r.0 (behind s from (byte "-" ∷ []) (byte "-" ∷ r.0) p) in
        let n : from + 1 + 1 ≡ from + 2 = omega arith in
        Separates.comment (split_stands s from (bytes "--") r.0 p) (rw n at (comment_on m.1 q minus_in_line)) m.2

-- the steps of the walk: over a line's end, over another byte of a comment, over a blank, into a comment
skip_line_end : (at b : ℕ) (bs : List ℕ) → LineEnd b → skip true at (b ∷ bs) ≡ skip false (at + 1) bs
unfolding skip
skip_line_end at b bs h = ap (λ x. skip (not x) (at + 1) bs) ((is_line_end b).1 h)

skip_on : (at b : ℕ) (bs : List ℕ) → ¬ LineEnd b → skip true at (b ∷ bs) ≡ skip true (at + 1) bs
unfolding skip
skip_on at b bs h = ap (λ x. skip (not x) (at + 1) bs) (true_or_false (line_end b) (λ e. absurd (h ((is_line_end b).0 e))) (λ e. e))

skip-blank : (at b : ℕ) (bs : List ℕ) → Blank b → skip false at (b ∷ bs) ≡ skip false (at + 1) bs
unfolding skip
skip-blank at b bs h = rw ((is_blank b).1 h, blank_no_comment b bs h)

skip_minus : (at : ℕ) (bs : List ℕ) → skip false at (bytes "--" ++ bs) ≡ skip true (at + 2) bs
unfolding skip line_end sort_of
skip_minus at bs = let e : at + 1 + 1 ≡ at + 2 = omega arith in rw (← e)

-- a comment's bytes are skipped, up to where it ends
comment_skip : {s : List ℕ} {from over : ℕ} → CommentTo s from over → skip true from (drop from s) ≡ token_start s over
unfolding skip
comment_skip {s} (CommentTo.text_ends l) = rw (drop_of_length-le s l)
comment_skip {s} {from} (CommentTo.line_ends {b = b} g e) =
    rw (stands_split s from (b ∷ []) g) (skip_line_end from b (drop (from + 1) s) e ∙ sym (skip-blank from b (drop (from + 1) s) (Blank.line_end e)))
comment_skip {s} {from} (CommentTo.onward {b = b} g m c) =
    rw (stands_split s from (b ∷ []) g) (skip_on from b (drop (from + 1) s) m ∙ comment_skip c)

-- a place where neither starts is clear
clear_here : (s : List ℕ) (from : ℕ) (bs : List ℕ) → drop from s ≡ bs → ((b : ℕ) → StandsAt s from (b ∷ []) → ¬ Blank b)
    → ¬ StandsAt s from (bytes "--")
    → clear bs ≡ true
unfolding clear
clear_here s from [] h n m = refl
clear_here s from (b ∷ bs) h n m =
    not_or (is blank b) (opens_comment b bs)
    (λ e. n b (split_stands s from (b ∷ []) bs h) ((is_blank b).0 e))
    (λ e. let r = opened b bs e in m (split_stands s from (bytes "--") r.0 (h ∙ r.1)))

-- what separates is skipped
skipped : {s : List ℕ} {from at : ℕ} → Separates s from at → token_start s from ≡ at
skipped {s} {from} (Separates.nothing n m) = start_here s from (clear_here s from (drop from s) refl n m)
skipped {s} {from} (Separates.blank {b = b} g k t) = rw (stands_split s from (b ∷ []) g) (skip-blank from b (drop (from + 1) s) k ∙ skipped t)
skipped {s} {from} (Separates.comment g c t) =
    rw (stands_split s from (bytes "--") g) (skip_minus from (drop (from + 2) s) ∙ comment_skip c ∙ skipped t)

-- the next token starts behind the blanks and comments
pub separated : (s : List ℕ) (from at : ℕ) → (token_start s from ≡ at) ↔ Separates s from at
separated s from at = (λ e. rw e at (passed (drop from s) false s from refl), skipped)
