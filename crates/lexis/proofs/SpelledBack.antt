-- What is spelled in one way reads back as its own sort: mark_spellings, the sign ∈, patterns. Assumes nothing.
use mathlib.Core.Path.{◌≡◌, refl, sym, ◌∙◌}
use mathlib.Core.Bool.{Bool, true, false, cond, not, ◌&&◌, ◌||◌, false≢true}
use mathlib.Core.List.{List, [], ◌∷◌, ◌++◌}
use Prim.Native.Nat.{ℕ, zero, suc, ◌+◌, ◌<◌}
use native.Mathlib.Omega.{arith}
use lib.Dec.{eqb}
use lib.ListN.{length, drop, get_or}
use borrow.Author.Tests.{eqb-true, eqb-false, ne_eqb, not-true}
use Rattle.lexis.specs.Text.{byte}
use Rattle.lexis.specs.Bytes.{is, sort_of, digit, small, capital, mark}
use Rattle.lexis.specs.Runs.{byte_at, starts_with, same}
use Rattle.lexis.specs.Spelling.{Literal, literal_of, mark_spellings, element_sign, date_pattern_spellings, time_pattern_spellings, less, greater}
use Rattle.lexis.specs.Tokens.{token, spelled, token_on}
use Rattle.lexis.specs.declared.Token.{Token}
use Rattle.lexis.proofs.Cases.{by_cond, and_left, and_right}
use Rattle.lexis.proofs.RunLaws.{and_no, starts_self, first_read}
use Rattle.lexis.proofs.ReadBack.{on_sort, every}

-- bytes spelled ys, and then the byte `next`, do not begin as xs
unfoldable pub apart : ℕ → List ℕ → List ℕ → Bool
apart next [] ys = false
apart next (x ∷ xs) [] = not (eqb next x)
apart next (x ∷ xs) (y ∷ ys) = not (eqb x y) || apart next xs ys

-- bytes that pass that test do not begin so
starts_apart : (xs ys rest : List ℕ) → apart (byte_at rest 0) xs ys ≡ true → starts_with xs (ys ++ rest) ≡ false
unfolding starts_with apart
starts_apart [] ys rest h = absurd (false≢true h)
starts_apart (x ∷ xs) [] [] h = refl
starts_apart (x ∷ xs) [] (r ∷ rs) h = rw (ne_eqb x r (λ q. eqb-false r x (not-true (eqb r x) h) (sym q)))
starts_apart (x ∷ xs) (y ∷ ys) rest h = and_no (eqb x y) (starts_with xs (ys ++ rest)) (λ q. starts_apart xs ys rest (rw q at h))

-- runs that are the same are equal
same_eq : (xs ys : List ℕ) → same xs ys ≡ true → xs ≡ ys
unfolding same
same_eq [] [] h = refl
same_eq [] (y ∷ ys) h = absurd (false≢true h)
same_eq (x ∷ xs) [] h = absurd (false≢true h)
same_eq (x ∷ xs) (y ∷ ys) h =
    let p = eqb-true x y (and_left (eqb x y) (same xs ys) h) in
    let q = same_eq xs ys (and_right (eqb x y) (same xs ys) h) in
    λ i. p i ∷ q i

-- the first spelling of a list with which w, and then the byte `next`, begin is w itself, and of the sort given
unfoldable pub leads : ℕ → List Literal → ℕ → List ℕ → Bool
leads next [] sort w = false
leads next (l ∷ ls) sort w = let more = leads next ls sort w in cond (apart next l.spelling w) more (same l.spelling w && eqb l.sort sort)

-- w, and then the byte `next`, read as the token of the sort given whose spelling w is
unfoldable pub reads : ℕ → ℕ → List ℕ → Bool
reads next sort [] = false
reads next sort (b ∷ w) =
    cond (is capital b) (leads next time_pattern_spellings sort (b ∷ w))
    (cond (is small b) (leads next date_pattern_spellings sort (b ∷ w))
    (cond (is digit b) false
    (cond (is mark b) (cond (eqb b (byte "-")) false (leads next mark_spellings sort (b ∷ w)))
    (cond (eqb b (byte "\"")) false (cond (eqb b (byte "[")) false (leads next element_sign sort (b ∷ w)))))))

-- such a list gives the token of that sort
spelled_leads : (w rest : List ℕ) (sort : ℕ) (ls : List Literal) (at : ℕ) (t : Token)
    → leads (byte_at rest 0) ls sort w ≡ true
    → spelled ls at (w ++ rest) t ≡ token sort at (at + length w)
unfolding spelled leads
spelled_leads w rest sort [] at t k = absurd (false≢true k)
spelled_leads w rest sort (l ∷ ls) at t k =
    by_cond (λ v. v ≡ true → spelled (l ∷ ls) at (w ++ rest) t ≡ token sort at (at + length w)) (apart (byte_at rest 0) l.spelling w)
    (λ e m. rw (starts_apart l.spelling w rest e, spelled_leads w rest sort ls at t m))
    (λ e m. rw (same_eq l.spelling w (and_left (same l.spelling w) (eqb l.sort sort) m), starts_self w rest, eqb-true l.sort sort (and_right (same l.spelling w) (eqb l.sort sort) m)))
    k

-- two choices by one test, where the first choice passes
by_same : (b : Bool) {p q : Bool} {x y z : Token} → cond b p q ≡ true → (p ≡ true → x ≡ z) → (q ≡ true → y ≡ z)
    → cond b x y ≡ z
by_same true h f g = f h
by_same false h f g = g h

-- what cannot be read needs no proof
never : {x z : Token} → false ≡ true → x ≡ z
never h = absurd (false≢true h)

-- a test that another one narrows
narrow : (b d q : Bool) → cond b false q ≡ true → cond (b && d) false q ≡ true
narrow true d q h = absurd (false≢true h)
narrow false d q h = h

-- a spelling that passes the test reads back as a token of its own sort and length
pub reads_back : (s : List ℕ) (at : ℕ) (w rest : List ℕ) → drop at s ≡ w ++ rest → (sort : ℕ)
    → reads (byte_at rest 0) sort w ≡ true
    → token_on s at ≡ token sort at (at + length w)
unfolding reads
reads_back s at [] rest h sort k = absurd (false≢true k)
reads_back s at (b ∷ w) rest h sort k =
    let t = spelled_leads (b ∷ w) rest sort in
    on_sort s at b (w ++ rest) h (sort_of b) refl
    ∙ rw (h, first_read s at b (w ++ rest) h)
    (by_same (is capital b) k (t time_pattern_spellings at _)
    (λ k. by_same (is small b) k (t date_pattern_spellings at _)
    (λ k. by_same (is digit b) k never
    (λ k. by_same (is mark b) k
    (λ k. by_same (eqb b (byte "-") && is digit (byte_at s (at + 1))) (narrow (eqb b (byte "-")) (is digit (byte_at s (at + 1))) _ k) never (t mark_spellings at _))
    (λ k. by_same (eqb b (byte "\"")) k never (λ k. by_same (eqb b (byte "[")) k never (t element_sign at _)))))))

-- all that is spelled in one way and does not read as a word
abbrev pub literals : List Literal
literals = mark_spellings ++ element_sign ++ date_pattern_spellings ++ time_pattern_spellings

-- one of the list by its number
abbrev pub literal_at : ℕ → Literal
literal_at i = get_or literals i (literal_of 0 [])

-- a byte may stand behind a spelling of that sort: only `=` may not, and only behind `<` and `>`
abbrev pub free : ℕ → ℕ → Bool
free sort next = not ((eqb sort less || eqb sort greater) && eqb next (byte "="))

-- a spelling reads back where that byte may follow
unfoldable literal-reads : ℕ → Literal → Bool
literal-reads next l = not (free l.sort next) || reads next l.sort l.spelling

-- a statement by both answers of a test
split : {P : Type 0} (b : Bool) → (b ≡ true → P) → (b ≡ false → P) → P
split true f g = f refl
split false f g = g refl

-- a test that all of a list pass is passed by each
every_at : (test : Literal → Bool) (ls : List Literal) (i : ℕ) (d : Literal) → i < length ls → every test ls ≡ true
    → test (get_or ls i d) ≡ true
unfolding every
every_at test [] i d l h = absurd (omega arith)
every_at test (x ∷ ls) zero d l h = and_left (test x) (every test ls) h
every_at test (x ∷ ls) (suc i) d l h = every_at test ls i d (omega arith) (and_right (test x) (every test ls) h)

-- the whole list reads back, computed once for all
literals_read : (next : ℕ) → every (literal-reads next) literals ≡ true
unfolding every literal-reads reads leads apart same sort_of
literals_read next = split (eqb next (byte "=")) (λ e. rw e) (λ e. rw e)

-- every spelling of the list reads back as its own sort, whatever follows, but for `=` behind `<` and `>`
pub literal_read : (s : List ℕ) (at : ℕ) (rest : List ℕ) (i : ℕ) → i < length literals
    → drop at s ≡ (literal_at i).spelling ++ rest
    → free (literal_at i).sort (byte_at rest 0) ≡ true
    → token_on s at ≡ token (literal_at i).sort at (at + length (literal_at i).spelling)
unfolding literal-reads
literal_read s at rest i l h f =
    let k = every_at (literal-reads (byte_at rest 0)) literals i (literal_of 0 []) l (literals_read (byte_at rest 0)) in
    reads_back s at (literal_at i).spelling rest h (literal_at i).sort (rw f at k)
