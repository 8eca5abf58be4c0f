-- The steps of reading tokens of data text that stand at a place or behind a space: a lemma for each way out. Assumes nothing.
use mathlib.Core.Path.{◌≡◌, refl, sym, ◌∙◌}
use mathlib.Core.Bool.{Bool, true, false, cond, or-true, false≢true}
use mathlib.Core.Logic.{◌≢◌}
use mathlib.Core.List.{List}
use Prim.Native.Nat.{ℕ, ◌+◌, ◌≤◌, ◌<◌}
use lib.Dec.{eqb}
use lib.ListN.{length, drop}
use borrow.Author.Tests.{eqb-true, eqb-false, ne_eqb, lt-leb}
use Rattle.lexis.specs.Text.{byte}
use Rattle.lexis.specs.Bytes.{sort_of, is, blank, digit, word_byte, run_byte}
use Rattle.lexis.specs.Runs.{past, byte_at, starts_with}
use Rattle.lexis.specs.Blanks.{skip, token_start}
use Rattle.lexis.specs.Tokens.{token, spelled, quoted}
use Rattle.lexis.specs.DataTokens.{run_sort, data_token_on, data_token_at}
use Rattle.lexis.specs.Clauses.Answers.{PlaceIs, StartsAlike, TokenIs, is_mark}
use Rattle.lexis.specs.declared.Token.{Token}
use Rattle.lexis.proofs.Places.{byte_inside, drop_in}
use Rattle.lexis.proofs.StartBack.{start_here, clear_at}
use Rattle.lexis.proofs.DataTokenSteps.{run_on, run_ends, data_told}

-- a space
module _ (s : List ℕ) (from : ℕ) (e : byte_at s from ≡ 32) where
  pub space_inside : from < length s
  space_inside = byte_inside s from (byte " ") e (λ z. eqb-false (byte " ") 0 refl z)

  pub behind_blank : token_start s (from + 1) ≡ token_start s from
  unfolding skip sort_of
  behind_blank = rw (drop_in s from space_inside, e)

-- what holds of each mark and its sort
mark_cases : (P : ℕ → ℕ → Type 0) → P 60 18 → P 62 19 → P 61 23 → P 40 24 → P 41 25 → (b sort : ℕ)
    → is_mark b sort ≡ true → P b sort
mark_cases P l g e o k b sort =
    one 18 60 (eqb sort 18) refl l (one 19 62 (eqb sort 19) refl g (one 23 61 (eqb sort 23) refl e (one 24 40 (eqb sort 24) refl o (one 25 41 (eqb sort 25) refl k (λ n. absurd (false≢true n))))))
  where
    one : (x y : ℕ) (m : Bool) → eqb sort x ≡ m → P y x → {rest : Bool} → (rest ≡ true → P b sort)
        → cond m (eqb b y) rest ≡ true → P b sort
    one x y true h p f n = rw (eqb-true sort x h, eqb-true b y n) p
    one x y false h p f n = f n

-- a byte with which no blank and no comment starts, but a token of one byte
pub record Alone (b sort : ℕ) : Type 0 where
  pub plain : is blank b ≡ false
  pub dash : eqb b (byte "-") ≡ false
  pub some : b ≢ 0
  pub on : (s : List ℕ) (at : ℕ) → at < length s → byte_at s at ≡ b → data_token_on run_sort s at ≡ token sort at (at + 1)

mark_alone : (b sort : ℕ) → is_mark b sort ≡ true → Alone b sort
unfolding sort_of word_byte run_byte data_token_on spelled starts_with
mark_alone =
    mark_cases Alone
    (record { plain = refl; dash = refl; some = eqb-false 60 0 refl; on = λ s at h e. rw (lt-leb (length s) at h, drop_in s at h, e) })
    (record { plain = refl; dash = refl; some = eqb-false 62 0 refl; on = λ s at h e. rw (lt-leb (length s) at h, drop_in s at h, e) })
    (record { plain = refl; dash = refl; some = eqb-false 61 0 refl; on = λ s at h e. rw (lt-leb (length s) at h, drop_in s at h, e) })
    (record { plain = refl; dash = refl; some = eqb-false 40 0 refl; on = λ s at h e. rw (lt-leb (length s) at h, drop_in s at h, e) })
    (record { plain = refl; dash = refl; some = eqb-false 41 0 refl; on = λ s at h e. rw (lt-leb (length s) at h, drop_in s at h, e) })

-- the next token starts at a byte that is no blank and no `-`
starts_here : (s : List ℕ) (at : ℕ) → is blank (byte_at s at) ≡ false → eqb (byte_at s at) (byte "-") ≡ false
    → token_start s at ≡ at
starts_here s at p d = start_here s at (clear_at s at (drop at s) refl p (rw d))

-- a mark at a place from which on the next token starts where it does from an earlier one
module _ (s : List ℕ) (at b sort : ℕ) (m : Bool) (q : b ≡ byte_at s at) (k : m ≡ is_mark b sort) (e : m ≡ true) where
  alone : Alone (byte_at s at) sort
  alone = rw q at (mark_alone b sort (sym k ∙ e))

  pub mark_inside : at < length s
  mark_inside = byte_inside s at (byte_at s at) refl alone.some

  pub mark_told : (from : ℕ) → from ≤ length s → StartsAlike s from at
      → TokenIs s from (data_token_at s from) (token sort at (at + 1))
  unfolding data_token_at
  mark_told from h l =
      let n = starts_here s at alone.plain alone.dash in
      data_told s from (token sort at (at + 1)) h (sym (alone.on s at mark_inside refl) ∙ rw (← l.is, n))

-- a string at a place
module _ (s : List ℕ) (from b : ℕ) (q : b ≡ byte_at s from) (h : from ≤ length s) where
  pub string_inside : b ≡ byte "\"" → from < length s
  string_inside e = byte_inside s from (byte "\"") (sym q ∙ e) (λ z. eqb-false (byte "\"") 0 refl z)

  pub string_told : b ≡ byte "\"" → (t : Token) → t ≡ quoted s from → TokenIs s from (data_token_at s from) t
  unfolding sort_of word_byte run_byte data_token_on data_token_at
  string_told e t p =
      let y = sym q ∙ e in
      let l = string_inside e in
      let n = starts_here s from (rw y) (rw y) in
      data_told s from t h (rw (n, lt-leb (length s) from l, y) p)

-- a run of digits at a place
digit-run : (b : ℕ) → is digit b ≡ true → run_byte b ≡ true
unfolding run_byte word_byte
digit-run b e = rw (e, or-true)

digit-plain : (b : ℕ) → is digit b ≡ true → is blank b ≡ false
digit-plain b e = rw (eqb-true (sort_of b) digit e)

pub digit_dash : (b : ℕ) → is digit b ≡ true → eqb b (byte "-") ≡ false
unfolding sort_of
digit_dash b e = ne_eqb b (byte "-") (λ z. false≢true (rw z at e))

digit_some : (b : ℕ) → is digit b ≡ true → b ≢ 0
unfolding sort_of
digit_some b e z = false≢true (rw z at e)

pub digits_told : (s : List ℕ) (from end : ℕ) → from ≤ length s → is digit (byte_at s from) ≡ true
    → PlaceIs s from (past (is digit) from (drop from s)) end → run_byte (byte_at s end) ≡ false
    → TokenIs s from (data_token_at s from) (token 26 from end)
unfolding data_token_on data_token_at
digits_told s from end h y p w =
    let l = byte_inside s from (byte_at s from) refl (digit_some _ y) in
    let n = starts_here s from (digit-plain _ y) (digit_dash _ y) in
    let o = run_ends run_byte s end p.high w in
    let g = o.is ∙ run_on (is digit) run_byte digit-run s from end p in
    data_told s from (token 26 from end) h
    (rw (n, lt-leb (length s) from l, digit-run _ y, eqb-true (sort_of (byte_at s from)) digit y, ← g))

pub ruleset of_spaces = (space_inside, behind_blank)

pub ruleset of_values = (string_inside, string_told, digits_told)
