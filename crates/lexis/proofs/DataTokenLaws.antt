-- The next token of a data text, by the relation and by the definition. Assumes nothing.
use mathlib.Core.Path.{◌≡◌, refl, sym, ap, ◌∙◌, subst}
use mathlib.Core.Logic.{◌↔◌, ◌≢◌}
use mathlib.Core.Bool.{true, false, cond}
use mathlib.Core.List.{List, [], ◌∷◌, ◌++◌}
use Prim.Native.Nat.{ℕ, ◌+◌, ◌-◌, ◌<◌}
use native.Mathlib.Omega.{arith}
use lib.Dec.{eqb, leb}
use lib.ListN.{length, drop}
use borrow.Author.Tests.{eqb-true, leb-true, leb-false, le-leb, lt-leb, eq-eqb, ne_eqb}
use Rattle.lexis.specs.Text.{byte, bytes}
use Rattle.lexis.specs.Bytes.{is, sort_of, small, capital, word_byte, string_byte, run_byte}
use Rattle.lexis.specs.Runs.{past, byte_at, part, all, starts_with, same, StandsAt}
use Rattle.lexis.specs.Blanks.{token_start}
use Rattle.lexis.specs.Spelling
use Rattle.lexis.specs.Spelling.{literal_of, word_sort}
use Rattle.lexis.specs.Tokens.{token, no_token, spelled, unreadable, type_name, name}
use Rattle.lexis.specs.DataTokens.{data_marks, name_sort, run_sort, type_sort, data_token_on, data_token_at, type_token_at}
use Rattle.lexis.specs.declared.Token.{Token}
use Rattle.lexis.proofs.Cases.{by_cond, and_left}
use Rattle.lexis.proofs.Parts.{part_length}
use Rattle.lexis.proofs.Places.{run-between, run_strict}
use Rattle.lexis.proofs.RunLaws.{first_inside, first_read}
use Rattle.lexis.proofs.ReadBack.{quoted_read}
use Rattle.lexis.specs.SpellingRules.{Small, Capital, WordByte, RunByte, StringByte, All, none, more, CapitalWord, capital_word, SmallWord, small_word, Quoted, SpellsData}
use Rattle.lexis.specs.SpellingRules
use Rattle.lexis.specs.LongestMatch.{Separates, SpelledAt, LongestAt, RunAt, OpensSmall, opens_small, Classed, a_name, no_name, a_word, ClassedBehind, a_type, no_type, NextDataIs}
use Rattle.lexis.proofs.TestLaws.{true_or_false, false_true, same_eq, same_ne}
use Rattle.lexis.proofs.SpelledAtLaws.{part_first, spelled_cases, string_here}
use Rattle.lexis.proofs.SeparatorLaws.{separated}
use Rattle.lexis.proofs.ByteRules.{is_small, is_capital, is_word-byte, is_run-byte, is_string-byte, is_all, part_splits, past_all, past_next, past_is}

-- one value has what a relation says of at most one
pub by_one : {A : Type 0} (P : A → Type 0) (d : A) → P d → ((x y : A) → P x → P y → x ≡ y) → (t : A) → (d ≡ t) ↔ P t
by_one P d h one t = (λ e. subst P e h, λ p. one d t h p)

-- bytes of words that are neither of two spellings
record Plain (x y w : List ℕ) : Type 0 where
  pub word : All WordByte w
  pub first : w ≢ x
  pub second : w ≢ y

-- the sort of a run under two spellings of other sorts: its own where it is plain, else unreadable
name_sort_lem : (x y : List ℕ) (a b sort : ℕ) → a ≢ sort → b ≢ sort → (w : List ℕ) (P : ℕ → Type 0) → (Plain x y w → P sort)
    → (¬ Plain x y w → P unreadable) → P (name_sort (literal_of a x ∷ literal_of b y ∷ []) sort w)
unfolding word_sort
name_sort_lem x y a b sort n m w P f g =
    let Q : ℕ → Type 0 = λ v. P (cond (eqb v sort) sort unreadable) in
    by_cond P (all word_byte w)
    (λ e. by_cond Q (same x w)
    (λ q. rw (ne_eqb a sort n) (g (λ p. p.first (sym (same_eq x w q)))))
    (λ q. by_cond Q (same y w)
    (λ r. rw (ne_eqb b sort m) (g (λ p. p.second (sym (same_eq y w r)))))
    (λ r. rw (eq-eqb sort sort refl) (f (record { word = (is_all WordByte word_byte is_word-byte w).0 e; first = λ h. same_ne x w q (sym h); second = λ h. same_ne y w r (sym h) })))))
    (λ e. g (λ p. false_true (sym e ∙ (is_all WordByte word_byte is_word-byte w).1 p.word)))

-- NAMEs and TYPEs, by their first letter
all_rest : {b : ℕ} {w : List ℕ} → All WordByte (b ∷ w) → All WordByte w
all_rest (more h a) = a

first_small : {b : ℕ} {w : List ℕ} → OpensSmall (b ∷ w) → Small b
first_small (opens_small h) = h

small_plain : {w : List ℕ} → SmallWord w → OpensSmall w × All WordByte w
small_plain (small_word h a) = (opens_small h, more (WordByte.small h) a)

capital-plain : {b : ℕ} {w : List ℕ} → CapitalWord (b ∷ w) → Capital b × All WordByte (b ∷ w)
capital-plain (capital_word h a) = (h, more (WordByte.capital h) a)

-- the class of a run with a first byte
module _ (b : ℕ) (w : List ℕ) where
  classed : Classed (b ∷ w) (run_sort (b ∷ w) b)
  classed =
      by_cond (Classed (b ∷ w)) (is small b)
      (λ e. let h = (is_small b).0 e in
      name_sort_lem (bytes "matches") (bytes "existence") Spelling.matches Spelling.existence name (omega arith) (omega arith) (b ∷ w) (Classed (b ∷ w))
      (λ p. a_name (record { small = small_word h (all_rest p.word); not_matches = p.first; not_existence = p.second }))
      (λ n. no_name (opens_small h) (λ y. n (record { word = (small_plain y.small).1; first = y.not_matches; second = y.not_existence }))))
      (λ e. a_word (λ o. false_true (sym e ∙ (is_small b).1 (first_small o))))

  classed_behind : ClassedBehind (b ∷ w) (type_sort (b ∷ w) b)
  classed_behind =
      by_cond (ClassedBehind (b ∷ w)) (is capital b)
      (λ e. let h = (is_capital b).0 e in
      name_sort_lem (bytes "True") (bytes "False") Spelling.true_word Spelling.false_word type_name (omega arith) (omega arith) (b ∷ w) (ClassedBehind (b ∷ w))
      (λ p. a_type (record { capital = capital_word h (all_rest p.word); not_true = p.first; not_false = p.second }))
      (λ n. no_type (λ y. n (record { word = (capital-plain y.capital).1; first = y.not_true; second = y.not_false }))))
      (λ e. no_type (λ y. false_true (sym e ∙ (is_capital b).1 (capital-plain y.capital).0)))

-- a run has one class
one_class : {w : List ℕ} (x y : ℕ) → Classed w x → Classed w y → x ≡ y
one_class x y (a_name h) (a_name k) = refl
one_class x y (a_name h) (no_name o n) = absurd (n h)
one_class x y (a_name h) (a_word n) = absurd (n (small_plain h.small).0)
one_class x y (no_name o n) (a_name k) = absurd (n k)
one_class x y (no_name o n) (no_name p m) = refl
one_class x y (no_name o n) (a_word m) = absurd (m o)
one_class x y (a_word n) (a_name k) = absurd (n (small_plain k.small).0)
one_class x y (a_word n) (no_name o m) = absurd (n o)
one_class x y (a_word n) (a_word m) = refl

one_behind : {w : List ℕ} (x y : ℕ) → ClassedBehind w x → ClassedBehind w y → x ≡ y
one_behind x y (a_type h) (a_type k) = refl
one_behind x y (a_type h) (no_type n) = absurd (n h)
one_behind x y (no_type n) (a_type k) = absurd (n k)
one_behind x y (no_type n) (no_type m) = refl

-- a run from its first byte on
run_here : (s : List ℕ) (at : ℕ) → at < length s → run_byte (byte_at s at) ≡ true
    → RunAt s at (past run_byte at (drop at s))
run_here s at l e =
    let b = run-between s at (omega arith) run_byte in
    record {
      some = run_strict s at run_byte l e;
      inside = b.most;
      run = (is_all RunByte run_byte is_run-byte _).0 (past_all run_byte s at);
      longest = λ c h k. false_true (sym (past_next run_byte s at c h) ∙ (is_run-byte c).1 k);
    }

-- nothing is spelled with no byte
no_quoted : ¬ Quoted []
no_quoted = elim [ ]

no_spelling : {sort : ℕ} → ¬ SpellsData sort []
no_spelling (SpellsData.string q) = no_quoted q

-- tokens, where a run with a first byte is sorted by its class
module _ (sorted : List ℕ → ℕ → ℕ) (Class : List ℕ → ℕ → Type 0)
    (class : (b : ℕ) (w : List ℕ) (sort : ℕ) → (sorted (b ∷ w) b ≡ sort) ↔ Class (b ∷ w) sort) (s : List ℕ) where
  module _ (at : ℕ) where
    -- a run has the class that its bytes have
    run_class : {end : ℕ} → RunAt s at end → Class (part s at end) (sorted (part s at end) (byte_at s at))
    run_class {end} r = rw (part_first s at end r.some r.inside) ((class (byte_at s at) (part s (at + 1) end) _).0 refl)

    -- a run is the token of its class
    run-token : {end sort : ℕ} → RunAt s at end → Class (part s at end) sort
        → data_token_on sorted s at ≡ token sort at end
    unfolding data_token_on all
    run-token {end} {sort} r c =
        let b = byte_at s at in
        let i : at < length s = omega arith in
        let w = part s (at + 1) end in
        let e : part s at end ≡ b ∷ w = part_first s at end r.some r.inside in
        let a : all run_byte (part s at end) ≡ true = (is_all RunByte run_byte is_run-byte (part s at end)).1 r.run in
        let n : (c : ℕ) → StandsAt s end (c ∷ []) → run_byte c ≡ false = λ c h. true_or_false (run_byte c) (λ x. absurd (r.longest c h ((is_run-byte c).0 x))) (λ x. x) in
        let p : past run_byte at (drop at s) ≡ end = past_is run_byte s at end (omega arith) r.inside a n in
        let f : run_byte b ≡ true = and_left (run_byte b) (all run_byte w) (rw e at a) in
        let k : sorted (b ∷ w) b ≡ sort = (class b w sort).1 (rw e at c) in
        rw (lt-leb (length s) at i, f, p, e, k)

    -- a mark
    mark-token : (b : ℕ) (rest : List ℕ) → drop at s ≡ b ∷ rest → run_byte b ≡ false → eqb b (byte "\"") ≡ false
        → data_token_on sorted s at ≡ spelled data_marks at (b ∷ rest) (no_token at)
    unfolding data_token_on
    mark-token b rest h e f = rw (lt-leb (length s) at (first_inside s at b rest h), first_read s at b rest h, e, f, h)

    -- a mark or a string is the token of its sort
    spelled_read : {sort : ℕ} {w : List ℕ} → SpellsData sort w → (rest : List ℕ) → drop at s ≡ w ++ rest
        → data_token_on sorted s at ≡ token sort at (at + length w)
    unfolding data_token_on spelled starts_with run_byte word_byte sort_of
    spelled_read SpellsData.less rest h = mark-token _ rest h refl refl
    spelled_read SpellsData.greater rest h = mark-token _ rest h refl refl
    spelled_read SpellsData.equals rest h = mark-token _ rest h refl refl
    spelled_read SpellsData.open_round rest h = mark-token _ rest h refl refl
    spelled_read SpellsData.close_round rest h = mark-token _ rest h refl refl
    spelled_read (SpellsData.string (SpellingRules.quoted {w = w} a)) rest h =
        rw (lt-leb (length s) at (first_inside s at _ _ h), first_read s at _ _ h) (quoted_read s at w rest h ((is_all StringByte string_byte is_string-byte w).1 a))

    spelled-token : {sort end : ℕ} → SpelledAt SpellsData s at sort end → data_token_on sorted s at ≡ token sort at end
    spelled-token {sort} {end} x =
        let m = part_length s at end x.inside in
        let n = x.ordered in
        spelled_read x.spelled (drop end s) (part_splits s at end x.ordered) ∙ ap (token sort at) (omega arith)

    -- the longest of those at a place is the one that there is
    long : {sort end : ℕ} → SpelledAt SpellsData s at sort end → LongestAt SpellsData s at sort end
    long x = record { one = x; longest = λ other e y. let p = ap (λ (t : Token). t.end) (sym (spelled-token x) ∙ spelled-token y) in omega arith }

    -- where nothing is read, there is neither
    unread : {from : ℕ} → Separates s from at → at < length s → data_token_on sorted s at ≡ no_token at
        → NextDataIs Class s from (no_token at)
    unread p l e =
        NextDataIs.none p l
        (λ end r. let q = ap (λ (t : Token). t.end) (sym e ∙ run-token r (run_class r)) in omega arith)
        (λ sort end x.
        let q : end ≡ at = ap (λ (t : Token). t.end) (sym (spelled-token x) ∙ e) in
        let z : at - at ≡ 0 = omega arith in
        no_spelling (rw (q, z) at x.spelled))

    -- the relation says the token that the definition gives
    next : {from : ℕ} → Separates s from at → NextDataIs Class s from (data_token_on sorted s at)
    unfolding data_token_on
    next {from} p =
        let P : Token → Type 0 = λ u. data_token_on sorted s at ≡ u → NextDataIs Class s from u in
        let end = past string_byte (at + 1) (drop (at + 1) s) in
        by_cond P (leb (length s) at) (λ e q. NextDataIs.ends p (leb-true _ _ e)) (λ e.
        let l : at < length s = leb-false _ _ e in
        by_cond P (run_byte (byte_at s at)) (λ f q. let r = run_here s at l f in NextDataIs.run p r (run_class r)) (λ f.
        by_cond P (eqb (byte_at s at) (byte "\""))
        (λ g. by_cond P (eqb (byte_at s end) (byte "\""))
        (λ k q. NextDataIs.longest p (long (string_here SpellsData (λ w. SpellsData.string) s at l (eqb-true _ _ g) (eqb-true _ _ k))))
        (λ k q. unread p l q))
        (λ g. spelled_cases SpellsData s at (omega arith) data_marks (SpellsData.less, (SpellsData.greater, (SpellsData.equals, (SpellsData.open_round, (SpellsData.close_round, tt))))) (no_token at) P
        (λ sort e x q. NextDataIs.longest p (long x)) (λ q. unread p l q)))) refl

  module _ (from : ℕ) where
    -- where neither is there, nothing is read
    read_none : {t : Token} (at : ℕ) → token_start s from ≡ at → at < length s → ((end : ℕ) → ¬ RunAt s at end)
        → ((sort end : ℕ) → ¬ SpelledAt SpellsData s at sort end)
        → NextDataIs Class s from t → t ≡ no_token at
    read_none at e l n m (NextDataIs.ends {at = a} p h) = absurd (let f = (separated s from a).1 p in omega arith)
    read_none at e l n m (NextDataIs.run {at = a} {end = z} p r c) = absurd (n z (rw (sym ((separated s from a).1 p) ∙ e) at r))
    read_none at e l n m (NextDataIs.longest {at = a} {sort = k} {end = z} p x) = absurd (m k z (rw (sym ((separated s from a).1 p) ∙ e) at x.one))
    read_none at e l n m (NextDataIs.none {at = a} p h i j) = ap no_token (sym ((separated s from a).1 p) ∙ e)

    -- the token that the relation says is the one that the definition gives
    token_of : {t : Token} → NextDataIs Class s from t → data_token_on sorted s (token_start s from) ≡ t
    unfolding data_token_on
    token_of (NextDataIs.ends {at = a} p h) = rw ((separated s from a).1 p, le-leb (length s) a h)
    token_of (NextDataIs.run {at = a} p r c) = rw ((separated s from a).1 p) (run-token a r c)
    token_of (NextDataIs.longest {at = a} p x) = rw ((separated s from a).1 p) (spelled-token a x.one)
    token_of (NextDataIs.none {at = a} p h i j) = let e = (separated s from a).1 p in rw e (read_none a e h i j (next a p))

    pub token_on_is : (t : Token) → (data_token_on sorted s (token_start s from) ≡ t) ↔ NextDataIs Class s from t
    token_on_is t = (λ e. subst (NextDataIs Class s from) e (next (token_start s from) ((separated s from _).0 refl)), token_of)

-- the next token, from a place on, and from a place behind `(` on
pub data_token_is : (s : List ℕ) (from : ℕ) (t : Token) → (data_token_at s from ≡ t) ↔ NextDataIs Classed s from t
unfolding data_token_at
data_token_is s from t = token_on_is run_sort Classed (λ b w. by_one (Classed (b ∷ w)) (run_sort (b ∷ w) b) (classed b w) one_class) s from t

pub type_token_is : (s : List ℕ) (from : ℕ) (t : Token) → (type_token_at s from ≡ t) ↔ NextDataIs ClassedBehind s from t
unfolding type_token_at
type_token_is s from t = token_on_is type_sort ClassedBehind (λ b w. by_one (ClassedBehind (b ∷ w)) (type_sort (b ∷ w) b) (classed_behind b w) one_behind) s from t
