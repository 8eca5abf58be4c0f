-- What a step of the readers of leaves and contents shows: a law for each way out. Assumes nothing.
use mathlib.Core.Path.{◌≡◌, refl, sym, ap, ◌∙◌}
use mathlib.Core.Bool.{Bool, true, false, not}
use Rattle.std.specs.Prelude.{None}
use mathlib.Core.List.{List}
use Prim.Native.Nat.{ℕ, ◌+◌, ◌-◌, ◌≤◌, ◌<◌}
use native.Mathlib.Omega.{arith}
use lib.ListN.{length, length-take, length-drop}
use borrow.Author.Tests.{eq-eqb, ne_eqb, lt-ltb, le-ltb}
use Rattle.lexis.specs.Runs.{part}
use Rattle.lexis.specs.Spelling.{less, greater}
use Rattle.lexis.specs.Tokens.{inner}
use Rattle.lexis.specs.DataTokens.{data_token_at, open_round}
use Rattle.lexis.specs.declared.Token.{Token}
use Rattle.values.specs.Words.{good}
use Rattle.refusals.specs.Reading.{got}
use Rattle.refusals.specs.Reading
use Rattle.refusals.specs.Parsing.{first_in}
use Rattle.refusals.specs.Refusals.{refusal}
use Rattle.refusals.specs.Expecting.{syntax_cause}
use Rattle.refusals.specs.declared.Cause.TheVariants.{TooLong, BadWord}
use Rattle.refusals.specs.declared.Refusal.{Refusal}
use Rattle.std.specs.Result.{IsErrAnd}
use Rattle.std.specs.declared.result.Result.{Result}
use Rattle.std.specs.declared.result.Result.TheVariants.{Ok, Err}
use Rattle.refusals.proofs.Readings.{Holds}
use Rattle.dadl.specs.Placed.{span, PlacedContent, string, word, inside}
use Rattle.dadl.specs.Data.{expect_data, leaf_from, Down, typed, content_from}
use Rattle.lexis.specs.Clauses.Answers.{TokenIs}
use Rattle.refusals.specs.Clauses.Answers.{ExpectIs}
use Rattle.dadl.specs.Clauses.Answers.{part_of, part_span, Behind, Opens, open_reading, OpeningIs, typed_from, sorted_leaf, leaf_of, LeafLies, ContentPast, ContentIs, leaf_by, less_from, content_of}
use Rattle.dadl.specs.Clauses.Tape.{content_rows}
use Rattle.dadl.specs.declared.tokens.Part.{Part}
use Rattle.dadl.specs.declared.tokens.Opening.{Opening}
use Rattle.dadl.specs.declared.contents.LeafSort.{LeafSort}
use Rattle.dadl.specs.declared.contents.LeafSort.TheVariants as leaf
use Rattle.dadl.specs.declared.contents.Leaf.{Leaf}
use Rattle.dadl.specs.declared.contents.Content.{Content}
use Rattle.dadl.specs.declared.contents.Content.TheVariants as content
use Rattle.dadl.proofs.TreeReading.{ContentRead, leaf_order}
use Rattle.dadl.proofs.TokenSteps.{passed_on}
use Rattle.refusals.proofs.StepLaws.{expected_fault, expected_token}
use Rattle.refusals.proofs.Parses.{first_then, rank, order_holds}
use Rattle.lexis.proofs.Parts.{part_length}

-- places told from further on are told from before
pub opens_lower : (s : List ℕ) (low from : ℕ) → low ≤ from → (o : Opening) → Opens s from o → Opens s low o
opens_lower s low from l o h = record { low = omega arith; order = h.order; high = h.high; type_inside = h.type_inside }

pub content_lower : (s : List ℕ) (low from : ℕ) → low ≤ from → (r : Result Content Refusal) → ContentPast s from r
    → ContentPast s low r
content_lower s low from l (Err x) h = tt
content_lower s low from l (Ok (content.Leaf a)) h =
    record { low = omega arith; behind = h.behind; high = h.high; order = h.order; ahead = h.ahead }
content_lower s low from l (Ok (content.Block o)) h = opens_lower s low from l o h

-- a leaf that was read lies in the text
leaf_places : (s : List ℕ) (low : ℕ) (l : Leaf) → l.place ≡ low → ContentRead s low (leaf_of l) l.next → LeafLies s low l
unfolding content_rows
leaf_places s low l e h = by l.sort h
  where
    by : (sort : LeafSort) → ContentRead s low (sorted_leaf sort l.place (part_span l.text)) l.next → LeafLies s low l
    by leaf.String r = record { low = omega arith; behind = omega arith; high = omega arith; order = omega arith; ahead = omega arith }
    by leaf.Word r = record { low = omega arith; behind = omega arith; high = omega arith; order = omega arith; ahead = omega arith }

module _ (s : List ℕ) (place from : ℕ) (t : Token) (tok : TokenIs s from (data_token_at s from) t)
    (h : Behind s place from) where
  leaf_read : (c : PlacedContent) (next : ℕ) → got c next ≡ first_in (leaf_from s place t) → t.start < t.end
      → ContentRead s place c next
  unfolding Holds
  leaf_read c next e k =
      let g : first_in (leaf_from s place (data_token_at s from)) ≡ got c next = ap (λ u. first_in (leaf_from s place u)) (sym tok.is) ∙ sym e in
      rw g at (order_holds s (ContentRead s place) (rank from 0) _ (leaf_order s place place from (omega arith) h.order h.inside (rw tok.is at k)))

  -- a leaf up to its `>`
  module _ (sort : LeafSort) (text : Part) (r : Result Token Refusal)
      (e : ExpectIs s greater t.end (first_in (expect_data s greater t.end)) r)
      (is : Reading.read_then (first_in (expect_data s greater t.end)) (λ u q. got (sorted_leaf sort place (part_span text)) q)
      ≡ first_in (leaf_from s place t)) where
    leaf_unclosed : (x : Refusal) → r ≡ Err x → ContentIs s place (leaf_by s place t) (Err x)
    unfolding leaf_by
    leaf_unclosed x g = record { is = λ down. rw (expected_fault e x g) at is; past = tt }

    leaf_closed : (u : Token) → r ≡ Ok u → t.start < t.end
        → ContentIs s place (leaf_by s place t) (Ok (content.Leaf (record { sort = sort; place = place; text = text; next = u.end })))
    unfolding leaf_by
    leaf_closed u g k =
        let l : Leaf = record { sort = sort; place = place; text = text; next = u.end } in
        let z : got (leaf_of l) u.end ≡ first_in (leaf_from s place t) = rw (expected_token e u g) at is in
        record { is = λ down. z; past = leaf_places s place l refl (leaf_read (leaf_of l) u.end z k) }

  module _ (k : t.sort ≡ 11) where
    pub string_long : t.start + 1 + 255 < t.end - 1 → (x : Refusal) → x ≡ refusal TooLong t.start
        → ContentIs s place (leaf_by s place t) (Err x)
    unfolding leaf_by leaf_from
    string_long l x e =
        let n = part_length s (t.start + 1) (t.end - 1) (omega arith) in
        record { is = λ down. rw (eq-eqb t.sort 11 k, n, lt-ltb 255 (t.end - 1 - (t.start + 1)) (omega arith), e); past = tt }

    module _ (l : t.end - 1 ≤ t.start + 1 + 255) where
      string_small : length (inner s t) ≤ 255
      string_small = simp (length-take, length-drop) (omega arith)

      string_short : Reading.read_then (first_in (expect_data s greater t.end))
          (λ u q. got (string place (span (t.start + 1) (t.end - 1))) q) ≡ first_in (leaf_from s place t)
      unfolding leaf_from
      string_short = rw (eq-eqb t.sort 11 k, le-ltb 255 (length (inner s t)) string_small) (sym (first_then (expect_data s greater t.end) _))

      module _ (r : Result Token Refusal)
          (e : ExpectIs s greater t.end (first_in (expect_data s greater t.end)) r) where
        pub string_unclosed : (x : Refusal) → r ≡ Err x → (q : Result Content Refusal) → IsErrAnd q (λ z. z ≡ x)
            → ContentIs s place (leaf_by s place t) q
        string_unclosed x g q i = rw (passed_on q x i) (leaf_unclosed leaf.String (record { start = t.start + 1; end = t.end - 1 }) r e string_short x g)

        pub string_closed : (u : Token) → r ≡ Ok u
            → ContentIs s place (leaf_by s place t)
            (Ok (content.Leaf (record { sort = leaf.String; place = place; text = record { start = t.start + 1; end = t.end - 1 }; next = u.end })))
        string_closed u g = leaf_closed leaf.String (record { start = t.start + 1; end = t.end - 1 }) r e string_short u g (tok.strict (omega arith))

  module _ (k : t.sort ≡ 26) (g : Bool) (is : g ≡ good (part s t.start t.end)) where
    pub word_bad : not g ≡ true → (x : Refusal) → x ≡ refusal BadWord t.start
        → ContentIs s place (leaf_by s place t) (Err x)
    unfolding leaf_by leaf_from
    word_bad e x f = record { is = λ down. rw (k, ← is, e, f); past = tt }

    module _ (y : not g ≡ false) where
      word_short : Reading.read_then (first_in (expect_data s greater t.end))
          (λ u q. got (word place (span t.start t.end)) q) ≡ first_in (leaf_from s place t)
      unfolding leaf_from
      word_short = rw (k, ← is, y) (sym (first_then (expect_data s greater t.end) _))

      module _ (r : Result Token Refusal)
          (e : ExpectIs s greater t.end (first_in (expect_data s greater t.end)) r) where
        pub word_unclosed : (x : Refusal) → r ≡ Err x → (q : Result Content Refusal) → IsErrAnd q (λ z. z ≡ x)
            → ContentIs s place (leaf_by s place t) q
        word_unclosed x z q i = rw (passed_on q x i) (leaf_unclosed leaf.Word (part_of t) r e word_short x z)

        pub word_closed : (u : Token) → r ≡ Ok u → (p : Part) → p ≡ part_of t
            → ContentIs s place (leaf_by s place t)
            (Ok (content.Leaf (record { sort = leaf.Word; place = place; text = p; next = u.end })))
        word_closed u z p i = rw i (leaf_closed leaf.Word (part_of t) r e word_short u z (tok.strict (omega arith)))

  -- behind a `<`
  module _ (r : Result Content Refusal) (d : ContentIs s place (leaf_by s place t) r) where
    pub less_string : t.sort ≡ 11 → ContentIs s place (less_from s place from) r
    unfolding leaf_by less_from
    less_string k = record { is = λ down. rw (← tok.is, eq-eqb t.sort 11 k) (d.is down); past = d.past }

    pub less_word : t.sort ≡ 26 → ContentIs s place (less_from s place from) r
    unfolding leaf_by less_from
    less_word k =
        let n : t.sort ≡ 11 → ⊥ = λ e. omega arith in
        record { is = λ down. rw (← tok.is, ne_eqb t.sort 11 n, eq-eqb t.sort 26 k) (d.is down); past = d.past }

  pub less_block : (t.sort ≡ 11 → ⊥) → (t.sort ≡ 26 → ⊥)
      → ContentIs s place (less_from s place from) (Ok (content.Block (record { place = place; type_name = None; next = from })))
  unfolding less_from
  less_block n k = record {
    is = λ down. rw (← tok.is, ne_eqb t.sort 11 n, ne_eqb t.sort 26 k) (sym (first_then (down place None from) _));
    past = record { low = omega arith; order = h.order; high = h.inside; type_inside = tt };
  }

module _ (s : List ℕ) (from : ℕ) (t : Token) (tok : TokenIs s from (data_token_at s from) t) where
  -- a block of a type
  module _ (k : t.sort ≡ open_round) (o : Result Opening Refusal) (d : OpeningIs s t.end (typed_from s t.end) o) where
    content_is : (down : Down) → Reading.read_then (open_reading down o) (λ b q. got (inside b) q) ≡ content_of s from down
    unfolding content_of content_from typed_from
    content_is down = rw (← tok.is, eq-eqb t.sort open_round k, d.is down) (sym (first_then (typed s down t.end) _))

    pub content_untyped : (x : Refusal) → o ≡ Err x → (q : Result Content Refusal) → IsErrAnd q (λ z. z ≡ x)
        → ContentIs s from (content_of s from) q
    content_untyped x g q i = rw (passed_on q x i) (record { is = λ down. rw g at (content_is down); past = tt })

    pub content_typed : (w : Opening) → o ≡ Ok w → ContentIs s from (content_of s from) (Ok (content.Block w))
    content_typed w g =
        let p : Opens s t.end w = rw g at d.past in
        record {
          is = λ down. rw g at (content_is down);
          past = opens_lower s from t.end (omega (arith, tok.start, tok.order)) w p;
        }

  pub content_behind : t.sort ≡ less → Behind s t.start t.end
  content_behind k = record { order = tok.strict (omega arith); inside = tok.inside }

  pub content_less : t.sort ≡ less → (r : Result Content Refusal) → ContentIs s t.start (less_from s t.start t.end) r
      → ContentIs s from (content_of s from) r
  unfolding content_of content_from less_from
  content_less k r d =
      let n : t.sort ≡ open_round → ⊥ = λ e. omega arith in
      record {
        is = λ down. rw (← tok.is, ne_eqb t.sort open_round n, eq-eqb t.sort less k) (d.is down);
        past = content_lower s from t.start tok.start r d.past;
      }

  pub content_fault : (t.sort ≡ open_round → ⊥) → (t.sort ≡ less → ⊥) → (x : Refusal)
      → x ≡ refusal (syntax_cause t) t.start
      → ContentIs s from (content_of s from) (Err x)
  unfolding content_of content_from
  content_fault n k x e = record { is = λ down. rw (← tok.is, ne_eqb t.sort open_round n, ne_eqb t.sort less k, e); past = tt }
