-- What parsing a data text gives. Its faults come in order and lie in the text, so the end of the fuel, which would be told behind it, is none of them. The names, types and values of
-- a tree lie in the text, and each member takes at least four bytes of it. Assumes nothing.
use mathlib.Core.Path.{◌≡◌, refl}
use mathlib.Core.Bool.{Bool, true, not}
use mathlib.Core.Logic.{◌≢◌}
use Rattle.std.specs.Prelude.{Option, None, Some}
use mathlib.Core.List.{List, [], ◌∷◌}
use Prim.Native.Nat.{ℕ, zero, suc, ◌+◌, ◌*◌, ◌≤◌, ◌<◌}
use native.Mathlib.Omega.{arith}
use lib.Dec.{eqb, leb, ltb, lit<, lit≤}
use lib.ListN.{length, drop}
use borrow.Author.Tests.{eqb-true, ltb-false}
use Rattle.lexis.specs.Text.{byte}
use Rattle.lexis.specs.Bytes.{is, small, word_byte, string_byte, run_byte}
use Rattle.lexis.specs.Runs.{past, byte_at, all, starts_with, listed}
use Rattle.lexis.specs.Blanks.{token_start}
use Rattle.lexis.specs.Spelling.{less, greater, word_sort, keywords}
use Rattle.lexis.specs.Tokens.{text_end, type_name, name, spelling, inner, spelled}
use Rattle.lexis.specs.Tokens
use Rattle.lexis.specs.DataTokens.{data_token_on, data_token_at, type_token_at, run_sort, equals, open_round, close_round, word_run}
use Rattle.lexis.specs.declared.Token.{Token}
use Rattle.lexis.proofs.Cases.{by_cond, either}
use Rattle.lexis.proofs.Places.{past_between}
use Rattle.lexis.proofs.DataPlaces.{data_token-found, type_token-found}
use Rattle.values.specs.Words.{good}
use Rattle.refusals.specs.Limits.{text_limit, name_limit, string_limit}
use Rattle.refusals.specs.Reading.{Reading, got}
use Rattle.refusals.specs.Refusals.{number_of}
use Rattle.refusals.specs.Parsing.{Parse, parsed, and_then, noting, as_read, first_in}
use Rattle.refusals.specs.declared.Cause.{Cause}
use Rattle.refusals.specs.declared.Cause.TheVariants.{TooDeep, TooLong, BadWord, RepeatedName}
use Rattle.refusals.proofs.Readings.{Holds}
use Rattle.refusals.proofs.Tokens.{strict_of}
use Rattle.refusals.proofs.Parses.{rank, InOrder, parsed_order, order_lower, noting_order, syntax_order, then_order, order_holds, order_map}
use Rattle.dadl.specs.Placed.{Span, Block, block, Entries, no_more, entry, PlacedContent, string, word, inside}
use Rattle.dadl.specs.Data.{expect_data, type_from, leaf_from, Down, typed, content_from, name_from, members, block_by, deeper_block, block_from, outermost, datum_alone, data_text, block_of, span_of, inner_span}
use Rattle.dadl.specs.Clauses.Tape.{block_rows, entry_rows, content_rows}
use Rattle.dadl.proofs.TapeLaws.{EachBlock, EachEntry, EachContent}
use Rattle.dadl.proofs.GoodTapes.{TypeLies, BlockLies, ContentLies, Lies}

-- a token that is a string has at least two bytes
abbrev Quoted : Token → Type 0
Quoted t = t.sort ≡ Tokens.string → t.start + 2 ≤ t.end

-- a run is never a string
run-other : (w : List ℕ) (first : ℕ) → run_sort w first ≢ Tokens.string
run-other w first =
    let P : ℕ → Type 0 = λ x. x ≢ Tokens.string in
    either P (is small first)
    (either P (all word_byte w) (either P (eqb (word_sort keywords w name) name) (λ e. omega arith) (λ e. omega arith)) (λ e. omega arith))
    (λ e. omega arith)

-- a string at any place has both its quotes
data_quoted : (s : List ℕ) (at : ℕ) → Quoted (data_token_on run_sort s at)
unfolding data_token_on spelled
data_quoted s at =
    let bs = drop at s in
    let b = past_between string_byte (at + 1) (drop (at + 1) s) in
    either Quoted (leb (length s) at) (λ e. absurd (omega arith))
    (either Quoted (run_byte (byte_at s at)) (λ e. absurd (run-other _ _ e))
    (either Quoted (eqb (byte_at s at) (byte "\"")) (either Quoted (eqb (byte_at s (past string_byte (at + 1) (drop (at + 1) s))) (byte "\"")) (λ e. omega arith) (λ e. absurd (omega arith)))
    (either Quoted (starts_with (byte "<" ∷ []) bs) (λ e. absurd (omega arith))
    (either Quoted (starts_with (byte ">" ∷ []) bs) (λ e. absurd (omega arith))
    (either Quoted (starts_with (byte "=" ∷ []) bs) (λ e. absurd (omega arith))
    (either Quoted (starts_with (byte "(" ∷ []) bs) (λ e. absurd (omega arith))
    (either Quoted (starts_with (byte ")" ∷ []) bs) (λ e. absurd (omega arith)) (λ e. absurd (omega arith)))))))))

-- the next token, if it is a string, has both its quotes
string-quoted : (s : List ℕ) (from : ℕ) → Quoted (data_token_at s from)
unfolding data_token_at
string-quoted s from = data_quoted s (token_start s from)

-- a name or a type that was read, with the mark behind it
pub record SpanRead (s : List ℕ) (from : ℕ) (w : Span) (p : ℕ) : Type 0 where
  pub least : from + 2 ≤ p
  pub most : p ≤ length s
  pub order : w.start < w.end
  pub inside : w.end ≤ length s

-- trees that were read from a place on
pub record BlockRead (s : List ℕ) (from : ℕ) (b : Block) (p : ℕ) : Type 0 where
  pub least : from + 1 + 4 * block_rows b ≤ p
  pub most : p ≤ length s
  pub lies : BlockLies (length s) b
  pub each : EachBlock b (Lies (length s))

pub record EntriesRead (s : List ℕ) (from : ℕ) (ms : Entries) (p : ℕ) : Type 0 where
  pub least : from + 1 + 4 * entry_rows ms ≤ p
  pub most : p ≤ length s
  pub each : EachEntry ms (Lies (length s))

pub record ContentRead (s : List ℕ) (from : ℕ) (c : PlacedContent) (p : ℕ) : Type 0 where
  pub least : from + 2 + 4 * content_rows c ≤ p
  pub most : p ≤ length s
  pub lies : ContentLies (length s) c
  pub each : EachContent c (Lies (length s))

module _ (s : List ℕ) where
  -- an expected token, and what follows it
  token_order : {A : Type 0} (P : A → ℕ → Type 0) (low sort from : ℕ) (go : Token → ℕ → Parse A) → low ≤ rank from 0
      → from ≤ length s
      → (eqb (data_token_at s from).sort sort ≡ true
      → InOrder s low P (go (data_token_at s from) (data_token_at s from).end))
      → InOrder s low P (and_then (expect_data s sort from) go)
  unfolding expect_data
  token_order P low sort from go l h k =
      by_cond (λ (r : Reading Token). InOrder s low P (and_then (as_read r) go)) (eqb (data_token_at s from).sort sort) k (λ e. syntax_order s P low from (data_token_at s from) l (data_token-found s from h))

  -- a value that ends with an expected mark
  ending : {A : Type 0} (P : A → ℕ → Type 0) (low sort from : ℕ) (a : A) → 1 < sort → low ≤ rank from 0
      → from ≤ length s → ((p : ℕ) → from + 1 ≤ p → p ≤ length s → P a p)
      → InOrder s low P (and_then (expect_data s sort from) (λ t p. parsed a p))
  ending P low sort from a k l h f =
      let t = data_token_at s from in
      let g = data_token-found s from h in
      token_order P low sort from _ l h (λ e. let m = strict_of sort k t s from g (eqb-true _ _ e) in parsed_order s P low a t.end (omega (arith, g.start)) (f t.end (omega (arith, g.start)) g.inside))

  -- a value at a token, which may be a fault, and a mark
  noted : {A : Type 0} (P : A → ℕ → Type 0) (low sort : ℕ) (t : Token) (fault : Bool) (cause : Cause) (n : ℕ) (a : A)
      → number_of cause ≡ n → 2 ≤ n → n < 10 → 1 < sort → low ≤ rank t.start n
      → t.start < t.end → t.end ≤ length s → ((p : ℕ) → t.end + 1 ≤ p → p ≤ length s → P a p)
      → InOrder s low P (noting fault cause t.start (and_then (expect_data s sort t.end) (λ u p. parsed a p)))
  noted P low sort t fault cause n a e i j k l g h f = noting_order s P low fault cause t.start _ n e i j l (omega arith) (ending P (rank t.start n) sort t.end a k (omega arith) h f)

  -- a type lies in the text and takes two bytes with its `)`
  type_order : (from : ℕ) → from ≤ length s → InOrder s (rank from 0) (SpanRead s from) (type_from s from)
  unfolding type_from number_of
  type_order from h =
      let P = SpanRead s from in
      let t = type_token_at s from in
      let f = type_token-found s from h in
      by_cond (InOrder s (rank from 0) P) (eqb t.sort type_name)
      (λ e. let g = strict_of type_name (lit< tt) t s from f (eqb-true _ _ e) in
      noted P (rank from 0) close_round t (ltb name_limit (length (spelling s t))) TooLong 4 (span_of t) refl (lit≤ tt) (lit< tt) (lit< tt) (omega (arith, f.start)) g f.inside
      (λ p l m. record { least = omega (arith, f.start); most = m; order = g; inside = f.inside }))
      (λ e. syntax_order s P (rank from 0) from t (omega arith) f)

  -- a leaf from behind its `<` on
  pub leaf_order : (low place from : ℕ) → low ≤ place → place < from → from ≤ length s
      → (data_token_at s from).start < (data_token_at s from).end
      → InOrder s (rank from 0) (ContentRead s low) (leaf_from s place (data_token_at s from))
  unfolding leaf_from content_rows EachContent number_of
  leaf_order low place from k l h g =
      let P = ContentRead s low in
      let t = data_token_at s from in
      let f = data_token-found s from h in
      by_cond (InOrder s (rank from 0) P) (eqb t.sort Tokens.string)
      (λ e. let w = string-quoted s from (eqb-true _ _ e) in
      noted P (rank from 0) greater t (ltb string_limit (length (inner s t))) TooLong 4 (string place (inner_span t)) refl (lit≤ tt) (lit< tt) (lit< tt) (omega (arith, f.start)) g f.inside
      (λ p a b. record { least = omega (arith, f.start); most = b; lies = omega (arith, f.start, f.inside); each = tt }))
      (λ e. noted P (rank from 0) greater t (not (good (spelling s t))) BadWord 5 (word place (span_of t)) refl (lit≤ tt) (lit< tt) (lit< tt) (omega (arith, f.start)) g f.inside
      (λ p a b. record { least = omega (arith, f.start); most = b; lies = omega (arith, f.start, f.inside); each = tt }))

  -- a name lies in the text and takes two bytes with its `=`
  pub name_order : (seen : List (List ℕ)) (from : ℕ) → from ≤ length s → eqb (data_token_at s from).sort name ≡ true
      → InOrder s (rank from 0) (SpanRead s from) (name_from s seen (data_token_at s from))
  unfolding name_from number_of
  name_order seen from h e =
      let P = SpanRead s from in
      let t = data_token_at s from in
      let f = data_token-found s from h in
      let g = strict_of name (lit< tt) t s from f (eqb-true _ _ e) in
      noting_order s P (rank from 0) (ltb name_limit (length (spelling s t))) TooLong t.start _ 4 refl (lit≤ tt) (lit< tt) (omega (arith, f.start)) (omega (arith, f.inside))
      (noted P (rank t.start 4) equals t (listed (spelling s t) seen) RepeatedName 9 (span_of t) refl (lit≤ tt) (lit< tt) (lit< tt) (omega arith) g f.inside
      (λ p l m. record { least = omega (arith, f.start); most = m; order = g; inside = f.inside }))

-- how blocks from a place on are parsed
module _ (s : List ℕ) (low : ℕ) (down : Down)
    (below : (place : ℕ) (type : Option Span) (from : ℕ) → low ≤ place → place < from → from ≤ length s
    → TypeLies (length s) type → InOrder s (rank place 0) (BlockRead s from) (down place type from)) where
  -- a `<` and a block
  less_order : (type : Option Span) (least from : ℕ) → low ≤ from → least ≤ from → from ≤ length s
      → TypeLies (length s) type
      → InOrder s (rank from 0) (BlockRead s least) (and_then (expect_data s less from) (λ t p. down t.start type p))
  less_order type least from i l h y =
      let t = data_token_at s from in
      let f = data_token-found s from h in
      token_order s (BlockRead s least) (rank from 0) less from _ (omega arith) h (λ e.
      let g = strict_of less (lit< tt) t s from f (eqb-true _ _ e) in
      order_lower s (BlockRead s least) (rank t.start 0) (rank from 0) _ (omega (arith, f.start))
      (order_map s (rank t.start 0) (BlockRead s t.end) (BlockRead s least) _ (λ d r x. record { least = omega (arith, f.start); most = x.most; lies = x.lies; each = x.each })
      (below t.start type t.end (omega (arith, f.start)) g f.inside y)))

  -- a block behind its type
  typed_order : (least from : ℕ) → low ≤ from → least ≤ from → from ≤ length s
      → InOrder s (rank from 0) (BlockRead s least) (typed s down from)
  unfolding typed
  typed_order least from i l h =
      then_order s (BlockRead s least) (SpanRead s from) (rank from 0) _ _ (type_order s from h) (λ w p q.
      less_order (Some w) least p (omega (arith, q.least)) (omega (arith, q.least)) q.most (q.order, q.inside))

  -- a block that was read is a content, with its `<`
  inside_order : (bound from least : ℕ) (w : Parse Block) → from + 1 ≤ least → InOrder s bound (BlockRead s least) w
      → InOrder s bound (ContentRead s from) (and_then w (λ d q. parsed (inside d) q))
  unfolding content_rows EachContent
  inside_order bound from least w l h =
      let P = ContentRead s from in
      then_order s P (BlockRead s least) bound w _ h (λ d q x. parsed_order s P (rank q 0) (inside d) q (omega arith) (record { least = omega arith; most = x.most; lies = x.lies; each = x.each }))

  -- what stands behind `=` takes two bytes and four for each member inside
  pub content_order : (from : ℕ) → low ≤ from → from ≤ length s
      → InOrder s (rank from 0) (ContentRead s from) (content_from s down from)
  unfolding content_from
  content_order from i h =
      let P = ContentRead s from in
      let k = rank from 0 in
      let t = data_token_at s from in
      let f = data_token-found s from h in
      let u = data_token_at s t.end in
      let v = data_token-found s t.end f.inside in
      by_cond (InOrder s k P) (eqb t.sort open_round)
      (λ e. let g = strict_of open_round (lit< tt) t s from f (eqb-true _ _ e) in
      order_lower s P (rank t.end 0) k _ (omega (arith, f.start)) (inside_order (rank t.end 0) from t.end _ (omega (arith, f.start)) (typed_order t.end t.end (omega (arith, f.start)) (omega arith) f.inside)))
      (λ e. by_cond (InOrder s k P) (eqb t.sort less)
      (λ g. let m = strict_of less (lit< tt) t s from f (eqb-true _ _ g) in
      let leaf : u.start < u.end → InOrder s k P (leaf_from s t.start u) = λ z. order_lower s P (rank t.end 0) k _ (omega (arith, f.start)) (leaf_order s from t.start t.end f.start m f.inside z) in
      by_cond (InOrder s k P) (eqb u.sort Tokens.string) (λ x. leaf (strict_of Tokens.string (lit< tt) u s t.end v (eqb-true _ _ x))) (λ x.
      by_cond (InOrder s k P) (eqb u.sort word_run) (λ y. leaf (strict_of word_run (lit< tt) u s t.end v (eqb-true _ _ y))) (λ y.
      inside_order k from t.end _ (omega (arith, f.start)) (order_lower s (BlockRead s t.end) (rank t.start 0) k _ (omega (arith, f.start)) (below t.start None t.end (omega (arith, f.start)) m f.inside tt)))))
      (λ g. syntax_order s P k from t (omega arith) f))

  -- members take a byte for `>` and four for each member
  pub members_order : (fuel : ℕ) (seen : List (List ℕ)) (from : ℕ) → low ≤ from → length s < from + fuel
      → from ≤ length s → InOrder s (rank from 0) (EntriesRead s from) (members s down fuel seen from)
  unfolding members entry_rows EachEntry
  members_order zero seen from i k h = absurd (omega arith)
  members_order (suc fuel) seen from i k h =
      let P = EntriesRead s from in
      let t = data_token_at s from in
      let f = data_token-found s from h in
      by_cond (InOrder s (rank from 0) P) (eqb t.sort greater)
      (λ e. let g = strict_of greater (lit< tt) t s from f (eqb-true _ _ e) in
      parsed_order s P (rank from 0) no_more t.end (omega (arith, f.start)) (record { least = omega (arith, f.start); most = f.inside; each = tt }))
      (λ e. by_cond (InOrder s (rank from 0) P) (eqb t.sort name)
      (λ g. then_order s P (SpanRead s from) (rank from 0) _ _ (name_order s seen from h g) (λ w p q.
      then_order s P (ContentRead s p) (rank p 0) _ _ (content_order p (omega (arith, q.least)) q.most) (λ x r y.
      then_order s P (EntriesRead s r) (rank r 0) (members s down fuel (spelling s t ∷ seen) r) _
      (members_order fuel (spelling s t ∷ seen) r (omega (arith, q.least, y.least)) (omega (arith, q.least, y.least)) y.most) (λ ms z b.
      parsed_order s P (rank z 0) (entry w x ms) z (omega arith)
      (record { least = omega (arith, q.least, y.least, b.least); most = b.most; each = ((q.order, q.inside, y.lies), y.each, b.each) })))))
      (λ g. syntax_order s P (rank from 0) from t (omega arith) f))

  -- so does a block, from behind its `<` on
  by_order : (bound place : ℕ) (type : Option Span) (from : ℕ) → bound ≤ rank from 0 → low ≤ from → place < from
      → from ≤ length s → TypeLies (length s) type
      → InOrder s bound (BlockRead s from) (block_by s down place type from)
  unfolding block_rows EachBlock
  by_order bound place type from j i l h y =
      let P = BlockRead s from in
      then_order s P (EntriesRead s from) bound _ _
      (order_lower s (EntriesRead s from) (rank from 0) bound _ j (members_order (length s + 1) [] from i (omega arith) h))
      (λ ms p q. parsed_order s P (rank p 0) (block place type ms) p (omega arith) (record { least = q.least; most = q.most; lies = (omega arith, y); each = q.each }))

-- below the levels that are allowed
deeper_order : (s : List ℕ) (fuel bound place : ℕ) (type : Option Span) (from : ℕ) → bound ≤ rank from 0
    → length s < from + fuel → place < from → from ≤ length s → TypeLies (length s) type
    → InOrder s bound (BlockRead s from) (deeper_block s fuel place type from)
unfolding deeper_block
deeper_order s zero bound place type from j k l h y = absurd (omega arith)
deeper_order s (suc fuel) bound place type from j k l h y =
    by_order s from (deeper_block s fuel) (λ p t q a b c d. deeper_order s fuel (rank p 0) p t q (omega arith) (omega arith) b c d) bound place type from j (omega arith) l h y

-- at any level
pub block_order : (s : List ℕ) (levels place : ℕ) (type : Option Span) (from : ℕ) → place < from → from ≤ length s
    → TypeLies (length s) type
    → InOrder s (rank place 0) (BlockRead s from) (block_from s levels place type from)
unfolding block_from number_of
block_order s zero place type from l h y =
    let P = BlockRead s from in
    noting_order s P (rank place 0) true TooDeep place (deeper_block s (length s + 1) place type from) 3 refl (lit≤ tt) (lit< tt) (omega arith) (omega arith) (deeper_order s (length s + 1) (rank place 3) place type from (omega arith) (omega arith) l h y)
block_order s (suc levels) place type from l h y = by_order s 0 (block_from s levels) (λ p t q a b c d. block_order s levels p t q b c d) (rank place 0) place type from (omega arith) (omega arith) l h y

-- the outermost block
pub outermost_order : (levels : ℕ) (s : List ℕ) → InOrder s 0 (BlockRead s 0) (outermost levels s)
unfolding outermost
outermost_order levels s =
    let P = BlockRead s 0 in
    let t = data_token_at s 0 in
    let f = data_token-found s 0 (omega arith) in
    let below : (place : ℕ) (type : Option Span) (from : ℕ) → 0 ≤ place → place < from → from ≤ length s → TypeLies (length s) type → InOrder s (rank place 0) (BlockRead s from) (block_from s levels place type from)
    = λ p t q a b c d. block_order s levels p t q b c d in
    by_cond (InOrder s 0 P) (eqb t.sort open_round)
    (λ e. order_lower s P (rank t.end 0) 0 _ (omega arith) (typed_order s 0 (block_from s levels) below 0 t.end (omega arith) (omega arith) f.inside))
    (λ e. less_order s 0 (block_from s levels) below None 0 0 (omega arith) (omega arith) (omega arith) tt)

-- a text's outermost block: its members lie in the text, which has room for four bytes each
pub record Accepted (s : List ℕ) (b : Block) (p : ℕ) : Type 0 where
  pub short : length s ≤ text_limit
  pub room : 4 * block_rows b ≤ length s
  pub lies : BlockLies (length s) b
  pub each : EachBlock b (Lies (length s))
  pub inside : p ≤ length s

-- a text that is not too long: its faults come in order and lie in it
pub alone_order : (levels : ℕ) (s : List ℕ)
    → InOrder s 0 (λ b p. length s ≤ text_limit → Accepted s b p) (datum_alone levels s)
unfolding datum_alone
alone_order levels s =
    let P : Block → ℕ → Type 0 = λ b p. length s ≤ text_limit → Accepted s b p in
    then_order s P (BlockRead s 0) 0 _ _ (outermost_order levels s) (λ d p q.
    let f = data_token-found s p q.most in
    token_order s P (rank p 0) text_end p _ (omega arith) q.most (λ e.
    parsed_order s P (rank p 0) d (data_token_at s p).end (omega (arith, f.start, f.order)) (λ l. record { short = l; room = omega arith; lies = q.lies; each = q.each; inside = f.inside })))

-- what holds of an accepted text's block
pub accepted : (levels : ℕ) (s : List ℕ) (b : Block) (p : ℕ) → block_of levels s ≡ got b p → Accepted s b p
unfolding block_of data_text Holds
accepted levels s b p =
    by_cond (λ (w : Parse Block). first_in w ≡ got b p → Accepted s b p) (ltb text_limit (length s))
    (λ l e. let z : ◌≡◌ {A = ℕ} 0 1 = cc in absurd (omega arith))
    (λ l e. (rw e at (order_holds s _ 0 (datum_alone levels s) (alone_order levels s))) (ltb-false text_limit (length s) l))
