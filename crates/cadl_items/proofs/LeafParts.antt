-- What reading tells of a leaf, by its parts. Assumes nothing.
use mathlib.Core.Path.{◌≡◌, refl}
use mathlib.Core.Bool.{true, false, cond, not, ◌&&◌, ◌||◌}
use mathlib.Core.List.{List, [], ◌∷◌}
use Prim.Native.Nat.{ℕ, zero, suc, ◌+◌}
use lib.Dec.{eqb, ltb}
use lib.ListN.{length}
use Rattle.lexis.specs.Runs.{listed}
use Rattle.lexis.specs.Spelling.{bar, comma}
use Rattle.lexis.specs.Spelling
use Rattle.lexis.specs.Durations
use Rattle.lexis.specs.Tokens.{token_at, content_token_at, integer, date, string, inner}
use Rattle.lexis.specs.declared.Token.{Token}
use Rattle.values.specs.Integers.{Pair}
use Rattle.refusals.specs.Limits.{record_limit, string_limit, item_limit}
use Rattle.refusals.specs.declared.Cause.TheVariants.{TooLong, TooManyItems, TooManyRecords, Overlap}
use Rattle.refusals.specs.Reading.{got, refuse, read_then, read_unless}
use Rattle.refusals.specs.Expecting.{expect, syntax_fault}
use Rattle.refusals.specs.Parsing.{wanted}
use Rattle.refusals.proofs.Parses.{first_then, told_cond, told_noting, told_read, told_then, told_soundly}
use Rattle.meaning.specs.Constraints.{booleans, date_pattern, time_pattern, duration_pattern, single, texts}
use Rattle.cadl_intervals.specs.Intervals.{undecided}
use Rattle.cadl_intervals.specs.Intervals
use Rattle.cadl_intervals.specs.Clauses.Told.{literal, interval}
use Rattle.cadl_items.specs.Ranges.{overlaps}
use Rattle.cadl_items.specs.Ranges as range_text
use Rattle.cadl_items.specs.Strings as string_text
use Rattle.cadl_items.specs.Leaves.{is_boolean, boolean_flag, range_leaf, is_pattern}
use Rattle.cadl_items.specs.Leaves as leaf_text
use Rattle.cadl_items.specs.Clauses.Told.{start, item, go_on_ranges, ranges, start_string, go_on_strings, strings, second_boolean, boolean_list, pattern_leaf, leaf}

module _ (s : List ℕ) where
  pub start_is : (kind at : ℕ) → start s kind at
      ≡ cond (eqb (token_at s at).sort bar)
      (got (record { place = (token_at s at).start; single = false; value = 0 }) (token_at s at).end)
      (cond (eqb (token_at s at).sort integer && not (eqb kind date))
      (read_then (literal s integer at)
      (λ v p. got (record { place = (token_at s at).start; single = true; value = v }) p))
      (syntax_fault (token_at s at)))
  unfolding start literal range_text.start
  start_is kind at =
      told_cond (eqb (token_at s at).sort bar) _ _ _ _ refl
      (told_cond (eqb (token_at s at).sort integer && not (eqb kind date)) _ _ _ _ (first_then (Intervals.literal s integer at) _) refl)

  pub ranges_none : (kind number : ℕ) (seen : List Pair) (at : ℕ)
      → ranges s zero kind number seen at ≡ read_then (start s kind at) (λ x p. refuse TooManyItems x.place)
  unfolding ranges start range_text.ranges
  ranges_none kind number seen at = told_soundly (range_text.start s kind at) _ _ _ refl (λ x p. refl)

  pub ranges_some : (left kind number : ℕ) (seen : List Pair) (at : ℕ) → ranges s (suc left) kind number seen at
      ≡ read_then (start s kind at) (λ x p.
      read_unless (eqb number record_limit) TooManyRecords x.place
      (read_then (item s kind x p) (λ i q.
      read_unless (overlaps i.pair seen) Overlap x.place
      (go_on_ranges s number i (ranges s left i.kind (number + 1) (i.pair ∷ seen)) q))))
  unfolding ranges start interval range_text.ranges
  ranges_some left kind number seen at =
      told_soundly (range_text.start s kind at) _ _ _ refl (λ x p.
      told_noting (eqb number record_limit) TooManyRecords x.place _ _
      (told_soundly (range_text.item s kind x p) _ _ _ (told_cond x.single _ _ _ _ refl refl) (λ i q.
      told_noting (overlaps i.pair seen) Overlap x.place _ _
      (told_cond (eqb (token_at s q).sort comma) _ _ _ _ (first_then (range_text.ranges s left i.kind (number + 1) (i.pair ∷ seen) (token_at s q).end) _) refl))))

  pub start-string_is : (at : ℕ) → start_string s at
      ≡ read_then (expect s string at)
      (λ t p. read_unless (ltb string_limit (length (inner s t))) TooLong t.start (got t p))
  unfolding start_string string_text.start_string
  start-string_is at = told_then (wanted s string at) _ _ _ (told_read (expect s string at)) (λ t p. told_noting (ltb string_limit (length (inner s t))) TooLong t.start _ _ refl)

  pub strings_none : (number : ℕ) (seen : List (List ℕ)) (at : ℕ)
      → strings s zero number seen at ≡ read_then (start_string s at) (λ t p. refuse TooManyItems t.start)
  unfolding strings start_string string_text.strings
  strings_none number seen at = told_soundly (string_text.start_string s at) _ _ _ refl (λ t p. refl)

  pub strings_some : (left number : ℕ) (seen : List (List ℕ)) (at : ℕ) → strings s (suc left) number seen at
      ≡ read_then (start_string s at) (λ t p.
      read_unless (eqb number record_limit) TooManyRecords t.start
      (read_unless (listed (inner s t) seen) Overlap t.start
      (go_on_strings s (record { number = number; text = inner s t })
      (strings s left (number + 1) (inner s t ∷ seen)) p)))
  unfolding strings start_string string_text.strings
  strings_some left number seen at =
      told_soundly (string_text.start_string s at) _ _ _ refl (λ t p.
      told_noting (eqb number record_limit) TooManyRecords t.start _ _
      (told_noting (listed (inner s t) seen) Overlap t.start _ _
      (told_cond (eqb (token_at s p).sort comma) _ _ _ _ (first_then (string_text.strings s left (number + 1) (inner s t ∷ seen) (token_at s p).end) _) refl)))

  pub second_is : (number flag at : ℕ) → second_boolean s number flag at
      ≡ cond (is_boolean (token_at s at))
      (read_unless (eqb (boolean_flag (token_at s at)) flag) Overlap (token_at s at).start
      (got (single booleans number 3) (token_at s at).end))
      (syntax_fault (token_at s at))
  unfolding second_boolean leaf_text.second_boolean
  second_is number flag at =
      told_cond (is_boolean (token_at s at)) _ _ _ _ (told_noting (eqb (boolean_flag (token_at s at)) flag) Overlap (token_at s at).start _ _ refl) refl

  pub boolean_is : (number : ℕ) (t : Token) → boolean_list s number t
      ≡ cond (eqb (token_at s t.end).sort comma) (second_boolean s number (boolean_flag t) (token_at s t.end).end)
      (got (single booleans number (boolean_flag t)) t.end)
  unfolding boolean_list second_boolean leaf_text.boolean_list
  boolean_is number t = told_cond (eqb (token_at s t.end).sort comma) _ _ _ _ refl refl

  pub leaf_is : (number at : ℕ) → leaf s number at
      ≡ cond (is_boolean (content_token_at s at))
      (read_unless (eqb number record_limit) TooManyRecords (content_token_at s at).start (boolean_list s number (content_token_at s at)))
      (cond (eqb (content_token_at s at).sort integer || eqb (content_token_at s at).sort bar)
      (read_then (ranges s item_limit undecided number [] at) (λ l p. got (range_leaf l) p))
      (cond (eqb (content_token_at s at).sort string)
      (read_then (strings s item_limit number [] at) (λ l p. got (texts l) p))
      (cond (is_pattern date_pattern Spelling.date_pattern (content_token_at s at))
      (pattern_leaf date_pattern Spelling.date_pattern number (content_token_at s at))
      (cond (is_pattern time_pattern Spelling.time_pattern (content_token_at s at))
      (pattern_leaf time_pattern Spelling.time_pattern number (content_token_at s at))
      (cond (is_pattern duration_pattern Durations.duration_pattern (content_token_at s at))
      (pattern_leaf duration_pattern Durations.duration_pattern number (content_token_at s at))
      (syntax_fault (content_token_at s at)))))))
  unfolding leaf boolean_list ranges strings leaf_text.leaf
  leaf_is number at =
      let t = content_token_at s at in
      let room = told_noting (eqb number record_limit) TooManyRecords t.start in
      told_cond (is_boolean t) _ _ _ _ (room _ _ refl)
      (told_cond (eqb t.sort integer || eqb t.sort bar) _ _ _ _ (first_then (range_text.ranges s item_limit undecided number [] at) _)
      (told_cond (eqb t.sort string) _ _ _ _ (first_then (string_text.strings s item_limit number [] at) _)
      (told_cond (is_pattern date_pattern Spelling.date_pattern t) _ _ _ _ (room _ _ refl)
      (told_cond (is_pattern time_pattern Spelling.time_pattern t) _ _ _ _ (room _ _ refl)
      (told_cond (is_pattern duration_pattern Durations.duration_pattern t) _ _ _ _ (room _ _ refl) refl)))))
