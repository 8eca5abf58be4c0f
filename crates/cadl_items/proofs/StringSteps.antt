-- What a step of the readers of strings shows: a law for each way out. Assumes nothing.
use mathlib.Core.Path.{◌≡◌, refl, sym, ◌∙◌}
use mathlib.Core.Bool.{Bool, true, false, cond}
use mathlib.Core.List.{List, [], ◌∷◌, ◌++◌, append_assoc}
use Prim.Native.Nat.{ℕ, zero, suc, ◌+◌, ◌*◌, ◌-◌, ◌≤◌, ◌<◌}
use native.Mathlib.Omega.{arith}
use lib.Dec.{eqb, ltb}
use lib.ListN.{length, length-set}
use borrow.Author.Tests.{eq-eqb, ne_eqb, eqb-true, eqb-false, lt-ltb, le-ltb}
use Rattle.lexis.specs.Runs.{part, listed}
use Rattle.lexis.specs.Spelling.{comma}
use Rattle.lexis.specs.Tokens.{number, token_at, string, inner}
use Rattle.lexis.specs.Clauses.Answers.{TokenIs}
use Rattle.lexis.specs.declared.Token.{Token}
use native.Mathlib.Decide.{dec_lt}
use Rattle.lexis.proofs.Enclosed.{token_two}
use Rattle.refusals.specs.Limits.{item_limit, record_limit, string_limit, text_limit}
use Rattle.refusals.specs.Reading.{Reading, refused, got, refuse, read_then, read_unless}
use Rattle.refusals.specs.Refusals.{refusal}
use Rattle.refusals.specs.Expecting.{expect, syntax_fault}
use Rattle.refusals.specs.Clauses.Answers.{token_reading, ExpectIs}
use Rattle.refusals.specs.declared.Cause.TheVariants.{TooLong, Overlap}
use Rattle.refusals.specs.declared.Refusal.{Refusal}
use Rattle.std.specs.declared.result.Result.{Result}
use Rattle.std.specs.declared.result.Result.TheVariants.{Ok, Err}
use Rattle.refusals.proofs.StepLaws.{expected_fault, expected_token, expected_past}
use Rattle.meaning.specs.Constraints.{Text}
use Rattle.cadl_items.specs.Clauses.Told.{start_string, with_text, strings}
use Rattle.cadl_items.specs.Clauses.Spans.{with_item, first_of, second_of, span_at, latest, earlier, Within, SpansIn}
use Rattle.cadl_items.specs.Clauses.Answers.{text_at, items_from, LeafRoom}
use Rattle.cadl_items.specs.Clauses.Items.{Before, roomy, room_left, string_reading, kept_string, StringStartIs, StringRoom, KeepString, StringKept, Kept, StringIs, StringsIs}
use Rattle.cadl_items.specs.declared.strings.StringEnd.{StringEnd}
use Rattle.cadl_items.specs.declared.strings.StringEnd.TheVariants as string_end
use Rattle.cadl_items.specs.declared.strings.Strings.{Strings}
use Rattle.lexis.proofs.Parts.{part_length}
use Rattle.cadl_items.proofs.LeafParts.{start-string_is, strings_none, strings_some}
use Rattle.cadl_items.proofs.ItemLaws.{item_first, item_second, item_kept, all_kept, first_kept, second_kept, latest_more, latest_same, items_last, items_same, roomy_none, roomy_some, roomy_full, roomy_there, item_left, number_left}

-- a string that is not too long
module _ (s : List ℕ) (at : ℕ) where
  pub string_missing : (x : Refusal) → ExpectIs s string at (expect s string at) (Err x) → ExpectIs s string at (start_string s at) (Err x)
  string_missing x e = record { is = rw (start-string_is s at, expected_fault e x refl); past = tt }

  module _ (t : Token) (e : ExpectIs s string at (expect s string at) (Ok t)) where
    inner-length : length (inner s t) ≡ t.end - 1 - (t.start + 1)
    inner-length = let p = expected_past e t refl in part_length s (t.start + 1) (t.end - 1) (omega arith)

    pub string_long : string_limit + 2 < t.end - t.start → (x : Refusal) → x ≡ refusal TooLong t.start
        → ExpectIs s string at (start_string s at) (Err x)
    string_long l x h = record { is = rw (start-string_is s at, expected_token e t refl, inner-length, lt-ltb string_limit (t.end - 1 - (t.start + 1)) (omega arith), h); past = tt }

    pub string_there : t.end - t.start ≤ string_limit + 2 → ExpectIs s string at (start_string s at) (Ok t)
    string_there l = record { is = rw (start-string_is s at, expected_token e t refl, inner-length, le-ltb string_limit (t.end - 1 - (t.start + 1)) (omega arith)); past = expected_past e t refl }

-- what was taken, and not too long, was taken
short_got : (r : Reading Token) (f : Token → Bool) (t : Token) (p : ℕ)
    → read_then r (λ u q. read_unless (f u) TooLong u.start (got u q)) ≡ got t p → r ≡ got t p
short_got (refused x) f t p h = let z : ◌≡◌ {A = ℕ} 0 1 = cc in absurd (omega arith)
short_got (got u q) f t p h = by (f u) h
  where
    by : (b : Bool) → cond b (refuse TooLong u.start) (got u q) ≡ got t p → got u q ≡ got t p
    by true h = let z : ◌≡◌ {A = ℕ} 0 1 = cc in absurd (omega arith)
    by false h = h

-- a string that was read is in quotes
expect-quoted : (s : List ℕ) (at : ℕ) (t : Token) (p : ℕ) → expect s string at ≡ got t p → t.start + 2 ≤ t.end
unfolding expect
expect-quoted s at t p h = by (eqb (token_at s at).sort string) refl h
  where
    by : (b : Bool) → eqb (token_at s at).sort string ≡ b
        → cond b (got (token_at s at) (token_at s at).end) (syntax_fault (token_at s at)) ≡ got t p → t.start + 2 ≤ t.end
    by true e h = let z : token_at s at ≡ t = cc in rw z at (token_two s at (rw e))
    by false e h = let z : ◌≡◌ {A = ℕ} 0 1 = cc in absurd (omega arith)

start-quoted : (s : List ℕ) (at : ℕ) (t : Token) (p : ℕ) → start_string s at ≡ got t p → t.start + 2 ≤ t.end
start-quoted s at t p e = expect-quoted s at t p (short_got (expect s string at) (λ u. ltb string_limit (length (inner s u))) t p (sym (start-string_is s at) ∙ e))

-- room for it
module _ (s : List ℕ) (number count at : ℕ) where
  pub text_faulty : (x : Refusal) → ExpectIs s string at (start_string s at) (Err x) → StringStartIs s number count at (Err x)
  unfolding roomy
  text_faulty x e = record { is = rw (expected_fault e x refl); past = tt }

  module _ (t : Token) (e : ExpectIs s string at (start_string s at) (Ok t)) where
    pub text_full : (x : Refusal) → Err x ≡ room_left number count t.start → StringStartIs s number count at (Err x)
    text_full x r = record { is = rw (expected_token e t refl) (roomy_full (λ u. u.start) number count t t.end x r); past = tt }

    pub text_there : (u : Unit {0}) → Ok u ≡ room_left number count t.start → Before s number count at → StringStartIs s number count at (Ok t)
    text_there u r b =
        let n = item_left number count t.start u r in
        let k = number_left number count t.start u r in
        let q = expected_past e t refl in
        record {
          is = rw (expected_token e t refl) (roomy_there (λ v. v.start) number count t t.end n k);
          past = (record { order = start-quoted s at t t.end (expected_token e t refl); inside = q.2 }, omega arith, omega arith);
        }

-- a string that was read
module _ (s : List ℕ) (number count : ℕ) (t : Token) (before : List ℕ) (room : KeepString s number count t before) where
  abbrev Again : Bool
  Again = listed (part s (t.start + 1) (t.end - 1)) (earlier s before 0 count)

  abbrev Reads : List ℕ → Result StringEnd Refusal → Type 0
  Reads after r = StringIs s number count (kept_string s number count (earlier s before 0 count) t t.end) before after r

  pub keep_equal : true ≡ Again → Reads before (Err (refusal Overlap t.start))
  unfolding kept_string
  keep_equal k = record { is = rw (← k); kept = all_kept before count; past = tt }

  module _ (k : false ≡ Again) where
    module _ (long : length before ≡ 32) (u : Token) (tok : TokenIs s t.end (token_at s t.end) u) (a b : ℕ)
        (ea : a ≡ t.start + 1) (eb : b ≡ t.end - 1) (after : List ℕ) (e : after ≡ with_item before count a b) where
      roomy-count : 2 * count + 1 < length before
      roomy-count = let f = room.few in omega arith

      put-start : first_of after count ≡ t.start + 1
      put-start = rw e (item_first before count a b roomy-count) ∙ ea

      put_stop : second_of after count ≡ t.end - 1
      put_stop = rw e (item_second before count a b roomy-count) ∙ eb

      put_here : span_at s after count ≡ inner s t
      put_here = λ i. part s (put-start i) (put_stop i)

      still : Kept count before after
      still = rw e (item_kept before count a b)

      spans_more : earlier s after 0 (count + 1) ≡ inner s t ∷ earlier s before 0 count
      spans_more =
          let c = latest_same (span_at s after) (span_at s before) count (λ j l i. part s (first_kept count before after still j l i) (second_kept count before after still j l i)) in
          let y : count + 1 - 0 ≡ count + 1 = omega arith in
          let z : count - 0 ≡ count = omega arith in
          rw (y, z) (latest_more (span_at s after) count ∙ rw (put_here, c))

      lies : (i : ℕ) → Dec (i < count) → i < count + 1 → Within s (first_of after i) (second_of after i)
      lies i (yes l) m =
          let w = room.spans.within i (omega arith) l in
          rw (first_kept count before after still i l, second_kept count before after still i l) w
      lies i (no n) m =
          let z : i ≡ count = omega arith in
          let q = room.quoted in
          rw (z, put-start, put_stop) (record { order = omega arith; inside = omega arith })

      kept : (next : ℕ) → next ≤ length s → StringKept s number count after next
      kept next m =
          let f = room.few in
          let g = room.quoted in
          let n : length after ≡ 32 = rw (e, length-set, length-set) long in
          record {
            few = f;
            records = room.records;
            spans = record { room = omega arith; within = λ i x y. lies i (dec_lt i count) y };
            inside = m;
          }

      pub keep_comma : u.sort ≡ comma → Reads after (Ok (string_end.More u.end))
      unfolding kept_string
      keep_comma c =
          record {
            is = rw (← k, ← tok.is, eq-eqb u.sort comma c, put_here, spans_more);
            kept = still;
            past = kept u.end tok.inside;
          }

      pub keep_end : (u.sort ≡ comma → ⊥) → Reads after (Ok (string_end.Last t.end))
      unfolding kept_string
      keep_end n =
          record {
            is = rw (← k, ← tok.is, ne_eqb u.sort comma n, put_here);
            kept = still;
            past = kept t.end room.quoted.inside;
          }

-- a list from a string on
strings_step : (s : List ℕ) (number count at : ℕ) (seen : List (List ℕ)) → count ≤ item_limit
    → read_then (roomy (λ t. t.start) number count (start_string s at)) (λ t p. kept_string s number count seen t p)
    ≡ strings s (item_limit - count) number seen at
unfolding kept_string
strings_step s number count at seen l = by (eqb count item_limit) refl
  where
    go : Token → ℕ → Reading (List Text)
    go t p = kept_string s number count seen t p

    by : (b : Bool) → eqb count item_limit ≡ b
        → read_then (roomy (λ t. t.start) number count (start_string s at)) go
        ≡ strings s (item_limit - count) number seen at
    by true e =
        let c = eqb-true count item_limit e in
        let z : item_limit - count ≡ zero = omega arith in
        rw (z, strings_none s number seen at) (roomy_none (λ t. t.start) number count go (start_string s at) e)
    by false e =
        let c = eqb-false count item_limit e in
        let z : item_limit - count ≡ suc (item_limit - (count + 1)) = omega arith in
        rw (z, strings_some s (item_limit - (count + 1)) number seen at) (roomy_some (λ t. t.start) number count go (start_string s at) e)

module _ (s : List ℕ) (number count at : ℕ) (before : List ℕ) (d : StringRoom s number count at before) where
  abbrev Steps : List ℕ → Result StringEnd Refusal → Type 0
  Steps after o = StringIs s number count (strings s (item_limit - count) number (earlier s before 0 count) at) before after o

  step : (r : Result Token Refusal) → StringStartIs s number count at r
      → read_then (token_reading r) (λ t p. kept_string s number count (earlier s before 0 count) t p)
      ≡ strings s (item_limit - count) number (earlier s before 0 count) at
  step r e = rw e.is (strings_step s number count at (earlier s before 0 count) d.before.few)

  pub step_faulty : (x : Refusal) → StringStartIs s number count at (Err x) → Steps before (Err x)
  step_faulty x e = record { is = step (Err x) e; kept = all_kept before count; past = tt }

  module _ (t : Token) (e : StringStartIs s number count at (Ok t)) where
    pub step_room : KeepString s number count t before
    step_room = let p = e.past in record { quoted = p.0; few = p.1; records = p.2; short = d.short; spans = d.spans }

    pub step_kept : (after : List ℕ) (o : Result StringEnd Refusal)
        → StringIs s number count (kept_string s number count (earlier s before 0 count) t t.end) before after o
        → Steps after o
    step_kept after o b = record { is = b.is ∙ step (Ok t) e; kept = b.kept; past = b.past }

-- strings before the others of a list
abbrev with_texts : List Text → Reading (List Text) → Reading (List Text)
with_texts xs r = read_then r (λ l p. got (xs ++ l) p)

with_text_lem : (xs : List Text) (x : Text) (r : Reading (List Text))
    → with_texts xs (with_text x r) ≡ with_texts (xs ++ (x ∷ [])) r
with_text_lem xs x (refused y) = refl
with_text_lem xs x (got l p) = let h = append_assoc xs (x ∷ []) l in λ i. got (sym h i) p

with_none : (r : Reading (List Text)) → with_texts [] r ≡ r
with_none (refused y) = refl
with_none (got l p) = refl

-- so many strings are in the scratch, and the list goes on at a place
pub record InStrings (s : List ℕ) (number from : ℕ) (scratch : List ℕ) (count at : ℕ) : Type 0 where
  pub inside : at ≤ length s
  pub short : length s ≤ text_limit
  pub few : count ≤ item_limit
  pub records : number + count ≤ record_limit
  pub spans : SpansIn s scratch 0 count
  pub is : with_texts (items_from (text_at s scratch) number 0 count)
      (strings s (item_limit - count) (number + count) (earlier s scratch 0 count) at)
      ≡ strings s item_limit number [] from

pub strings_start : (s : List ℕ) (number from : ℕ) (scratch : List ℕ) → LeafRoom s number from
    → InStrings s number from scratch 0 from
unfolding items_from latest
strings_start s number from scratch h =
    let e : number + 0 ≡ number = omega arith in
    let r = h.records in
    record {
      inside = h.inside;
      short = h.short;
      few = omega arith;
      records = omega arith;
      spans = record { room = omega arith; within = λ i a b. absurd (omega arith) };
      is = rw e (with_none (strings s item_limit number [] from));
    }

module _ (s : List ℕ) (number from : ℕ) (before : List ℕ) (count at : ℕ)
    (inv : InStrings s number from before count at) where
  pub strings_room : StringRoom s (number + count) count at before
  strings_room = record { before = record { inside = inv.inside; few = inv.few; records = inv.records }; short = inv.short; spans = inv.spans }

  module _ (after : List ℕ) where
    abbrev Next : Result StringEnd Refusal → Type 0
    Next r = StringIs s (number + count) count (strings s (item_limit - count) (number + count) (earlier s before 0 count) at) before after r

    whole : (r : Result StringEnd Refusal) → Next r
        → with_texts (items_from (text_at s after) number 0 count) (string_reading s (number + count) count after r)
        ≡ strings s item_limit number [] from
    whole r e =
        let h = items_same (text_at s after) (text_at s before) number 0 count
        (λ m j l i. record { number = m; text = part s (first_kept count before after e.kept j (omega arith) i) (second_kept count before after e.kept j (omega arith) i) }) in
        rw (h, e.is) inv.is

    pub strings_faulty : (x : Refusal) → Next (Err x) → StringsIs s number from after (Err x)
    strings_faulty x e = record { is = whole (Err x) e; past = tt }

    more : items_from (text_at s after) number 0 (count + 1)
        ≡ items_from (text_at s after) number 0 count ++ (text_at s after (number + count) count ∷ [])
    more = items_last (text_at s after) number count

    pub strings_last : (y : StringEnd) → Next (Ok y) → (p : ℕ) → y ≡ string_end.Last p → (l : Strings) → l.count ≡ count + 1 → l.next ≡ p
        → StringsIs s number from after (Ok l)
    strings_last y f p g l b c =
        let e : Next (Ok (string_end.Last p)) = rw g at f in
        let q = e.past in
        record {
          is = rw (b, c, more) (whole (Ok (string_end.Last p)) e);
          past = rw b (record { some = omega arith; few = omega arith; records = omega arith; spans = q.spans });
        }

    pub strings_more : (y : StringEnd) → Next (Ok y) → (p : ℕ) → y ≡ string_end.More p → InStrings s number from after (count + 1) p
    strings_more y f p g =
        let e : Next (Ok (string_end.More p)) = rw g at f in
        let q = e.past in
        let w = whole (Ok (string_end.More p)) e in
        let m : number + (count + 1) ≡ number + count + 1 = omega arith in
        let n = with_text_lem (items_from (text_at s after) number 0 count) (text_at s after (number + count) count) (strings s (item_limit - (count + 1)) (number + count + 1) (earlier s after 0 (count + 1)) p) in
        record {
          inside = q.inside;
          short = inv.short;
          few = omega arith;
          records = omega arith;
          spans = q.spans;
          is = rw (m, more) (sym n ∙ w);
        }

    pub strings_less : (y : StringEnd) → Next (Ok y) → (p : ℕ) → y ≡ string_end.More p → item_limit - (count + 1) < item_limit - count
    strings_less y f p g =
        let e : Next (Ok (string_end.More p)) = rw g at f in
        let q = e.past in
        omega arith
