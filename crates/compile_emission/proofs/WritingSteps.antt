-- Steps of the functions that write the records and the bytes of leaves. Assumes nothing.
use mathlib.Core.Path.{◌≡◌, refl, sym, ap, ◌∙◌}
use mathlib.Core.Bool.{Bool, true, false, cond}
use mathlib.Core.List.{List, [], ◌∷◌, append-nil}
use Prim.Native.Nat.{ℕ, zero, suc, ◌+◌, ◌*◌, ◌-◌, ◌≤◌, ◌<◌}
use native.Mathlib.Omega.{arith}
use native.Mathlib.Nat.{add-zero}
use native.Mathlib.Numerals.{add-one}
use lib.Dec.{ltb}
use lib.ListN.{length, get_or, drop, length-append}
use lib.Seq.{sets, drop-cons}
use borrow.Author.Tests.{lt-ltb, le-ltb, ltb-true, ltb-false}
use Rattle.lexis.specs.Runs.{part}
use Rattle.lexis.proofs.Stores.{sets_behind}
use Rattle.meaning.specs.Constraints.{RangeSort, Range}
use Rattle.meaning.specs.Counting.{text_pool}
use Rattle.meaning.specs.Admission.{first_range, first_text}
use Rattle.cadl_items.specs.Clauses.Spans.{first_of, second_of, span_at, Within}
use Rattle.cadl_items.specs.Clauses.Answers.{items_from, range_at, text_at}
use Rattle.lexis.proofs.Parts.{part_length}
use Rattle.meaning.specs.Sorts.{range_row, text_kind}
use Rattle.table.specs.Records.{Record, record_size, field_count, encode, encodes, make}
use Rattle.table.specs.Clauses.Answers.{plain_entry, record_of}
use Rattle.table.specs.declared.records.Entry.{Entry}
use Rattle.table.proofs.RecordLaws.{length-encode}
use Rattle.compile_flatten.specs.Flatten.{place_for, range_records, string_records}
use Rattle.compile_emission.specs.Clauses.Answers.{CopyFits, PartPut, pooled_place, link_below, spot, Puts, ListWritingRoom, TextFits, TextPut, TextsRoom, TextsPut}
use Rattle.compile_emission.specs.declared.spots.Spot.{Spot}
use Rattle.compile_flatten.proofs.FlattenLaws.{strings-length}

-- a number where one place lies before another, and 0 elsewhere
pub pick_there : (a b v r : ℕ) → a < b → r ≡ v → r ≡ cond (ltb a b) v 0
pick_there a b v r h e = rw (lt-ltb a b h) e

pub pick_none : (a b v : ℕ) → b ≤ a → 0 ≡ cond (ltb a b) v 0
pick_none a b v h = rw (le-ltb a b h)

-- ---- a part of the text in the pool

part_cons : (s : List ℕ) (i end : ℕ) → i < end → end ≤ length s → part s i end ≡ get_or s i 0 ∷ part s (i + 1) end
part_cons s i end h k =
    let e : end - i ≡ suc (end - (i + 1)) = omega arith in
    let l : i < length s = omega arith in
    rw (e, drop-cons s i 0 l, ← add-one i)

part_none : (s : List ℕ) (i end : ℕ) → end ≤ i → part s i end ≡ []
part_none s i end h = let e : end - i ≡ 0 = omega arith in rw e

-- a part of some bytes, copied whole
module _ {s : List ℕ} {start end at : ℕ} {before : List ℕ} (h : CopyFits s start end before at) where
  pub part_asks : (0 ≤ length (part s start end)) × (at + (length (part s start end) - 0) ≤ length before)
  part_asks =
      let l = h.lies in
      let r = h.room in
      let n = part_length s start end l.inside in
      (omega arith, omega arith)

  pub part_put : (after : List ℕ) → after ≡ sets before at (drop 0 (part s start end))
      → PartPut s start end at before after (at + (end - start))
  part_put after e =
      let l = h.lies in
      let n = part_length s start end l.inside in
      record { behind = omega arith; bytes = e }

-- a part's place in the pool
pub place_part : (s : List ℕ) (start end at : ℕ) → Within s start end
    → pooled_place start end at ≡ place_for (part s start end) at
place_part s start end at w = by (ltb start end) refl
  where
    by : (b : Bool) → ltb start end ≡ b → cond b at 0 ≡ place_for (part s start end) at
    by true e = rw (part_cons s start end (ltb-true start end e) w.inside)
    by false e = rw (part_none s start end (ltb-false start end e))

-- ---- records one after the other

-- one record
pub single_put : (little : Bool) (p : Spot) (place kind flag : ℕ) (before after : List ℕ) (e : Entry)
    → e ≡ plain_entry kind flag → after ≡ sets before (record_size * p.next) (encode little (record_of e))
    → Puts little p place (make kind flag [] ∷ []) 0 before after (spot place (p.next + 1) p.pool)
single_put little p place kind flag before after e k w = record {
  answer = ap (λ x. spot place (p.next + 1) x) (sym (add-zero p.pool));
  records = rw append-nil (rw k at w);
}

-- a record in front of others
pub front : (little : Bool) (r : Record) (rs : List Record) (n : ℕ) (out : List ℕ) → length r.fields ≡ field_count
    → sets (sets out (record_size * n) (encode little r)) (record_size * (n + 1)) (encodes little rs)
    ≡ sets out (record_size * n) (encodes little (r ∷ rs))
front little r rs n out h =
    sets_behind (encode little r) (encodes little rs) out (record_size * n) (record_size * (n + 1)) (let l = length-encode little r h in omega arith)

-- ---- integers and dates

items-length : {A : Type 0} (f : ℕ → ℕ → A) (number i n : ℕ) → length (items_from f number i n) ≡ n
unfolding items_from
items-length f number i zero = refl
items-length f number i (suc n) = ap suc (items-length f (number + 1) (i + 1) n)

first_range_lem : (scratch : List ℕ) (m i k end : ℕ) → end ≡ m + k
    → first_range (items_from (range_at scratch) m i k) ≡ link_below m end
unfolding items_from
first_range_lem scratch m i zero end e = pick_none m end m (omega arith)
first_range_lem scratch m i (suc k) end e = pick_there m end m m (omega arith) refl

first_text_lem : (s scratch : List ℕ) (m i k end : ℕ) → end ≡ m + k
    → first_text (items_from (text_at s scratch) m i k) ≡ link_below m end
unfolding items_from
first_text_lem s scratch m i zero end e = pick_none m end m (omega arith)
first_text_lem s scratch m i (suc k) end e = pick_there m end m m (omega arith) refl

ranges-length : (sort : RangeSort) (l : List Range) → length (range_records sort l) ≡ length l
ranges-length sort [] = refl
ranges-length sort (x ∷ xs) = ap suc (ranges-length sort xs)

-- the items before item i are written: with those that are left the records are what they are to be
abbrev ranges_left : Bool → RangeSort → List ℕ → ℕ → ℕ → ℕ → List ℕ → List ℕ
ranges_left little sort scratch m i k rs = sets rs (record_size * m) (encodes little (range_records sort (items_from (range_at scratch) m i k)))

pub record InRanges (little : Bool) (p : Spot) (sort : RangeSort) (scratch : List ℕ) (count end : ℕ) (before : List ℕ)
    (i : ℕ) (rs : List ℕ) : Type 0 where
  pub room : ListWritingRoom p count
  pub ends : end ≡ p.next + count
  pub most : i ≤ count
  pub is : ranges_left little sort scratch (p.next + i) i (count - i) rs
      ≡ ranges_left little sort scratch p.next 0 count before

pub ranges_start : (little : Bool) (p : Spot) (sort : RangeSort) (scratch : List ℕ) (count : ℕ) (before : List ℕ)
    → ListWritingRoom p count → InRanges little p sort scratch count (p.next + count) before 0 before
ranges_start little p sort scratch count before h =
    let e : p.next + 0 ≡ p.next = omega arith in
    let f : count - 0 ≡ count = omega arith in
    record { room = h; ends = refl; most = omega arith; is = rw (e, f) }

module _ {little : Bool} {p : Spot} {sort : RangeSort} {scratch : List ℕ} {count end : ℕ} {before : List ℕ} {i : ℕ}
    {rs : List ℕ} (inv : InRanges little p sort scratch count end before i rs) where
  pub ranges_go_on : (x : List ℕ) (item : ℕ) → i < count
      → x ≡ sets rs (record_size * (p.next + i))
      (encode little
      (make (range_row sort).kind 0
      ((range_row sort).end (first_of scratch item) ∷ (range_row sort).end (second_of scratch item) ∷ 0 ∷ 0
      ∷ link_below (p.next + i + 1) end ∷ [])))
      → item ≡ i
      → InRanges little p sort scratch count end before (i + 1) x
  unfolding items_from
  ranges_go_on x item h w is =
      let e = rw is at w in
      let k = count - (i + 1) in
      let a : count - i ≡ suc k = omega arith in
      let b : p.next + (i + 1) ≡ p.next + i + 1 = omega arith in
      let j = inv.ends in
      let f = first_range_lem scratch (p.next + i + 1) (i + 1) k end (omega arith) in
      let w = rw (a, f) at inv.is in
      let row = make (range_row sort).kind 0 ((range_row sort).end (first_of scratch i) ∷ (range_row sort).end (second_of scratch i) ∷ 0 ∷ 0 ∷ link_below (p.next + i + 1) end ∷ []) in
      record { room = inv.room; ends = inv.ends; most = omega arith; is = rw (e, b) (front little row (range_records sort (items_from (range_at scratch) (p.next + i + 1) (i + 1) k)) (p.next + i) rs refl ∙ w) }

  pub ranges_end : (place : ℕ) → count ≤ i
      → Puts little p place (range_records sort (items_from (range_at scratch) p.next 0 count)) 0 before rs
      (spot place end p.pool)
  unfolding items_from
  ranges_end place h =
      let a : count - i ≡ 0 = omega arith in
      let l = ranges-length sort (items_from (range_at scratch) p.next 0 count) ∙ items-length (range_at scratch) p.next 0 count in
      let n : end ≡ p.next + length (range_records sort (items_from (range_at scratch) p.next 0 count)) = let j = inv.ends in omega arith in
      record { answer = λ t. spot place (n t) (sym (add-zero p.pool) t); records = rw a at inv.is }

-- ---- strings

-- the strings before item i are written: with those that are left the records and the pool are what they are to be
abbrev texts_left : List ℕ → Bool → List ℕ → ℕ → ℕ → ℕ → ℕ → List ℕ → List ℕ
texts_left s little scratch m i k pool rs = sets rs (record_size * m) (encodes little (string_records pool (items_from (text_at s scratch) m i k)))

abbrev bytes_left : List ℕ → List ℕ → ℕ → ℕ → ℕ → ℕ → List ℕ → List ℕ
bytes_left s scratch m i k pool bs = sets bs pool (text_pool (items_from (text_at s scratch) m i k))

pub record InTexts (s : List ℕ) (little : Bool) (p : Spot) (scratch : List ℕ) (count end : ℕ) (rs₀ bs₀ : List ℕ)
    (i to : ℕ) (rs bs : List ℕ) : Type 0 where
  pub room : TextsRoom s p scratch count
  pub ends : end ≡ p.next + count
  pub most : i ≤ count
  pub sum : to + length (text_pool (items_from (text_at s scratch) (p.next + i) i (count - i)))
      ≡ p.pool + length (text_pool (items_from (text_at s scratch) p.next 0 count))
  pub records : texts_left s little scratch (p.next + i) i (count - i) to rs
      ≡ texts_left s little scratch p.next 0 count p.pool rs₀
  pub bytes : bytes_left s scratch (p.next + i) i (count - i) to bs
      ≡ bytes_left s scratch p.next 0 count p.pool bs₀

pub texts_start : (s : List ℕ) (little : Bool) (p : Spot) (scratch : List ℕ) (count : ℕ) (rs bs : List ℕ)
    → TextsRoom s p scratch count → InTexts s little p scratch count (p.next + count) rs bs 0 p.pool rs bs
texts_start s little p scratch count rs bs h =
    let e : p.next + 0 ≡ p.next = omega arith in
    let f : count - 0 ≡ count = omega arith in
    record { room = h; ends = refl; most = omega arith; sum = rw (e, f); records = rw (e, f); bytes = rw (e, f) }

module _ {s : List ℕ} {little : Bool} {p : Spot} {scratch : List ℕ} {count end : ℕ} {rs₀ bs₀ : List ℕ} {i to : ℕ}
    {rs bs : List ℕ} (inv : InTexts s little p scratch count end rs₀ bs₀ i to rs bs) where
  sum_step : i < count
      → to + (length (span_at s scratch i) + length
      (text_pool (items_from (text_at s scratch) (p.next + i + 1) (i + 1) (count - (i + 1)))))
      ≡ p.pool + length (text_pool (items_from (text_at s scratch) p.next 0 count))
  unfolding items_from
  sum_step h = let a : count - i ≡ suc (count - (i + 1)) = omega arith in rw (a, length-append) at inv.sum

  pub texts_fit : i < count → TextFits s scratch i (p.next + i) to
  texts_fit h =
      let r = inv.room in
      let w = r.spans.within i (omega arith) h in
      let l = part_length s (first_of scratch i) (second_of scratch i) w.inside in
      let z = sum_step h in
      record { few = omega arith; part = record { lies = w; room = omega arith }; short = r.short; records = omega arith }

  pub texts_go_on : (rs' bs' : List ℕ) (r : ℕ) → i < count
      → TextPut (span_at s scratch i) little (p.next + i) end to rs bs rs' bs' r
      → InTexts s little p scratch count end rs₀ bs₀ (i + 1) r rs' bs'
  unfolding items_from
  texts_go_on rs' bs' r h e =
      let k = count - (i + 1) in
      let w = span_at s scratch i in
      let items = items_from (text_at s scratch) (p.next + i + 1) (i + 1) k in
      let a : count - i ≡ suc k = omega arith in
      let b : p.next + (i + 1) ≡ p.next + i + 1 = omega arith in
      let j = inv.ends in
      let f = first_text_lem s scratch (p.next + i + 1) (i + 1) k end (omega arith) in
      let row = make text_kind 0 (place_for w to ∷ length w ∷ 0 ∷ 0 ∷ link_below (p.next + i + 1) end ∷ []) in
      record {
        room = inv.room;
        ends = inv.ends;
        most = omega arith;
        sum = let z = sum_step h in let y = e.behind in rw b (omega arith);
        records = rw (e.records, e.behind, b) (front little row (string_records (to + length w) items) (p.next + i) rs refl ∙ rw (a, f) at inv.records);
        bytes = rw (e.bytes, e.behind, b) (sets_behind w (text_pool items) bs to (to + length w) refl ∙ rw a at inv.bytes);
      }

  pub texts_end : (place : ℕ) → count ≤ i
      → TextsPut s little p scratch count place rs₀ bs₀ rs bs (spot place end to)
  unfolding items_from
  texts_end place h =
      let items = items_from (text_at s scratch) p.next 0 count in
      let a : count - i ≡ 0 = omega arith in
      let l = strings-length items p.pool ∙ items-length (text_at s scratch) p.next 0 count in
      let n : end ≡ p.next + length (string_records p.pool items) = let j = inv.ends in omega arith in
      let m : to ≡ p.pool + length (text_pool items) = let z = rw a at inv.sum in omega arith in
      record {
        puts = record { answer = λ t. spot place (n t) (m t); records = rw a at inv.records };
        bytes = rw a at inv.bytes;
      }
