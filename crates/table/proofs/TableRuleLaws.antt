-- What the check of a table tests is what the rules of a table say: bytes pass it exactly where they are a table, and are refused exactly for the rule that they break.
-- Assumes nothing.
use mathlib.Core.Path.{◌≡◌, refl, sym, ap, subst, subst₂, ◌∙◌}
use mathlib.Core.Logic.{◌↔◌}
use mathlib.Core.Bool.{Bool, true, false, ◌&&◌, false≢true}
use Rattle.std.specs.Prelude.{Option, None, Some}
use mathlib.Core.List.{List, [], ◌∷◌}
use Prim.Native.Nat.{ℕ, zero, suc, ◌+◌, ◌*◌, ◌-◌, ◌≤◌, ◌<◌}
use native.Mathlib.Omega.{arith}
use lib.Dec.{eqb}
use lib.ListN.{get_or, take, drop}
use lib.Seq.{take-take, drop-drop}
use borrow.Author.Tests.{eqb-true, le-leb}
use Rattle.lexis.specs.Bytes.{among}
use Rattle.lexis.proofs.Cases.{by_cond, and_left, and_right}
use Rattle.values.proofs.Common.{by_order}
use Rattle.values.proofs.DayLaws.{packed_day_lem}
use Rattle.refusals.specs.Limits.{name_limit, code_limit, string_limit}
use Rattle.refusals.specs.Refusals.{refusal}
use Rattle.refusals.specs.declared.Refusal.{Refusal}
use Rattle.refusals.specs.declared.Cause.TheVariants.{BrokenRecord}
use Rattle.meaning.specs.Constraints.{SingleSort, booleans, date_pattern, time_pattern, duration_pattern, integers, dates}
use Rattle.meaning.specs.Sorts.{single_row}
use Rattle.table.specs.Records.{Record, record_size, field_count, is_marked, is_little, make, field, header, decodes, image_of, record_in}
use Rattle.table.specs.Rows.{Shape, shape_of, items, unnamed, place, link, row_for}
use Rattle.table.specs.Check.{kind_at, field_right, is_nought, uses_of, flag_right, obeys, clean, record_right, broken, framed, broken_record, table_fault, all_nought}
use Rattle.table.specs.TableRules.{Holds, IsFrame, PoolPair, Link, IsRecord, IsTable, NoTable}
use Rattle.table.specs.Clauses.Answers.{Opened}
use Rattle.table.specs.declared.records.Frame.{Frame}
use Rattle.table.proofs.RecordLaws.{decode_counted}
use Rattle.table.proofs.UseLaws.{each_passed, place_right, by_link, integers_right, dates_right, across_none}
use Rattle.table.proofs.FieldLaws.{link_right}
use Rattle.table.proofs.CheckLaws.{Framed, framed_is, is_framed, kind_inside, count-framed}
use Rattle.table.proofs.FrameLaws.{decode_kind, count_opened, pool_opened, kind_opened, framed_opened}
use Rattle.table.proofs.HoldsLaws.{all_fields, made, holds_is, holds_marked, holds_room, holds_there, kind_is, kind_there}
use Rattle.table.proofs.FieldRuleLaws.{place_is, place_has, twos_has, integers_are, dates_are, only_rule, value_rule, Ruled, ruled_right, Kept, kept}

-- the numbers of a frame are those in the header
pub frame_is : (bs : List ℕ) (count pool root : ℕ) → IsFrame bs count pool root
    → (count ≡ field (header bs) 0) × (pool ≡ field (header bs) 1) × (root ≡ field (header bs) 2)
frame_is bs count pool root f =
    let e = holds_is bs 0 f.little (make 0 0 (count ∷ pool ∷ root ∷ [])) f.header in
    (ap (λ r. field r 0) e, ap (λ r. field r 1) e, ap (λ r. field r 2) e)

-- the kind at a number is that of the record read there
kind_read : (bs : List ℕ) (f : Frame) → Opened bs f → (n : ℕ) → 1 ≤ n → n < f.count
    → kind_at (image_of bs) n ≡ (record_in bs n).kind
kind_read bs f o n h l = kind_opened bs f o n h l ∙ sym (decode_kind bs (record_size * n))

-- the header of bytes with the frame is made of its three numbers
header_made : (bs : List ℕ) → Framed bs
    → header bs ≡ make 0 0 (field (header bs) 0 ∷ field (header bs) 1 ∷ field (header bs) 2 ∷ [])
header_made bs f =
    let h = header bs in
    let counted = decode_counted (take record_size bs) in
    let last = eqb (field h 4) 0 && true in
    let rest : (eqb (field h 3) 0 && last) ≡ true = subst (λ l. all_nought (drop 3 l) ≡ true) (all_fields h.fields counted) f.rest in
    let d = eqb-true (field h 3) 0 (and_left (eqb (field h 3) 0) last rest) in
    let e = eqb-true (field h 4) 0 (and_left (eqb (field h 4) 0) true (and_right (eqb (field h 3) 0) last rest)) in
    made h counted ∙ (λ i. record { kind = f.kind i; flag = f.flag i; fields = field h 0 ∷ field h 1 ∷ field h 2 ∷ d i ∷ e i ∷ [] })

-- the mark is in the first bytes
marked_same : (bs : List ℕ) → is_marked (take record_size bs) ≡ is_marked bs
marked_same bs = rw (take-take 2 record_size bs (omega arith))

-- where the header has kind 0, a number of kind 1 is not its own
behind : (kinds : ℕ → ℕ) (n : ℕ) → kinds 0 ≡ 0 → kinds n ≡ 1 → 1 ≤ n
behind kinds zero h k = absurd (omega arith)
behind kinds (suc n) h k = omega arith

-- bytes that pass the test of the frame have it by the rules
framed_has : (bs : List ℕ) → Framed bs → IsFrame bs (field (header bs) 0) (field (header bs) 1) (field (header bs) 2)
framed_has bs f =
    let o = framed_opened bs (record { count = field (header bs) 0; pool = field (header bs) 1 }) f refl refl in
    let root = field (header bs) 2 in
    let c = count-framed bs f in
    let k = kind_inside (image_of bs) root (rw f.root (omega arith)) in
    let a = behind (kind_at (image_of bs)) root refl f.root in
    record {
      little = is_little (take record_size bs);
      header = subst (Holds bs 0 (is_little (take record_size bs))) (header_made bs f) (holds_there bs 0 (rw (marked_same bs) f.mark) f.long);
      least = f.some;
      most = f.few;
      pooled = f.pool;
      sized = f.whole;
      inside = omega arith;
      object = rw (sym (kind_read bs _ o root a (omega arith)) ∙ f.root) at (kind_there bs root (omega arith));
    }

module _ (bs : List ℕ) (count pool root : ℕ) (f : IsFrame bs count pool root) where
  -- bytes with a frame are opened by its numbers
  frame_opened : Opened bs (record { count = count; pool = pool })
  frame_opened =
      let q = frame_is bs count pool root f in
      record { records = q.0; bytes = q.1; some = f.least; few = f.most; small = f.pooled; whole = f.sized }

  -- a number below the count has the kind of the record read there
  frame_kind : (x : ℕ) → 1 ≤ x → x < count → kind_at (image_of bs) x ≡ (record_in bs x).kind
  frame_kind = kind_read bs (record { count = count; pool = pool }) frame_opened

  -- bytes that have the frame by the rules pass its test
  has_framed : Framed bs
  has_framed =
      let r = make 0 0 (count ∷ pool ∷ root ∷ []) in
      let e = sym (holds_is bs 0 f.little r f.header) in
      let q = frame_is bs count pool root f in
      let k = kind_is bs root 1 f.object in
      let z : (header bs).kind ≡ 0 = ap (λ x. x.kind) e in
      record {
        long = holds_room bs 0 f.little r f.header;
        mark = rw (marked_same bs) at (holds_marked bs 0 f.little r f.header);
        kind = z;
        flag = ap (λ x. x.flag) e;
        rest = ap (λ x. all_nought (drop 3 x.fields)) e;
        some = omega arith;
        few = omega arith;
        pool = omega arith;
        whole = omega arith;
        root = ap (kind_at (image_of bs)) (sym q.2) ∙ frame_kind root (behind (λ x. (record_in bs x).kind) root z k) f.inside ∙ k;
      }

-- the test of the frame and its rules are one
pub framed_frame : (bs : List ℕ)
    → (framed bs ≡ true) ↔ IsFrame bs (field (header bs) 0) (field (header bs) 1) (field (header bs) 2)
framed_frame bs = (λ e. framed_has bs (framed_is bs e), λ f. is_framed bs (has_framed bs _ _ _ f))

module _ (bs : List ℕ) (count pool root n : ℕ) (f : IsFrame bs count pool root) where
  -- a link by the rule passes the test of a link
  link_is : (ks : List ℕ) {Needed : ℕ → Type 0} → ((k : ℕ) → (among k ks ≡ true) ↔ Needed k) → {x : ℕ} (next : ℕ)
      → Link bs count n Needed x → field_right (image_of bs) n (link ks) x next ≡ true
  unfolding field_right
  link_is ks needed next Link.nowhere = refl
  link_is ks needed next (Link.leads {x = x} {kind = kind} a b k d) =
      let c = count_opened bs _ (frame_opened bs count pool root f) in
      let e = frame_kind bs count pool root f x (omega arith) b ∙ kind_is bs x kind k in
      link_right (image_of bs) n ks x next (record { above = a; below = rw c b; kind = rw e ((needed kind).1 d) })

  -- and one that passes it is so by the rule
  link_has : (ks : List ℕ) {Needed : ℕ → Type 0} → ((k : ℕ) → (among k ks ≡ true) ↔ Needed k) → (x next : ℕ)
      → field_right (image_of bs) n (link ks) x next ≡ true → Link bs count n Needed x
  link_has ks {Needed} needed x next h =
      by_link (image_of bs) n ks x next h
      (λ e. subst (Link bs count n Needed) (sym e) Link.nowhere)
      (λ l.
      let c = count_opened bs _ (frame_opened bs count pool root f) in
      let b : x < count = omega arith in
      let s = f.sized in
      let k = frame_kind bs count pool root f x (omega arith) b in
      Link.leads l.above b (kind_there bs x (omega arith)) ((needed (record_in bs x).kind).0 (rw k at l.kind)))

  -- a place and a length, in the pool of the frame
  placed_is : {least most x next : ℕ} → PoolPair pool least most x next
      → field_right (image_of bs) n (place least most) x next ≡ true
  placed_is p = place_is (image_of bs) n (rw (pool_opened bs _ (frame_opened bs count pool root f)) p)

  placed_has : (least most x next : ℕ) → field_right (image_of bs) n (place least most) x next ≡ true
      → PoolPair pool least most x next
  placed_has least most x next h =
      let p = place_has (image_of bs) least most x next (place_right (image_of bs) n least most x next h) in
      rw (pool_opened bs _ (frame_opened bs count pool root f)) at p

  -- a record that bytes hold passes its tests where it passes those of its flag and of its fields
  right_by : {little : Bool} {r : Record} → Holds bs n little r → flag_right r.kind r.flag ≡ true
      → Ruled (image_of bs) n (uses_of r) r.fields → clean r ≡ true
      → record_right (image_of bs) n (take record_size (drop (record_size * n) bs)) (record_in bs n) ≡ true
  unfolding obeys
  right_by {little} {r} h g k c =
      let e = ruled_right (image_of bs) n (uses_of r) r.fields k in
      let a = across_none (shape_of r.kind) (image_of bs) n r.fields in
      rw (holds_marked bs n little r h, ← (holds_is bs n little r h), g, e, a, c)

  -- a record by the rules passes its tests
  record_right_lem : IsRecord bs count pool n
      → record_right (image_of bs) n (take record_size (drop (record_size * n) bs)) (record_in bs n) ≡ true
  unfolding clean shape_of field_right
  record_right_lem (IsRecord.object h p q l) =
      right_by h refl (placed_is p, (refl, (placed_is q, (refl, (link_is (2 ∷ []) (only_rule 2) 0 l, tt))))) refl
  record_right_lem (IsRecord.attribute {flag = g} {c = c} {d = d} h k p l o) =
      right_by h (rw (le-leb 0 g (omega arith), le-leb g 2 k))
      (placed_is p, (refl, (link_is (1 ∷ items) value_rule d l, (link_is (2 ∷ []) (only_rule 2) 0 o, (refl, tt))))) refl
  record_right_lem (IsRecord.boolean {flag = g} h k o) = right_by h (rw (le-leb 1 g k, le-leb g 3 o)) (refl, (refl, (refl, (refl, (refl, tt))))) refl
  record_right_lem (IsRecord.integer h a b k l) =
      right_by h refl (integers_are a b k, (refl, (refl, (refl, (link_is (4 ∷ []) (only_rule 4) 0 l, tt))))) refl
  record_right_lem (IsRecord.string h p l) = right_by h refl (placed_is p, (refl, (refl, (refl, (link_is (5 ∷ []) (only_rule 5) 0 l, tt))))) refl
  record_right_lem (IsRecord.date_pattern {flag = g} h k o) = right_by h (rw (le-leb 1 g k, le-leb g 5 o)) (refl, (refl, (refl, (refl, (refl, tt))))) refl
  record_right_lem (IsRecord.date_interval h a b k l) =
      right_by h refl (dates_are a b k, (refl, (refl, (refl, (link_is (7 ∷ []) (only_rule 7) 0 l, tt))))) refl
  record_right_lem (IsRecord.time_pattern {flag = g} h k o) = right_by h (rw (le-leb 1 g k, le-leb g 4 o)) (refl, (refl, (refl, (refl, (refl, tt))))) refl
  record_right_lem (IsRecord.duration_pattern {flag = g} h k o) = right_by h (rw (le-leb 1 g k, le-leb g 127 o)) (refl, (refl, (refl, (refl, (refl, tt))))) refl

  module _ (little : Bool) (h : Holds bs n little (record_in bs n)) where
    -- the record read, made of its parts, is held
    held : {k g a b c d e : ℕ} → (record_in bs n).kind ≡ k → (record_in bs n).flag ≡ g → field (record_in bs n) 0 ≡ a
        → field (record_in bs n) 1 ≡ b → field (record_in bs n) 2 ≡ c → field (record_in bs n) 3 ≡ d
        → field (record_in bs n) 4 ≡ e
        → Holds bs n little (make k g (a ∷ b ∷ c ∷ d ∷ e ∷ []))
    held p q u v w x y =
        subst (Holds bs n little) (made (record_in bs n) h.counted ∙ (λ i. make (p i) (q i) (u i ∷ v i ∷ w i ∷ x i ∷ y i ∷ []))) h

    -- a field not named is 0
    nought : {s : Shape} → Kept (image_of bs) n (record_in bs n) s → (i : ℕ) → i < field_count
        → is_nought (get_or ((row_for s).uses (record_in bs n).fields) i unnamed) (field (record_in bs n) i)
        ≡ eqb (field (record_in bs n) i) 0
        → field (record_in bs n) i ≡ 0
    nought k i l e = eqb-true (field (record_in bs n) i) 0 (sym e ∙ k.rest i l)

    -- a record of one flag, with no field named
    single_held : (sort : SingleSort) → Kept (image_of bs) n (record_in bs n) (Shape.single sort)
        → Holds bs n little (make (single_row sort).kind (record_in bs n).flag [])
    single_held sort k =
        held k.kind refl (nought k 0 (omega arith) refl) (nought k 1 (omega arith) refl) (nought k 2 (omega arith) refl) (nought k 3 (omega arith) refl)
        (nought k 4 (omega arith) refl)

    -- a record that keeps what its shape asks is one by the rules
    right_record : (s : Shape) → Kept (image_of bs) n (record_in bs n) s → IsRecord bs count pool n
    right_record Shape.table_header k = absurd (false≢true k.known)
    right_record Shape.object k =
        IsRecord.object (held k.kind (omega (arith, k.most)) refl refl refl refl refl) (placed_has 1 name_limit _ _ (k.named 0 (omega arith)))
        (placed_has 0 code_limit _ _ (k.named 2 (omega arith))) (link_has (2 ∷ []) (only_rule 2) _ _ (k.named 4 (omega arith)))
    right_record Shape.attribute k =
        IsRecord.attribute (held k.kind refl refl refl refl refl (nought k 4 (omega arith) refl)) k.most
        (placed_has 1 name_limit _ _ (k.named 0 (omega arith))) (link_has (1 ∷ items) value_rule _ _ (k.named 2 (omega arith)))
        (link_has (2 ∷ []) (only_rule 2) _ _ (k.named 3 (omega arith)))
    right_record Shape.text k =
        IsRecord.string (held k.kind (omega (arith, k.most)) refl refl (nought k 2 (omega arith) refl) (nought k 3 (omega arith) refl) refl)
        (placed_has 0 string_limit _ _ (k.named 0 (omega arith))) (link_has (5 ∷ []) (only_rule 5) _ _ (k.named 4 (omega arith)))
    right_record (Shape.single booleans) k = IsRecord.boolean (single_held booleans k) k.least k.most
    right_record (Shape.single date_pattern) k = IsRecord.date_pattern (single_held date_pattern k) k.least k.most
    right_record (Shape.single time_pattern) k = IsRecord.time_pattern (single_held time_pattern k) k.least k.most
    right_record (Shape.single duration_pattern) k = IsRecord.duration_pattern (single_held duration_pattern k) k.least k.most
    right_record (Shape.range integers) k =
        let p = integers_right (field (record_in bs n) 0) (field (record_in bs n) 1) (unfold field_right in k.named 0 (omega arith)) in
        IsRecord.integer (held k.kind (omega (arith, k.most)) refl refl (nought k 2 (omega arith) refl) (nought k 3 (omega arith) refl) refl)
        (twos_has _ p.low) (twos_has _ p.high) p.order (link_has (4 ∷ []) (only_rule 4) _ _ (k.named 4 (omega arith)))
    right_record (Shape.range dates) k =
        let p = dates_right (field (record_in bs n) 0) (field (record_in bs n) 1) (unfold field_right in k.named 0 (omega arith)) in
        IsRecord.date_interval (held k.kind (omega (arith, k.most)) refl refl (nought k 2 (omega arith) refl) (nought k 3 (omega arith) refl) refl)
        ((packed_day_lem _).0 p.low) ((packed_day_lem _).0 p.high) p.order (link_has (7 ∷ []) (only_rule 7) _ _ (k.named 4 (omega arith)))

-- the test of the record with a number
abbrev right : List ℕ → ℕ → Bool
right bs n = record_right (image_of bs) n (take record_size (drop (record_size * n) bs)) (record_in bs n)

-- a record passes its tests exactly where it obeys the rules of its kind
pub record_rule : (bs : List ℕ) (count pool root n : ℕ) → IsFrame bs count pool root → 1 ≤ n → n < count
    → (record_right (image_of bs) n (take record_size (drop (record_size * n) bs)) (record_in bs n) ≡ true)
    ↔ IsRecord bs count pool n
record_rule bs count pool root n f l h = (there, record_right_lem bs count pool root n f)
  where
    there : right bs n ≡ true → IsRecord bs count pool n
    there e =
        let s = take record_size (drop (record_size * n) bs) in
        let r = record_in bs n in
        let p = each_passed (is_marked s) (obeys (image_of bs) n r ∷ clean r ∷ []) e in
        let z = f.sized in
        right_record bs count pool root n f (is_little s) (holds_there bs n p.0 (omega arith)) (shape_of r.kind)
        (kept (image_of bs) n r (record { counted = decode_counted s; obeyed = p.1.0; cleaned = p.1.1.0 }))

-- what the lowest number that fails a test is, of k from number i on
abbrev Lowest : (ℕ → Bool) → ℕ → ℕ → Option ℕ → Type 0
Lowest test i k None = (n : ℕ) → i ≤ n → n < i + k → test n ≡ true
Lowest test i k (Some n) = (i ≤ n) × (n < i + k) × (test n ≡ false) × ((j : ℕ) → i ≤ j → j < n → test j ≡ true)

-- one number in front that passes it changes nothing
lowest_more : (test : ℕ → Bool) (i k : ℕ) (o : Option ℕ) → test i ≡ true → Lowest test (suc i) k o
    → Lowest test i (suc k) o
lowest_more test i k None e p = λ n h l. by_order n i (λ a. let q : i ≡ n = omega arith in rw q at e) (λ a. p n a (omega arith))
lowest_more test i k (Some n) e p =
    let a = p.0 in
    let b = p.1 in
    (omega arith, omega arith, p.2, λ j h l. by_order j i (λ a. let q : i ≡ j = omega arith in rw q at e) (λ a. p.3 j a l))

-- the record told is the lowest that fails its tests
broken_lowest : (bs : List ℕ) (k i : ℕ)
    → Lowest (right bs) i k (broken (image_of bs) i (decodes k (drop (record_size * i) bs)) (drop (record_size * i) bs))
unfolding broken
broken_lowest bs zero i = λ n h l. absurd (omega arith)
broken_lowest bs (suc k) i =
    let next = drop (record_size * suc i) bs in
    let s : record_size * i + record_size ≡ record_size * suc i = omega arith in
    by_cond (Lowest (right bs) i (suc k)) (right bs i)
    (λ e.
    rw (drop-drop record_size (record_size * i) bs, s)
    (lowest_more (right bs) i k (broken (image_of bs) (suc i) (decodes k next) next) e (broken_lowest bs k (suc i))))
    (λ e. (omega arith, omega arith, e, λ j a b. absurd (omega arith)))

-- what the check says by the rules
abbrev Told : List ℕ → Option Refusal → Type 0
Told bs None = (count : ℕ) × (pool : ℕ) × (root : ℕ) × IsTable bs count pool root
Told bs (Some r) = NoTable bs r

-- it says so of bytes with the frame
records_told : (bs : List ℕ) (count pool root : ℕ) → IsFrame bs count pool root → (o : Option ℕ)
    → Lowest (right bs) 1 (count - 1) o → Told bs (broken_record o)
records_told bs count pool root f None p =
    let l = f.least in
    (count, pool, root, record { frame = f; records = λ n a b. (record_rule bs count pool root n f a b).0 (p n a (omega arith)) })
records_told bs count pool root f (Some n) p =
    let l = f.least in
    let a = p.0 in
    let b = p.1 in
    let c : n < count = omega arith in
    NoTable.broken f a c (λ r. false≢true (sym p.2 ∙ (record_rule bs count pool root n f a c).1 r))
    (λ j u v. (record_rule bs count pool root j f u (omega arith)).0 (p.3 j u v))

-- and of any bytes
told : (bs : List ℕ) → Told bs (table_fault bs)
unfolding table_fault image_of
told bs =
    by_cond (Told bs) (framed bs)
    (λ e.
    let lowest = broken (image_of bs) 1 (image_of bs).records (drop record_size bs) in
    records_told bs _ _ _ ((framed_frame bs).0 e) lowest (broken_lowest bs (field (header bs) 0 - 1) 1))
    (λ e. NoTable.unframed (λ count pool root f. false≢true (sym e ∙ is_framed bs (has_framed bs count pool root f))))

-- frames of the same bytes have one count, and the same records obey the rules under them
module _ {bs : List ℕ} {count pool root count' pool' root' : ℕ} (f : IsFrame bs count pool root)
    (g : IsFrame bs count' pool' root') where
  same_count : count ≡ count'
  same_count = (frame_is bs count pool root f).0 ∙ sym (frame_is bs count' pool' root' g).0

  same_record : {n : ℕ} → IsRecord bs count pool n → IsRecord bs count' pool' n
  same_record {n} = subst₂ (λ x y. IsRecord bs x y n) same_count ((frame_is bs count pool root f).1 ∙ sym (frame_is bs count' pool' root' g).1)

-- bytes that are a table have no reason not to be
not_both : {bs : List ℕ} {count pool root : ℕ} {r : Refusal} → IsTable bs count pool root → NoTable bs r → ⊥
not_both t (NoTable.unframed g) = g _ _ _ t.frame
not_both t (NoTable.broken {n = n} f a b g l) = let c = same_count f t.frame in g (same_record t.frame f (t.records n a (omega arith)))

-- and no bytes have two
one_reason : {bs : List ℕ} {r s : Refusal} → NoTable bs r → NoTable bs s → r ≡ s
one_reason (NoTable.unframed g) (NoTable.unframed h) = refl
one_reason (NoTable.unframed g) (NoTable.broken f a b h l) = absurd (g _ _ _ f)
one_reason (NoTable.broken f a b h l) (NoTable.unframed g) = absurd (g _ _ _ f)
one_reason (NoTable.broken {n = n} f a b h l) (NoTable.broken {n = m} g c d k o) =
    by_order n m
    (λ u. by_order m n (λ v. ap (refusal BrokenRecord) (omega arith)) (λ v. absurd (h (same_record g f (o n a v)))))
    (λ u. absurd (k (same_record f g (l m c u))))

-- bytes pass the check exactly where they are a table
pub passes : (bs : List ℕ)
    → (table_fault bs ≡ None) ↔ ((count : ℕ) × (pool : ℕ) × (root : ℕ) × IsTable bs count pool root)
passes bs = (λ e. subst (Told bs) e (told bs), λ t. by t (table_fault bs) (told bs))
  where
    by : ((count : ℕ) × (pool : ℕ) × (root : ℕ) × IsTable bs count pool root) → (o : Option Refusal) → Told bs o
        → o ≡ None
    by t None u = refl
    by t (Some r) u = absurd (not_both t.3 u)

-- and are refused exactly for the reason that they are no table
pub no_table : (bs : List ℕ) (r : Refusal) → (table_fault bs ≡ Some r) ↔ NoTable bs r
no_table bs r = (λ e. subst (Told bs) e (told bs), λ t. by t (table_fault bs) (told bs))
  where
    by : NoTable bs r → (o : Option Refusal) → Told bs o → o ≡ Some r
    by t None u = absurd (not_both u.3 t)
    by t (Some s) u = ap Some (one_reason u t)
