-- What a step of the readers of blocks and members shows: a law for each way out and for each turn. Assumes nothing.
use mathlib.Core.Path.{◌≡◌, refl, sym, ap, ◌∙◌}
use mathlib.Core.Bool.{Bool, true, false, cond}
use Rattle.std.specs.Prelude.{Option, None, Some}
use mathlib.Core.List.{List, [], ◌∷◌, ◌++◌}
use Prim.Native.Nat.{ℕ, zero, suc, ◌+◌, ◌*◌, ◌-◌, ◌≤◌, ◌<◌}
use native.Mathlib.Omega.{arith}
use native.Mathlib.Nat.{add-zero}
use native.Mathlib.Numerals.{sub-one}
use lib.Dec.{eqb, ltb}
use lib.ListN.{length, get_or}
use lib.Seq.{sets, length-sets}
use borrow.Author.Tests.{eq-eqb, ne_eqb, eqb-true}
use Rattle.lexis.specs.Runs.{part, listed}
use Rattle.lexis.specs.Spelling.{greater}
use Rattle.lexis.specs.Tokens.{name, spelling}
use Rattle.lexis.specs.DataTokens.{data_token_at, equals}
use Rattle.lexis.specs.declared.Token.{Token}
use Rattle.lexis.proofs.Cases.{by_cond}
use Rattle.lexis.proofs.DataPlaces.{data_token-found}
use Rattle.refusals.specs.Limits.{level_limit, name_limit}
use Rattle.refusals.specs.Reading.{Reading, refused, got, refuse}
use Rattle.refusals.specs.Reading
use Rattle.refusals.specs.Parsing.{Parse, stopped, flawed, parsed, and_then, first_in}
use Rattle.refusals.specs.Refusals.{refusal}
use Rattle.refusals.specs.Expecting.{syntax_cause}
use Rattle.refusals.specs.declared.Cause.TheVariants.{TooDeep, TooLong, RepeatedName}
use Rattle.refusals.specs.declared.Refusal.{Refusal}
use Rattle.refusals.proofs.Readings.{Holds}
use Rattle.refusals.proofs.Parses.{first_then, then_refused, then_got, Yields, parsed_yields, stopped_yields, noting_yields, any_yields, rank, FaultFrom, InOrder, then_order, order_holds, order_map}
use Rattle.dadl.specs.Placed.{Span, block, Entries, no_more, entry, PlacedContent, inside}
use Rattle.dadl.specs.Data.{Down, expect_data, name_from, content_from, members, block_from, span_of}
use Rattle.dadl.specs.Clauses.Tape.{row_size, block_rows, entry_rows, content_rows, next_row, type_start, type_end, tape_row_of, block_tape, entries_tape, content_tape}
use Rattle.lexis.specs.Clauses.Answers.{TokenIs}
use Rattle.dadl.specs.Clauses.Answers.{part_span, type_span, TypeInside, Opens, sorted_leaf, leaf_of, LeafLies, content_reading, ContentPast, ContentIs, Inside, number_at, earlier_names, NamedRow, Earlier, member_reading, row_numbers, link_of, holds_of, type_part, leaf_row, block_row, Wrote, data_wrote, rows_to, finished, Finish, member_written, RowsRoom, MemberRoom, MemberIs, entries_written, entries_from, RowsPast, RowsIs}
use Rattle.std.specs.Result.{IsErrAnd}
use Rattle.std.specs.declared.result.Result.{Result}
use Rattle.std.specs.declared.result.Result.TheVariants.{Ok, Err}
use Rattle.dadl.specs.declared.tokens.Part.{Part}
use Rattle.dadl.specs.declared.tokens.Opening.{Opening}
use Rattle.dadl.specs.declared.contents.LeafSort.{LeafSort}
use Rattle.dadl.specs.declared.contents.LeafSort.TheVariants as leaf
use Rattle.dadl.specs.declared.contents.Leaf.{Leaf}
use Rattle.dadl.specs.declared.contents.Content.{Content}
use Rattle.dadl.specs.declared.contents.Content.TheVariants as content
use Rattle.dadl.specs.declared.rows.Row.{Row}
use Rattle.dadl.specs.declared.blocks.Rows.{Rows}
use Rattle.dadl.specs.declared.blocks.Member.{Member}
use Rattle.dadl.proofs.TokenSteps.{passed_on}
use Rattle.dadl.proofs.TapeLaws.{row-length, row-numbers, content_length}
use Rattle.dadl.proofs.TreeReading.{SpanRead, EntriesRead, ContentRead, name_order, content_order, members_order, block_order}
use Rattle.lexis.proofs.Stores.{sets-sets, sets-append, below_sets, in_sets}
use Rattle.dadl.proofs.EarlierNames.{Seen, seen_none, seen_more}

-- ---- a member's row on the tape

-- a member's row put below the rows inside it, and then the rows behind it
entry_tape : (tape : List ℕ) (n : ℕ) (w : Span) (c : PlacedContent) (more : Entries) →
    sets (sets (sets tape (row_size * (n + 1)) (content_tape c (n + 1))) (row_size * n)
    (tape_row_of w c (next_row (n + 1 + content_rows c) more))) (row_size * (n + 1 + content_rows c))
    (entries_tape more (n + 1 + content_rows c))
    ≡ sets tape (row_size * n) (entries_tape (entry w c more) n)
unfolding entries_tape
entry_tape tape n w c more =
    let k : List ℕ = content_tape c (n + 1) in
    let r : List ℕ = entries_tape more (n + 1 + content_rows c) in
    let e : List ℕ = tape_row_of w c (next_row (n + 1 + content_rows c) more) in
    let le : length e ≡ row_size = row-length w c (next_row (n + 1 + content_rows c) more) in
    let lk : length k ≡ row_size * content_rows c = content_length c (n + 1) in
    let e3 : row_size * n + length e ≡ row_size * (n + 1) = omega arith in
    let e4 : row_size * (n + 1) + length k ≡ row_size * (n + 1 + content_rows c) = omega arith in
    sym
    (sets-append e (k ++ r) tape (row_size * n)
    ∙ ap (λ (i : ℕ). sets (sets tape (row_size * n) e) i (k ++ r)) e3
    ∙ sets-append k r (sets tape (row_size * n) e) (row_size * (n + 1))
    ∙ ap (λ (i : ℕ). sets (sets (sets tape (row_size * n) e) (row_size * (n + 1)) k) i r) e4
    ∙ ap (λ (l : List ℕ). sets l (row_size * (n + 1 + content_rows c)) r) (sets-sets e k tape (row_size * n) (row_size * (n + 1)) (omega arith)))

-- the link that the next token shows is the one that the tree has
abbrev Linked : Bool → ℕ → Entries → ℕ → Type 0
Linked k n more p = cond k n 0 ≡ next_row n more

greater-other : (sort : ℕ) → eqb sort greater ≡ true → eqb sort name ≡ false
greater-other sort h = rw (eqb-true sort greater h)

linked : (s : List ℕ) (down : Down) (fuel n : ℕ) (seen : List (List ℕ)) (from : ℕ)
    → Yields (Linked (eqb (data_token_at s from).sort name) n) (members s down fuel seen from)
unfolding members
linked s down zero n seen from = stopped_yields (Linked (eqb (data_token_at s from).sort name) n) _
linked s down (suc fuel) n seen from =
    let t = data_token_at s from in
    let P = Linked (eqb t.sort name) n in
    by_cond (Yields P) (eqb t.sort greater) (λ e. parsed_yields P no_more t.end (rw (greater-other t.sort e)))
    (λ e. by_cond (Yields P) (eqb t.sort name)
    (λ k. any_yields P (name_from s seen t) _ (λ w p. any_yields P (content_from s down p) _ (λ x q. any_yields P (members s down fuel (spelling s t ∷ seen) q) _ (λ ms r. parsed_yields P _ r (rw k)))))
    (λ k. stopped_yields P _))

-- a member whose row and the rows inside it are written: what is left is the rest
step : (tape : List ℕ) (n : ℕ) (w : Span) (c : PlacedContent) (k : Bool) (rest : Parse Entries)
    → Yields (Linked k (n + 1 + content_rows c)) rest →
    entries_written (n + 1 + content_rows c)
    (sets (sets tape (row_size * (n + 1)) (content_tape c (n + 1))) (row_size * n)
    (tape_row_of w c (cond k (n + 1 + content_rows c) 0))) (first_in rest)
    ≡ entries_written n tape (first_in (and_then rest (λ ms r. parsed (entry w c ms) r)))
unfolding entry_rows Yields
step tape n w c k (stopped x) h = refl
step tape n w c k (flawed x v) h = refl
step tape n w c k (parsed more p) h =
    let m = entry_tape tape n w c more in
    let z : n + 1 + content_rows c + entry_rows more ≡ n + suc (content_rows c + entry_rows more) = omega arith in
    rw (h, z, m)

-- ---- a member

-- a leaf's row is that of the tree
leaf_numbers : (t : Token) (l : Leaf) (next : ℕ)
    → row_numbers (leaf_row t l) next ≡ tape_row_of (span_of t) (leaf_of l) next
leaf_numbers t l next = by l.sort
  where
    by : (sort : LeafSort)
        → holds_of sort ∷ t.start ∷ t.end ∷ l.place ∷ 0 ∷ 0 ∷ l.text.start ∷ l.text.end ∷ next ∷ []
        ≡ tape_row_of (span_of t) (sorted_leaf sort l.place (part_span l.text)) next
    by leaf.String = refl
    by leaf.Word = refl

-- no rows are inside it
leaf_rows : (l : Leaf) (n : ℕ) → (content_rows (leaf_of l) ≡ 0) × (content_tape (leaf_of l) n ≡ [])
unfolding content_rows content_tape
leaf_rows l n = by l.sort
  where
    by : (sort : LeafSort)
        → (content_rows (sorted_leaf sort l.place (part_span l.text)) ≡ 0)
        × (content_tape (sorted_leaf sort l.place (part_span l.text)) n ≡ [])
    by leaf.String = (refl, refl)
    by leaf.Word = (refl, refl)

-- a type's places are those of the tree's
pub type_places : (t : Option Part)
    → ((type_part t).start ≡ type_start (type_span t)) × ((type_part t).end ≡ type_end (type_span t))
type_places None = (refl, refl)
type_places (Some p) = (refl, refl)

-- they lie in the text
type_small : (s : List ℕ) (t : Option Part) → TypeInside s t
    → ((type_part t).start ≤ (type_part t).end) × ((type_part t).end ≤ length s)
type_small s None h = (omega arith, omega arith)
type_small s (Some p) h = h

-- a block is its members, with its place and its type
pub block_entries : (s : List ℕ) (levels place : ℕ) (type : Option Span) (from : ℕ)
    → first_in (block_from s levels place type from)
    ≡ Reading.read_then (entries_from s levels place from) (λ ms p. got (block place type ms) p)
unfolding block_from entries_from
block_entries s zero place type from = refl
block_entries s (suc levels) place type from = first_then (members s (block_from s levels) (length s + 1) [] from) _

-- what an answer says of the members that were read
pub record IsRows (n : ℕ) (before after : List ℕ) (rows : Rows) (reading : Reading Entries) : Type 0 where
  pub ms : Entries
  pub is : reading ≡ got ms rows.place
  pub count : rows.end ≡ n + entry_rows ms
  pub tape : after ≡ sets before (row_size * n) (entries_tape ms n)

pub is_rows : (n : ℕ) (before after : List ℕ) (rows : Rows) (x : Reading Entries)
    → data_wrote (Ok rows) after ≡ entries_written n before x → IsRows n before after rows x
is_rows n before after rows (refused x) e =
    let o : ◌≡◌ {A = Result Rows Refusal} (Ok rows) (Err x) = ap (λ (q : Wrote Rows). q.answer) e in
    let z : ◌≡◌ {A = ℕ} 0 1 = cc in
    absurd (omega arith)
is_rows n before after rows (got ms p) e =
    let r : Rows = rows_to (n + entry_rows ms) p in
    let o : ◌≡◌ {A = Result Rows Refusal} (Ok rows) (Ok r) = ap (λ (q : Wrote Rows). q.answer) e in
    let z : rows ≡ r = cc in
    record { ms = ms; is = ap (λ (y : Rows). got ms y.place) (sym z); count = ap (λ (y : Rows). y.end) z; tape = ap (λ (q : Wrote Rows). q.tape) e }

pub rows_refused : (n : ℕ) (before after : List ℕ) (y : Refusal) (x : Reading Entries)
    → data_wrote (Err y) after ≡ entries_written n before x → x ≡ refused y
rows_refused n before after y (refused x) e =
    let o : ◌≡◌ {A = Result Rows Refusal} (Err y) (Err x) = ap (λ (q : Wrote Rows). q.answer) e in
    cc
rows_refused n before after y (got ms p) e =
    let r : Rows = rows_to (n + entry_rows ms) p in
    let o : ◌≡◌ {A = Result Rows Refusal} (Err y) (Ok r) = ap (λ (q : Wrote Rows). q.answer) e in
    let z : ◌≡◌ {A = ℕ} 0 1 = cc in
    absurd (omega arith)

module _ (first : ℕ) {s : List ℕ} {levels : ℕ} {t : Token} {n : ℕ} {before : List ℕ}
    (room : MemberRoom s levels t n before) {o : Result Content Refusal}
    (d : ContentIs s (t.start + 2) (member_reading s (earlier_names s before first n) t) o) where
  content_is : (k : Result Content Refusal) → o ≡ k
      → content_reading (block_from s levels) k ≡ member_reading s (earlier_names s before first n) t (block_from s levels)
  content_is k g = rw g at (d.is (block_from s levels))

  content_past : (k : Result Content Refusal) → o ≡ k → ContentPast s (t.start + 2) k
  content_past k g = rw g at d.past

  pub member_faulty : (x : Refusal) → o ≡ Err x → (q : Result Member Refusal) → IsErrAnd q (λ z. z ≡ x)
      → MemberIs s levels t first n before before q
  member_faulty x g q i = rw (passed_on q x i) (record { is = ap (member_written s t n before) (content_is (Err x) g) })

  module _ {k : Content} (g : o ≡ Ok k) {l : Leaf} (f : k ≡ content.Leaf l) {row : Row} (e : row ≡ leaf_row t l) where
    leaf_there : o ≡ Ok (content.Leaf l)
    leaf_there = rw f at g

    leaf_lies : LeafLies s (t.start + 2) l
    leaf_lies = content_past (Ok (content.Leaf l)) leaf_there

    pub leaf_finish : Finish s n row (rows_to (n + 1) l.next) before
    leaf_finish =
        let p = leaf_lies in
        let m = room.name in
        rw e (record {
          inside = p.high;
          fits = record { room = omega arith; name_start = omega arith; name_end = omega arith; place = omega arith; type_start = omega arith; type_end = omega arith; start = omega arith; end = omega arith; link = omega arith };
        })

    leaf_written : data_wrote (Ok (finished s (rows_to (n + 1) l.next))) (sets before (row_size * n) (row_numbers (leaf_row t l) (link_of (data_token_at s l.next).sort (n + 1))))
        ≡ member_written s t n before (got (leaf_of l) l.next)
    leaf_written =
        let c = leaf_of l in
        let k : ℕ = (data_token_at s l.next).sort in
        let z = leaf_rows l (n + 1) in
        let cnt : n + 1 ≡ n + 1 + content_rows c = omega (arith, z.0) in
        let numbers : row_numbers (leaf_row t l) (link_of k (n + 1)) ≡ tape_row_of (span_of t) c (link_of k (n + 1 + content_rows c))
        = leaf_numbers t l (link_of k (n + 1)) ∙ ap (λ (m : ℕ). tape_row_of (span_of t) c (link_of k m)) cnt in
        λ i. record {
          answer = Ok (finished s (rows_to (cnt i) l.next));
          tape = sets (sets before (row_size * (n + 1)) (sym z.1 i)) (row_size * n) (numbers i);
        }

    pub leaf_member : (m : Member) (after : List ℕ) → m ≡ finished s (rows_to (n + 1) l.next)
        → after ≡ sets before (row_size * n) (row_numbers row (link_of (data_token_at s l.next).sort (n + 1)))
        → MemberIs s levels t first n before after (Ok m)
    leaf_member m after a b = record {
      is = rw (a, b, e) (leaf_written ∙ ap (member_written s t n before) (content_is (Ok (content.Leaf l)) leaf_there));
    }

  module _ {k : Content} (g : o ≡ Ok k) {p : Opening} (f : k ≡ content.Block p) where
    block_there : o ≡ Ok (content.Block p)
    block_there = rw f at g

    block_lies : Opens s (t.start + 2) p
    block_lies = content_past (Ok (content.Block p)) block_there

    pub block_room : RowsRoom s levels p.next (n + 1) before
    block_room =
        let h = block_lies in
        record { inside = h.high; short = room.short; few = omega arith; long = room.long }

    -- what is read there, once its members are
    block_reading : (x : Reading Entries) → entries_from s levels p.place p.next ≡ x
        → Reading.read_then (Reading.read_then x (λ ms q. got (block p.place (type_span p.type_name) ms) q)) (λ d q. got (inside d) q)
        ≡ member_reading s (earlier_names s before first n) t (block_from s levels)
    block_reading x e =
        sym (ap (λ y. Reading.read_then y (λ d q. got (inside d) q)) (block_entries s levels p.place (type_span p.type_name) p.next ∙ ap (λ y. Reading.read_then y (λ ms q. got (block p.place (type_span p.type_name) ms) q)) e))
        ∙ content_is (Ok (content.Block p)) block_there

    module _ {after : List ℕ} {r : Result Rows Refusal}
        (b : RowsIs s p.next (n + 1) before (entries_from s levels p.place p.next) after r) where
      pub block_refused : (x : Refusal) → r ≡ Err x → (q : Result Member Refusal) → IsErrAnd q (λ z. z ≡ x)
          → MemberIs s levels t first n before after q
      block_refused x z q i =
          let f = rows_refused (n + 1) before after x (entries_from s levels p.place p.next) (rw z at b.is) in
          rw (passed_on q x i) (record { is = ap (member_written s t n before) (block_reading (refused x) f) })

      module _ {rows : Rows} (q : r ≡ Ok rows) where
        rows_past : RowsPast s p.next (n + 1) (Ok rows)
        rows_past = rw q at b.past

        pub block_count : n + 1 ≤ rows.end
        block_count = let h = rows_past in omega arith

        pub block_finish : {row : Row} → length after ≡ length before
            → row ≡ block_row t p (rows.end - (n + 1)) → Finish s n row rows after
        block_finish l e =
            let h = rows_past in
            let a = block_lies in
            let y = type_small s p.type_name a.type_inside in
            let m = room.name in
            rw e (record {
              inside = omega arith;
              fits = record { room = omega arith; name_start = omega arith; name_end = omega arith; place = omega arith; type_start = omega arith; type_end = omega arith; start = omega arith; end = omega arith; link = omega arith };
            })

        found : IsRows (n + 1) before after rows (entries_from s levels p.place p.next)
        found = is_rows (n + 1) before after rows (entries_from s levels p.place p.next) (rw q at b.is)

        block_written : (ms : Entries) → rows.end ≡ n + 1 + entry_rows ms
            → after ≡ sets before (row_size * (n + 1)) (entries_tape ms (n + 1))
            → data_wrote (Ok (finished s rows)) (sets after (row_size * n) (row_numbers (block_row t p (rows.end - (n + 1))) (link_of (data_token_at s rows.place).sort rows.end)))
            ≡ member_written s t n before (got (inside (block p.place (type_span p.type_name) ms)) rows.place)
        unfolding content_rows block_rows content_tape block_tape
        block_written ms cnt tp =
            let k : ℕ = (data_token_at s rows.place).sort in
            let y = type_places p.type_name in
            let rs : rows.end - (n + 1) ≡ entry_rows ms = omega arith in
            λ i. record {
              answer = Ok (finished s (rows_to (cnt i) rows.place));
              tape = sets (tp i) (row_size * n) (0 ∷ t.start ∷ t.end ∷ p.place ∷ y.0 i ∷ y.1 i ∷ 0 ∷ rs i ∷ link_of k (cnt i) ∷ []);
            }

        pub block_member : {row : Row} {last : List ℕ} {m : Member}
            → row ≡ block_row t p (rows.end - (n + 1)) → m ≡ finished s rows
            → last ≡ sets after (row_size * n) (row_numbers row (link_of (data_token_at s rows.place).sort rows.end))
            → MemberIs s levels t first n before last (Ok m)
        block_member e a w =
            let h = found in
            record { is = rw (a, w, e) (block_written h.ms h.count h.tape ∙ ap (member_written s t n before) (block_reading (got h.ms rows.place) h.is)) }

-- ---- a block

-- a block that may be there is its members
below_one : (s : List ℕ) (levels place from : ℕ) → (levels ≡ 0 → ⊥)
    → entries_from s levels place from ≡ first_in (members s (block_from s (levels - 1)) (length s + 1) [] from)
unfolding entries_from
below_one s zero place from z = absurd (z refl)
below_one s (suc levels) place from z = rw sub-one

-- its members have the room that it has
pub block_inner : {s : List ℕ} {levels from n : ℕ} {before : List ℕ} → RowsRoom s levels from n before
    → (levels ≡ 0 → ⊥) → RowsRoom s (levels - 1 + 1) from n before
block_inner room z = record { inside = room.inside; short = room.short; few = omega arith; long = room.long }

module _ (place : ℕ) {s : List ℕ} {levels from n : ℕ} {before : List ℕ} (room : RowsRoom s levels from n before) where
  pub block_deep : levels ≡ 0 → (x : Refusal) → x ≡ refusal TooDeep place
      → RowsIs s from n before (entries_from s levels place from) before (Err x)
  unfolding entries_from
  block_deep z x e = record { is = rw (z, e); past = tt }

  module _ (z : levels ≡ 0 → ⊥) where
    pub block_members : (after : List ℕ) (r : Result Rows Refusal)
        → RowsIs s from n before (first_in (members s (block_from s (levels - 1)) (length s + 1) [] from)) after r
        → RowsIs s from n before (entries_from s levels place from) after r
    block_members after r d = record { is = rw (below_one s levels place from z) d.is; past = d.past }

-- ---- the members of a block

-- at the token t of a block's members, which stands from a place on
pub record InMembers (s : List ℕ) (levels from n : ℕ) (before : List ℕ) (rows : ℕ) (t : Token)
    (tape : List ℕ) : Type 0 where
  pub fuel : ℕ
  pub place : ℕ
  pub seen : List (List ℕ)
  pub room : RowsRoom s (levels + 1) from n before
  pub tok : TokenIs s place (data_token_at s place) t
  pub within : place ≤ length s
  pub enough : length s < place + fuel
  pub same : length tape ≡ length before
  pub few : 4 * rows + levels + 1 ≤ place + level_limit
  pub names : t.sort ≡ name → Seen s tape n rows seen
  pub is : entries_written rows tape (first_in (members s (block_from s levels) fuel seen place))
      ≡ entries_written n before (first_in (members s (block_from s levels) (length s + 1) [] from))

pub members_start : (s : List ℕ) (levels from n : ℕ) (tape : List ℕ) (t : Token) → RowsRoom s (levels + 1) from n tape
    → TokenIs s from (data_token_at s from) t → InMembers s levels from n tape n t tape
members_start s levels from n tape t room tok = record {
  fuel = length s + 1;
  place = from;
  seen = [];
  room = room;
  tok = tok;
  within = room.inside;
  enough = omega arith;
  same = refl;
  few = omega (arith, room.few);
  names = λ k. seen_none s tape n (omega (arith, room.few, room.long, room.inside));
  is = refl;
}

-- members that were read take a byte for `>` and four for each row
rows_read : (s : List ℕ) (from n : ℕ) (before after : List ℕ) (w : Parse Entries) (r : Result Rows Refusal)
    → InOrder s (rank from 0) (EntriesRead s from) w → data_wrote r after ≡ entries_written n before (first_in w)
    → RowsPast s from n r
unfolding Holds
rows_read s from n before after w (Err y) h e = tt
rows_read s from n before after w (Ok rows) h e =
    let f = is_rows n before after rows (first_in w) e in
    let g : EntriesRead s from f.ms rows.place = rw f.is at (order_holds s (EntriesRead s from) (rank from 0) w h) in
    omega (arith, f.count, g.least, g.most)

pub members_past : (s : List ℕ) (levels from n : ℕ) (before after : List ℕ) (r : Result Rows Refusal) → from ≤ length s
    → data_wrote r after ≡ entries_written n before (first_in (members s (block_from s levels) (length s + 1) [] from))
    → RowsIs s from n before (first_in (members s (block_from s levels) (length s + 1) [] from)) after r
members_past s levels from n before after r h e = record {
  is = e;
  past = rows_read s from n before after _ r (members_order s 0 (block_from s levels) (λ p t q a. block_order s levels p t q) (length s + 1) [] from (omega arith) (omega arith) h) e;
}

-- one turn of the members
module _ (s : List ℕ) (down : Down) (seen : List (List ℕ)) (place : ℕ) (t : Token) (e : t ≡ data_token_at s place) where
  turn_close : (fuel : ℕ) → 0 < fuel → t.sort ≡ greater
      → first_in (members s down fuel seen place) ≡ got no_more t.end
  unfolding members
  turn_close zero z k = absurd (omega arith)
  turn_close (suc fuel) z k = rw (← e, eq-eqb t.sort greater k)

  turn_fault : (fuel : ℕ) → 0 < fuel → (t.sort ≡ greater → ⊥) → (t.sort ≡ name → ⊥)
      → first_in (members s down fuel seen place) ≡ refuse (syntax_cause t) t.start
  unfolding members
  turn_fault zero z k l = absurd (omega arith)
  turn_fault (suc fuel) z k l = rw (← e, ne_eqb t.sort greater k, ne_eqb t.sort name l)

  turn_name : (fuel : ℕ) → 0 < fuel → t.sort ≡ name → members s down fuel seen place
      ≡ and_then (name_from s seen t)
      (λ w p. and_then (content_from s down p)
      (λ x q. and_then (members s down (fuel - 1) (spelling s t ∷ seen) q) (λ ms r. parsed (entry w x ms) r)))
  unfolding members
  turn_name zero z k = absurd (omega arith)
  turn_name (suc fuel) z k = rw (← e, k, sub-one)

-- a name that was read is the token's
abbrev Named : Token → Span → ℕ → Type 0
Named t w p = w ≡ span_of t

name_named : (s : List ℕ) (seen : List (List ℕ)) (t : Token) → Yields (Named t) (name_from s seen t)
unfolding name_from
name_named s seen t =
    let P = Named t in
    noting_yields P (ltb name_limit (length (spelling s t))) TooLong t.start _ (λ l.
    noting_yields P (listed (spelling s t) seen) RepeatedName t.start _ (λ m.
    any_yields P (expect_data s equals t.end) _ (λ u p. parsed_yields P (span_of t) p refl)))

-- a name is read in one way, whichever list says which names were before it
name_same : (s : List ℕ) (a b : List (List ℕ)) (t : Token) → ((w : List ℕ) → listed w a ≡ listed w b)
    → name_from s a t ≡ name_from s b t
unfolding name_from
name_same s a b t h = rw (h (spelling s t))

-- a name and a content that were read, and what follows them
after-name : {A : Type 0} (t : Token) (v : Parse Span) (f : ℕ → Parse PlacedContent)
    (go : Span → PlacedContent → ℕ → Parse A) (c : PlacedContent) (q : ℕ) → Yields (Named t) v
    → first_in (and_then v (λ w p. f p)) ≡ got c q
    → first_in (and_then v (λ w p. and_then (f p) (λ x z. go w x z))) ≡ first_in (go (span_of t) c q)
unfolding Yields
after-name t (stopped x) f go c q n e = let z : ◌≡◌ {A = ℕ} 0 1 = cc in absurd (omega arith)
after-name t (flawed x v) f go c q n e = let z : ◌≡◌ {A = ℕ} 0 1 = cc in absurd (omega arith)
after-name t (parsed w p) f go c q n e = then_got (f p) _ c q e ∙ ap (λ (y : Span). first_in (go y c q)) n

after_refused : {A : Type 0} (v : Parse Span) (f : ℕ → Parse PlacedContent) (go : Span → PlacedContent → ℕ → Parse A)
    (y : Refusal) → first_in (and_then v (λ w p. f p)) ≡ refused y
    → first_in (and_then v (λ w p. and_then (f p) (λ x z. go w x z))) ≡ refused y
after_refused (stopped x) f go y e = cc
after_refused (flawed x v) f go y e = cc
after_refused (parsed w p) f go y e = then_refused (f p) _ y e

-- what an answer says of the member that was read
record IsMember (s : List ℕ) (t : Token) (n : ℕ) (before after : List ℕ) (rows : ℕ) (next : Token)
    (reading : Reading PlacedContent) : Type 0 where
  pub c : PlacedContent
  pub q : ℕ
  pub is : reading ≡ got c q
  pub count : rows ≡ n + 1 + content_rows c
  pub token : next ≡ data_token_at s q
  pub tape : after ≡ sets (sets before (row_size * (n + 1)) (content_tape c (n + 1))) (row_size * n)
      (tape_row_of (span_of t) c (link_of (data_token_at s q).sort (n + 1 + content_rows c)))

is_member : (s : List ℕ) (t : Token) (n : ℕ) (before after : List ℕ) (m : Member)
    (x : Reading PlacedContent) → data_wrote (Ok m) after ≡ member_written s t n before x
    → IsMember s t n before after m.end m.after x
is_member s t n before after m (refused x) e =
    let o : ◌≡◌ {A = Result Member Refusal} (Ok m) (Err x) = ap (λ (q : Wrote Member). q.answer) e in
    let z : ◌≡◌ {A = ℕ} 0 1 = cc in
    absurd (omega arith)
is_member s t n before after m (got c q) e =
    let r : Member = finished s (rows_to (n + 1 + content_rows c) q) in
    let o : ◌≡◌ {A = Result Member Refusal} (Ok m) (Ok r) = ap (λ (q : Wrote Member). q.answer) e in
    let z : m ≡ r = cc in
    record { c = c; q = q; is = refl; count = ap (λ (y : Member). y.end) z; token = ap (λ (y : Member). y.after) z; tape = ap (λ (q : Wrote Member). q.tape) e }

is_not : (s : List ℕ) (t : Token) (n : ℕ) (before after : List ℕ) (y : Refusal) (x : Reading PlacedContent)
    → data_wrote (Err y) after ≡ member_written s t n before x → x ≡ refused y
is_not s t n before after y (refused x) e =
    let o : ◌≡◌ {A = Result Member Refusal} (Err y) (Err x) = ap (λ (q : Wrote Member). q.answer) e in
    cc
is_not s t n before after y (got c q) e =
    let o : ◌≡◌ {A = Result Member Refusal} (Err y) (Ok (finished s (rows_to (n + 1 + content_rows c) q))) = ap (λ (q : Wrote Member). q.answer) e in
    let z : ◌≡◌ {A = ℕ} 0 1 = cc in
    absurd (omega arith)

-- a member takes four bytes, and four for each member inside
record MemberTakes (s : List ℕ) (place : ℕ) (c : PlacedContent) (q : ℕ) : Type 0 where
  pub least : place + 4 + 4 * content_rows c ≤ q
  pub most : q ≤ length s

member_takes : (s : List ℕ) (levels : ℕ) (seen : List (List ℕ)) (place : ℕ) (t : Token) → t ≡ data_token_at s place
    → t.sort ≡ name → place ≤ length s
    → Holds (FaultFrom s (rank place 0)) (MemberTakes s place) (member_reading s seen t (block_from s levels))
unfolding member_reading
member_takes s levels seen place t e k h =
    let down = block_from s levels in
    let z : InOrder s (rank place 0) (SpanRead s place) (name_from s seen t) = rw e (name_order s seen place h (eq-eqb _ name (rw e at k))) in
    order_holds s (MemberTakes s place) (rank place 0) _
    (then_order s (MemberTakes s place) (SpanRead s place) (rank place 0) (name_from s seen t) _ z (λ w p a.
    order_map s (rank p 0) (ContentRead s p) (MemberTakes s place) _ (λ c q b. record { least = omega arith; most = b.most }) (content_order s 0 down (λ p t q a. block_order s levels p t q) p (omega arith) a.most)))

-- a token of the text lies in it
token_there : (s : List ℕ) (q : ℕ) (a : Token) → q ≤ length s → a ≡ data_token_at s q → TokenIs s q (data_token_at s q) a
token_there s q a h e =
    let f = data_token-found s q h in
    record {
      is = e;
      start = rw e f.start;
      order = rw e f.order;
      inside = rw e f.inside;
      strict = rw e (λ g. f.strict (λ z. absurd (omega arith)) (λ z. absurd (omega arith)));
    }

-- the link that a name behind shows
linked_to : (sort k next rows : ℕ) → sort ≡ name → sort ≡ k → next ≡ rows → link_of k rows ≡ next
linked_to sort k next rows z e c = rw (← e, z, c)

-- a row's numbers stand on the tape
row_stands : (tape : List ℕ) (n : ℕ) (w : Span) (c : PlacedContent) (next i : ℕ) → i < row_size
    → row_size * n + row_size ≤ length tape
    → number_at (sets tape (row_size * n) (tape_row_of w c next)) n i ≡ get_or (tape_row_of w c next) i 0
row_stands tape n w c next i h l = let r = row-length w c next in in_sets (tape_row_of w c next) tape (row_size * n) i (omega arith) (omega arith)

-- a member's row names it and leads to the next
named_row : (s tape after : List ℕ) (t : Token) (n next : ℕ) (c : PlacedContent) (rows : List ℕ)
    → after ≡ sets (sets tape (row_size * (n + 1)) rows) (row_size * n) (tape_row_of (span_of t) c next) → n < next
    → row_size * n + row_size ≤ length tape
    → Inside s t.start t.end → NamedRow s after n next (spelling s t) × (number_at after n 8 ≡ next)
named_row s tape after t n next c rows e up room h =
    let l = sets tape (row_size * (n + 1)) rows in
    let len : length l ≡ length tape = length-sets tape (row_size * (n + 1)) rows in
    let r = row-numbers (span_of t) c next in
    let stands : (i : ℕ) → i < row_size → number_at after n i ≡ get_or (tape_row_of (span_of t) c next) i 0 = λ i b. ap (λ (x : List ℕ). number_at x n i) e ∙ row_stands l n (span_of t) c next i b (omega arith) in
    let a : number_at after n 1 ≡ t.start = stands 1 (omega arith) ∙ r.0 in
    let b : number_at after n 2 ≡ t.end = stands 2 (omega arith) ∙ r.1 in
    let d : number_at after n 8 ≡ next = stands 8 (omega arith) ∙ r.2 in
    (record { is = λ i. part s (a i) (b i); order = omega (arith, a, b, h.order); inside = omega (arith, b, h.inside); up = omega (arith, d); most = omega (arith, d) }, d)

-- the rows before it stay
kept_row : (tape after : List ℕ) (n : ℕ) (rows row : List ℕ)
    → after ≡ sets (sets tape (row_size * (n + 1)) rows) (row_size * n) row → (j : ℕ) → j < row_size * n
    → get_or after j 0 ≡ get_or tape j 0
kept_row tape after n rows row e j h = ap (λ (x : List ℕ). get_or x j 0) e ∙ below_sets row (sets tape (row_size * (n + 1)) rows) (row_size * n) j h ∙ below_sets rows tape (row_size * (n + 1)) j (omega arith)

module _ {s : List ℕ} {levels from n : ℕ} {before : List ℕ} {rows : ℕ} {t : Token} {tape : List ℕ}
    (inv : InMembers s levels from n before rows t tape) where
  pub members_close : t.sort ≡ greater
      → RowsIs s from n before (first_in (members s (block_from s levels) (length s + 1) [] from)) tape
      (Ok (record { end = rows; place = t.end }))
  unfolding entry_rows entries_tape
  members_close k = members_past s levels from n before tape (Ok (record { end = rows; place = t.end })) inv.room.inside (rw (turn_close s (block_from s levels) inv.seen inv.place t inv.tok.is inv.fuel (omega (arith, inv.enough, inv.within)) k, add-zero) at inv.is)

  pub members_fault : (t.sort ≡ greater → ⊥) → (t.sort ≡ name → ⊥) → (x : Refusal)
      → x ≡ refusal (syntax_cause t) t.start
      → RowsIs s from n before (first_in (members s (block_from s levels) (length s + 1) [] from)) tape (Err x)
  members_fault g k x e =
      members_past s levels from n before tape (Err x) inv.room.inside
      (rw e (rw (turn_fault s (block_from s levels) inv.seen inv.place t inv.tok.is inv.fuel (omega (arith, inv.enough, inv.within)) g k) at inv.is))

  module _ (k : t.sort ≡ name) where
    pub member_room : MemberRoom s levels t rows tape
    member_room =
        let o = inv.tok in
        let r = inv.room in
        let b : t.start < t.end = o.strict (omega arith) in
        record {
          name = record { order = b; inside = o.inside };
          short = r.short;
          few = omega (arith, o.start, inv.few);
          long = omega (arith, r.long, inv.same);
        }

    pub member_earlier : Earlier s tape n rows
    member_earlier = (inv.names k).rows

    seen_same : member_reading s (earlier_names s tape n rows) t (block_from s levels)
        ≡ member_reading s inv.seen t (block_from s levels)
    unfolding member_reading
    seen_same = ap (λ r. first_in (and_then r (λ w p. content_from s (block_from s levels) p))) (name_same s (earlier_names s tape n rows) inv.seen t (inv.names k).same)

    turn : first_in (members s (block_from s levels) inv.fuel inv.seen inv.place)
        ≡ first_in
        (and_then (name_from s inv.seen t)
        (λ w p. and_then (content_from s (block_from s levels) p)
        (λ x q. and_then (members s (block_from s levels) (inv.fuel - 1) (spelling s t ∷ inv.seen) q)
        (λ ms r. parsed (entry w x ms) r))))
    turn = ap first_in (turn_name s (block_from s levels) inv.seen inv.place t inv.tok.is inv.fuel (omega (arith, inv.enough, inv.within)) k)

    module _ {after : List ℕ} {r : Result Member Refusal} (d : MemberIs s levels t n rows tape after r) where
      pub member_not : (x : Refusal) → r ≡ Err x → (q : Result Rows Refusal) → IsErrAnd q (λ z. z ≡ x)
          → RowsIs s from n before (first_in (members s (block_from s levels) (length s + 1) [] from)) after q
      unfolding member_reading
      member_not x g q i =
          let f = is_not s t rows tape after x (member_reading s (earlier_names s tape n rows) t (block_from s levels)) (rw g at d.is) in
          let m = after_refused (name_from s inv.seen t) (content_from s (block_from s levels)) (λ w x q. and_then (members s (block_from s levels) (inv.fuel - 1) (spelling s t ∷ inv.seen) q) (λ ms r. parsed (entry w x ms) r)) x (sym seen_same ∙ f) in
          rw (passed_on q x i) (members_past s levels from n before after (Err x) inv.room.inside (sym (ap (entries_written rows tape) (turn ∙ m)) ∙ inv.is))

      module _ {member : Member} (g : r ≡ Ok member) where
        abbrev next : ℕ
        next = member.end

        abbrev a : Token
        a = member.after

        read : IsMember s t rows tape after next a (member_reading s (earlier_names s tape n rows) t (block_from s levels))
        read = is_member s t rows tape after member _ (rw g at d.is)

        takes : MemberTakes s inv.place read.c read.q
        unfolding Holds
        takes = rw read.is at (member_takes s levels (earlier_names s tape n rows) inv.place t inv.tok.is k inv.within)

        there : TokenIs s read.q (data_token_at s read.q) a
        there = token_there s read.q a takes.most read.token

        pub member_less : length s + level_limit - next < length s + level_limit - rows
        member_less = omega (arith, read.count, inv.few, inv.within)

        abbrev rest : Parse Entries
        rest = members s (block_from s levels) (inv.fuel - 1) (spelling s t ∷ inv.seen) read.q

        left : entries_written next after (first_in rest)
            ≡ entries_written n before (first_in (members s (block_from s levels) (length s + 1) [] from))
        unfolding member_reading
        left =
            let m = after-name t (name_from s inv.seen t) (content_from s (block_from s levels)) (λ w x q. and_then (members s (block_from s levels) (inv.fuel - 1) (spelling s t ∷ inv.seen) q) (λ ms r. parsed (entry w x ms) r)) read.c read.q (name_named s inv.seen t) (sym seen_same ∙ read.is) in
            (λ i. entries_written (read.count i) (read.tape i) (first_in rest))
            ∙ step tape rows (span_of t) read.c (eqb (data_token_at s read.q).sort name) rest (linked s (block_from s levels) (inv.fuel - 1) (rows + 1 + content_rows read.c) (spelling s t ∷ inv.seen) read.q)
            ∙ sym (ap (entries_written rows tape) (turn ∙ m)) ∙ inv.is

        long : length after ≡ length tape
        long = ap length read.tape ∙ simp length-sets

        seen_next : a.sort ≡ name → Seen s after n next (spelling s t ∷ inv.seen)
        seen_next z =
            let h = member_room in
            let link : link_of (data_token_at s read.q).sort (rows + 1 + content_rows read.c) ≡ next = linked_to a.sort (data_token_at s read.q).sort next (rows + 1 + content_rows read.c) z (ap (λ (y : Token). y.sort) read.token) read.count in
            let v : after ≡ sets (sets tape (row_size * (rows + 1)) (content_tape read.c (rows + 1))) (row_size * rows) (tape_row_of (span_of t) read.c next) = read.tape ∙ ap (λ (y : ℕ). sets (sets tape (row_size * (rows + 1)) (content_tape read.c (rows + 1))) (row_size * rows) (tape_row_of (span_of t) read.c y)) link in
            let up : rows < next = omega (arith, read.count) in
            let w = named_row s tape after t rows next read.c (content_tape read.c (rows + 1)) v up (omega (arith, h.few, h.long, h.name.order, h.name.inside)) h.name in
            seen_more s tape after n rows next inv.seen (spelling s t) (inv.names k) (kept_row tape after rows (content_tape read.c (rows + 1)) (tape_row_of (span_of t) read.c next) v) w.0 w.1
            (omega (arith, h.few, h.long, long, takes.least, takes.most, read.count, inv.few))

        pub member_next : InMembers s levels from n before member.end member.after after
        member_next = record {
          fuel = inv.fuel - 1;
          place = read.q;
          seen = spelling s t ∷ inv.seen;
          room = inv.room;
          tok = there;
          within = takes.most;
          enough = omega (arith, takes.least, inv.enough);
          same = long ∙ inv.same;
          few = omega (arith, takes.least, read.count, inv.few);
          names = seen_next;
          is = left;
        }

-- what reading the members of a block rests on, and reading one of them
pub ruleset members_steps = (members_start, member_room, member_earlier, member_less, member_next)

pub ruleset member_steps = (member_faulty, leaf_finish, block_room, block_count, block_finish)
