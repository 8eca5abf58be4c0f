-- A memo that tells the truth goes on telling it: when a block is visited, and when the chain of attributes that admit a block is marked. Assumes nothing.
use mathlib.Core.Path.{◌≡◌, refl, sym, ap, ◌∙◌, subst}
use mathlib.Core.Bool.{Bool, true, false, false≢true}
use mathlib.Core.List.{List, [], ◌∷◌}
use Prim.Native.Nat.{ℕ, zero, suc, ◌+◌, ◌*◌, ◌-◌, ◌/◌, ◌%◌, ◌≤◌, ◌<◌}
use native.Mathlib.Nat.{mul-add-div_right, div-eq_of_lt, mul-le-mul}
use native.Mathlib.Omega.{arith}
use lib.Dec.{eqb, lit<}
use lib.ListN.{length, get_or, replicate}
use Rattle.meaning.specs.Constraints.{AttributeHead, Attributes, attribute, Value}
use Rattle.meaning.specs.Data.{Members}
use Rattle.meaning.specs.Verdicts.{Verdict, valid, fails}
use Rattle.meaning.specs.Judging.{then_judge, member_of, judge_member, judge_attributes, judge_value}
use Rattle.lexis.specs.Runs.{part}
use Rattle.dadl.specs.Clauses.Tape.{is_string, row_number, HoldsBlock, HoldsLeaf}
use Rattle.dadl.specs.Clauses.Rows.{row_at}
use Rattle.table.specs.Records.{field, record_in}
use Rattle.table.specs.Rows.{shape_of}
use Rattle.table.specs.Check.{kind_at}
use Rattle.table.proofs.UseLaws.{LinkRight}
use Rattle.judge_admission.specs.Clauses.Items.{Lies, image_from, TableGood}
use Rattle.judge_tape.specs.Clauses.Rows.{block_on, OfRow}
use Rattle.judge_tape.specs.Clauses.Memo.{marked, NoBit, Marks, record_count, base_of, VisitOf, OnChain, here, later, ChainGood, Marking, before, new, ChainMarked, BlockAdmitted, RowAdmits, OfItems, old, item, ItemsMarked, MemoGood}
use Rattle.judge_tape.specs.declared.members.Block.{Block}
use Rattle.judge_tape.specs.declared.memo.Visit.{Visit}
use Rattle.judge_tape.proofs.MemoSteps.{no_bit}
use Rattle.judge_admission.proofs.TableLaws.{by_kind, checked, records_long, number_lies, link_there, attribute_tree}

-- the number of a bit tells its block and its attribute
pair_block : (c p q m n : ℕ) → m < c → n < c → p * c + m ≡ q * c + n → p ≡ q
pair_block c p q m n lm ln e =
    let a = rw (div-eq_of_lt lm) at (mul-add-div_right {m = c} (omega arith) p m) in
    let b = rw (div-eq_of_lt ln) at (mul-add-div_right {m = c} (omega arith) q n) in
    let f : p + 0 ≡ q + 0 = sym a ∙ ap (λ x. x / c) e ∙ b in
    omega arith

pair_attribute : (c p q m n : ℕ) → p ≡ q → p * c + m ≡ q * c + n → m ≡ n
pair_attribute c p q m n f e = let g : q * c + m ≡ q * c + n = rw f at e in omega arith

-- a memo of zeros knows nothing
replicate_none : (n i : ℕ) → ◌≡◌ {A = ℕ} (get_or (replicate n 0) i 0) 0
replicate_none zero i = refl
replicate_none (suc n) zero = refl
replicate_none (suc n) (suc i) = replicate_none n i

none_marked : (n i : ℕ) → marked (replicate n 0) i ≡ false
unfolding marked
none_marked n i = rw (replicate_none n (i / 8)) (no_bit (i % 8) (omega arith))

pub memo_blank : (n : ℕ) → NoBit (replicate n 0)
memo_blank n = record { none = none_marked n }

pub memo_start : (records pool s tape : List ℕ) (rows : ℕ) (memo : List ℕ) → NoBit memo
    → MemoGood records pool s tape rows memo
memo_start records pool s tape rows memo b = record {
  admits = λ row k q h l t. absurd (false≢true (sym (b.none ((row + 1) * record_count records + k)) ∙ t));
  leaves = λ row k q h l t. absurd (false≢true (sym (b.none ((row + 1) * record_count records + k)) ∙ t));
}

pub memo_zeros : (records pool s tape : List ℕ) (rows n : ℕ) → MemoGood records pool s tape rows (replicate n 0)
memo_zeros records pool s tape rows n = memo_start records pool s tape rows (replicate n 0) (memo_blank n)

-- a visit marks no pair
module _ (records pool s tape : List ℕ) (rows : ℕ) (memo after : List ℕ)
    (g : MemoGood records pool s tape rows memo) where
  visited_at : (first : ℕ) → Marks memo (first * record_count records) after → MemoGood records pool s tape rows after
  visited_at first m = record {
    admits = λ row n q h l t. g.admits row n q h l (sym (m.other ((row + 1) * record_count records + n) (other row n h l)) ∙ t);
    leaves = λ row n q h l t. g.leaves row n q h l (sym (m.other ((row + 1) * record_count records + n) (other row n h l)) ∙ t);
  }
    where
      other : (row n : ℕ) → 0 < n → n < record_count records
          → (row + 1) * record_count records + n ≡ first * record_count records → ⊥
      other row n h l e =
          let c = record_count records in
          let f : (row + 1) * c + n ≡ first * c + 0 = omega arith in
          let z = pair_attribute c (row + 1) first n 0 (pair_block c (row + 1) first n 0 l (omega arith) f) f in
          omega arith

  pub memo_visited : (b : Block) → Marks memo (base_of records b) after → MemoGood records pool s tape rows after
  memo_visited b m = visited_at b.first m

  pub memo_entered : (row base : ℕ) → base ≡ (row + 1) * record_count records → Marks memo base after
      → MemoGood records pool s tape rows after
  memo_entered row base e m = visited_at (row + 1) (rw e at m)

  -- the items of a row are marked
  pub memo_listed : (row base : ℕ) → base ≡ (row + 1) * record_count records → HoldsLeaf (row_at tape row)
      → (w : List ℕ) (t : Bool) → w ≡ part s (row_number (row_at tape row) 6) (row_number (row_at tape row) 7)
      → t ≡ eqb (row_number (row_at tape row) 0) is_string
      → ItemsMarked records pool memo base t w after → MemoGood records pool s tape rows after
  memo_listed row base eb leaf w t ew et m = record {
    admits = λ r n q h l x. block r n q h l x (m.each ((r + 1) * record_count records + n) x);
    leaves = λ r n q h l x. of_leaf_lem r n q h l x (m.each ((r + 1) * record_count records + n) x);
  }
    where
      same_row : (r n k : ℕ) → n < record_count records → k < record_count records
          → (r + 1) * record_count records + n ≡ base + k → (r ≡ row) × (n ≡ k)
      same_row r n k ln lk e =
          let c = record_count records in
          let f : (r + 1) * c + n ≡ (row + 1) * c + k = rw eb at e in
          let p = pair_block c (r + 1) (row + 1) n k ln lk f in
          (omega arith, pair_attribute c (r + 1) (row + 1) n k p f)

      block : (r n : ℕ) → HoldsBlock (row_at tape r) → 0 < n → n < record_count records
          → marked after ((r + 1) * record_count records + n) ≡ true
          → OfItems (record_count records) memo base ((r + 1) * record_count records + n)
          → BlockAdmitted (image_from records pool) s rows tape (block_on tape r) n
      block r n q h l x (old y) = g.admits r n q h l y
      block r n q h l x (item k lk e) =
          let z = same_row r n k l lk e in
          let u : HoldsBlock (row_at tape row) = rw z.0 at q in
          absurd (omega arith)

      of_leaf_lem : (r n : ℕ) → HoldsLeaf (row_at tape r) → 0 < n → n < record_count records
          → marked after ((r + 1) * record_count records + n) ≡ true
          → OfItems (record_count records) memo base ((r + 1) * record_count records + n)
          → RowAdmits records pool s tape r n
      of_leaf_lem r n q h l x (old y) = g.leaves r n q h l y
      of_leaf_lem r n q h l x (item k lk e) =
          let z = same_row r n k l lk e in
          let u : marked after (base + n) ≡ true = subst (λ j. marked after j ≡ true) (e ∙ ap (λ j. base + j) (sym z.1)) x in
          let v = m.listing.admits n h l u in
          subst (λ i. RowAdmits records pool s tape i n) (sym z.0) (rw (ew, et) at v)

-- attributes that admit a block: those behind the first do
rest_valid : (a : AttributeHead) (v : Value) (more : Attributes) (place : ℕ) (ms : Members)
    → judge_attributes (attribute a v more) place ms ≡ valid → judge_attributes more place ms ≡ valid
unfolding judge_attributes
rest_valid a v more place ms h = second (judge_member a place (member_of a.name ms) (λ x. judge_value v x)) (judge_attributes more place ms) h
  where
    second : (x y : Verdict) → then_judge x y ≡ valid → y ≡ valid
    second valid y h = h
    second (fails r i p) y h = absurd (let z : ◌≡◌ {A = ℕ} 0 1 = cc in omega arith)

module _ (records pool : List ℕ) (t : TableGood records pool) where
  -- a block's first bit is not far
  pub base_small : (rows : ℕ) (tape : List ℕ) (b : Block) → rows ≤ 4_096 → OfRow rows tape b
      → base_of records b ≤ 8_388_608
  base_small rows tape b f o =
      let l = records_long records pool t in
      let w = (checked records pool t).few in
      let r = o.there in
      let c : record_count records ≤ 2_048 = omega arith in
      let d : b.first ≤ 4_096 = omega arith in
      mul-le-mul d c

  pub records_few : length records ≤ 49_152
  records_few = let l = records_long records pool t in let w = (checked records pool t).few in omega arith

  -- an attribute leads to none or up to another
  next_there : (n : ℕ) → kind_at (image_from records pool) n ≡ 2 → 0 < field (record_in records n) 3
      → LinkRight (image_from records pool) n (2 ∷ []) (field (record_in records n) 3)
  unfolding shape_of
  next_there n k = link_there records pool t n 2 k (omega arith) 3 (2 ∷ []) (lit< tt) refl

  next_kind : (n : ℕ) → kind_at (image_from records pool) n ≡ 2 → 0 < field (record_in records n) 3
      → kind_at (image_from records pool) (field (record_in records n) 3) ≡ 2
  next_kind n k h = by_kind (kind_at (image_from records pool) (field (record_in records n) 3)) 2 [] (next_there n k h).kind (λ y. y) (λ y. absurd (false≢true y))

  chain_kind : (k n : ℕ) → (0 < n → kind_at (image_from records pool) n ≡ 2) → OnChain records k n
      → kind_at (image_from records pool) k ≡ 2
  chain_kind k n f (here h) = f h
  chain_kind k _ f (later n h o) = chain_kind k (field (record_in records n) 3) (next_kind n (f h)) o

  pub chain_sound : (n : ℕ) → (0 < n → kind_at (image_from records pool) n ≡ 2) → ChainGood records n
  chain_sound n f = record {
    lies = λ k o. number_lies records pool t k 2 (chain_kind k n f o) (omega arith);
    up = λ k o h. (next_there k (chain_kind k n f o) h).above;
  }

  pub number_below : (n : ℕ) → Lies records n → n < record_count records
  number_below n l = omega arith

  module _ (s tape : List ℕ) (rows : ℕ) (b : Block) where
    -- where the attributes from n on admit the block, those from the next on do
    rest_admits : (n : ℕ) → kind_at (image_from records pool) n ≡ 2
        → BlockAdmitted (image_from records pool) s rows tape b n
        → BlockAdmitted (image_from records pool) s rows tape b (field (record_in records n) 3)
    rest_admits n k a = rest_valid _ _ _ _ _ (rw (attribute_tree records pool t n k) at a)

    chain_admits : (k n : ℕ) → (0 < n → kind_at (image_from records pool) n ≡ 2) → OnChain records k n
        → BlockAdmitted (image_from records pool) s rows tape b n
        → BlockAdmitted (image_from records pool) s rows tape b k
    chain_admits k n f (here h) a = a
    chain_admits k _ f (later n h o) a = chain_admits k (field (record_in records n) 3) (next_kind n (f h)) o (rest_admits n (f h) a)

    module _ (o : OfRow rows tape b) (v : Visit) (w : VisitOf records b v) (memo : List ℕ)
        (g : MemoGood records pool s tape rows memo) where
      -- a marked attribute of a block that is visited again
      pub memo_admits : (n : ℕ) → 0 < n → Lies records n → v.again ≡ true → marked memo (v.base + n) ≡ true
          → BlockAdmitted (image_from records pool) s rows tape b n
      memo_admits n h l a m =
          let z = w.again a in
          let r : b.first - 1 + 1 ≡ b.first = omega arith in
          let e : marked memo ((b.first - 1 + 1) * record_count records + n) ≡ true = rw (r, ← w.base) m in
          subst (λ x. BlockAdmitted (image_from records pool) s rows tape x n) (sym (o.is z)) (g.admits (b.first - 1) n (o.holds z) h (number_below n l) e)

      -- a chain of attributes that admit the block may be marked
      pub memo_marked : (first : ℕ) → (0 < first → kind_at (image_from records pool) first ≡ 2)
          → BlockAdmitted (image_from records pool) s rows tape b first → (after : List ℕ)
          → ChainMarked records memo v.base first after → MemoGood records pool s tape rows after
      memo_marked first f a after m = record {
        admits = λ row n z h l t. by row n z h l (m.each ((row + 1) * record_count records + n) t);
        leaves = λ row n z h l t. leaf row n z h l (m.each ((row + 1) * record_count records + n) t);
      }
        where
          same_row : (row n k : ℕ) → n < record_count records → OnChain records k first
              → (row + 1) * record_count records + n ≡ v.base + k → (row + 1 ≡ b.first) × (n ≡ k)
          same_row row n k l q e =
              let c = record_count records in
              let y = number_below k (number_lies records pool t k 2 (chain_kind k first f q) (omega arith)) in
              let d : (row + 1) * c + n ≡ b.first * c + k = rw w.base at e in
              let p = pair_block c (row + 1) b.first n k l y d in
              (p, pair_attribute c (row + 1) b.first n k p d)

          leaf : (row n : ℕ) → HoldsLeaf (row_at tape row) → 0 < n → n < record_count records
              → Marking records memo v.base first ((row + 1) * record_count records + n)
              → RowAdmits records pool s tape row n
          leaf row n z h l (before q) = g.leaves row n z h l q
          leaf row n z h l (new k q e) =
              let p = (same_row row n k l q e).0 in
              let r : b.first - 1 ≡ row = omega arith in
              let u : HoldsBlock (row_at tape row) = rw r at (o.holds (omega arith)) in
              absurd (omega arith)

          by : (row n : ℕ) → HoldsBlock (row_at tape row) → 0 < n → n < record_count records
              → Marking records memo v.base first ((row + 1) * record_count records + n)
              → BlockAdmitted (image_from records pool) s rows tape (block_on tape row) n
          by row n z h l (before q) = g.admits row n z h l q
          by row n z h l (new k q e) =
              let p = (same_row row n k l q e).0 in
              let i = (same_row row n k l q e).1 in
              let r : b.first - 1 ≡ row = omega arith in
              let x : b ≡ block_on tape row = rw r at (o.is (omega arith)) in
              let u = chain_admits k first f q a in
              subst (λ j. BlockAdmitted (image_from records pool) s rows tape (block_on tape row) j) (sym i) (subst (λ z. BlockAdmitted (image_from records pool) s rows tape z k) x u)
