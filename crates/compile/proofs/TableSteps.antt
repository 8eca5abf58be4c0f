-- Steps of the functions that put a text's table into the output, and of compiling. Assumes nothing.
use mathlib.Core.Path.{◌≡◌, refl, sym, ap, ◌∙◌}
use mathlib.Core.Bool.{Bool}
use mathlib.Core.List.{List, [], ◌∷◌, ◌++◌, append_assoc}
use Prim.Native.Nat.{ℕ, suc, ◌+◌, ◌*◌, ◌≤◌, ◌<◌}
use native.Mathlib.Omega.{arith}
use native.Mathlib.Nat.{zero-add, sub-zero}
use lib.Dec.{ltb}
use lib.ListN.{length, drop, length-append}
use lib.Seq.{sets, take_at}
use borrow.Author.Tests.{lt-ltb, le-ltb}
use Rattle.lexis.specs.Runs.{part}
use Rattle.lexis.specs.Tokens.{text_end}
use Rattle.lexis.specs.declared.Token.{Token}
use Rattle.lexis.proofs.Stores.{sets_behind}
use Rattle.lexis.proofs.Parts.{part_length}
use Rattle.refusals.specs.Limits.{text_limit, level_limit, record_limit, pool_limit}
use Rattle.refusals.specs.Refusals.{refusal}
use Rattle.refusals.specs.Reading.{Reading, refused, got, read_then}
use Rattle.refusals.specs.Outcomes
use Rattle.refusals.specs.Outcomes.{gave, unless, after_reading, writes, answered, write}
use Rattle.refusals.specs.Expecting.{expect}
use Rattle.refusals.specs.Clauses.Answers.{ExpectIs}
use Rattle.refusals.specs.declared.Cause.TheVariants.{TextTooLong, OutputTooShort}
use Rattle.refusals.specs.declared.Refusal.{Refusal}
use Rattle.std.specs.declared.result.Result.{Result}
use Rattle.std.specs.declared.result.Result.TheVariants.{Ok, Err}
use Rattle.refusals.proofs.Readings.{Holds}
use Rattle.refusals.proofs.Outcomes.{front_stored}
use Rattle.meaning.specs.Constraints.{Object}
use Rattle.meaning.specs.Counting.{object_pool}
use Rattle.cadl_objects.specs.Clauses.Told.{object_from}
use Rattle.cadl_objects.proofs.TreeParts.{constraint_is}
use Rattle.cadl_objects.proofs.TreeReading.{ObjectRead, object_holds}
use Rattle.table.specs.Records.{Record, record_size, encode, encodes, bytes_of, make}
use Rattle.table.specs.Clauses.Answers.{record_of}
use Rattle.table.specs.declared.records.Entry.{Entry}
use Rattle.table.proofs.RecordLaws.{length-encode, length-encodes}
use Rattle.compile_flatten.specs.Flatten.{object_table, image_of_tree}
use Rattle.compile.specs.Compile.{table_for, compile_answer}
use Rattle.compile_emission.specs.Clauses.Answers.{PartPut, spot, written}
use Rattle.compile.specs.Clauses.Answers.{TreeIs, answer_of, table_written, TableRoom, finished}
use Rattle.compile_emission.specs.declared.spots.Spot.{Spot}
use Rattle.compile_flatten.proofs.FlattenLaws.{object_length}
use Rattle.compile_emission.proofs.TreeWriting.{counted_object, row_below, IsTree, is_tree_lem, is_refused_lem, pool_below}

-- ---- the records and the pool in the output

module _ (little : Bool) (end : ℕ) (q : Spot) (rs bs out : List ℕ) where
  pub output_short : length out < record_size * q.next + q.pool
      → answered (Outcomes.refused (refusal OutputTooShort end)) out
      ≡ write (table_written little end q rs bs (length out)) out
  unfolding table_written
  output_short h = rw (lt-ltb (length out) (record_size * q.next + q.pool) h)

  pub output_written : (rs1 out1 out2 : List ℕ) (a b c d : ℕ) (e : Entry) → TableRoom q → length rs1 ≡ 49_152
      → length bs ≡ 16_384 → record_size * q.next + q.pool ≤ length out → a ≡ q.next → b ≡ q.pool
      → record_of e ≡ make 0 0 (a ∷ b ∷ 1 ∷ [])
      → rs1 ≡ sets rs (record_size * 0) (encode little (record_of e)) → PartPut rs1 0 (record_size * q.next) 0 out out1 c
      → PartPut bs 0 q.pool (record_size * q.next) out1 out2 d
      → answered (gave (record_size * q.next + q.pool)) out2 ≡ write (table_written little end q rs bs (length out)) out
  unfolding table_written
  output_written rs1 out1 out2 a b c d e t lr lb h x y r w f g =
      let row : record_of e ≡ make 0 0 (q.next ∷ q.pool ∷ 1 ∷ []) = r ∙ λ i. make 0 0 (x i ∷ y i ∷ 1 ∷ []) in
      let headed = sets rs 0 (encode little (make 0 0 (q.next ∷ q.pool ∷ 1 ∷ []))) in
      let v : rs1 ≡ headed = w ∙ ap (λ (z : Record). sets rs 0 (encode little z)) row in
      let front = part headed 0 (record_size * q.next) in
      let back = part bs 0 q.pool in
      let n : length front ≡ record_size * q.next = part_length headed 0 (record_size * q.next) (rw (← v) (omega arith)) ∙ sub-zero _ in
      let m : length (front ++ back) ≤ length out = rw length-append (omega (arith, part_length bs 0 q.pool (omega arith))) in
      let k : out2 ≡ (front ++ back) ++ drop (length (front ++ back)) out =
      g.bytes ∙ ap (λ o. sets o (record_size * q.next) back) (f.bytes ∙ ap (λ l. sets out 0 (part l 0 (record_size * q.next))) v)
      ∙ sets_behind front back out 0 (record_size * q.next) (zero-add _ ∙ n) ∙ front_stored (front ++ back) out m in
      rw (k, le-ltb (length out) (record_size * q.next + q.pool) h)

-- ---- the text's end

module _ (text : List ℕ) (q : Spot) (little : Bool) (rs bs out : List ℕ) where
  pub finish_fault : (x : Refusal) → ExpectIs text text_end q.place (expect text text_end q.place) (Err x)
      → answered (Outcomes.refused x) out
      ≡ write (finished little text q rs bs (length out) (expect text text_end q.place)) out
  finish_fault x e = rw (← e.is)

  pub finish_taken : (t : Token) (r : Result ℕ Refusal) (out1 : List ℕ)
      → ExpectIs text text_end q.place (expect text text_end q.place) (Ok t)
      → answered (answer_of r) out1 ≡ write (table_written little (length text) q rs bs (length out)) out
      → answered (answer_of r) out1
      ≡ write (finished little text q rs bs (length out) (expect text text_end q.place)) out
  finish_taken t r out1 e h = rw (← e.is) h

-- ---- compiling

pub compile_long : (text out : List ℕ) (little : Bool) → text_limit < length text
    → answered (Outcomes.refused (refusal TextTooLong text_limit)) out ≡ compile_answer text little out
unfolding compile_answer
compile_long text out little h = rw (constraint_is text, lt-ltb text_limit (length text) h)

-- what stands in front is taken from where it was put
front_part : (l xs : List ℕ) (n : ℕ) → n ≡ length xs → n ≤ length l → part (sets l 0 xs) 0 n ≡ xs
front_part l xs n e h = let k : length xs ≤ length l = omega arith in rw (sub-zero, front_stored xs l k) (take_at xs (drop (length xs) l) n (sym e))

-- the table of a tree that is in the scratch
table_is : (little : Bool) (end place room : ℕ) (o : Object) (rs bs : List ℕ) → length rs ≡ 49_152 → length bs ≡ 16_384
    → suc (length (object_table o 0)) ≤ record_limit → length (object_pool o) ≤ pool_limit
    → table_written little end (spot place (suc (length (object_table o 0))) (length (object_pool o)))
    (sets rs (record_size * 1) (encodes little (object_table o 0))) (sets bs 0 (object_pool o)) room
    ≡ table_for little end room o
unfolding table_written image_of_tree bytes_of
table_is little end place room o rs bs lr lb h k =
    let t = object_table o 0 in
    let b = object_pool o in
    let n = suc (length t) in
    let head = make 0 0 (n ∷ length b ∷ 1 ∷ []) in
    let front : List ℕ = encode little head ++ encodes little t in
    let le = length-encode little head refl in
    let lt = length-encodes little t (counted_object o 0) in
    let lf : record_size * n ≡ length front = sym (length-append (encode little head) (encodes little t) ∙ omega arith) in
    let first = row_below little head t 0 rs refl in
    let a : part (sets (sets rs (record_size * 1) (encodes little t)) 0 (encode little head)) 0 (record_size * n) ≡ front = rw first (front_part rs front (record_size * n) lf (omega arith)) in
    let c : part (sets bs 0 b) 0 (length b) ≡ b = front_part bs b (length b) refl (omega arith) in
    let whole : List ℕ = encode little head ++ (encodes little t ++ b) in
    let lw : record_size * n + length b ≡ length whole = sym (length-append (encode little head) (encodes little t ++ b) ∙ simp length-append (omega arith)) in
    let w : part (sets (sets rs (record_size * 1) (encodes little t)) 0 (encode little head)) 0 (record_size * n) ++ part (sets bs 0 b) 0 (length b) ≡ whole = (λ i. a i ++ c i) ∙ append_assoc (encode little head) (encodes little t) b in
    λ i. unless (ltb room (lw i)) (refusal OutputTooShort end) (gave (writes (w i) (lw i)))

module _ (text : List ℕ) (short : length text ≤ text_limit) (little : Bool) (rs bs names names1 rs1 bs1 out : List ℕ)
    (r : Result Spot Refusal)
    (d : TreeIs 0 names names1
    (written object_table object_pool little (spot 0 1 0) rs bs (object_from text level_limit 1 0)) rs1 bs1 r) where
  pub compile_refused : (x : Refusal) → r ≡ Err x
      → answered (Outcomes.refused x) out ≡ compile_answer text little out
  unfolding compile_answer
  compile_refused x g =
      let f = is_refused_lem object_table object_pool little (spot 0 1 0) rs bs rs1 bs1 x _ (rw g at d.is) in
      rw (constraint_is text, le-ltb text_limit (length text) short, f)

  module _ (q : Spot) (g : r ≡ Ok q) where
    read : IsTree object_table object_pool little (spot 0 1 0) rs bs rs1 bs1 q (object_from text level_limit 1 0)
    read = is_tree_lem object_table object_pool little (spot 0 1 0) rs bs rs1 bs1 q _ (rw g at d.is)

    tree : ObjectRead text 1 0 read.tree q.place
    unfolding Holds
    tree = rw read.is at (object_holds text level_limit 1 0 (omega arith))

    spot_is : q ≡ spot q.place (suc (length (object_table read.tree 0))) (length (object_pool read.tree))
    spot_is =
        let e : 0 + length (object_pool read.tree) ≡ length (object_pool read.tree) = omega arith in
        let f : 1 + length (object_table read.tree 0) ≡ suc (length (object_table read.tree 0)) = omega arith in
        read.spot ∙ λ i. spot q.place (f i) (e i)

    next_is : q.next ≡ suc (length (object_table read.tree 0))
    next_is = ap (λ (y : Spot). y.next) spot_is

    pool_is : q.pool ≡ length (object_pool read.tree)
    pool_is = ap (λ (y : Spot). y.pool) spot_is

    records_room : suc (length (object_table read.tree 0)) ≤ record_limit
    records_room = let l = object_length read.tree 0 in let m = tree.room (omega arith) in omega arith

    pool_room : length (object_pool read.tree) ≤ pool_limit
    pool_room =
        let l = pool_below text 0 0 q.place (object_pool read.tree) (omega arith) (omega arith) tree.most tree.pool in
        let m = tree.most in
        omega arith

    pub compile_inside : q.place ≤ length text
    compile_inside = tree.most

    pub compile_room : TableRoom q
    compile_room = let a = next_is in let b = pool_is in let c = records_room in let e = pool_room in record { some = omega arith; records = omega arith; bytes = omega arith }

    pub compile_done : (z : Result ℕ Refusal) (out1 : List ℕ) → length rs ≡ 49_152 → length bs ≡ 16_384
        → answered (answer_of z) out1
        ≡ write (finished little text q rs1 bs1 (length out) (expect text text_end q.place)) out
        → answered (answer_of z) out1 ≡ compile_answer text little out
    unfolding compile_answer
    compile_done z out1 lr lb h =
        h ∙ ap (λ o. write o out) (by (expect text text_end q.place)) ∙ rw (constraint_is text, le-ltb text_limit (length text) short, read.is)
      where
        by : (x : Reading Token)
            → finished little text q rs1 bs1 (length out) x
            ≡ after_reading (read_then x (λ t p. got read.tree p)) (table_for little (length text) (length out))
        by (refused x) = refl
        by (got t p) =
            (λ i. table_written little (length text) (spot_is i) (read.records i) (read.bytes i) (length out))
            ∙ table_is little (length text) q.place (length out) read.tree rs bs lr lb records_room pool_room
