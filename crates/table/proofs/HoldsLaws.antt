-- The record that bytes hold by the rules is the one that is read from them, and where its bytes are there and marked they hold it. Assumes nothing.
use mathlib.Core.Path.{◌≡◌, refl, sym, ap, subst, ◌∙◌}
use mathlib.Core.Bool.{Bool, true, false, ◌||◌}
use mathlib.Core.List.{List, [], ◌∷◌}
use Prim.Native.Nat.{ℕ, zero, suc, ◌+◌, ◌*◌, ◌-◌, ◌≤◌, ◌<◌, min}
use native.Mathlib.Nat.{add-zero, zero-add, suc-add}
use native.Mathlib.Omega.{arith}
use lib.Dec.{eqb}
use lib.ListN.{length, get_or, take, drop, length-take, length-drop}
use lib.Seq.{take-nil, drop-cons, drop-drop, take-take, get_or-take, get_or-drop}
use borrow.Author.Tests.{eqb-true, eq-eqb, ne_eqb}
use Rattle.lexis.specs.Runs.{StandsAt}
use Rattle.table.specs.Order.{get}
use Rattle.table.specs.Records.{Record, record_size, number_size, field_count, mark, is_little, is_marked, numbers, decode, make, field, record_in}
use Rattle.table.specs.TableRules.{MarkAt, big_endian, little_endian, NumberAt, highest_first, lowest_first, NumbersAt, no_number, one_more, Holds, KindAt}
use Rattle.table.proofs.RecordLaws.{decode_counted}
use Rattle.table.proofs.OrderSteps.{two_bytes, four_bytes}
use Rattle.table.proofs.FrameLaws.{decode_kind}

-- a list of as many numbers as a record has is its elements
pub all_fields : (xs : List ℕ) → length xs ≡ field_count
    → xs ≡ get_or xs 0 0 ∷ get_or xs 1 0 ∷ get_or xs 2 0 ∷ get_or xs 3 0 ∷ get_or xs 4 0 ∷ []
all_fields [] h = absurd (omega arith)
all_fields (a ∷ []) h = absurd (omega arith)
all_fields (a ∷ b ∷ []) h = absurd (omega arith)
all_fields (a ∷ b ∷ c ∷ []) h = absurd (omega arith)
all_fields (a ∷ b ∷ c ∷ d ∷ []) h = absurd (omega arith)
all_fields (a ∷ b ∷ c ∷ d ∷ e ∷ []) h = refl
all_fields (a ∷ b ∷ c ∷ d ∷ e ∷ x ∷ xs) h = absurd (omega arith)

-- so a record with all its fields is made of them
pub made : (r : Record) → length r.fields ≡ field_count
    → r ≡ make r.kind r.flag (field r 0 ∷ field r 1 ∷ field r 2 ∷ field r 3 ∷ field r 4 ∷ [])
made r h = λ i. record { kind = r.kind; flag = r.flag; fields = all_fields r.fields h i }

-- bytes that stand at a place lie within
pub bytes-room : (bs : List ℕ) (place x : ℕ) (ws : List ℕ) → StandsAt bs place (x ∷ ws)
    → place + suc (length ws) ≤ length bs
bytes-room bs place x ws h =
    let e : min (suc (length ws)) (length bs - place) ≡ suc (length ws) = rw (length-take, length-drop) at (ap length h) in
    omega arith

-- the byte that stands at a place is the one read
pub byte_is_lem : (bs : List ℕ) (place x : ℕ) → StandsAt bs place (x ∷ []) → get_or bs place 0 ≡ x
byte_is_lem bs place x h =
    let e : get_or (take 1 (drop place bs)) 0 0 ≡ x = ap (λ l. get_or l 0 0) h in
    rw (get_or-take 1 (drop place bs) 0 0 (omega arith), get_or-drop, add-zero) at e

-- and the byte read stands there
pub byte_there : (bs : List ℕ) (place : ℕ) → place < length bs → StandsAt bs place (get_or bs place 0 ∷ [])
byte_there bs place h = rw (drop-cons bs place 0)

-- what is behind a place of a part is a part of what is behind it
drop-take : (j n : ℕ) (l : List ℕ) → drop j (take (j + n) l) ≡ take n (drop j l)
drop-take zero n l = rw zero-add
drop-take (suc j) n [] = rw (suc-add, take-nil)
drop-take (suc j) n (x ∷ xs) = rw suc-add (drop-take j n xs)

-- so many numbers need no byte behind theirs
numbers-part : (little : Bool) (k : ℕ) (l : List ℕ) → numbers little k (take (number_size * k) l) ≡ numbers little k l
numbers-part little zero l = refl
numbers-part little (suc k) l =
    let e : number_size * suc k ≡ number_size + number_size * k = omega arith in
    rw (e, take-take number_size (number_size + number_size * k) l (omega arith), drop-take number_size (number_size * k) l, numbers-part little k (drop number_size l))

-- the number that stands at a place is the one read
number_is : (bs : List ℕ) (place : ℕ) (little : Bool) (x : ℕ) → NumberAt bs place little x
    → get little (take number_size (drop place bs)) ≡ x
number_is bs place little x (highest_first h) = rw h (omega arith)
number_is bs place little x (lowest_first h) = rw h (omega arith)

-- and the number read stands there, where there is room
number_there : (bs : List ℕ) (place : ℕ) (little : Bool) → place + number_size ≤ length bs
    → NumberAt bs place little (get little (take number_size (drop place bs)))
number_there bs place true h = let e = four_bytes bs place h in rw e (subst (NumberAt bs place true) (omega arith) (lowest_first e))
number_there bs place false h = let e = four_bytes bs place h in rw e (subst (NumberAt bs place false) (omega arith) (highest_first e))

-- numbers that stand from a place on are those read
numbers_are : (bs : List ℕ) (little : Bool) (place : ℕ) (xs : List ℕ) → NumbersAt bs little place xs
    → numbers little (length xs) (drop place bs) ≡ xs
numbers_are bs little place xs no_number = refl
numbers_are bs little place xs (one_more {place = p} {x = x} {xs = ys} h t) =
    rw (number_is bs p little x h, drop-drop number_size p bs, numbers_are bs little (p + 4) ys t)

-- and those read stand there, where there is room
numbers_there : (bs : List ℕ) (little : Bool) (k place : ℕ) → place + number_size * k ≤ length bs
    → NumbersAt bs little place (numbers little k (drop place bs))
numbers_there bs little zero place h = no_number
numbers_there bs little (suc k) place h =
    let e : numbers little k (drop (place + 4) bs) ≡ numbers little k (drop number_size (drop place bs)) = rw (drop-drop number_size place bs) in
    one_more (number_there bs place little (omega arith)) (subst (NumbersAt bs little (place + 4)) e (numbers_there bs little k (place + 4) (omega arith)))

-- a number takes its bytes
number-room : (bs : List ℕ) (place : ℕ) (little : Bool) (x : ℕ) → NumberAt bs place little x
    → place + number_size ≤ length bs
number-room bs place little v (highest_first {w} {x} {y} {z} h) = bytes-room bs place w (x ∷ y ∷ z ∷ []) h
number-room bs place little v (lowest_first {w} {x} {y} {z} h) = bytes-room bs place w (x ∷ y ∷ z ∷ []) h

-- so do numbers
numbers-room : (bs : List ℕ) (little : Bool) (place : ℕ) (xs : List ℕ) → NumbersAt bs little place xs
    → place ≤ length bs → place + number_size * length xs ≤ length bs
numbers-room bs little place xs no_number l = omega arith
numbers-room bs little place xs (one_more {place = p} {x = x} {xs = ys} h t) l =
    let r = number-room bs p little x h in
    let m = numbers-room bs little (p + 4) ys t r in
    omega arith

-- the two bytes of the mark are those at the record's place
mark-bytes : (bs : List ℕ) (place x y : ℕ) → StandsAt bs place (x ∷ y ∷ [])
    → take 2 (take record_size (drop place bs)) ≡ x ∷ y ∷ []
mark-bytes bs place x y h = take-take 2 record_size (drop place bs) (omega arith) ∙ h

-- where the mark stands it is found, in its order
mark_is : (bs : List ℕ) (place : ℕ) (little : Bool) → MarkAt bs place little
    → (is_marked (take record_size (drop place bs)) ≡ true) × (is_little (take record_size (drop place bs)) ≡ little)
mark_is bs place little (big_endian {x} {y} h e) =
    rw (mark-bytes bs place x y h, eq-eqb (get false (x ∷ y ∷ [])) mark (omega arith), ne_eqb (get true (x ∷ y ∷ [])) mark (omega arith)) (refl, refl)
mark_is bs place little (little_endian {x} {y} h e) =
    rw (mark-bytes bs place x y h, eq-eqb (get true (x ∷ y ∷ [])) mark (omega arith)) (refl, refl)

-- two bytes that are the mark in one of the orders, by the test of the little-endian one
mark_by : (bs : List ℕ) (place x y : ℕ) (b : Bool) → StandsAt bs place (x ∷ y ∷ [])
    → eqb (get true (x ∷ y ∷ [])) mark ≡ b
    → (b || eqb (get false (x ∷ y ∷ [])) mark) ≡ true → MarkAt bs place b
mark_by bs place x y true w e h = let k = eqb-true (get true (x ∷ y ∷ [])) mark e in little_endian w (omega arith)
mark_by bs place x y false w e h = let k = eqb-true (get false (x ∷ y ∷ [])) mark h in big_endian w (omega arith)

-- where the mark is found it stands
mark_there : (bs : List ℕ) (place : ℕ) → is_marked (take record_size (drop place bs)) ≡ true → place + 2 ≤ length bs
    → MarkAt bs place (is_little (take record_size (drop place bs)))
mark_there bs place h l =
    let x = get_or bs place 0 in
    let y = get_or bs (place + 1) 0 in
    let w = two_bytes bs place l in
    let e = mark-bytes bs place x y w in
    rw e (mark_by bs place x y (eqb (get true (x ∷ y ∷ [])) mark) w refl (rw e at h))

-- a record's flag and fields, as they stand in the bytes
decode_flag : (bs : List ℕ) (at : ℕ) → (decode (take record_size (drop at bs))).flag ≡ get_or bs (at + 3) 0
unfolding decode
decode_flag bs at = get_or-take record_size (drop at bs) 3 0 (omega arith) ∙ get_or-drop at bs 3 0

decode_fields : (bs : List ℕ) (at : ℕ)
    → (decode (take record_size (drop at bs))).fields
    ≡ numbers (is_little (take record_size (drop at bs))) field_count (drop (at + 4) bs)
unfolding decode
decode_fields bs at =
    let little = is_little (take record_size (drop at bs)) in
    ap (numbers little field_count) (drop-take 4 20 (drop at bs)) ∙ numbers-part little field_count (drop 4 (drop at bs)) ∙ ap (numbers little field_count) (drop-drop 4 at bs)

module _ (bs : List ℕ) (n : ℕ) (little : Bool) (r : Record) (h : Holds bs n little r) where
  -- the record that bytes hold is marked
  pub holds_marked : is_marked (take record_size (drop (record_size * n) bs)) ≡ true
  holds_marked = (mark_is bs (record_size * n) little h.mark).0

  -- its order is the one that its mark says
  pub holds_order : is_little (take record_size (drop (record_size * n) bs)) ≡ little
  holds_order = (mark_is bs (record_size * n) little h.mark).1

  -- all its bytes are there
  pub holds_room : record_size * n + record_size ≤ length bs
  holds_room =
      let k = bytes-room bs (record_size * n + 3) r.flag [] h.flag in
      let m = numbers-room bs little (record_size * n + 4) r.fields h.numbers (omega arith) in
      let c = h.counted in
      omega arith

  -- its fields are the numbers read
  fields_held : r.fields ≡ (record_in bs n).fields
  fields_held =
      let at = record_size * n in
      let e : numbers little field_count (drop (at + 4) bs) ≡ r.fields = rw h.counted at (numbers_are bs little (at + 4) r.fields h.numbers) in
      rw (decode_fields bs at, holds_order) (sym e)

  -- it is the one that is read
  pub holds_is : r ≡ record_in bs n
  holds_is =
      let at = record_size * n in
      let k = sym (decode_kind bs at ∙ byte_is_lem bs (at + 2) r.kind h.kind) in
      let f = sym (decode_flag bs at ∙ byte_is_lem bs (at + 3) r.flag h.flag) in
      λ i. record { kind = k i; flag = f i; fields = fields_held i }

-- bytes that are there and marked hold the record that is read from them
pub holds_there : (bs : List ℕ) (n : ℕ) → is_marked (take record_size (drop (record_size * n) bs)) ≡ true
    → record_size * n + record_size ≤ length bs
    → Holds bs n (is_little (take record_size (drop (record_size * n) bs))) (record_in bs n)
holds_there bs n h l =
    let at = record_size * n in
    record {
      mark = mark_there bs at h (omega arith);
      kind = rw (decode_kind bs at) (byte_there bs (at + 2) (omega arith));
      flag = rw (decode_flag bs at) (byte_there bs (at + 3) (omega arith));
      numbers = rw (decode_fields bs at) (numbers_there bs (is_little (take record_size (drop at bs))) field_count (at + 4) (omega arith));
      counted = decode_counted (take record_size (drop at bs));
    }

-- the kind byte of a record is the kind that is read
pub kind_is : (bs : List ℕ) (n kind : ℕ) → KindAt bs n kind → (record_in bs n).kind ≡ kind
kind_is bs n kind h = decode_kind bs (record_size * n) ∙ byte_is_lem bs (record_size * n + 2) kind h

-- and the kind that is read is the kind byte, where all the record's bytes are there
pub kind_there : (bs : List ℕ) (n : ℕ) → record_size * n + record_size ≤ length bs → KindAt bs n (record_in bs n).kind
kind_there bs n h = rw (decode_kind bs (record_size * n)) (byte_there bs (record_size * n + 2) (omega arith))
