-- Steps of the function that reads and writes an object's attributes, one after the other. Assumes nothing.
use mathlib.Core.Path.{◌≡◌, refl, sym, ap, ◌∙◌}
use mathlib.Core.Bool.{Bool, true, false, cond}
use mathlib.Core.List.{List, [], ◌∷◌, ◌++◌, append_assoc}
use Prim.Native.Nat.{ℕ, zero, suc, ◌+◌, ◌*◌, ◌-◌, ◌≤◌, ◌<◌}
use native.Mathlib.Omega.{arith}
use native.Mathlib.Nat.{add-zero}
use native.Mathlib.Decide.{dec_lt}
use lib.Dec.{eqb}
use lib.ListN.{length, length-append}
use lib.Seq.{sets}
use Rattle.lexis.specs.Runs.{part}
use Rattle.lexis.specs.Spelling.{close_brace}
use Rattle.lexis.specs.Tokens.{token_at}
use Rattle.lexis.proofs.Stores.{sets_behind}
use Rattle.refusals.specs.Reading.{Reading, refused, got, read_then}
use Rattle.refusals.specs.declared.Refusal.{Refusal}
use Rattle.refusals.proofs.Readings.{Holds}
use Rattle.meaning.specs.Constraints.{Attributes, no_more, attribute}
use Rattle.meaning.specs.Counting.{attribute_pool, value_pool, value_records}
use Rattle.cadl_items.specs.Clauses.Spans.{first_of, second_of, span_at, latest, earlier, Within}
use Rattle.cadl_items.specs.Clauses.Items.{Kept}
use Rattle.cadl_items.proofs.ItemLaws.{first_kept, second_kept, all_kept}
use Rattle.cadl_objects.specs.Objects.{Attribute, past_attribute, head_of}
use Rattle.cadl_objects.proofs.TreeParts.{go_on}
use Rattle.cadl_objects.specs.Clauses.Told.{attributes}
use Rattle.cadl_objects.proofs.TreeReading.{AttributeRead, attribute_holds}
use Rattle.table.specs.Records.{Record, record_size, encodes}
use Rattle.compile_flatten.specs.Flatten.{attributes_link, value_link, attributes_table, value_table}
use Rattle.compile_emission.specs.Clauses.Answers.{spot, Wrote, wrote, written, Room, attribute_row}
use Rattle.compile.specs.Clauses.Answers.{TreeIs, Stacked, attribute_written, Pushed, AttributeIs, AttributeRoom}
use Rattle.compile_emission.specs.declared.spots.Spot.{Spot}
use Rattle.compile_emission.specs.declared.spots.AttributeEnd.{AttributeEnd}
use Rattle.compile_emission.specs.declared.spots.AttributeEnd.TheVariants.{Last, More}
use Rattle.std.specs.declared.result.Result.{Result}
use Rattle.std.specs.declared.result.Result.TheVariants.{Ok, Err}
use Rattle.compile_flatten.proofs.FlattenLaws.{value-length}
use Rattle.compile_emission.proofs.TreeWriting.{counted_value, rows_behind, pool_below}
use Rattle.compile.proofs.ReadingLaws.{Linked, linked, turn}
use Rattle.compile.proofs.AttributeSteps.{AttributeOf, kept_both}

-- an attribute that was read, whether the object's `}` follows or not
abbrev ended : Bool → Spot → AttributeEnd
ended true q = Last q
ended false q = More q

-- what an answer says of the attribute that was read
record IsAttribute (s : List ℕ) (little : Bool) (p : Spot) (rs bs rs' bs' : List ℕ) (last : Bool) (q : Spot)
    (x : Reading Attribute) : Type 0 where
  pub a : Attribute
  pub at : ℕ
  pub is : x ≡ got a at
  pub sort : eqb (token_at s at).sort close_brace ≡ last
  pub spot : q ≡ spot (cond last (token_at s at).end at)
      (p.next + 1 + length (value_table a.value (p.pool + length a.name)))
      (p.pool + length a.name + length (value_pool a.value))
  pub records : rs' ≡ sets rs (record_size * p.next)
      (encodes little
      (attribute_row a.existence a.name p.pool (value_link a.value)
      (cond last 0 (p.next + 1 + length (value_table a.value (p.pool + length a.name))))
      ∷ value_table a.value (p.pool + length a.name)))
  pub bytes : bs' ≡ sets bs p.pool (a.name ++ value_pool a.value)

module _ (s : List ℕ) (little : Bool) (p : Spot) (rs bs rs' bs' : List ℕ) where
  is_attribute : (last : Bool) (q : Spot) (x : Reading Attribute)
      → wrote (Ok (ended last q)) rs' bs' ≡ attribute_written s little p rs bs x
      → IsAttribute s little p rs bs rs' bs' last q x
  unfolding attribute_written
  is_attribute true q (refused x) e =
      let o : Ok (Last q) ≡ Err x = ap (λ (w : Wrote AttributeEnd). w.answer) e in
      let z : ◌≡◌ {A = ℕ} 0 1 = cc in
      absurd (omega arith)
  is_attribute false q (refused x) e =
      let o : Ok (More q) ≡ Err x = ap (λ (w : Wrote AttributeEnd). w.answer) e in
      let z : ◌≡◌ {A = ℕ} 0 1 = cc in
      absurd (omega arith)
  is_attribute last q (got a at) e = by last (eqb (token_at s at).sort close_brace) refl e
    where
      table : List Record
      table = value_table a.value (p.pool + length a.name)

      next : ℕ
      next = p.next + 1 + length table

      pool : ℕ
      pool = p.pool + length a.name + length (value_pool a.value)

      by : (last b : Bool) → eqb (token_at s at).sort close_brace ≡ b
          → wrote (Ok (ended last q)) rs' bs' ≡ record {
            answer = Ok (cond b (Last (spot (token_at s at).end next pool)) (More (spot at next pool)));
            records = sets rs (record_size * p.next) (encodes little (attribute_row a.existence a.name p.pool (value_link a.value) (cond b 0 next) ∷ table));
            bytes = sets bs p.pool (a.name ++ value_pool a.value);
          }
          → IsAttribute s little p rs bs rs' bs' last q (got a at)
      by true true f g =
          let o : Ok (Last q) ≡ Ok (Last (spot (token_at s at).end next pool)) = ap (λ (w : Wrote AttributeEnd). w.answer) g in
          record { a = a; at = at; is = refl; sort = f; spot = (cc); records = ap (λ (w : Wrote AttributeEnd). w.records) g; bytes = ap (λ (w : Wrote AttributeEnd). w.bytes) g }
      by false false f g =
          let o : Ok (More q) ≡ Ok (More (spot at next pool)) = ap (λ (w : Wrote AttributeEnd). w.answer) g in
          record { a = a; at = at; is = refl; sort = f; spot = (cc); records = ap (λ (w : Wrote AttributeEnd). w.records) g; bytes = ap (λ (w : Wrote AttributeEnd). w.bytes) g }
      by true false f g =
          let o : Ok (Last q) ≡ Ok (More (spot at next pool)) = ap (λ (w : Wrote AttributeEnd). w.answer) g in
          let z : ◌≡◌ {A = ℕ} 0 1 = cc in
          absurd (omega arith)
      by false true f g =
          let o : Ok (More q) ≡ Ok (Last (spot (token_at s at).end next pool)) = ap (λ (w : Wrote AttributeEnd). w.answer) g in
          let z : ◌≡◌ {A = ℕ} 0 1 = cc in
          absurd (omega arith)

  is_not : (y : Refusal) (x : Reading Attribute)
      → wrote (Err y) rs' bs' ≡ attribute_written s little p rs bs x → x ≡ refused y
  unfolding attribute_written
  is_not y (refused x) e = let o : Err y ≡ Err x = ap (λ (w : Wrote AttributeEnd). w.answer) e in cc
  is_not y (got a at) e = by _ _ (eqb (token_at s at).sort close_brace) (ap (λ (w : Wrote AttributeEnd). w.answer) e)
    where
      by : (u v : Spot) (b : Bool) → Err y ≡ Ok (cond b (Last u) (More v))
          → got a at ≡ refused y
      by u v true o = let z : ◌≡◌ {A = ℕ} 0 1 = cc in absurd (omega arith)
      by u v false o = let z : ◌≡◌ {A = ℕ} 0 1 = cc in absurd (omega arith)

-- an attribute that is written, and the attributes behind it
step : (little : Bool) (p : Spot) (a : Attribute) (place link : ℕ) (rs bs : List ℕ) (rest : Reading Attributes)
    → ((xs : Attributes) (at : ℕ) → rest ≡ got xs at → attributes_link xs ≡ link)
    → written attributes_table attribute_pool little
    (spot place (p.next + 1 + length (value_table a.value (p.pool + length a.name)))
    (p.pool + length a.name + length (value_pool a.value)))
    (sets rs (record_size * p.next)
    (encodes little
    (attribute_row a.existence a.name p.pool (value_link a.value) link
    ∷ value_table a.value (p.pool + length a.name))))
    (sets bs p.pool (a.name ++ value_pool a.value)) rest
    ≡ written attributes_table attribute_pool little p rs bs
    (read_then rest (λ xs at. got (attribute (head_of p.next a) a.value xs) at))
unfolding written attributes_table attribute_pool
step little p a place link rs bs (refused x) h = refl
step little p a place link rs bs (got xs at) h =
    let w = a.name in
    let v = a.value in
    let table = value_table v (p.pool + length w) in
    let next = p.next + 1 + length table in
    let pool = p.pool + length w + length (value_pool v) in
    let more = attributes_table xs pool in
    let row : ℕ → Record = λ l. attribute_row a.existence w p.pool (value_link v) l in
    let n : next + length more ≡ p.next + suc (length (table ++ more)) = simp length-append (omega arith) in
    let m : pool + length (attribute_pool xs) ≡ p.pool + length (w ++ (value_pool v ++ attribute_pool xs)) = simp length-append (omega arith) in
    let r : sets (sets rs (record_size * p.next) (encodes little (row link ∷ table))) (record_size * next) (encodes little more) ≡ sets rs (record_size * p.next) (encodes little (row link ∷ (table ++ more)))
    = rows_behind little (row link ∷ table) more p.next next rs (refl, counted_value v (p.pool + length w)) (omega arith) in
    let l : p.pool + length (w ++ value_pool v) ≡ pool = simp length-append (omega arith) in
    let b : sets (sets bs p.pool (w ++ value_pool v)) pool (attribute_pool xs) ≡ sets bs p.pool (w ++ (value_pool v ++ attribute_pool xs))
    = sets_behind (w ++ value_pool v) (attribute_pool xs) bs p.pool pool l ∙ ap (λ (y : List ℕ). sets bs p.pool y) (append_assoc w (value_pool v) (attribute_pool xs)) in
    let k : attributes_link xs ≡ link = h xs at refl in
    λ i. record {
      answer = Ok (spot at (n i) (m i));
      records = (r ∙ ap (λ (y : ℕ). sets rs (record_size * p.next) (encodes little (row y ∷ (table ++ more)))) (sym k)) i;
      bytes = b i;
    }

-- no more attributes: nothing more is written
none_more : (little : Bool) (place next pool : ℕ) (rs bs : List ℕ)
    → wrote (Ok (spot place next pool)) rs bs
    ≡ written attributes_table attribute_pool little (spot place next pool) rs bs (got no_more place)
unfolding written attributes_table attribute_pool
none_more little place next pool rs bs = rw (add-zero, add-zero)

-- names that are kept, and one more
latest_kept : {A : Type 0} (f g : ℕ → A) (first n : ℕ) → ((j : ℕ) → j < first + n → f j ≡ g j)
    → latest f first n ≡ latest g first n
unfolding latest
latest_kept f g first zero h = refl
latest_kept f g first (suc n) h =
    let a = h (first + n) (omega arith) in
    let b = latest_kept f g first n (λ j l. h j (omega arith)) in
    rw (a, b)

module _ {s : List ℕ} {first top : ℕ} {names names' : List ℕ} {w : List ℕ} (order : first ≤ top)
    (k : Kept top names names') (h : Pushed s names' top w) where
  names_more : earlier s names' first (top + 1) ≡ w ∷ earlier s names first top
  unfolding latest
  names_more =
      let n = top - first in
      let a : top + 1 - first ≡ suc n = omega arith in
      let b : first + n ≡ top = omega arith in
      let c = latest_kept (span_at s names') (span_at s names) first n (λ j l i. part s (first_kept top names names' k j (omega arith) i) (second_kept top names names' k j (omega arith) i)) in
      rw (a, b, h.is, c)

  lies_more : ((i : ℕ) → first ≤ i → i < top → Within s (first_of names i) (second_of names i)) → (i : ℕ) → first ≤ i
      → i < top + 1 → Within s (first_of names' i) (second_of names' i)
  lies_more v i a b = lies i (dec_lt i top) a b
    where
      lies : (i : ℕ) → Dec (i < top) → first ≤ i → i < top + 1 → Within s (first_of names' i) (second_of names' i)
      lies i (yes m) a b = rw (first_kept top names names' k i m, second_kept top names names' k i m) (v i a m)
      lies i (no m) a b = let z : i ≡ top = omega arith in rw z h.lies

-- at an attribute, with so many names on the stack: with what is left the records and the pool are what they are to be
pub record InAttributes (s : List ℕ) (little : Bool) (levels : ℕ) (p : Spot) (first : ℕ) (rs₀ bs₀ names₀ : List ℕ)
    (q : Spot) (top : ℕ) (rs bs names : List ℕ) : Type 0 where
  pub fuel : ℕ
  pub room : AttributeRoom s q first top names
  pub order : first ≤ top
  pub enough : length s < q.place + fuel
  pub kept : Kept first names₀ names
  pub is : written attributes_table attribute_pool little q rs bs
      (attributes s levels fuel (earlier s names first top) q.next q.place)
      ≡ written attributes_table attribute_pool little p rs₀ bs₀
      (attributes s levels (length s + 1) [] p.next p.place)

pub attributes_start : (s : List ℕ) (little : Bool) (levels : ℕ) {p : Spot} {first : ℕ} (rs bs names : List ℕ)
    → Stacked s p first → InAttributes s little levels p first rs bs names p first rs bs names
unfolding latest
attributes_start s little levels {first = first} rs bs names h =
    let e : first - first ≡ 0 = omega arith in
    record {
      fuel = length s + 1;
      room = record { stacked = h; lies = λ i a b. absurd (omega arith) };
      order = omega arith;
      enough = omega arith;
      kept = all_kept names first;
      is = rw e;
    }

module _ {s : List ℕ} {little : Bool} {levels : ℕ} {p : Spot} {first : ℕ} {rs₀ bs₀ names₀ : List ℕ} {q : Spot}
    {top : ℕ} {rs bs names : List ℕ} (inv : InAttributes s little levels p first rs₀ bs₀ names₀ q top rs bs names)
    {names' rs' bs' : List ℕ} {r : Result AttributeEnd Refusal}
    (d : AttributeIs s little levels q first top names rs bs names' rs' bs' r) where
  abbrev Whole : Reading Attributes
  Whole = attributes s levels (length s + 1) [] p.next p.place

  abbrev Here : ℕ
  Here = q.next

  still : Kept first names₀ names'
  still = kept_both inv.order inv.kept d.kept

  one_turn : attributes s levels inv.fuel (earlier s names first top) Here q.place
      ≡ read_then (AttributeOf s levels q first top names)
      (λ a at. go_on s Here a
      (attributes s levels (inv.fuel - 1) (a.name ∷ earlier s names first top) (past_attribute Here a)) at)
  one_turn = turn s levels inv.fuel (earlier s names first top) Here q.place (let a = inv.enough in let b = inv.room.stacked.room.inside in omega arith)

  pub attributes_not : (x : Refusal) → r ≡ Err x
      → TreeIs first names₀ names' (written attributes_table attribute_pool little p rs₀ bs₀ Whole) rs' bs' (Err x)
  unfolding written
  attributes_not x g =
      let f = is_not s little q rs bs rs' bs' x (AttributeOf s levels q first top names) (rw g at d.is) in
      let t : attributes s levels inv.fuel (earlier s names first top) Here q.place ≡ refused x = one_turn ∙ rw f in
      record { is = rw t at inv.is; kept = still }

  module _ (last : Bool) (z : Spot) (g : r ≡ Ok (ended last z)) where
    read : IsAttribute s little q rs bs rs' bs' last z (AttributeOf s levels q first top names)
    read = is_attribute s little q rs bs rs' bs' last z (AttributeOf s levels q first top names) (rw g at d.is)

    abbrev Rest : Reading Attributes
    Rest = attributes s levels (inv.fuel - 1) (read.a.name ∷ earlier s names first top) (past_attribute Here read.a) read.at

    turned : attributes s levels inv.fuel (earlier s names first top) Here q.place ≡ go_on s Here read.a
        (attributes s levels (inv.fuel - 1) (read.a.name ∷ earlier s names first top) (past_attribute Here read.a))
        read.at
    turned = one_turn ∙ rw read.is

    read_in : AttributeRead s q.next q.place read.a read.at
    unfolding Holds
    read_in = rw read.is at (attribute_holds s levels Here q.place inv.room.stacked.room.inside (earlier s names first top))

  pub attributes_last : (z : Spot) → r ≡ Ok (Last z)
      → TreeIs first names₀ names' (written attributes_table attribute_pool little p rs₀ bs₀ Whole) rs' bs' (Ok z)
  unfolding written attributes_table attribute_pool
  attributes_last z g =
      let e = read true z g in
      let a = e.a in
      let t = token_at s e.at in
      let f : attributes s levels inv.fuel (earlier s names first top) Here q.place ≡ got (attribute (head_of q.next a) a.value no_more) t.end = turned true z g ∙ rw e.sort in
      let n = q.next + 1 + length (value_table a.value (q.pool + length a.name)) in
      let m = q.pool + length a.name + length (value_pool a.value) in
      let w = step little q a t.end 0 rs bs (got no_more t.end) (λ xs at k. let j : no_more ≡ xs = cc in rw (← j)) in
      let v : wrote (Ok z) rs' bs' ≡ written attributes_table attribute_pool little (spot t.end n m) rs' bs' (got no_more t.end) = ap (λ (y : Spot). wrote (Ok y) rs' bs') e.spot ∙ none_more little t.end n m rs' bs' in
      record {
        is = v ∙ (λ i. written attributes_table attribute_pool little (spot t.end n m) (e.records i) (e.bytes i) (got no_more t.end)) ∙ w ∙ rw f at inv.is;
        kept = still;
      }

  module _ {z : Spot} (g : r ≡ Ok (More z)) where
    seen_next : earlier s names' first (top + 1) ≡ (read false z g).a.name ∷ earlier s names first top
    seen_next = names_more inv.order d.kept (d.pushed _ _ (read false z g).is)

    pub attributes_less : length s - z.place < length s - q.place
    attributes_less =
        let k = read_in false z g in
        let e : z.place ≡ (read false z g).at = ap (λ (y : Spot). y.place) (read false z g).spot in
        let a = k.least in
        let b = k.most in
        omega arith

    behind : Room s z
    behind =
        let e = read false z g in
        let k = read_in false z g in
        let a = e.a in
        let v = inv.room.stacked.room in
        let l = value-length a.value (q.pool + length a.name) in
        let x : z.place ≡ e.at = ap (λ (y : Spot). y.place) e.spot in
        let n : z.next ≡ q.next + 1 + length (value_table a.value (q.pool + length a.name)) = ap (λ (y : Spot). y.next) e.spot in
        let m : z.pool ≡ q.pool + length a.name + length (value_pool a.value) = ap (λ (y : Spot). y.pool) e.spot in
        let h = pool_below s q.pool q.place e.at (a.name ++ value_pool a.value) v.bytes (omega (arith, k.least)) k.most k.pool in
        let i = length-append a.name (value_pool a.value) in
        let u = k.room v.records in
        let t = k.most in
        record { inside = omega arith; short = v.short; records = omega arith; bytes = omega arith }

    pub attributes_next : InAttributes s little levels p first rs₀ bs₀ names₀ z (top + 1) rs' bs' names'
    attributes_next =
        let e = read false z g in
        let a = e.a in
        let k = read_in false z g in
        let l = value-length a.value (q.pool + length a.name) in
        let x : z.place ≡ e.at = ap (λ (y : Spot). y.place) e.spot in
        let n : z.next ≡ q.next + 1 + length (value_table a.value (q.pool + length a.name)) = ap (λ (y : Spot). y.next) e.spot in
        let few : top + 1 ≤ z.next = let f = inv.room.stacked.few in omega arith in
        let rest = Rest false z g in
        let lk : Linked (q.next + 1 + value_records a.value) rest = linked s levels (inv.fuel - 1) (a.name ∷ earlier s names first top) (past_attribute Here a) e.at in
        let next = q.next + 1 + length (value_table a.value (q.pool + length a.name)) in
        let pool = q.pool + length a.name + length (value_pool a.value) in
        let t : attributes s levels inv.fuel (earlier s names first top) Here q.place ≡ read_then rest (λ xs at. got (attribute (head_of q.next a) a.value xs) at) = turned false z g ∙ rw e.sort in
        let w = step little q a e.at next rs bs rest (λ xs at y. by rest lk xs at y ∙ ap (λ (j : ℕ). q.next + 1 + j) (sym l)) in
        let same : attributes s levels (inv.fuel - 1) (earlier s names' first (top + 1)) next e.at ≡ rest
        = λ i. attributes s levels (inv.fuel - 1) (seen_next i) (q.next + 1 + l i) e.at in
        record {
          fuel = inv.fuel - 1;
          room = record { stacked = record { room = behind; few = few }; lies = lies_more inv.order d.kept (d.pushed _ _ e.is) inv.room.lies };
          order = let o = inv.order in omega arith;
          enough = let f = inv.enough in let c = k.least in omega arith;
          kept = still;
          is = (λ i. written attributes_table attribute_pool little (e.spot i) (e.records i) (e.bytes i) (attributes s levels (inv.fuel - 1) (earlier s names' first (top + 1)) (e.spot i).next (e.spot i).place))
              ∙ ap (written attributes_table attribute_pool little (spot e.at next pool) _ _) same ∙ w ∙ rw t at inv.is;
        }
      where
        by : {n : ℕ} (x : Reading Attributes) → Linked n x → (xs : Attributes) (at : ℕ) → x ≡ got xs at
            → attributes_link xs ≡ n
        by (refused y) l xs at f = let z : ◌≡◌ {A = ℕ} 0 1 = cc in absurd (omega arith)
        by (got ys y) l xs at f = let z : ys ≡ xs = cc in rw (← z) l

pub attributes_fits : {s : List ℕ} {q : Spot} {first top : ℕ} {names : List ℕ} → AttributeRoom s q first top names
    → top ≤ 2_048
attributes_fits h = let a = h.stacked.few in let b = h.stacked.room.records in omega arith
