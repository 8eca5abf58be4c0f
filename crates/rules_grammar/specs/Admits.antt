-- What an object admits, as rules. Document 01, 'Meaning': "An object admits a block whose type, if written, is its own and whose members satisfy each attribute. `*` in an object
-- admits any members (its type still counts), in an attribute any leaf or block. Members that no attribute names are admitted. Lists admit a value in some item; a date interval admits
-- full dates only. Patterns: lettered parts must be there, `??` may, `XX` may not, and no part without the one before it; the zone is free."
-- Document 02, 1: "A value is admitted when each slot it fills is in the pattern". Proved one with judge, boolean_of, integer_of, date_of, time_of, duration_of, fits_duration. Assumes nothing.
use Rattle.std.specs.Prelude.{◌≡◌, ◌≢◌, ℕ, zero, suc, ◌≤◌}
use Rattle.std.specs.Prelude.{Option, None, Some}
use mathlib.Core.List.{List, [], ◌∷◌, Memᴰ}
use Rattle.values.specs.declared.dates.Date.{Date}
use Rattle.values.specs.Patterns.{Part, must, may, must_not}
use Rattle.meaning.specs.Constraints.{Range, Text, Leaf, single, ranges, texts, booleans, date_pattern, time_pattern, duration_pattern, integers, dates, ObjectHead, Object, AttributeHead, Attributes, Value}
use Rattle.meaning.specs.Constraints
use Rattle.meaning.specs.Data.{Datum, datum, Members, Content}
use Rattle.meaning.specs.Data
use Rattle.values.specs.WordRules.{IsBoolean, IsInteger, IsDate, IsTime, IsDuration, SlotsWithin}

-- the type, if written, is the object's own
pub data TypeSuits (t : List ℕ) : Option (List ℕ) → Type 0 where
  unwritten : TypeSuits t None
  own : TypeSuits t (Some t)

-- an attribute of an object, by its head and its value
pub data AttributeOf (a : AttributeHead) (v : Value) : Attributes → Type 0 where
  first : {more : Attributes} → AttributeOf a v (Constraints.attribute a v more)
  further : {b : AttributeHead} {x : Value} {more : Attributes} → AttributeOf a v more
      → AttributeOf a v (Constraints.attribute b x more)

-- the member named w, the first of that name, has the content c
pub data MemberOf (w : List ℕ) (c : Content) : Members → Type 0 where
  here : {more : Members} → MemberOf w c (Data.member w c more)
  behind : {u : List ℕ} {x : Content} {more : Members} → w ≢ u → MemberOf w c more → MemberOf w c (Data.member u x more)

-- no member is named w
abbrev pub Missing : List ℕ → Members → Type 0
Missing w ms = (c : Content) → ¬ MemberOf w c ms

-- a value that has its first n parts, under what a pattern says of each part; none of its parts is without the one before it
pub data Fits : List Part → ℕ → Type 0 where
  end : Fits [] zero
  letters : {ps : List Part} {n : ℕ} → Fits ps n → Fits (must ∷ ps) (suc n)
  may_be : {ps : List Part} {n : ℕ} → Fits ps n → Fits (may ∷ ps) (suc n)
  may_not_be : {ps : List Part} → Fits ps zero → Fits (may ∷ ps) zero
  never : {ps : List Part} → Fits ps zero → Fits (must_not ∷ ps) zero

-- what a date pattern's flag says of year, month and day: yyyy-mm-dd, yyyy-mm-??, yyyy-??-??, yyyy-mm-XX, yyyy-??-XX
pub data DatePattern : (flag : ℕ) → List Part → Type 0 where
  whole_day : DatePattern 1 (must ∷ must ∷ must ∷ [])
  may_have_day : DatePattern 2 (must ∷ must ∷ may ∷ [])
  may_have_month : DatePattern 3 (must ∷ may ∷ may ∷ [])
  no_day : DatePattern 4 (must ∷ must ∷ must_not ∷ [])
  may_have_month_no_day : DatePattern 5 (must ∷ may ∷ must_not ∷ [])

-- what a time pattern's flag says of hour, minute and second: Thh:mm:ss, Thh:mm:XX, Thh:??:XX, Thh:??:??
pub data TimePattern : (flag : ℕ) → List Part → Type 0 where
  whole_time : TimePattern 1 (must ∷ must ∷ must ∷ [])
  no_second : TimePattern 2 (must ∷ must ∷ must_not ∷ [])
  may_have_minute_no_second : TimePattern 3 (must ∷ may ∷ must_not ∷ [])
  may_have_minute : TimePattern 4 (must ∷ may ∷ may ∷ [])

-- a number, a day or a text in some item of a list
pub data InItem (v : ℕ) (l : List Range) : Type 0 where
  in_item : (x : Range) → Memᴰ x l → x.low ≤ v → v ≤ x.high → InItem v l

pub data InTexts (w : List ℕ) (l : List Text) : Type 0 where
  is_item : (x : Text) → Memᴰ x l → w ≡ x.text → InTexts w l

-- True is 1, False 2, both 3
pub data Flagged (b : ℕ) : ℕ → Type 0 where
  one : Flagged b b
  both : Flagged b 3

-- a leaf's value is read as the constraint's kind asks: a string under strings, a word under every other kind
pub data Readable : Leaf → Content → Type 0 where
  boolean : {n f p b : ℕ} {w : List ℕ} → IsBoolean w b → Readable (single booleans n f) (Data.word p w)
  integer : {l : List Range} {p v : ℕ} {w : List ℕ} → IsInteger w v
      → Readable (ranges integers l) (Data.word p w)
  string : {l : List Text} {p : ℕ} {w : List ℕ} → Readable (texts l) (Data.string p w)
  pattern_date : {n f p : ℕ} {w : List ℕ} {d : Date} → IsDate w d
      → Readable (single date_pattern n f) (Data.word p w)
  interval_date : {l : List Range} {p : ℕ} {w : List ℕ} {d : Date} → IsDate w d
      → Readable (ranges dates l) (Data.word p w)
  time : {n f p parts : ℕ} {w : List ℕ} → IsTime w parts → Readable (single time_pattern n f) (Data.word p w)
  duration : {n f p filled : ℕ} {w : List ℕ} → IsDuration w filled
      → Readable (single duration_pattern n f) (Data.word p w)

-- what a leaf admits
pub data LeafAdmits : Leaf → Content → Type 0 where
  boolean : {n f p b : ℕ} {w : List ℕ} → IsBoolean w b → Flagged b f
      → LeafAdmits (single booleans n f) (Data.word p w)
  integer : {l : List Range} {p v : ℕ} {w : List ℕ} → IsInteger w v → InItem v l
      → LeafAdmits (ranges integers l) (Data.word p w)
  string : {l : List Text} {p : ℕ} {w : List ℕ} → InTexts w l → LeafAdmits (texts l) (Data.string p w)
  pattern_date : {n f p : ℕ} {w : List ℕ} {d : Date} {ps : List Part} → IsDate w d → DatePattern f ps
      → Fits ps d.parts
      → LeafAdmits (single date_pattern n f) (Data.word p w)
  full_date : {l : List Range} {p : ℕ} {w : List ℕ} {d : Date} → IsDate w d → d.parts ≡ 3 → InItem d.day l
      → LeafAdmits (ranges dates l) (Data.word p w)
  time : {n f p parts : ℕ} {w : List ℕ} {ps : List Part} → IsTime w parts → TimePattern f ps → Fits ps parts
      → LeafAdmits (single time_pattern n f) (Data.word p w)
  duration : {n f p filled : ℕ} {w : List ℕ} → IsDuration w filled → SlotsWithin f filled
      → LeafAdmits (single duration_pattern n f) (Data.word p w)

mutual
  -- an object admits a block whose type, if written, is its own and whose members satisfy each attribute; `*` is no attribute
  pub data Admits : Object → Datum → Type 0 where
    admits : {o : ObjectHead} {p : ℕ} {xs : Attributes} {u : Option (List ℕ)} {ms : Members}
        → TypeSuits o.type u
        → ((a : AttributeHead) (v : Value) → AttributeOf a v xs → Satisfy ms a v)
        → Admits (Constraints.object o xs) (datum p u ms)

  -- members satisfy an attribute: without a member of its name, unless it is 1..1, or with one, unless it is 0..0, whose content its value admits
  pub data Satisfy : Members → AttributeHead → Value → Type 0 where
    without : {ms : Members} {a : AttributeHead} {v : Value} → a.existence ≢ 2 → Missing a.name ms
        → Satisfy ms a v
    holding : {ms : Members} {a : AttributeHead} {v : Value} {c : Content} → a.existence ≢ 0
        → MemberOf a.name c ms → ValueAdmits v c → Satisfy ms a v

  -- `*` admits any leaf or block, an object a block, a leaf a leaf
  pub data ValueAdmits : Value → Content → Type 0 where
    anything : {c : Content} → ValueAdmits Constraints.any c
    block_of : {o : Object} {d : Datum} → Admits o d → ValueAdmits (Constraints.nested o) (Data.block d)
    leaf_of : {l : Leaf} {c : Content} → LeafAdmits l c → ValueAdmits (Constraints.leaf l) c
