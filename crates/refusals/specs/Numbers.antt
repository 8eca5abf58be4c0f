-- The numbers of refusal as one table: document 01, 'Numbers of refusal'. A row for each cause, with its number and what its place is. Number 10 has no row for a text, where it is never told;
-- 20 to 24 are failures and no refusals, and stand in crates/demands/specs/Told.antt. Proved one with number_of. Assumes nothing.
use Rattle.std.specs.Prelude.{ℕ}
use Rattle.refusals.specs.declared.Cause.{Cause}
use Rattle.refusals.specs.declared.Cause.TheVariants.{TextTooLong, Unreadable, CannotFollow, EndsEarly, TooDeep, TooLong, Impossible, OutOfRange, BadWord, EmptyInterval, TooManyItems, TooManyRecords, Overlap, RepeatedName, PoolTooLarge, OutputTooShort, NotATable, BrokenRecord, NotAnObject, NoName}

-- what a place is
pub data PlaceSort : Type 0 where
  -- 16,384, in a text that is longer
  limit : PlaceSort
  -- a token of the text, whose end is one too
  token : PlaceSort
  -- the text's end
  text_end : PlaceSort
  -- 0, for a table as a whole
  whole_table : PlaceSort
  -- the number of a record behind the header
  table_record : PlaceSort
  -- the number asked
  asked : PlaceSort
  -- 0, for the table that merging would write
  merged : PlaceSort
  -- the length that the output needs
  needed : PlaceSort

-- a cause, its number and what its place is
pub data NumberRow : Cause → (number : ℕ) → PlaceSort → Type 0 where
  text_too_long : NumberRow TextTooLong 1 limit
  unreadable : NumberRow Unreadable 2 token
  cannot_follow : NumberRow CannotFollow 2 token
  ends_early : NumberRow EndsEarly 2 token
  too_deep : NumberRow TooDeep 3 token
  too_long : NumberRow TooLong 4 token
  impossible : NumberRow Impossible 5 token
  out_of_range : NumberRow OutOfRange 5 token
  bad_word : NumberRow BadWord 5 token
  empty_interval : NumberRow EmptyInterval 6 token
  too_many_items : NumberRow TooManyItems 7 token
  too_many_records : NumberRow TooManyRecords 8 token
  too_many_merged : NumberRow TooManyRecords 8 merged
  overlap : NumberRow Overlap 9 token
  repeated_name : NumberRow RepeatedName 9 token
  pool_too_large : NumberRow PoolTooLarge 10 merged
  table_too_long : NumberRow OutputTooShort 11 text_end
  merged_too_long : NumberRow OutputTooShort 11 needed
  not_aTable : NumberRow NotATable 12 whole_table
  broken_record : NumberRow BrokenRecord 13 table_record
  not_an_object : NumberRow NotAnObject 14 asked
  no_name : NumberRow NoName 14 asked

-- why a data text is refused: "the whole data text (1 to 5, 9)"
pub data OfDataText : Cause → Type 0 where
  text_too_long : OfDataText TextTooLong
  unreadable : OfDataText Unreadable
  cannot_follow : OfDataText CannotFollow
  ends_early : OfDataText EndsEarly
  too_deep : OfDataText TooDeep
  too_long : OfDataText TooLong
  bad_word : OfDataText BadWord
  repeated_name : OfDataText RepeatedName
