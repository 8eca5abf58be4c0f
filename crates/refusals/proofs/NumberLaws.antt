-- Each cause has a row of the table of numbers, with the number that `number_of` gives it. Assumes nothing.
use Prim.Native.Nat.{◌≤◌, ◌<◌}
use native.Mathlib.Omega.{arith}
use Rattle.refusals.specs.declared.Cause.{Cause}
use Rattle.refusals.specs.declared.Cause.TheVariants.{TextTooLong, Unreadable, CannotFollow, EndsEarly, TooDeep, TooLong, Impossible, OutOfRange, BadWord, EmptyInterval, TooManyItems, TooManyRecords, Overlap, RepeatedName, PoolTooLarge, OutputTooShort, NotATable, BrokenRecord, NotAnObject, NoName}
use Rattle.refusals.specs.Refusals.{number_of}
use Rattle.refusals.specs.Numbers.{PlaceSort, NumberRow}
use Rattle.refusals.specs.Numbers

pub row_of : (c : Cause) → (p : PlaceSort) × NumberRow c (number_of c) p
unfolding number_of
row_of TextTooLong = (_, Numbers.text_too_long)
row_of Unreadable = (_, Numbers.unreadable)
row_of CannotFollow = (_, Numbers.cannot_follow)
row_of EndsEarly = (_, Numbers.ends_early)
row_of TooDeep = (_, Numbers.too_deep)
row_of TooLong = (_, Numbers.too_long)
row_of Impossible = (_, Numbers.impossible)
row_of OutOfRange = (_, Numbers.out_of_range)
row_of BadWord = (_, Numbers.bad_word)
row_of EmptyInterval = (_, Numbers.empty_interval)
row_of TooManyItems = (_, Numbers.too_many_items)
row_of TooManyRecords = (_, Numbers.too_many_records)
row_of Overlap = (_, Numbers.overlap)
row_of RepeatedName = (_, Numbers.repeated_name)
row_of PoolTooLarge = (_, Numbers.pool_too_large)
row_of OutputTooShort = (_, Numbers.table_too_long)
row_of NotATable = (_, Numbers.not_aTable)
row_of BrokenRecord = (_, Numbers.broken_record)
row_of NotAnObject = (_, Numbers.not_an_object)
row_of NoName = (_, Numbers.no_name)

-- the rows of a text's faults: from 2 to 9, each at a token
pub text_row : (c : Cause) → 2 ≤ number_of c → number_of c < 10 → NumberRow c (number_of c) Numbers.token
unfolding number_of
text_row TextTooLong l m = absurd (omega arith)
text_row Unreadable l m = Numbers.unreadable
text_row CannotFollow l m = Numbers.cannot_follow
text_row EndsEarly l m = Numbers.ends_early
text_row TooDeep l m = Numbers.too_deep
text_row TooLong l m = Numbers.too_long
text_row Impossible l m = Numbers.impossible
text_row OutOfRange l m = Numbers.out_of_range
text_row BadWord l m = Numbers.bad_word
text_row EmptyInterval l m = Numbers.empty_interval
text_row TooManyItems l m = Numbers.too_many_items
text_row TooManyRecords l m = Numbers.too_many_records
text_row Overlap l m = Numbers.overlap
text_row RepeatedName l m = Numbers.repeated_name
text_row PoolTooLarge l m = absurd (omega arith)
text_row OutputTooShort l m = absurd (omega arith)
text_row NotATable l m = absurd (omega arith)
text_row BrokenRecord l m = absurd (omega arith)
text_row NotAnObject l m = absurd (omega arith)
text_row NoName l m = absurd (omega arith)
