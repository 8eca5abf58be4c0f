-- The numbers of refusal: document 01, the table of that name. Assumes nothing.
use Rattle.std.specs.Prelude.{ℕ}
use Rattle.refusals.specs.declared.Cause.{Cause}
use Rattle.refusals.specs.declared.Cause.TheVariants.{TextTooLong, Unreadable, CannotFollow, EndsEarly, TooDeep, TooLong, Impossible, OutOfRange, BadWord, EmptyInterval, TooManyItems, TooManyRecords, Overlap, RepeatedName, PoolTooLarge, OutputTooShort, NotATable, BrokenRecord, NotAnObject, NoName}
use Rattle.refusals.specs.declared.Refusal.{Refusal}

unfoldable pub number_of : Cause → ℕ
number_of TextTooLong = 1
number_of Unreadable = 2
number_of CannotFollow = 2
number_of EndsEarly = 2
number_of TooDeep = 3
number_of TooLong = 4
number_of Impossible = 5
number_of OutOfRange = 5
number_of BadWord = 5
number_of EmptyInterval = 6
number_of TooManyItems = 7
number_of TooManyRecords = 8
number_of Overlap = 9
number_of RepeatedName = 9
number_of PoolTooLarge = 10
number_of OutputTooShort = 11
number_of NotATable = 12
number_of BrokenRecord = 13
number_of NotAnObject = 14
number_of NoName = 14

abbrev pub refusal : Cause → ℕ → Refusal
refusal cause place = record { cause = cause; place = place }
