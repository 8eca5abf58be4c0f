-- The number of each cause, the limits, and the token that is asked for or the fault of another. The expectations are the second implementation's.
-- This file is written by `example_tables write` of second/. Assumes nothing.
use mathlib.Core.Path.{◌≡◌, refl}
use mathlib.Core.List.{List, [], ◌∷◌}
use Rattle.lexis.specs.Text.{bytes}
use Rattle.lexis.specs.Spelling.{matches, open_brace, star}
use Rattle.lexis.specs.Tokens.{text_end, type_name, name, integer}
use Rattle.lexis.proofs.Tables.{wrong}
use Rattle.lexis.proofs.Computes.{lexis_computes}
use Rattle.refusals.specs.declared.Cause.TheVariants.{TextTooLong, Unreadable, CannotFollow, EndsEarly, TooDeep, TooLong, Impossible, OutOfRange, BadWord, EmptyInterval, TooManyItems, TooManyRecords, Overlap, RepeatedName, PoolTooLarge, OutputTooShort, NotATable, BrokenRecord, NotAnObject, NoName}
use Rattle.refusals.specs.Limits.{text_limit, level_limit, item_limit, record_limit, pool_limit, name_limit, code_limit, string_limit}
use Rattle.refusals.specs.Refusals.{number_of}
use Rattle.refusals.specs.Expecting.{expect}
use Rattle.refusals.proofs.Examples.{Case, numbered, limit_is, takes, faults, right, which}

pub cases : List Case
cases =
    -- document 01's number of each cause
    numbered TextTooLong 1
    ∷ numbered Unreadable 2
    ∷ numbered CannotFollow 2
    ∷ numbered EndsEarly 2
    ∷ numbered TooDeep 3
    ∷ numbered TooLong 4
    ∷ numbered Impossible 5
    ∷ numbered OutOfRange 5
    ∷ numbered BadWord 5
    ∷ numbered EmptyInterval 6
    ∷ numbered TooManyItems 7
    ∷ numbered TooManyRecords 8
    ∷ numbered Overlap 9
    ∷ numbered RepeatedName 9
    ∷ numbered PoolTooLarge 10
    ∷ numbered OutputTooShort 11
    ∷ numbered NotATable 12
    ∷ numbered BrokenRecord 13
    ∷ numbered NotAnObject 14
    ∷ numbered NoName 14
    -- the limits
    ∷ limit_is text_limit 16_384
    ∷ limit_is level_limit 16
    ∷ limit_is item_limit 16
    ∷ limit_is record_limit 2048
    ∷ limit_is pool_limit 16_384
    ∷ limit_is name_limit 63
    ∷ limit_is code_limit 31
    ∷ limit_is string_limit 255
    -- a token of the sort asked for, another, one that is unreadable, and the text's end
    ∷ takes (bytes "A matches {*}") type_name 0 0 1
    ∷ faults (bytes "A matches {*}") name 0 CannotFollow 0
    ∷ faults (bytes "A matches {*}") matches 0 CannotFollow 0
    ∷ faults (bytes "A matches {*}") open_brace 0 CannotFollow 0
    ∷ faults (bytes "A matches {*}") star 0 CannotFollow 0
    ∷ faults (bytes "A matches {*}") integer 0 CannotFollow 0
    ∷ faults (bytes "A matches {*}") text_end 0 CannotFollow 0
    ∷ faults (bytes "A matches {*}") type_name 1 CannotFollow 2
    ∷ faults (bytes "A matches {*}") name 1 CannotFollow 2
    ∷ takes (bytes "A matches {*}") matches 1 2 9
    ∷ faults (bytes "A matches {*}") open_brace 1 CannotFollow 2
    ∷ faults (bytes "A matches {*}") star 1 CannotFollow 2
    ∷ faults (bytes "A matches {*}") integer 1 CannotFollow 2
    ∷ faults (bytes "A matches {*}") text_end 1 CannotFollow 2
    ∷ faults (bytes "A matches {*}") type_name 2 CannotFollow 2
    ∷ faults (bytes "A matches {*}") name 2 CannotFollow 2
    ∷ takes (bytes "A matches {*}") matches 2 2 9
    ∷ faults (bytes "A matches {*}") open_brace 2 CannotFollow 2
    ∷ faults (bytes "A matches {*}") star 2 CannotFollow 2
    ∷ faults (bytes "A matches {*}") integer 2 CannotFollow 2
    ∷ faults (bytes "A matches {*}") text_end 2 CannotFollow 2
    ∷ faults (bytes "A matches {*}") type_name 13 EndsEarly 13
    ∷ faults (bytes "A matches {*}") name 13 EndsEarly 13
    ∷ faults (bytes "A matches {*}") matches 13 EndsEarly 13
    ∷ faults (bytes "A matches {*}") open_brace 13 EndsEarly 13
    ∷ faults (bytes "A matches {*}") star 13 EndsEarly 13
    ∷ faults (bytes "A matches {*}") integer 13 EndsEarly 13
    ∷ takes (bytes "A matches {*}") text_end 13 13 13
    ∷ takes (bytes " --x\nA") type_name 0 5 6
    ∷ faults (bytes " --x\nA") name 0 CannotFollow 5
    ∷ faults (bytes " --x\nA") matches 0 CannotFollow 5
    ∷ faults (bytes " --x\nA") open_brace 0 CannotFollow 5
    ∷ faults (bytes " --x\nA") star 0 CannotFollow 5
    ∷ faults (bytes " --x\nA") integer 0 CannotFollow 5
    ∷ faults (bytes " --x\nA") text_end 0 CannotFollow 5
    ∷ takes (bytes " --x\nA") type_name 1 5 6
    ∷ faults (bytes " --x\nA") name 1 CannotFollow 5
    ∷ faults (bytes " --x\nA") matches 1 CannotFollow 5
    ∷ faults (bytes " --x\nA") open_brace 1 CannotFollow 5
    ∷ faults (bytes " --x\nA") star 1 CannotFollow 5
    ∷ faults (bytes " --x\nA") integer 1 CannotFollow 5
    ∷ faults (bytes " --x\nA") text_end 1 CannotFollow 5
    ∷ faults (bytes " --x\nA") type_name 2 Unreadable 2
    ∷ faults (bytes " --x\nA") name 2 Unreadable 2
    ∷ faults (bytes " --x\nA") matches 2 Unreadable 2
    ∷ faults (bytes " --x\nA") open_brace 2 Unreadable 2
    ∷ faults (bytes " --x\nA") star 2 Unreadable 2
    ∷ faults (bytes " --x\nA") integer 2 Unreadable 2
    ∷ faults (bytes " --x\nA") text_end 2 Unreadable 2
    ∷ faults (bytes " --x\nA") type_name 6 EndsEarly 6
    ∷ faults (bytes " --x\nA") name 6 EndsEarly 6
    ∷ faults (bytes " --x\nA") matches 6 EndsEarly 6
    ∷ faults (bytes " --x\nA") open_brace 6 EndsEarly 6
    ∷ faults (bytes " --x\nA") star 6 EndsEarly 6
    ∷ faults (bytes " --x\nA") integer 6 EndsEarly 6
    ∷ takes (bytes " --x\nA") text_end 6 6 6
    ∷ faults (bytes "a[at1 5") type_name 0 CannotFollow 0
    ∷ takes (bytes "a[at1 5") name 0 0 1
    ∷ faults (bytes "a[at1 5") matches 0 CannotFollow 0
    ∷ faults (bytes "a[at1 5") open_brace 0 CannotFollow 0
    ∷ faults (bytes "a[at1 5") star 0 CannotFollow 0
    ∷ faults (bytes "a[at1 5") integer 0 CannotFollow 0
    ∷ faults (bytes "a[at1 5") text_end 0 CannotFollow 0
    ∷ faults (bytes "a[at1 5") type_name 1 Unreadable 1
    ∷ faults (bytes "a[at1 5") name 1 Unreadable 1
    ∷ faults (bytes "a[at1 5") matches 1 Unreadable 1
    ∷ faults (bytes "a[at1 5") open_brace 1 Unreadable 1
    ∷ faults (bytes "a[at1 5") star 1 Unreadable 1
    ∷ faults (bytes "a[at1 5") integer 1 Unreadable 1
    ∷ faults (bytes "a[at1 5") text_end 1 Unreadable 1
    ∷ faults (bytes "a[at1 5") type_name 2 CannotFollow 2
    ∷ takes (bytes "a[at1 5") name 2 2 5
    ∷ faults (bytes "a[at1 5") matches 2 CannotFollow 2
    ∷ faults (bytes "a[at1 5") open_brace 2 CannotFollow 2
    ∷ faults (bytes "a[at1 5") star 2 CannotFollow 2
    ∷ faults (bytes "a[at1 5") integer 2 CannotFollow 2
    ∷ faults (bytes "a[at1 5") text_end 2 CannotFollow 2
    ∷ faults (bytes "a[at1 5") type_name 7 EndsEarly 7
    ∷ faults (bytes "a[at1 5") name 7 EndsEarly 7
    ∷ faults (bytes "a[at1 5") matches 7 EndsEarly 7
    ∷ faults (bytes "a[at1 5") open_brace 7 EndsEarly 7
    ∷ faults (bytes "a[at1 5") star 7 EndsEarly 7
    ∷ faults (bytes "a[at1 5") integer 7 EndsEarly 7
    ∷ takes (bytes "a[at1 5") text_end 7 7 7
    ∷ faults (bytes "\"a 5") type_name 0 Unreadable 0
    ∷ faults (bytes "\"a 5") name 0 Unreadable 0
    ∷ faults (bytes "\"a 5") matches 0 Unreadable 0
    ∷ faults (bytes "\"a 5") open_brace 0 Unreadable 0
    ∷ faults (bytes "\"a 5") star 0 Unreadable 0
    ∷ faults (bytes "\"a 5") integer 0 Unreadable 0
    ∷ faults (bytes "\"a 5") text_end 0 Unreadable 0
    ∷ faults (bytes "\"a 5") type_name 1 CannotFollow 1
    ∷ takes (bytes "\"a 5") name 1 1 2
    ∷ faults (bytes "\"a 5") matches 1 CannotFollow 1
    ∷ faults (bytes "\"a 5") open_brace 1 CannotFollow 1
    ∷ faults (bytes "\"a 5") star 1 CannotFollow 1
    ∷ faults (bytes "\"a 5") integer 1 CannotFollow 1
    ∷ faults (bytes "\"a 5") text_end 1 CannotFollow 1
    ∷ faults (bytes "\"a 5") type_name 2 CannotFollow 3
    ∷ faults (bytes "\"a 5") name 2 CannotFollow 3
    ∷ faults (bytes "\"a 5") matches 2 CannotFollow 3
    ∷ faults (bytes "\"a 5") open_brace 2 CannotFollow 3
    ∷ faults (bytes "\"a 5") star 2 CannotFollow 3
    ∷ takes (bytes "\"a 5") integer 2 3 4
    ∷ faults (bytes "\"a 5") text_end 2 CannotFollow 3
    ∷ faults (bytes "\"a 5") type_name 4 EndsEarly 4
    ∷ faults (bytes "\"a 5") name 4 EndsEarly 4
    ∷ faults (bytes "\"a 5") matches 4 EndsEarly 4
    ∷ faults (bytes "\"a 5") open_brace 4 EndsEarly 4
    ∷ faults (bytes "\"a 5") star 4 EndsEarly 4
    ∷ faults (bytes "\"a 5") integer 4 EndsEarly 4
    ∷ takes (bytes "\"a 5") text_end 4 4 4
    ∷ faults [] type_name 0 EndsEarly 0
    ∷ faults [] name 0 EndsEarly 0
    ∷ faults [] matches 0 EndsEarly 0
    ∷ faults [] open_brace 0 EndsEarly 0
    ∷ faults [] star 0 EndsEarly 0
    ∷ faults [] integer 0 EndsEarly 0
    ∷ takes [] text_end 0 0 0
    ∷ faults [] type_name 0 EndsEarly 0
    ∷ faults [] name 0 EndsEarly 0
    ∷ faults [] matches 0 EndsEarly 0
    ∷ faults [] open_brace 0 EndsEarly 0
    ∷ faults [] star 0 EndsEarly 0
    ∷ faults [] integer 0 EndsEarly 0
    ∷ takes [] text_end 0 0 0
    ∷ faults (bytes "5 -- x") type_name 0 CannotFollow 0
    ∷ faults (bytes "5 -- x") name 0 CannotFollow 0
    ∷ faults (bytes "5 -- x") matches 0 CannotFollow 0
    ∷ faults (bytes "5 -- x") open_brace 0 CannotFollow 0
    ∷ faults (bytes "5 -- x") star 0 CannotFollow 0
    ∷ takes (bytes "5 -- x") integer 0 0 1
    ∷ faults (bytes "5 -- x") text_end 0 CannotFollow 0
    ∷ faults (bytes "5 -- x") type_name 1 EndsEarly 6
    ∷ faults (bytes "5 -- x") name 1 EndsEarly 6
    ∷ faults (bytes "5 -- x") matches 1 EndsEarly 6
    ∷ faults (bytes "5 -- x") open_brace 1 EndsEarly 6
    ∷ faults (bytes "5 -- x") star 1 EndsEarly 6
    ∷ faults (bytes "5 -- x") integer 1 EndsEarly 6
    ∷ takes (bytes "5 -- x") text_end 1 6 6
    ∷ faults (bytes "5 -- x") type_name 2 EndsEarly 6
    ∷ faults (bytes "5 -- x") name 2 EndsEarly 6
    ∷ faults (bytes "5 -- x") matches 2 EndsEarly 6
    ∷ faults (bytes "5 -- x") open_brace 2 EndsEarly 6
    ∷ faults (bytes "5 -- x") star 2 EndsEarly 6
    ∷ faults (bytes "5 -- x") integer 2 EndsEarly 6
    ∷ takes (bytes "5 -- x") text_end 2 6 6
    ∷ faults (bytes "5 -- x") type_name 6 EndsEarly 6
    ∷ faults (bytes "5 -- x") name 6 EndsEarly 6
    ∷ faults (bytes "5 -- x") matches 6 EndsEarly 6
    ∷ faults (bytes "5 -- x") open_brace 6 EndsEarly 6
    ∷ faults (bytes "5 -- x") star 6 EndsEarly 6
    ∷ faults (bytes "5 -- x") integer 6 EndsEarly 6
    ∷ takes (bytes "5 -- x") text_end 6 6 6
    ∷ []

pub none_wrong : wrong right 0 cases ≡ []
unfolding wrong right cases which number_of expect lexis_computes
none_wrong = refl
