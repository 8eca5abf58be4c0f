-- What the checker opens to compute with the definitions of this crate: to unfold `lexis_computes` is to unfold them all. Assumes nothing.
use Rattle.lexis.specs.Bytes.{sort_of, word_byte, string_byte, run_byte, line_end}
use Rattle.lexis.specs.Runs.{past, same, starts_with, shaped, all, listed}
use Rattle.lexis.specs.Blanks.{skip}
use Rattle.lexis.specs.Spelling.{word_sort}
use Rattle.lexis.specs.Durations.{letter_slot, letter_behind, digit_slot, fill, fill_all, behind_time, behind_date, slots_of, pattern_slots}
use Rattle.lexis.specs.Tokens.{spelled, code_end, token_on, token_at, content_token_at}
use Rattle.lexis.specs.DataTokens.{data_token_on, data_token_at, type_token_at}

unfoldable pub lexis_computes : Unit {0}
unfolding sort_of word_byte string_byte run_byte line_end past same starts_with shaped all listed skip word_sort letter_slot letter_behind digit_slot fill fill_all behind_time behind_date slots_of pattern_slots spelled code_end token_on token_at content_token_at data_token_on data_token_at type_token_at
lexis_computes = tt
