-- The limits of document 01: 'Constraint text', 'Data text', 'Meaning', 'Table', 'Numbers of refusal'. Assumes nothing.
use Rattle.std.specs.Prelude.{ℕ}

-- bytes of a text
abbrev pub text_limit : ℕ
text_limit = 16_384

-- levels of objects or of blocks
abbrev pub level_limit : ℕ
level_limit = 16

-- items of a list
abbrev pub item_limit : ℕ
item_limit = 16

-- records of a table, its header among them: no record has this number
abbrev pub record_limit : ℕ
record_limit = 2_048

-- bytes of a table's pool
abbrev pub pool_limit : ℕ
pool_limit = 16_384

-- bytes of a type or a name
abbrev pub name_limit : ℕ
name_limit = 63

-- bytes of a code, without its brackets
abbrev pub code_limit : ℕ
code_limit = 31

-- bytes of a string, without its quotes
abbrev pub string_limit : ℕ
string_limit = 255
