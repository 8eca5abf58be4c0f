-- `cadl_items::strings::keep_string` meets its contract. Assumes nothing.
use Rattle.cadl_items.proofs.StringSteps.{keep_comma, keep_end}
use Rattle.cadl_items.proofs.strings.keep_string.Goals as goal

pub returns-then-u-eq-COMMA : goal.returns-then-u-eq-COMMA
returns-then-u-eq-COMMA c = search (keep_comma _ _ _ _ _ c.requires c.if-repeated.ensures)

pub returns : goal.returns
returns c = search (keep_end _ _ _ _ _ c.requires c.if-repeated.ensures)
