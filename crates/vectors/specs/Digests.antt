-- A number by which bytes are compared with those expected. Assumes nothing.
use Rattle.std.specs.Prelude.{List, [], ◌∷◌, ℕ, ◌+◌, ◌*◌, ◌%◌}

unfoldable pub digest_from : ℕ → List ℕ → ℕ
digest_from sum [] = sum
digest_from sum (b ∷ bs) = digest_from ((sum * 257 + b + 1) % 4_294_967_291) bs

abbrev pub digest_of : List ℕ → ℕ
digest_of bs = digest_from 0 bs
