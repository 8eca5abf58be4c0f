-- Items by twos in a list of numbers, item i at 2i and 2i + 1: a pair, or a span of the text by its two places. Assumes nothing.
use Rattle.std.specs.Prelude.{List, [], ◌∷◌, ℕ, zero, suc, ◌+◌, ◌*◌, ◌-◌, ◌≤◌, ◌<◌, length, get_or, set}
use Rattle.lexis.specs.Runs.{part}

-- the two numbers of item i
abbrev pub first_of : List ℕ → ℕ → ℕ
first_of numbers i = get_or numbers (2 * i) 0

abbrev pub second_of : List ℕ → ℕ → ℕ
second_of numbers i = get_or numbers (2 * i + 1) 0

-- the numbers with item i
abbrev pub with_item : List ℕ → ℕ → ℕ → ℕ → List ℕ
with_item numbers i a b = set (set numbers (2 * i) a) (2 * i + 1) b

-- the bytes of span i
abbrev pub span_at : List ℕ → List ℕ → ℕ → List ℕ
span_at s spans i = part s (first_of spans i) (second_of spans i)

-- of so many items from the first on, the latest first
unfoldable pub latest : {A : Type 0} → (ℕ → A) → ℕ → ℕ → List A
latest f first zero = []
latest f first (suc n) = f (first + n) ∷ latest f first n

-- the bytes of the spans from `first` on, up to `end`, the latest first
abbrev pub earlier : List ℕ → List ℕ → ℕ → ℕ → List (List ℕ)
earlier s spans first end = latest (span_at s spans) first (end - first)

-- two places of the text, one not before the other
pub record Within (s : List ℕ) (start stop : ℕ) : Type 0 where
  pub order : start ≤ stop
  pub inside : stop ≤ length s

-- span i lies in the text
pub record SpanLies (s spans : List ℕ) (i : ℕ) : Type 0 where
  pub room : 2 * i + 1 < length spans
  pub within : Within s (first_of spans i) (second_of spans i)

-- the spans from `first` on, up to `end`, lie in the text
pub record SpansIn (s spans : List ℕ) (first end : ℕ) : Type 0 where
  pub room : 2 * end ≤ length spans
  pub within : (i : ℕ) → first ≤ i → i < end → Within s (first_of spans i) (second_of spans i)
