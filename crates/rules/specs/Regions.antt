-- Regions: a payload and a buffer for each class, in class order from address 0. A column holds a number for each class.
use Rattle.std.specs.Prelude.{ℕ, zero, suc, ◌+◌, ◌-◌, ◌/◌, Bool, true, cond, ◌&&◌, List, [], ◌∷◌, get_or, ltb}
use Rattle.rules.specs.House.{classes}

-- payload sizes P, used sizes, and lowest classes entered
pub record Regions : Type 0 where
  pub sizes : List ℕ
  pub useds : List ℕ
  pub lowests : List ℕ

-- what a column says of class i
abbrev pub col : List ℕ → ℕ → ℕ
col xs i = get_or xs i 0

-- f i, f (i + 1), .. : n of them
unfoldable pub table : (ℕ → ℕ) → ℕ → ℕ → List ℕ
table f i zero = []
table f i (suc n) = f i ∷ table f (suc i) n

-- a column made from a function of the class
abbrev pub column : (ℕ → ℕ) → List ℕ
column f = table f 0 (suc classes)

-- the sum of f over the n classes from k on
unfoldable pub span : (ℕ → ℕ) → ℕ → ℕ → ℕ
span f k zero = 0
span f k (suc n) = f k + span f (suc k) n

-- every one of the n classes from k on passes a test
unfoldable pub every : (ℕ → Bool) → ℕ → ℕ → Bool
every f k zero = true
every f k (suc n) = f k && every f (suc k) n

-- the number of classes from k on
abbrev pub up_from : ℕ → ℕ
up_from k = suc classes - k

-- U(i): the size of buffer i
abbrev pub buffer_size : ℕ → List ℕ → ℕ → ℕ
buffer_size q sizes i = col sizes i / q

-- the size of region i
abbrev pub extent : ℕ → List ℕ → ℕ → ℕ
extent q sizes i = col sizes i + buffer_size q sizes i

-- the start of region i
abbrev pub start_of : ℕ → List ℕ → ℕ → ℕ
start_of q sizes i = span (extent q sizes) 1 (i - 1)

-- the start of buffer i
abbrev pub buffer_start : ℕ → List ℕ → ℕ → ℕ
buffer_start q sizes i = start_of q sizes i + col sizes i

-- F: the end of the last region
abbrev pub footprint : ℕ → List ℕ → ℕ
footprint q sizes = span (extent q sizes) 1 classes

-- the largest class up to i with P > 0, or 0
unfoldable pub top_from : List ℕ → ℕ → ℕ
top_from sizes zero = 0
top_from sizes (suc i) = let next = top_from sizes i in cond (ltb 0 (col sizes (suc i))) (suc i) next

-- the top class
abbrev pub top_class : List ℕ → ℕ
top_class sizes = top_from sizes classes

-- no regions yet
abbrev pub no_regions : Regions
no_regions = record { sizes = column (λ i. 0); useds = column (λ i. 0); lowests = column (λ i. 0) }
