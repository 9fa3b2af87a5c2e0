-- What is claimed of numbers and their digits, each once over the base and the width. Proved in proofs/Positional.antt.
use Rattle.std.specs.Prelude.{ℕ, ◌≤◌, ◌<◌, ◌%◌, ◌^◌, ◌≡◌, List, length}
use Rattle.wire.specs.Slices.{Every, Below}
use Rattle.wire.specs.Numbers.{low, value, little_bytes, little, big_bytes, big, decimal, decimal_value}

-- What is written is read back, as far as the width goes; what is read is written back.
abbrev pub WrittenIsRead : Type 0
WrittenIsRead = (base n x : ℕ) → 0 < base → value base (low base n x) ≡ x % base ^ n

abbrev pub ReadIsWritten : Type 0
ReadIsWritten = (base : ℕ) (s : List ℕ) → Below base s → low base (length s) (value base s) ≡ s

-- The same of both byte orders.
pub record ByteOrder : Type 0 where
  pub little_back : (n x : ℕ) → little (little_bytes n x) ≡ x % 256 ^ n
  pub little_again : (s : List ℕ) → Below 256 s → little_bytes (length s) (little s) ≡ s
  pub big_back : (n x : ℕ) → big (big_bytes n x) ≡ x % 256 ^ n
  pub big_again : (s : List ℕ) → Below 256 s → big_bytes (length s) (big s) ≡ s

-- Decimal digits: how many, which, what they stand for; and numbers within the width are told apart by them.
pub record Digits : Type 0 where
  pub count : (n x : ℕ) → length (decimal n x) ≡ n
  pub range : (n x : ℕ) → Every (λ c. (48 ≤ c) × (c ≤ 57)) (decimal n x)
  pub stands : (n x : ℕ) → x < 10 ^ n → decimal_value (decimal n x) ≡ x
  pub apart : (n x y : ℕ) → x < 10 ^ n → y < 10 ^ n → decimal n x ≡ decimal n y → x ≡ y
