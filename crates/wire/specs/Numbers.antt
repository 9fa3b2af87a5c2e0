-- Numbers as digits in a base: bytes in both orders (base 256), decimal digits in ASCII (base 10).
use Rattle.std.specs.Prelude.{ℕ, zero, suc, ◌+◌, ◌*◌, ◌-◌, ◌/◌, ◌%◌, List, [], ◌∷◌, map, reverse}

-- The n lowest digits of x in a base, the least first.
unfoldable pub low : ℕ → ℕ → ℕ → List ℕ
low base zero x = []
low base (suc n) x = x % base ∷ low base n (x / base)

-- The number that digits in a base stand for, the least first.
unfoldable pub value : ℕ → List ℕ → ℕ
value base [] = 0
value base (d ∷ ds) = d + base * value base ds

-- Little endian (USB 2.0, 8.1; BOT 5) and big endian (SPC-3, 3.6).
abbrev pub little_bytes : ℕ → ℕ → List ℕ
little_bytes n x = low 256 n x

abbrev pub little : List ℕ → ℕ
little s = value 256 s

abbrev pub big_bytes : ℕ → ℕ → List ℕ
big_bytes n x = reverse (little_bytes n x)

abbrev pub big : List ℕ → ℕ
big s = little (reverse s)

-- The n lowest decimal digits of x in ASCII, the greatest first; and the number that such digits stand for.
unfoldable pub decimal : ℕ → ℕ → List ℕ
decimal n x = reverse (map (λ d. 48 + d) (low 10 n x))

unfoldable pub decimal_value : List ℕ → ℕ
decimal_value s = value 10 (map (λ c. c - 48) (reverse s))
