-- The claims of specs/Claims.antt on numbers and their digits. Assumes nothing.
use Prim.Native.Nat.{ℕ, zero, suc, ◌+◌, ◌*◌, ◌-◌, ◌/◌, ◌%◌, ◌^◌, ◌≤◌, ◌<◌}
use mathlib.Core.Path.{◌≡◌, refl, sym, ap, ◌∙◌}
use mathlib.Core.List.{List, [], ◌∷◌, ◌++◌, map, map-map, reverse, reverse-cons, reverse-append, reverse-reverse}
use native.Mathlib.Omega.{arith}
use native.Mathlib.Nat.{pow-zero, pow-suc, one-le-pow, mod-one, mod-lt, mod-eq_of_lt, mul_comm, add_comm, add-mul-div_left, add-mul-mod_self_left, div-eq_of_lt, zero-add, one-mul, mul-add, mul_assoc, add_assoc, pow-succ'}
use lib.Arith.{mod-mul}
use lib.ListN.{length, drop, length-reverse, length-map, drop_of_length-le}
use lib.Seq.{drop-append-le}
use Rattle.wire.specs.Slices.{Every, Below}
use Rattle.wire.specs.Numbers.{low, value, little_bytes, little, big, decimal, decimal_value}
use Rattle.wire.specs.Claims.{WrittenIsRead, ReadIsWritten, ByteOrder, Digits}
use Rattle.wire.proofs.Lists.{every-reverse}

pub length-low : (base n x : ℕ) → length (low base n x) ≡ n
unfolding low
length-low base zero x = refl
length-low base (suc n) x = ap suc (length-low base n (x / base))

pub below_low : (base n x : ℕ) → 0 < base → Below base (low base n x)
unfolding low Every
below_low base zero x h = tt
below_low base (suc n) x h = (mod-lt x h, below_low base n (x / base) h)

pub written_is_read : WrittenIsRead
unfolding low value
written_is_read base zero x h = sym (ap (λ (m : ℕ). x % m) (pow-zero base) ∙ mod-one x)
written_is_read base (suc n) x h =
    ap (λ (v : ℕ). x % base + base * v) (written_is_read base n (x / base) h)
    ∙ add_comm _ _
    ∙ ap (λ (v : ℕ). v + x % base) (mul_comm base _)
    ∙ sym (mod-mul x (one-le-pow n base h) h)
    ∙ ap (λ (m : ℕ). x % m) (sym (pow-suc base n))

pub read_is_written : ReadIsWritten
unfolding low value Every
read_is_written base [] h = refl
read_is_written base (d ∷ ds) h =
    let rest = value base ds in
    let pos : 0 < base = omega (arith, h.0) in
    let m : (d + base * rest) % base ≡ d = add-mul-mod_self_left d base rest ∙ mod-eq_of_lt h.0 in
    let q : (d + base * rest) / base ≡ rest = add-mul-div_left d rest pos ∙ ap (λ (k : ℕ). k + rest) (div-eq_of_lt h.0) ∙ zero-add rest in
    rw (m, q) (ap (λ (l : List ℕ). d ∷ l) (read_is_written base ds h.1))

pub byte_order : ByteOrder
byte_order = record {
  little_back = λ n x. written_is_read 256 n x (omega arith);
  little_again = λ s h. read_is_written 256 s h;
  big_back = λ n x. ap little (reverse-reverse (little_bytes n x)) ∙ written_is_read 256 n x (omega arith);
  big_again = λ s h.
      ap (λ (k : ℕ). reverse (little_bytes k (big s))) (sym (length-reverse s))
      ∙ ap reverse (read_is_written 256 (reverse s) (every-reverse _ s h))
      ∙ reverse-reverse s;
}

-- what two runs of digits stand for, one behind the other
pub value_join : (base : ℕ) (s t : List ℕ) → value base (s ++ t) ≡ value base s + base ^ length s * value base t
unfolding value
value_join base [] t = sym (zero-add _ ∙ ap (λ (k : ℕ). k * value base t) (pow-zero base) ∙ one-mul (value base t))
value_join base (d ∷ s) t =
    ap (λ (v : ℕ). d + base * v) (value_join base s t)
    ∙ ap (λ (v : ℕ). d + v) (mul-add base (value base s) (base ^ length s * value base t))
    ∙ sym (add_assoc d (base * value base s) (base * (base ^ length s * value base t)))
    ∙ ap (λ (v : ℕ). d + base * value base s + v) (sym (mul_assoc base (base ^ length s) (value base t)) ∙ ap (λ (k : ℕ). k * value base t) (sym (pow-succ' base (length s))))

-- ---- decimal digits

-- one digit more, at the end
pub decimal-suc : (n x : ℕ) → decimal (suc n) x ≡ decimal n (x / 10) ++ ((48 + x % 10) ∷ [])
unfolding decimal low
decimal-suc n x = reverse-cons (48 + x % 10) (map (λ d. 48 + d) (low 10 n (x / 10)))

digits_count : (n x : ℕ) → length (decimal n x) ≡ n
unfolding decimal
digits_count n x = length-reverse (map (λ d. 48 + d) (low 10 n x)) ∙ length-map (low 10 n x) (λ d. 48 + d) ∙ length-low 10 n x

in_ascii : (n x : ℕ) → Every (λ c. (48 ≤ c) × (c ≤ 57)) (map (λ d. 48 + d) (low 10 n x))
unfolding low Every
in_ascii zero x = tt
in_ascii (suc n) x = ((omega arith, omega arith), in_ascii n (x / 10))

digits_stand : (n x : ℕ) → x < 10 ^ n → decimal_value (decimal n x) ≡ x
unfolding decimal decimal_value
digits_stand n x h =
    ap (λ (l : List ℕ). value 10 (map (λ c. c - 48) l)) (reverse-reverse (map (λ d. 48 + d) (low 10 n x)))
    ∙ ap (value 10) (map-map (λ c. c - 48) (λ d. 48 + d) (low 10 n x) ∙ unshifted (low 10 n x))
    ∙ written_is_read 10 n x (omega arith)
    ∙ mod-eq_of_lt h
  where
    unshifted : (l : List ℕ) → map (λ d. 48 + d - 48) l ≡ l
    unshifted [] = refl
    unshifted (d ∷ l) = let e : 48 + d - 48 ≡ d = omega arith in rw e (ap (λ (r : List ℕ). d ∷ r) (unshifted l))

digits_range : (n x : ℕ) → Every (λ c. (48 ≤ c) × (c ≤ 57)) (decimal n x)
unfolding decimal
digits_range n x = every-reverse _ (map (λ d. 48 + d) (low 10 n x)) (in_ascii n x)

pub digits : Digits
digits = record {
  count = digits_count;
  range = digits_range;
  stands = digits_stand;
  apart = λ n x y h k e. sym (digits_stand n x h) ∙ ap decimal_value e ∙ digits_stand n y k;
}

-- the last w of more digits
pub last_digits : (k w x : ℕ) → drop k (decimal (k + w) x) ≡ decimal w x
unfolding decimal low
last_digits k zero x = let l = digits.count (k + 0) x in drop_of_length-le (decimal (k + 0) x) {i = k} (omega arith)
last_digits k (suc w) x =
    let e : k + suc w ≡ suc (k + w) = omega arith in
    let l = digits.count (k + w) (x / 10) in
    ap (λ (m : ℕ). drop k (decimal m x)) e
    ∙ ap (drop k) (decimal-suc (k + w) x)
    ∙ drop-append-le k (decimal (k + w) (x / 10)) ((48 + x % 10) ∷ []) (omega arith)
    ∙ ap (λ (l : List ℕ). l ++ ((48 + x % 10) ∷ [])) (last_digits k w (x / 10))
    ∙ sym (decimal-suc w x)

-- what digits stand for, one more at the end
pub value-suc : (s : List ℕ) (c : ℕ) → decimal_value (s ++ (c ∷ [])) ≡ c - 48 + 10 * decimal_value s
unfolding decimal_value value
value-suc s c = ap (λ (l : List ℕ). value 10 (map (λ c. c - 48) l)) (reverse-append s (c ∷ []))
