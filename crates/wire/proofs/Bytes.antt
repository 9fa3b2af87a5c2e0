-- The library's bytes of a number are ours, over the width; and an array of the bytes from a place on. Assumes nothing.
use Prim.Native.Nat.{ℕ, zero, suc, ◌+◌, ◌*◌, ◌-◌, ◌/◌, ◌%◌, ◌^◌, ◌≤◌, ◌<◌}
use mathlib.Core.Path.{◌≡◌, refl, sym, ap, ap₂, ◌∙◌}
use mathlib.Core.List.{List, [], ◌∷◌, ◌++◌, reverse, reverse-append}
use native.Mathlib.Omega.{arith}
use native.Mathlib.Nat.{pow-zero, pow-suc, pow-succ', div-one, div-div-eq-div-mul, add-zero, one-mul}
use lib.ListN.{length, take, get_or}
use lib.Seq.{take-suc, take_all, length-take-le}
use Rattle.std.specs.Int.{byte_at, byte_worth, bytes_low_first, bytes_high_first, sum_through}
use Rattle.wire.specs.Slices.{bytes_at}
use Rattle.wire.specs.Numbers.{low, value, little_bytes, little, big_bytes, big}
use Rattle.wire.proofs.Positional.{value_join}

-- ---- what is written

byte-at : (i x : ℕ) → byte_at i x ≡ x / 256 ^ i % 256
byte-at zero x = ap (λ (k : ℕ). k % 256) (sym (ap (λ (k : ℕ). x / k) (pow-zero 256) ∙ div-one x))
byte-at (suc i) x = refl

low_first : (i k x : ℕ) → bytes_low_first i k x ≡ little_bytes k (x / 256 ^ i)
unfolding low
low_first i zero x = refl
low_first i (suc k) x =
    ap₂ ◌∷◌ (byte-at i x)
    (low_first (suc i) k x ∙ ap (low 256 k) (ap (λ (p : ℕ). x / p) (pow-suc 256 i) ∙ sym (div-div-eq-div-mul x (256 ^ i) 256)))

pub little_written : (k x : ℕ) → bytes_low_first 0 k x ≡ little_bytes k x
little_written k x = low_first 0 k x ∙ ap (little_bytes k) (ap (λ (p : ℕ). x / p) (pow-zero 256) ∙ div-one x)

-- one byte more, at the end
low_first-suc : (i k x : ℕ) → bytes_low_first i (suc k) x ≡ bytes_low_first i k x ++ (byte_at (i + k) x ∷ [])
low_first-suc i zero x = ap (λ (j : ℕ). byte_at j x ∷ []) (sym (add-zero i))
low_first-suc i (suc k) x =
    ap (λ (l : List ℕ). byte_at i x ∷ l)
    (low_first-suc (suc i) k x ∙ ap (λ (j : ℕ). bytes_low_first (suc i) k x ++ (byte_at j x ∷ [])) (let e : suc i + k ≡ i + suc k = omega arith in e))

high_first : (k x : ℕ) → bytes_high_first k x ≡ reverse (bytes_low_first 0 k x)
high_first zero x = refl
high_first (suc k) x =
    ap₂ ◌∷◌ (ap (λ (j : ℕ). byte_at j x) (let e : k ≡ 0 + k = omega arith in e)) (high_first k x)
    ∙ sym (ap reverse (low_first-suc 0 k x) ∙ reverse-append (bytes_low_first 0 k x) (byte_at (0 + k) x ∷ []))

pub big_written : (k x : ℕ) → bytes_high_first k x ≡ big_bytes k x
big_written k x = high_first k x ∙ ap reverse (little_written k x)

-- ---- what is read

worth : (i b : ℕ) → byte_worth i b ≡ 256 ^ i * b
worth zero b = let p = pow-zero 256 in simp p (omega arith)
worth (suc i) b = grind arith

-- the bytes as far as the k-th
little_sum : (k : ℕ) (s : List ℕ) → k < length s → sum_through (λ i. byte_worth i (get_or s i 0)) k ≡ value 256 (take (suc k) s)
unfolding value
little_sum zero [] h = absurd (omega arith)
little_sum zero (x ∷ s) h = sym (add-zero x)
little_sum (suc k) s h =
    let b = get_or s (suc k) 0 in
    let n = length-take-le (suc k) s (omega arith) in
    ap₂ ◌+◌ (little_sum k s (omega arith)) (worth (suc k) b ∙ ap₂ (λ (j v : ℕ). 256 ^ j * v) (sym n) (sym (add-zero b)))
    ∙ sym (ap (value 256) (take-suc s (suc k) 0 h) ∙ value_join 256 (take (suc k) s) (b ∷ []))

pub little_read : (k : ℕ) (s : List ℕ) → length s ≡ suc k → sum_through (λ i. byte_worth i (get_or s i 0)) k ≡ little s
little_read k s h = little_sum k s (omega arith) ∙ ap little (take_all (suc k) s (omega arith))

turned : (p q v b w : ℕ) → p ≡ 256 * q → w ≡ b + 256 * v → p * v + q * b ≡ q * w
turned p q v b w e f = rw (e, f) (grind arith)

-- the bytes as far as the j-th of the k + 1
big_sum : (j k : ℕ) (s : List ℕ) → j ≤ k → k < length s
    → sum_through (λ i. byte_worth (k - i) (get_or s i 0)) j ≡ 256 ^ (k - j) * big (take (suc j) s)
unfolding value
big_sum zero k [] l h = absurd (omega arith)
big_sum zero k (x ∷ s) l h = worth (k - 0) x ∙ ap (λ (v : ℕ). 256 ^ (k - 0) * v) (sym (add-zero x))
big_sum (suc j) k s l h =
    let b = get_or s (suc j) 0 in
    let v = big (take (suc j) s) in
    let front = big_sum j k s (omega arith) h in
    let last = worth (k - suc j) b in
    let all : big (take (suc (suc j)) s) ≡ b + 256 * v = ap big (take-suc s (suc j) 0 (omega arith)) ∙ ap (value 256) (reverse-append (take (suc j) s) (b ∷ [])) in
    ap₂ ◌+◌ front last ∙ turned (256 ^ (k - j)) (256 ^ (k - suc j)) v b _ (ap (λ (i : ℕ). 256 ^ i) (let e : k - j ≡ suc (k - suc j) = omega arith in e) ∙ pow-succ' 256 (k - suc j)) all

pub big_read : (k : ℕ) (s : List ℕ) → length s ≡ suc k → sum_through (λ i. byte_worth (k - i) (get_or s i 0)) k ≡ big s
big_read k s h =
    let none : k - k ≡ 0 = omega arith in
    big_sum k k s (omega arith) (omega arith)
    ∙ ap₂ (λ (p v : ℕ). p * v) (ap (λ (i : ℕ). 256 ^ i) none ∙ pow-zero 256) (ap big (take_all (suc k) s (omega arith)))
    ∙ one-mul (big s)

-- ---- an array of the bytes from a place on

pub bytes_made : (n at : ℕ) (b s : List ℕ) → length b ≡ n → ((i : ℕ) → i < n → get_or b i 0 ≡ get_or s (at + i) 0) → b ≡ bytes_at n at s
unfolding bytes_at
bytes_made zero at [] s l h = refl
bytes_made zero at (x ∷ b) s l h = absurd (omega arith)
bytes_made (suc n) at [] s l h = absurd (omega arith)
bytes_made (suc n) at (x ∷ b) s l h =
    ap₂ ◌∷◌ (h 0 (omega arith) ∙ ap (λ (k : ℕ). get_or s k 0) (add-zero at))
    (bytes_made n (at + 1) b s (omega arith) (λ i k. h (suc i) (omega arith) ∙ ap (λ (m : ℕ). get_or s m 0) (let e : at + suc i ≡ at + 1 + i = omega arith in e)))
