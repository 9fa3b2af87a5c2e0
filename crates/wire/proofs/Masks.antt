-- A mask or a shift that tests or takes bits. Assumes nothing.
use Prim.Native.Nat.{ℕ, zero, suc, ◌+◌, ◌*◌, ◌-◌, ◌/◌, ◌%◌, ◌^◌, ◌≤◌, ◌<◌}
use mathlib.Core.Path.{◌≡◌, sym, ap, subst, ◌∙◌}
use native.Mathlib.Omega.{arith}
use native.Mathlib.Nat.{zero-mul, mul-pos, sub-add_cancel, sub-zero, div-one, mod-eq_of_lt, div-lt_iff_lt-mul}
use lib.Dec.{eqb}
use lib.Pow.{pow_pos, pow-add}
use lib.Bits.{bit_and, and_high, and_mask}
use borrow.Author.Tests.{ne_eqb}
use Rattle.wire.specs.Bits.{bits, clear}

scaled : (y p : ℕ) → 0 < p → eqb (y * p) 0 ≡ eqb y 0
scaled zero p h = simp (zero-mul p)
scaled (suc y) p h =
    let pos : 0 < suc y * p = mul-pos (omega arith) h in
    ne_eqb (suc y * p) 0 (λ e. omega arith) ∙ sym (ne_eqb (suc y) 0 (λ e. omega arith))

-- bits lo to hi are clear where the mask of those bits leaves 0
pub mask : (lo hi x : ℕ) → lo ≤ hi + 1 → clear lo hi x ≡ eqb (bit_and x (2 ^ (hi + 1) - 2 ^ lo)) 0
unfolding clear bits
mask lo hi x h =
    sym (scaled (x / 2 ^ lo % 2 ^ (hi + 1 - lo)) (2 ^ lo) (pow_pos lo))
    ∙ ap (λ (n : ℕ). eqb n 0) (sym (and_high x (hi + 1 - lo) lo))
    ∙ ap (λ (n : ℕ). eqb (bit_and x (2 ^ n - 2 ^ lo)) 0) (sub-add_cancel h)

-- bits 0 to hi are what the mask of those bits leaves
pub low_bits : (hi x : ℕ) → bits 0 hi x ≡ bit_and x (2 ^ (hi + 1) - 1)
unfolding bits
low_bits hi x =
    ap (λ (k : ℕ). x / 1 % 2 ^ k) (sub-zero (hi + 1))
    ∙ ap (λ (y : ℕ). y % 2 ^ (hi + 1)) (div-one x)
    ∙ sym (and_mask x (hi + 1))

-- bits lo to the top one are what a shift by lo leaves
pub top_bits : (lo hi x : ℕ) → lo ≤ hi + 1 → x < 2 ^ (hi + 1) → bits lo hi x ≡ x / 2 ^ lo
unfolding bits
top_bits lo hi x h l =
    let e : 2 ^ (hi + 1) ≡ 2 ^ (hi + 1 - lo) * 2 ^ lo = ap (λ (k : ℕ). 2 ^ k) (sym (sub-add_cancel h)) ∙ pow-add 2 (hi + 1 - lo) lo in
    mod-eq_of_lt ((div-lt_iff_lt-mul (pow_pos lo)).1 (subst (λ (n : ℕ). x < n) e l))
