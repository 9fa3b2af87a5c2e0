-- `number` meets its contract. Assumes nothing.
use Prim.Native.Nat.{ℕ, ◌+◌, ◌*◌, ◌^◌, ◌≤◌, ◌<◌, ◌-◌}
use mathlib.Core.Path.{◌≡◌, refl, ap, ◌∙◌}
use mathlib.Core.List.{List, ◌∷◌, [], ◌++◌}
use native.Mathlib.Omega.{arith}
use native.Mathlib.Numerals.{add-one}
use native.Mathlib.Nat.{pow-le-pow_right, pow-succ'}
use lib.ListN.{length, take, get_or}
use lib.Seq.{take-suc}
use Rattle.wire.specs.Numbers.{decimal_value, value}
use Rattle.wire.proofs.Positional.{value-suc}
use Rattle.wire.proofs.digits.number.Goals as goal

-- below twelve bytes the sum is small
small : (sum i : ℕ) → i < 12 → sum + 23 ≤ 23 * 10 ^ i → sum < 2300000000000
small sum i h k = let p : 10 ^ i ≤ 10 ^ 11 = pow-le-pow_right {n = 10} (omega arith) {i = i} {j = 11} (omega arith) in omega arith

step : (s : List ℕ) (sum i d : ℕ) → i < length s → sum ≡ decimal_value (take i s) → d ≡ get_or s i 0 - 48 → 10 * sum + d ≡ decimal_value (take (i + 1) s)
step s sum i d h e f =
    let g = value-suc (take i s) (get_or s i 0) in
    let more : take (i + 1) s ≡ take i s ++ (get_or s i 0 ∷ []) = ap (λ (n : ℕ). take n s) (add-one i) ∙ take-suc s i 0 h in
    let v = ap decimal_value more in
    omega arith

bound : (sum i d : ℕ) → sum + 23 ≤ 23 * 10 ^ i → d ≤ 207 → 10 * sum + d + 23 ≤ 23 * 10 ^ (i + 1)
bound sum i d h k = let p : 10 ^ (i + 1) ≡ 10 * 10 ^ i = ap (λ (n : ℕ). 10 ^ n) (add-one i) ∙ pow-succ' 10 i in omega arith

pub loop-c-init : goal.loop-c-init
unfolding decimal_value value
loop-c-init c = (refl, omega arith)

pub overflow_mul-sum : goal.overflow_mul-sum
overflow_mul-sum c = let l = c.loop-c in omega (arith, small l.sum l.c-index (grind arith) l.invariant.1)

pub loop-c-preserved : goal.loop-c-preserved
loop-c-preserved c =
    let l = c.loop-c in
    (step c.unwrap_or-c-items.result.now _ l.c-index _ (omega arith) l.invariant.0 (omega arith), bound _ _ _ l.invariant.1 (omega (arith, c.type_inv.c-items l.c-index)))
