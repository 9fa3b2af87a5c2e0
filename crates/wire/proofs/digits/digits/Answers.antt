-- `digits` meets its contract. Assumes nothing.
use Prim.Native.Nat.{ℕ, suc, ◌+◌, ◌*◌, ◌≤◌, ◌<◌, ◌-◌, ◌/◌, ◌%◌}
use mathlib.Core.Path.{◌≡◌, refl, sym, ap, ◌∙◌}
use mathlib.Core.List.{List, ◌∷◌, ◌++◌}
use native.Mathlib.Omega.{arith}
use lib.ListN.{length, set, drop, length-set}
use lib.Seq.{drop_at, set_split, length-take-le, append_snoc}
use Rattle.wire.specs.Numbers.{decimal, low}
use Rattle.wire.proofs.Positional.{decimal-suc}
use Rattle.wire.proofs.digits.digits.Goals as goal

-- the last digit that is left is written in front of those that stand
step : (i x : ℕ) (out : List ℕ) → suc i ≤ length out
    → decimal (suc i) x ++ drop (suc i) out ≡ decimal i (x / 10) ++ drop i (set out i (48 + x % 10))
step i x out k =
    let v = 48 + x % 10 in
    rw (decimal-suc i x, set_split out i v (omega arith), drop_at _ (v ∷ drop (suc i) out) i (length-take-le i out (omega arith)))
    (append_snoc (decimal i (x / 10)) v (drop (suc i) out))

-- a pair is two such steps
steps : (i j m x rest ones tens : ℕ) (out : List ℕ) → 0 < i → j ≡ 2 * (i - 1) → m ≡ 2 * (i - 1) + 1 → 2 * i ≤ length out → rest ≡ x / 100 → ones ≡ 48 + x % 10 → tens ≡ 48 + x / 10 % 10
    → decimal (2 * i) x ++ drop (2 * i) out ≡ decimal j rest ++ drop j (set (set out m ones) j tens)
steps i j m x rest ones tens out h a b k r o t =
    let again : rest ≡ x / 10 / 10 = omega arith in
    let first : 2 * i ≡ suc (suc j) = omega arith in
    let second : m ≡ suc j = omega arith in
    rw (again, o, t, first, second) (step (suc j) x out (omega arith) ∙ step j (x / 10) _ (simp length-set (omega arith)))

pub loop-i-preserved : goal.loop-i-preserved
loop-i-preserved c =
    (simp length-set (omega arith), c.loop-i.invariant.1 ∙ steps _ _ _ _ _ _ _ _ (omega arith) refl refl (omega arith) (omega arith) (omega arith) (omega arith))

pub returns : goal.returns
unfolding decimal low
returns c =
    let l = c.loop-i in
    let done : l.i ≡ 0 = omega arith in
    sym (l.invariant.1 ∙ ap (λ (k : ℕ). decimal (2 * k) l.rest ++ drop (2 * k) l.out) done)
