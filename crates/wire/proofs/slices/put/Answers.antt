-- `put` meets its contract. Assumes nothing.
use Prim.Native.Nat.{ℕ, ◌+◌, ◌≤◌, ◌<◌}
use mathlib.Core.Path.{◌≡◌, sym, ap, ◌∙◌}
use mathlib.Core.List.{List, ◌++◌}
use native.Mathlib.Omega.{arith}
use native.Mathlib.Numerals.{add-one}
use lib.ListN.{length, length-set, set, get_or, take, drop}
use lib.Seq.{paste, paste-suc, take-length}
use Rattle.wire.proofs.Lists.{fits_yes, fits_no, placed_yes, placed_no}
use Rattle.wire.proofs.slices.put.Goals as goal

-- one store takes the paste of i bytes to that of i + 1
step : (d₀ d s : List ℕ) (at i : ℕ) → d ≡ paste d₀ at s i → at + length s ≤ length d₀ → i < length s → set d (at + i) (get_or s i 0) ≡ paste d₀ at s (i + 1)
step d₀ d s at i e h k =
    ap (λ (l : List ℕ). set l (at + i) (get_or s i 0)) e
    ∙ paste-suc d₀ at s i 0 (omega arith) k
    ∙ ap (λ (n : ℕ). paste d₀ at s n) (sym (add-one i))

pub loop-i-preserved : goal.loop-i-preserved
loop-i-preserved c = (step _ _ _ _ _ c.loop-i.invariant.0 (grind arith) (omega arith), simp length-set (omega arith))

pub returns-after-loop-i : goal.returns-after-loop-i
returns-after-loop-i c =
    let a = c.args in
    let d = a.dst.now in
    let s = a.src.now in
    let fit : a.at + length s ≤ length d = grind arith in
    let whole : c.loop-i.i ≡ length s = omega arith in (
      c.if-fits.true ∙ sym (fits_yes d a.at s fit),
      c.loop-i.invariant.0
          ∙ ap (λ (n : ℕ). paste d a.at s n) whole
          ∙ ap (λ (t : List ℕ). take a.at d ++ t ++ drop (a.at + length s) d) (take-length s)
          ∙ sym (placed_yes d a.at s fit),
    )

pub returns-else-fits : goal.returns-else-fits
returns-else-fits c =
    let a = c.args in
    let none : length a.dst.now < a.at + length a.src.now = grind arith in
    (c.if-fits.false ∙ sym (fits_no a.dst.now a.at a.src.now none), sym (placed_no a.dst.now a.at a.src.now none))
