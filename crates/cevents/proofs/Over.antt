-- One pass over a table finds whether it fits over its medium. Assumes nothing.
use Prim.Native.Nat.{ℕ, ◌+◌, ◌*◌, ◌≤◌, ◌<◌}
use mathlib.Core.Path.{◌≡◌, ap, ◌∙◌}
use mathlib.Core.Bool.{Bool, true, false}
use native.Mathlib.Omega.{arith}
use lib.Dec.{leb, eqb}
use lib.ListN.{length, drop, get_or}
use borrow.Author.Tests.{eq-eqb, ne_eqb, le-leb, lt-leb}
use Rattle.std.proofs.lemmas.List.{drop_more}
use Rattle.wire.specs.Choice.{◌and◌}
use Rattle.wire.proofs.Cases.{and_false}
use Rattle.machine.specs.declared.record.LogicalUnit.{LogicalUnit}
use Rattle.machine.specs.Units.{size_fits, switch_fits, Table, every, switches_fit, total, follow, laid_out}

-- What is still asked once the units so far end at a block.
abbrev pub over : ℕ → Table → ℕ → Bool
over next us m = follow next us and switches_fit us and eqb m (512 * (next + total us))

module _ (us : Table) (next i m : ℕ) (d : LogicalUnit) (l : i < length us) where
  abbrev u : LogicalUnit
  u = get_or us i d

  at_unit : over next (drop i us) m
      ≡ ((eqb u.first next and size_fits u.blocks and follow (next + u.blocks) (drop (i + 1) us))
      and (switch_fits u.switch and switches_fit (drop (i + 1) us)) and eqb m (512 * (next + (u.blocks + total (drop (i + 1) us)))))
  unfolding follow every total
  at_unit = ap (λ (t : Table). over next t m) (drop_more us i d l)

  pub elsewhere : (u.first ≡ next → ⊥) → over next (drop i us) m ≡ false
  unfolding ◌and◌
  elsewhere k = at_unit ∙ simp (ne_eqb _ _ k)

  pub no_size : u.first ≡ next → size_fits u.blocks ≡ false → over next (drop i us) m ≡ false
  unfolding ◌and◌
  no_size e k = at_unit ∙ simp (eq-eqb _ _ e, k)

  pub no_switch : u.first ≡ next → size_fits u.blocks ≡ true → switch_fits u.switch ≡ false → over next (drop i us) m ≡ false
  unfolding ◌and◌
  no_switch e s k = at_unit ∙ simp (eq-eqb _ _ e, s, k) (and_false (follow (next + u.blocks) (drop (i + 1) us)))

  pub goes_on : u.first ≡ next → size_fits u.blocks ≡ true → switch_fits u.switch ≡ true → over next (drop i us) m ≡ over (next + u.blocks) (drop (i + 1) us) m
  unfolding ◌and◌
  goes_on e s k =
      let t : next + (u.blocks + total (drop (i + 1) us)) ≡ next + u.blocks + total (drop (i + 1) us) = omega arith in
      at_unit ∙ simp (eq-eqb _ _ e, s, k, t)

-- Of a table of 1 to 4 units it is all that is asked; a table of another length is laid out in no way.
module _ (us : Table) (m : ℕ) where
  pub whole : 1 ≤ length us → length us ≤ 4 → over 0 us m ≡ (laid_out us and switches_fit us and eqb m (512 * total us))
  unfolding laid_out ◌and◌
  whole l k =
      let z : 0 + total us ≡ total us = omega arith in
      simp (le-leb 1 (length us) l, le-leb (length us) 4 k, z)

  pub none : length us < 1 → laid_out us ≡ false
  unfolding laid_out ◌and◌
  none l = simp (lt-leb 1 (length us) l)

  pub too-many : 4 < length us → laid_out us ≡ false
  unfolding laid_out ◌and◌
  too-many l = simp (lt-leb (length us) 4 l) (and_false (leb 1 (length us)))
