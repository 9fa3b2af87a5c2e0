-- The units' parts of the medium lie apart. Assumes nothing.
use Prim.Native.Nat.{ℕ, zero, suc, ◌+◌, ◌*◌, ◌≤◌, ◌<◌}
use mathlib.Core.Path.{◌≡◌, refl, sym, ap, ◌∙◌}
use mathlib.Core.Bool.{Bool, true, false}
use mathlib.Core.List.{List, [], ◌∷◌}
use native.Mathlib.Omega.{arith}
use lib.Dec.{leb, ltb}
use lib.ListN.{length, take, drop, get_or-eq_default}
use borrow.Author.Tests.{eqb-true, leb-true, leb-false, ltb-true, ltb-false}
use Rattle.wire.proofs.Cases.{both}
use Rattle.wire.proofs.Parts.{length_part, whole_part, before, behind}
use Rattle.scsi.specs.Sense.{no_sense}
use Rattle.machine.specs.declared.record.LogicalUnit.{LogicalUnit}
use Rattle.machine.specs.Units.{block_size, Table, unit, unit_at, follow, laid_out, medium_fits, part_of, with_part}
use Rattle.machine.proofs.Tables.{within, unit-within}

-- of two units in their order, the one ends before the other begins
earlier : (us : Table) (k i j : ℕ) → follow k us ≡ true → i < j → j < length us → (unit_at us i).first + (unit_at us i).blocks ≤ (unit_at us j).first
unfolding follow
earlier [] k i j h l n = absurd (omega arith)
earlier (u ∷ us) k i zero h l n = absurd (omega arith)
earlier (u ∷ us) k zero (suc j) h l n =
    let e : u.first ≡ k = eqb-true _ _ (both _ _ h).0 in
    let a = (within us (k + u.blocks) j (both _ _ (both _ _ h).1).1 (omega arith)).0 in
    omega arith
earlier (u ∷ us) k (suc i) (suc j) h l n = earlier us (k + u.blocks) i j (both _ _ (both _ _ h).1).1 (omega arith) (omega arith)

-- a unit beyond the table has no part
no_part : (us : Table) (n : ℕ) (m : List ℕ) → length us ≤ n → part_of (unit_at us n) m ≡ []
unfolding part_of
no_part us n m h = ap (λ (u : LogicalUnit). take (block_size * u.blocks) (drop (block_size * u.first) m)) (get_or-eq_default us (unit 0 0 no_sense 0) h)

-- a unit of a table that lies in the medium
module _ (us : Table) (m : List ℕ) (j : ℕ) (laid : laid_out us ≡ true) (whole : medium_fits us m ≡ true) (listed : j < length us) where
  abbrev u : LogicalUnit
  u = unit_at us j

  room : block_size * u.first + block_size * u.blocks ≤ length m
  room = unit-within us m j laid whole listed

  pub length-own : length (part_of u m) ≡ block_size * u.blocks
  unfolding part_of
  length-own = length_part (block_size * u.first) (block_size * u.blocks) m room

  module _ (s : List ℕ) (n : length s ≡ block_size * u.blocks) where
    -- what is put into its part stands there
    pub own : part_of u (with_part u m s) ≡ s
    unfolding part_of with_part
    own = whole_part (block_size * u.first) (block_size * u.blocks) m s room n

    -- and leaves the others' as they were
    pub others : (i : ℕ) → (i ≡ j → ⊥) → part_of (unit_at us i) (with_part u m s) ≡ part_of (unit_at us i) m
    unfolding part_of with_part laid_out
    others i d = beyond (leb (length us) i) refl
      where
        v : LogicalUnit
        v = unit_at us i

        in_order_lem : follow 0 us ≡ true
        in_order_lem = (both _ _ (both _ _ laid).1).1

        Same : Type 0
        Same = part_of v (with_part u m s) ≡ part_of v m

        side : i < length us → (c : Bool) → ltb i j ≡ c → Same
        side l true e =
            let a = earlier us 0 i j in_order_lem (ltb-true i j e) listed in
            let r = room in
            before (block_size * v.first) (block_size * v.blocks) (block_size * u.first) m s (omega arith) (omega arith)
        side l false e =
            let b = ltb-false i j e in
            let a = earlier us 0 j i in_order_lem (omega arith) l in
            let r = room in
            ap (take (block_size * v.blocks)) (behind (block_size * v.first) (block_size * u.first) m s (omega arith) (omega arith))

        beyond : (c : Bool) → leb (length us) i ≡ c → Same
        beyond true e = no_part us i _ (leb-true _ _ e) ∙ sym (no_part us i m (leb-true _ _ e))
        beyond false e = side (leb-false _ _ e) (ltb i j) refl
