-- Laws of the table of units: what a sense and a switch leave alone, and where a unit's part lies. Assumes nothing.
use Prim.Native.Nat.{ℕ, zero, suc, ◌+◌, ◌*◌, ◌≤◌, ◌<◌}
use mathlib.Core.Path.{◌≡◌, refl, sym, ap, ◌∙◌}
use mathlib.Core.Bool.{Bool, true}
use mathlib.Core.List.{List, [], ◌∷◌, map}
use native.Mathlib.Omega.{arith}
use lib.Dec.{eqb}
use lib.ListN.{length, take, drop, set, length-map, get_or-map}
use lib.Seq.{map-set_same}
use borrow.Author.Tests.{eqb-true, leb-true}
use Rattle.wire.specs.Choice.{◌and◌}
use Rattle.wire.specs.Slices.{placed}
use Rattle.wire.proofs.Cases.{both, and_true}
use Rattle.wire.proofs.Parts.{put_back_lem, placed-part}
use Rattle.scsi.specs.Sense.{no_sense, is_no_sense}
use Rattle.scsi.specs.declared.sense.Sense.{Sense}
use Rattle.machine.specs.declared.record.LogicalUnit.{LogicalUnit}
use Rattle.machine.specs.Units.{block_size, most_blocks, size_fits, switch_fits, Table, unit, unit_at, with_sense, unsensed, cleared, is_protected, with_switch, switched_to, unused, as_made, every, switches_fit, total, follow, laid_out, medium_fits, part_of, with_part}
use Rattle.machine.specs.Wrapper.{wrapper_of}

-- ---- each unit made into another

map_twice : (f g h : LogicalUnit → LogicalUnit) → ((u : LogicalUnit) → f (g u) ≡ h u) → (us : Table) → map f (map g us) ≡ map h us
map_twice f g h e [] = refl
map_twice f g h e (u ∷ us) = let a = e u in let b = map_twice f g h e us in cc

every_mapped : (test : LogicalUnit → Bool) (f : LogicalUnit → LogicalUnit) → ((u : LogicalUnit) → test (f u) ≡ true) → (us : Table) → every test (map f us) ≡ true
unfolding every
every_mapped test f e [] = refl
every_mapped test f e (u ∷ us) = and_true _ _ (e u) (every_mapped test f e us)

-- ---- senses

pub length-cleared : (us : Table) → length (cleared us) ≡ length us
unfolding cleared
length-cleared us = length-map us unsensed

pub unit-cleared : (us : Table) (n : ℕ) → unit_at (cleared us) n ≡ unsensed (unit_at us n)
unfolding cleared
unit-cleared us n = get_or-map unsensed us n (unit 0 0 no_sense 0)

-- a sense is not in a cleared table
pub cleared-sensed : (us : Table) (n : ℕ) (s : Sense) → cleared (set us n (with_sense (unit_at us n) s)) ≡ cleared us
unfolding cleared with_sense
cleared-sensed us n s = map-set_same unsensed us n (with_sense (unit_at us n) s) (unit 0 0 no_sense 0) refl

pub cleared_again : (us : Table) → cleared (cleared us) ≡ cleared us
unfolding cleared
cleared_again us = map_twice unsensed unsensed unsensed (λ u. refl) us

pub calm_cleared : (us : Table) → every (λ u. is_no_sense u.sense) (cleared us) ≡ true
unfolding cleared is_no_sense ◌and◌
calm_cleared us = every_mapped _ unsensed (λ u. refl) us

-- a wrapper is read by parts and switches, not by senses
pub wrapper_cleared : (us : Table) (p : List ℕ) → wrapper_of (cleared us) p ≡ wrapper_of us p
unfolding wrapper_of cleared is_protected
wrapper_cleared us p = simp (length-cleared us, unit-cleared us)

-- the switches of a table fit whatever its senses are
switches-cleared : (us : Table) → switches_fit (cleared us) ≡ switches_fit us
unfolding every cleared
switches-cleared [] = refl
switches-cleared (u ∷ us) = ap (λ (b : Bool). switch_fits u.switch and b) (switches-cleared us)

pub same_switch : (us vs : Table) (n : ℕ) → cleared us ≡ cleared vs → (unit_at us n).switch ≡ (unit_at vs n).switch
same_switch us vs n e = ap (λ (u : LogicalUnit). u.switch) (sym (unit-cleared us n) ∙ ap (λ (t : Table). unit_at t n) e ∙ unit-cleared vs n)

pub same-switches : (us vs : Table) → cleared us ≡ cleared vs → switches_fit us ≡ switches_fit vs
same-switches us vs e = sym (switches-cleared us) ∙ ap switches_fit e ∙ switches-cleared vs

-- ---- switches

-- another position of one switch, in a table made into another unit by unit
pub cleared-switched : (us : Table) (x n : ℕ) → cleared (switched_to us x n) ≡ switched_to (cleared us) x n
unfolding cleared switched_to with_switch
cleared-switched [] x n = refl
cleared-switched (u ∷ us) x zero = refl
cleared-switched (u ∷ us) x (suc n) = ap (λ (t : Table). unsensed u ∷ t) (cleared-switched us x n)

pub calm_switched : (us : Table) (x n : ℕ) → every (λ u. is_no_sense u.sense) (switched_to us x n) ≡ every (λ u. is_no_sense u.sense) us
unfolding every switched_to with_switch
calm_switched [] x n = refl
calm_switched (u ∷ us) x zero = refl
calm_switched (u ∷ us) x (suc n) = ap (λ (b : Bool). is_no_sense u.sense and b) (calm_switched us x n)

pub fits-switched : (us : Table) (x n : ℕ) → switch_fits x ≡ true → switches_fit us ≡ true → switches_fit (switched_to us x n) ≡ true
unfolding every switched_to with_switch
fits-switched [] x n h e = refl
fits-switched (u ∷ us) x zero h e = and_true _ _ h (both _ _ e).1
fits-switched (u ∷ us) x (suc n) h e = and_true _ _ (both _ _ e).0 (fits-switched us x n h (both _ _ e).1)

-- ---- the table as made: its parts

length-made : (us : Table) → length (as_made us) ≡ length us
unfolding as_made
length-made us = length-map us unused

pub unit-made : (us : Table) (n : ℕ) → unit_at (as_made us) n ≡ unused (unit_at us n)
unfolding as_made
unit-made us n = get_or-map unused us n (unit 0 0 no_sense 0)

total_made : (us : Table) → total (as_made us) ≡ total us
unfolding total as_made
total_made [] = refl
total_made (u ∷ us) = ap (λ (n : ℕ). u.blocks + n) (total_made us)

follow-made : (k : ℕ) (us : Table) → follow k (as_made us) ≡ follow k us
unfolding follow as_made
follow-made k [] = refl
follow-made k (u ∷ us) = ap (λ (b : Bool). eqb u.first k and size_fits u.blocks and b) (follow-made (k + u.blocks) us)

pub laid-made : (us : Table) → laid_out (as_made us) ≡ laid_out us
unfolding laid_out
laid-made us = simp (length-made us, follow-made 0 us)

pub calm_made : (us : Table) → every (λ u. is_no_sense u.sense) (as_made us) ≡ true
unfolding as_made is_no_sense ◌and◌
calm_made us = every_mapped _ unused (λ u. refl) us

pub fits-made : (us : Table) → switches_fit (as_made us) ≡ true
unfolding as_made switch_fits
fits-made us = every_mapped _ unused (λ u. refl) us

pub cleared-made : (us : Table) → cleared (as_made us) ≡ as_made us
unfolding cleared as_made
cleared-made us = map_twice unsensed unused unused (λ u. refl) us

pub made-cleared : (us : Table) → as_made (cleared us) ≡ as_made us
unfolding cleared as_made
made-cleared us = map_twice unused unsensed unused (λ u. refl) us

pub made-made : (us : Table) → as_made (as_made us) ≡ as_made us
unfolding as_made
made-made us = map_twice unused unused unused (λ u. refl) us

pub made-switched : (us : Table) (x n : ℕ) → as_made (switched_to us x n) ≡ as_made us
unfolding as_made switched_to with_switch
made-switched us x n = map-set_same unused us n (with_switch (unit_at us n) x) (unit 0 0 no_sense 0) refl

-- the switches of one table set in another, from its unit n on
unfoldable pub switched_from : ℕ → Table → Table → Table
switched_from n [] us = us
switched_from n (v ∷ vs) us = switched_from (suc n) vs (switched_to us v.switch n)

switches-behind : (n : ℕ) (vs : Table) (u : LogicalUnit) (us : Table) → switched_from (suc n) vs (u ∷ us) ≡ u ∷ switched_from n vs us
unfolding switched_from switched_to
switches-behind n [] u us = refl
switches-behind n (v ∷ vs) u us = switches-behind (suc n) vs u (switched_to us v.switch n)

-- a table as made, with every switch set again, is that table cleared
pub switched_back : (us : Table) → switched_from 0 us (as_made us) ≡ cleared us
unfolding switched_from switched_to with_switch as_made cleared
switched_back [] = refl
switched_back (u ∷ us) = switches-behind 0 us (unsensed u) (as_made us) ∙ ap (λ (t : Table). unsensed u ∷ t) (switched_back us)

-- tables that differ in their senses have the same parts
pub same_parts : (us vs : Table) → cleared us ≡ cleared vs → as_made us ≡ as_made vs
same_parts us vs e = sym (made-cleared us) ∙ ap as_made e ∙ made-cleared vs

-- a table that is laid out has a unit
pub laid-some : (us : Table) → laid_out us ≡ true → 1 ≤ length us
unfolding laid_out
laid-some us h = leb-true _ _ (both _ _ h).0

-- and each of its units, one beyond it too, is within the limit
small-from : (us : Table) (k n : ℕ) → follow k us ≡ true → (unit_at us n).blocks ≤ most_blocks
unfolding follow size_fits
small-from [] k n h = omega arith
small-from (u ∷ us) k zero h = leb-true _ _ (both _ _ (both _ _ (both _ _ h).1).0).1
small-from (u ∷ us) k (suc n) h = small-from us (k + u.blocks) n (both _ _ (both _ _ h).1).1

pub unit-small : (us : Table) (n : ℕ) → laid_out us ≡ true → (unit_at us n).blocks ≤ most_blocks
unfolding laid_out
unit-small us n h = small-from us 0 n (both _ _ (both _ _ h).1).1

-- two tables of the same parts
module _ (us vs : Table) (e : as_made us ≡ as_made vs) where
  pub same_length : length us ≡ length vs
  same_length = sym (length-made us) ∙ ap length e ∙ length-made vs

  pub same-laid : laid_out us ≡ laid_out vs
  same-laid = sym (laid-made us) ∙ ap laid_out e ∙ laid-made vs

  pub same_total : total us ≡ total vs
  same_total = sym (total_made us) ∙ ap total e ∙ total_made vs

  pub same_first : (n : ℕ) → (unit_at us n).first ≡ (unit_at vs n).first
  same_first n = ap (λ (u : LogicalUnit). u.first) (sym (unit-made us n) ∙ ap (λ (t : Table). unit_at t n) e ∙ unit-made vs n)

  pub same_blocks : (n : ℕ) → (unit_at us n).blocks ≡ (unit_at vs n).blocks
  same_blocks n = ap (λ (u : LogicalUnit). u.blocks) (sym (unit-made us n) ∙ ap (λ (t : Table). unit_at t n) e ∙ unit-made vs n)

  -- a unit's part of a medium, and the medium with others there
  pub same-part : (n : ℕ) (m : List ℕ) → part_of (unit_at us n) m ≡ part_of (unit_at vs n) m
  unfolding part_of
  same-part n m = λ i. take (block_size * same_blocks n i) (drop (block_size * same_first n i) m)

  pub same-with : (n : ℕ) (m s : List ℕ) → with_part (unit_at us n) m s ≡ with_part (unit_at vs n) m s
  unfolding with_part
  same-with n m s = ap (λ (k : ℕ). placed m (block_size * k) s) (same_first n)

-- ---- parts

-- a unit lies behind what is before the table, and in its sum
pub within : (us : Table) (k n : ℕ) → follow k us ≡ true → n < length us → (k ≤ (unit_at us n).first) × ((unit_at us n).first + (unit_at us n).blocks ≤ k + total us)
unfolding follow total
within [] k n h l = absurd (omega arith)
within (u ∷ us) k zero h l = let e : u.first ≡ k = eqb-true _ _ (both _ _ h).0 in (omega arith, omega arith)
within (u ∷ us) k (suc n) h l =
    let i = within us (k + u.blocks) n (both _ _ (both _ _ h).1).1 (omega arith) in
    (omega (arith, i.0), omega (arith, i.1))

pub unit-within : (us : Table) (m : List ℕ) (n : ℕ) → laid_out us ≡ true → medium_fits us m ≡ true → n < length us
    → block_size * (unit_at us n).first + block_size * (unit_at us n).blocks ≤ length m
unfolding laid_out medium_fits
unit-within us m n h e l =
    let w = within us 0 n (both _ _ (both _ _ h).1).1 l in
    let s : length m ≡ block_size * total us = eqb-true _ _ e in
    let b = w.1 in
    omega arith

-- a block stored in its unit's part is stored at its place in the medium
pub in_place : (u : LogicalUnit) (first block : ℕ) (m s : List ℕ) → u.first ≡ first → 512 * u.first + 512 * u.blocks ≤ length m → length s ≡ 512 → block + 1 ≤ u.blocks
    → with_part u m (placed (part_of u m) (512 * block) s) ≡ placed m (512 * (first + block)) s
unfolding with_part part_of
in_place u first block m s e h n l =
    let same : 512 * u.first + 512 * block ≡ 512 * (first + block) = omega arith in
    placed-part (512 * u.first) (512 * u.blocks) (512 * block) m s h (omega arith) ∙ ap (λ (j : ℕ). placed m j s) same

-- a part put back as it was
pub in_place-same : (u : LogicalUnit) (m : List ℕ) → 512 * u.first + 512 * u.blocks ≤ length m → with_part u m (part_of u m) ≡ m
unfolding with_part part_of
in_place-same u m h = put_back_lem (512 * u.first) (512 * u.blocks) m h
