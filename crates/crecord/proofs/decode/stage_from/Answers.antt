-- `stage_from` meets its contract: an arm is the table's row. Assumes nothing.
use Prim.Native.Nat.{ℕ}
use mathlib.Core.Path.{◌≡◌, sym, ap, ◌∙◌}
use Rattle.wire.specs.Choice.{when◌then◌else◌, look}
use Rattle.wire.proofs.Cases.{look-rest}
use Rattle.crecord.specs.declared.encode.Numbers.{Numbers}
use Rattle.crecord.specs.Flat.{forms, no_form, form_of}
use Rattle.crecord.proofs.decode.stage_from.Goals as goal

-- the stage that the row of a known number has for the others
at_stage : (k : ℕ) (n : Numbers) → n.stage ≡ k → (form_of k).stage n ≡ (form_of n.stage).stage n
at_stage k n e = ap (λ (j : ℕ). (form_of j).stage n) (sym e)

pub returns-in-0 : goal.returns-in-0
unfolding form_of look when◌then◌else◌
returns-in-0 c = at_stage 0 _ c.in-0.is

pub returns-in-1 : goal.returns-in-1
unfolding form_of look when◌then◌else◌
returns-in-1 c = at_stage 1 _ c.in-1.is

pub returns-in-2 : goal.returns-in-2
unfolding form_of look when◌then◌else◌
returns-in-2 c = at_stage 2 _ c.in-2.is

pub returns-in-3 : goal.returns-in-3
unfolding form_of look when◌then◌else◌
returns-in-3 c = simp c.sense_from.ensures (at_stage 3 _ c.in-3.is)

pub returns-in-4 : goal.returns-in-4
unfolding form_of look when◌then◌else◌
returns-in-4 c = at_stage 4 _ c.in-4.is

pub returns-in-5 : goal.returns-in-5
unfolding form_of look when◌then◌else◌
returns-in-5 c = at_stage 5 _ c.in-5.is

pub returns-in-6 : goal.returns-in-6
unfolding form_of look when◌then◌else◌
returns-in-6 c = at_stage 6 _ c.in-6.is

pub returns-in-7 : goal.returns-in-7
unfolding form_of look when◌then◌else◌
returns-in-7 c = at_stage 7 _ c.in-7.is

pub returns-in-8 : goal.returns-in-8
unfolding form_of look when◌then◌else◌
returns-in-8 c = at_stage 8 _ c.in-8.is

pub returns-in-9 : goal.returns-in-9
unfolding form_of look when◌then◌else◌
returns-in-9 c = at_stage 9 _ c.in-9.is

pub returns-in-10 : goal.returns-in-10
unfolding form_of look when◌then◌else◌
returns-in-10 c = c.page_stage.ensures ∙ at_stage 10 _ c.in-10.is

pub returns-in_default : goal.returns-in_default
unfolding form_of when◌then◌else◌
returns-in_default c = simp (look-rest c.args.stage Unit forms no_form c.in_default.in_default-own.rest)
