-- Number 10, one fact for each part of it, and what it tells of a command under way. Assumes nothing.
use Prim.Native.Nat.{ℕ, ◌+◌, ◌*◌, ◌≤◌, ◌<◌}
use mathlib.Core.Path.{◌≡◌, subst}
use mathlib.Core.Bool.{true}
use native.Mathlib.Omega.{arith}
use lib.ListN.{length}
use borrow.Author.Tests.{leb-true, ltb-true}
use Rattle.wire.proofs.Cases.{both, and_true}
use Rattle.machine.specs.declared.record.Stage.{Stage}
use Rattle.machine.specs.declared.record.Stage.TheVariants.{Ready, DataOut, DataIn, ReplyIn, StatusDue}
use Rattle.machine.specs.declared.record.Task.{Task}
use Rattle.machine.specs.Units.{Table, unit_at, as_made, switches_fit, laid_out, medium_fits}
use Rattle.machine.specs.Fits.{number_fits, address_fits, idle_fits, lock_fits, out_fits, in_fits, stage_fits, task_fits, fits}
use Rattle.machine.specs.World.{World}
use Rattle.machine.specs.Machine.{fitting}
use Rattle.machine.specs.Halts.{due}
use Rattle.machine.proofs.Tables.{same_length, same_blocks, unit-within}

pub record Fit (w : World) : Type 0 where
  pub laid : laid_out w.units ≡ true
  pub switches : switches_fit w.units ≡ true
  pub number : number_fits w.dev.identity.number ≡ true
  pub address : address_fits w.dev.state.address ≡ true
  pub idle : idle_fits w.dev.state w.units ≡ true
  pub lock : lock_fits w.dev.state.link ≡ true
  pub task : task_fits w.units w.dev.state.link.task ≡ true

pub fit_of : (w : World) → fitting w ≡ true → Fit w
unfolding fits
fit_of w e =
    let a = both _ _ e in
    let b = both _ _ a.1 in
    let c = both _ _ b.1 in
    let d = both _ _ c.1 in
    let f = both _ _ d.1 in
    let g = both _ _ f.1 in
    record { laid = a.0; switches = b.0; number = c.0; address = d.0; idle = f.0; lock = g.0; task = g.1 }

pub fits_of_lem : (w : World) → Fit w → fitting w ≡ true
unfolding fits
fits_of_lem w f =
    and_true _ _ f.laid
    (and_true _ _ f.switches (and_true _ _ f.number (and_true _ _ f.address (and_true _ _ f.idle (and_true _ _ f.lock f.task)))))

-- ---- a task: its unit is in the table, and its stage fits

pub lun-fits : (us : Table) (t : Task) → task_fits us t ≡ true → t.lun < length us
unfolding task_fits
lun-fits us t f = ltb-true _ _ (both _ _ f).0

-- no more is due than the residue
stage-due : (blocks : ℕ) (g : Stage) (a r : ℕ) → stage_fits blocks g a r ≡ true → due g ≤ r
unfolding due stage_fits out_fits in_fits
stage-due blocks Ready a r e = omega arith
stage-due blocks (DataOut block left held) a r e = leb-true _ _ (both _ _ (both _ _ (both _ _ (both _ _ e).1).1).1).0
stage-due blocks (DataIn place left) a r e = leb-true _ _ (both _ _ (both _ _ e).1).0
stage-due blocks (ReplyIn reply place left) a r e = leb-true _ _ (both _ _ (both _ _ e).1).0
stage-due blocks (StatusDue status) a r e = omega arith

module _ (us : Table) (t : Task) (f : task_fits us t ≡ true) (g : Stage) (e : t.stage ≡ g) where
  pub stage-fits : stage_fits (unit_at us t.lun).blocks g t.announced t.residue ≡ true
  unfolding task_fits
  stage-fits = subst (λ (x : Stage). stage_fits (unit_at us t.lun).blocks x t.announced t.residue ≡ true) e (both _ _ f).1

  pub due-fits : due g ≤ t.residue
  due-fits = stage-due (unit_at us t.lun).blocks g t.announced t.residue stage-fits

-- ---- the table counts by its parts alone

module _ (us vs : Table) (e : as_made us ≡ as_made vs) where
  pub same-task : (t : Task) → task_fits us t ≡ task_fits vs t
  unfolding task_fits
  same-task t = simp (same_length us vs e, same_blocks us vs e t.lun)

-- ---- a write under way

-- a write's unit is in the table and its part in the medium, and its blocks are in the unit
pub record Writes (w : World) (block left : ℕ) : Type 0 where
  pub listed : w.dev.state.link.task.lun < length w.units
  pub room : 512 * (unit_at w.units w.dev.state.link.task.lun).first + 512 * (unit_at w.units w.dev.state.link.task.lun).blocks ≤ length w.medium
  pub blocks : block + left ≤ (unit_at w.units w.dev.state.link.task.lun).blocks

pub writes : (w : World) (block left held : ℕ) → Fit w → medium_fits w.units w.medium ≡ true → w.dev.state.link.task.stage ≡ DataOut block left held → Writes w block left
unfolding stage_fits out_fits
writes w block left held f m e =
    let t = w.dev.state.link.task in
    let n = lun-fits w.units t f.task in
    record {
      listed = n;
      room = unit-within w.units w.medium t.lun f.laid m n;
      blocks = leb-true _ _ (both _ _ (stage-fits w.units t f.task (DataOut block left held) e)).0;
    }
