-- No event changes the parts of the table. Assumes nothing.
use Prim.Native.Nat.{ℕ}
use mathlib.Core.Path.{◌≡◌, refl}
use Rattle.machine.specs.Units.{as_made}
use Rattle.machine.specs.World.{World, dropped}
use Rattle.machine.specs.Begin.{begun_unit}
use Rattle.machine.specs.Bulk.{on_wrapper}
use Rattle.machine.specs.Machine.{Event, step}
use Rattle.machine.proofs.StepLaws.{Changed, moves, drops, begins, turns, cuts, changes}
use Rattle.machine.proofs.Tables.{cleared-sensed, made-cleared, made-switched, same_parts}

module _ (w : World) where
  abbrev lun : World → ℕ
  lun v = v.dev.state.link.task.lun

  parts : {e : Event} (v : World) → Changed w e v → as_made v.units ≡ as_made w.units
  unfolding dropped on_wrapper begun_unit
  parts v (moves s p m t) = refl
  parts v (drops a c hi ho) = made-cleared w.units
  parts v (begins h b l) = same_parts _ w.units (cleared-sensed w.units h.lun _)
  parts v (turns x n) = made-switched w.units x n
  parts v (cuts m) = same_parts _ w.units (cleared-sensed w.units (lun w) _)

  pub keeps-parts : (e : Event) → as_made (step w e).world.units ≡ as_made w.units
  keeps-parts e = parts _ (changes w e)
