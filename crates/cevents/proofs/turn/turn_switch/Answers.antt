-- `turn_switch` meets its contract. Assumes nothing.
use mathlib.Core.Path.{sym, ap, ◌∙◌}
use Rattle.crecord.specs.Flat.{flat_of}
use Rattle.crecord.proofs.RoundTrip.{round_trip}
use Rattle.machine.specs.Machine as machine
use Rattle.machine.specs.Machine.{lent}
use Rattle.cevents.proofs.Options.{was-none, was-some}
use Rattle.cevents.proofs.Turns.{refuses, decoded}
use Rattle.cevents.proofs.turn.turn_switch.Goals as goal

pub returns-in_default : goal.returns-in_default
unfolding lent
returns-in_default c =
    λ m.
    let a = c.args in
    simp c.refused.ensures (refuses a.held.now a.units.now m (machine.set_switch a.position a.lun) (was-none _ _ _ c.decode.ensures c.in_default.is))

pub returns : goal.returns
returns c =
    λ m.
    let a = c.args in
    let s = was-some _ _ _ c.decode.ensures _ c.in-Some.is in
    decoded a.held.now a.units.now (machine.set_switch a.position a.lun) m _ _ _ _ _ _ _ _ _ _ s.0 c.from-identity.ensures s.1 (c.switch_parts.ensures a.held.now.part m) c.from.ensures (sym (ap flat_of s.1 ∙ round_trip.read_is_written a.held.now.flat s.0))
