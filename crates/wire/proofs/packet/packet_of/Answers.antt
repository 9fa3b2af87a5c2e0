-- `packet_of` meets its contract. Assumes nothing.
use mathlib.Core.Path.{sym}
use Rattle.wire.specs.Choice.{when◌then◌else◌}
use Rattle.wire.specs.Slices.{zeros}
use Rattle.wire.specs.Packet.{packet_of}
use Rattle.wire.proofs.packet.packet_of.Goals as goal

pub returns-then-put : goal.returns-then-put
unfolding packet_of when◌then◌else◌ zeros
returns-then-put c =
    let p = c.put in
    simp (p.ensures.1, sym p.ensures.0, c.if-put.true)

pub returns-else-put : goal.returns-else-put
unfolding packet_of when◌then◌else◌ zeros
returns-else-put c =
    let p = c.put in
    simp (p.ensures.1, sym p.ensures.0, c.if-put.false)
