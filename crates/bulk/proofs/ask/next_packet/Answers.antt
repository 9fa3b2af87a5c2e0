-- `next_packet` meets its contract. Assumes nothing.
use native.Mathlib.Omega.{arith}
use borrow.Author.Tests.{eq-eqb, ne_eqb}
use Rattle.wire.specs.Choice.{when◌then◌else◌}
use Rattle.machine.specs.Bulk.{next_packet}
use Rattle.bulk.proofs.ask.next_packet.Goals as goal

pub returns-then-left-eq0 : goal.returns-then-left-eq0
unfolding next_packet when◌then◌else◌
returns-then-left-eq0 c = simp (eq-eqb _ _ c.if-left-eq0.true)

pub handed_state-requires : goal.handed_state-requires
handed_state-requires c = let a = c.requires in omega (arith, c.packet_size.ensures)

pub returns : goal.returns
unfolding next_packet when◌then◌else◌
returns c = simp (ne_eqb _ _ c.if-left-eq0.false, c.handed_state.ensures, c.packet_size.ensures)
