-- `send_configured` meets its contract. Assumes nothing.
use borrow.Author.Tests.{not-true, not-false}
use Rattle.wire.specs.Choice.{when◌then◌else◌}
use Rattle.machine.specs.World.{in_state}
use Rattle.machine.specs.Control.{needs_configured}
use Rattle.control.proofs.data.send_configured.Goals as goal

pub returns-then-not-state : goal.returns-then-not-state
unfolding needs_configured when◌then◌else◌
returns-then-not-state c = λ w. simp (not-true c.args.state.configured c.if-not-state.true)

pub returns : goal.returns
unfolding needs_configured when◌then◌else◌
returns c =
    λ w. simp (not-false c.args.state.configured c.if-not-state.false) (c.send_flag.ensures (in_state w c.args.state))
