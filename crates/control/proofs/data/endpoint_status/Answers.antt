-- `endpoint_status` meets its contract. Assumes nothing.
use Rattle.machine.specs.World.{in_state}
use Rattle.machine.specs.Control.{endpoint_status}
use Rattle.control.proofs.data.endpoint_status.Goals as goal

pub returns-in-Control : goal.returns-in-Control
unfolding endpoint_status
returns-in-Control c =
    λ w. simp c.in-Control.is (c.send_flag.ensures (in_state w c.args.state))

pub returns-in-BulkIn : goal.returns-in-BulkIn
unfolding endpoint_status
returns-in-BulkIn c =
    λ w. simp c.in-BulkIn.is (c.send_configured.ensures w)

pub returns-in-BulkOut : goal.returns-in-BulkOut
unfolding endpoint_status
returns-in-BulkOut c =
    λ w. simp c.in-BulkOut.is (c.send_configured-in-BulkOut.ensures w)
