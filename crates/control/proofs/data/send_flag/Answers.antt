-- `send_flag` meets its contract. Assumes nothing.
use mathlib.Core.Path.{sym}
use Rattle.control.proofs.data.send_flag.Goals as goal

pub returns : goal.returns
returns c =
    λ w. simp (sym c.flag.ensures) (c.send.ensures w)
