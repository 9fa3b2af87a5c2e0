-- `send` meets its contract. Assumes nothing.
use Rattle.control.proofs.data.send.Goals as goal

pub returns : goal.returns
returns c = λ w. simp c.put.ensures.1
