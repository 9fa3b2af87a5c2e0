-- `malformed` meets its contract. Assumes nothing.
use native.Mathlib.Omega.{arith}
use Rattle.player.proofs.Playing.{front_fits}
use Rattle.player.proofs.play.malformed.Goals as goal

pub returns : goal.returns
returns c = front_fits _ _ _ _ _ _ c.new-text.ensures.held c.new-text.ensures.at (omega arith) c.refusal.ensures.wrote
