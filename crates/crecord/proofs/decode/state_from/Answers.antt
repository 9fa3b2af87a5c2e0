-- `state_from` meets its contract. Assumes nothing.
use native.Mathlib.Nat.{div-one}
use Rattle.wire.specs.Bits.{bits}
use Rattle.crecord.specs.Flat.{flag, state_from}
use Rattle.crecord.proofs.decode.state_from.Goals as goal

pub returns : goal.returns
unfolding state_from flag bits
returns c = simp (c.stage_from-stage.ensures, div-one)
