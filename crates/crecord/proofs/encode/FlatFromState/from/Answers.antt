-- A state's numbers meet their contract. Assumes nothing.
use Rattle.crecord.specs.Flat.{flat_with, flat_of}
use Rattle.crecord.proofs.encode.FlatFromState.from.Goals as goal

pub returns : goal.returns
unfolding flat_of flat_with
returns c = simp (c.flags_of.ensures, c.numbers_of-numbers.ensures)
