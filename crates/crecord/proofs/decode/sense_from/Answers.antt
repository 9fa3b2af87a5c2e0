-- `sense_from` meets its contract. Assumes nothing.
use Rattle.crecord.specs.Flat.{sense_from}
use Rattle.crecord.proofs.decode.sense_from.Goals as goal

pub returns : goal.returns
unfolding sense_from
returns c = simp c.to_le_bytes.ensures
