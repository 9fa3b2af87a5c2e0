-- `put_be32` meets its contract. Assumes nothing.
use mathlib.Core.Path.{◌∙◌}
use Rattle.wire.proofs.Bytes.{big_written}
use Rattle.wire.proofs.fields.put_be32.Goals as goal

pub returns : goal.returns
returns c = rw (c.to_be_bytes.ensures ∙ big_written 4 c.args.x) at c.put.ensures
