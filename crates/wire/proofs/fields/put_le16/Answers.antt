-- `put_le16` meets its contract. Assumes nothing.
use mathlib.Core.Path.{◌∙◌}
use Rattle.wire.proofs.Bytes.{little_written}
use Rattle.wire.proofs.fields.put_le16.Goals as goal

pub returns : goal.returns
returns c = rw (c.to_le_bytes.ensures ∙ little_written 2 c.args.x) at c.put.ensures
