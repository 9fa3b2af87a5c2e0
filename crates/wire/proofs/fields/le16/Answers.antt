-- `le16` meets its contract. Assumes nothing.
use mathlib.Core.Path.{ap, ◌∙◌}
use lib.ListN.{length}
use Rattle.wire.specs.Numbers.{little}
use Rattle.wire.proofs.Lists.{length-bytes}
use Rattle.wire.proofs.Bytes.{little_read}
use Rattle.wire.proofs.fields.le16.Goals as goal

pub returns : goal.returns
returns c = c.from_le_bytes.ensures ∙ little_read 1 _ (ap length c.bytes_at.ensures ∙ length-bytes _ _ _) ∙ ap little c.bytes_at.ensures
