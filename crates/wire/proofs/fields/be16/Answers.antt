-- `be16` meets its contract. Assumes nothing.
use mathlib.Core.Path.{ap, ◌∙◌}
use lib.ListN.{length}
use Rattle.wire.specs.Numbers.{big}
use Rattle.wire.proofs.Lists.{length-bytes}
use Rattle.wire.proofs.Bytes.{big_read}
use Rattle.wire.proofs.fields.be16.Goals as goal

pub returns : goal.returns
returns c = c.from_be_bytes.ensures ∙ big_read 1 _ (ap length c.bytes_at.ensures ∙ length-bytes _ _ _) ∙ ap big c.bytes_at.ensures
