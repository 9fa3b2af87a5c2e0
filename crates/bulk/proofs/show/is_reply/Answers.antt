-- `is_reply` meets its contract. Assumes nothing.
use mathlib.Core.Path.{ap, ◌∙◌}
use Rattle.wire.specs.Slices.{same}
use Rattle.bulk.proofs.Showing.{reply-held}
use Rattle.bulk.proofs.show.is_reply.Goals as goal

pub returns : goal.returns
returns c = c.same.ensures ∙ ap (same _) (c.as_slice.ensures ∙ (reply-held _ _ _ c.record_reply-own.ensures).slice)
