-- `inquiry_data` meets its contract. Assumes nothing.
use Rattle.wire.specs.Texts.{padded}
use Rattle.scsi.specs.Reply.{inquiry_data}
use Rattle.scsi.proofs.reply.inquiry_data.Goals as goal

pub returns : goal.returns
unfolding inquiry_data padded
returns c = simp (c.copy_from_slice.ensures.after, c.copy_from_slice-2.ensures.after, c.copy_from_slice-3.ensures.after, c.copy_from_slice-4.ensures.after)
