-- `identification_page` meets its contract. Assumes nothing.
use Rattle.std.proofs.lemmas.List.{append-nil}
use Rattle.wire.specs.Texts.{padded}
use Rattle.scsi.proofs.page.identification_page.Goals as goal

pub returns : goal.returns
unfolding padded
returns c = simp (c.copy_from_slice.ensures.after, c.copy_from_slice-2.ensures.after, c.copy_from_slice-3.ensures.after, append-nil)
