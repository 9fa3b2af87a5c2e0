-- `record_reply` meets its contract. Assumes nothing.
use mathlib.Core.Path.{sym, ap, ◌∙◌}
use mathlib.Core.List.{[]}
use native.Mathlib.Omega.{arith}
use Rattle.wire.specs.Slices.{zeros}
use Rattle.wire.specs.Packet.{packet_of}
use Rattle.wire.proofs.Packets.{packet_is}
use Rattle.bulk.proofs.Showing.{no_reply, reply-front}
use Rattle.bulk.proofs.show.record_reply.Goals as goal

pub returns-in-ReplyIn : goal.returns-in-ReplyIn
returns-in-ReplyIn c =
    c.packet_of.ensures
    ∙ ap packet_of (reply-front _ _ _ _ _ c.in-ReplyIn.is _ c.reply_bytes-whole.ensures _ c.as_slice-bytes.ensures _ c.min.ensures)

pub returns-in_default : goal.returns-in_default
unfolding zeros
returns-in_default c = sym (ap packet_of (no_reply _ _ c.in_default.not-ReplyIn) ∙ packet_is [] (omega arith))
