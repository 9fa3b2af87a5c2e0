-- `reply_bytes` meets its contract. Assumes nothing.
use mathlib.Core.Path.{ap, ◌∙◌}
use Rattle.wire.specs.Packet.{packet_of}
use Rattle.scsi.specs.Reply.{reply_packet}
use Rattle.scsi.proofs.reply.reply_bytes.Goals as goal

pub returns-in-Sense : goal.returns-in-Sense
unfolding reply_packet
returns-in-Sense c = simp c.in-Sense.is (c.packet_of.ensures ∙ ap packet_of c.sense_data.ensures)

pub returns-in-Inquiry : goal.returns-in-Inquiry
unfolding reply_packet
returns-in-Inquiry c = simp c.in-Inquiry.is (c.packet_of-in-Inquiry.ensures ∙ ap packet_of c.inquiry_data.ensures)

pub returns-in-Page : goal.returns-in-Page
unfolding reply_packet
returns-in-Page c = simp c.in-Page.is c.page_bytes.ensures

pub returns-in-ModeSense : goal.returns-in-ModeSense
unfolding reply_packet
returns-in-ModeSense c = simp c.in-ModeSense.is (c.packet_of-in-ModeSense.ensures ∙ ap packet_of c.mode_data.ensures)

pub returns-in-Capacity : goal.returns-in-Capacity
unfolding reply_packet
returns-in-Capacity c = simp c.in-Capacity.is (c.packet_of-in-Capacity.ensures ∙ ap packet_of c.capacity_data.ensures)
