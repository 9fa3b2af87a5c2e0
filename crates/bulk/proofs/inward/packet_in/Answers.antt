-- `packet_in` meets its contract. Assumes nothing.
use mathlib.Core.Path.{refl, sym, ◌∙◌}
use native.Mathlib.Nat.{add-sub_cancel_left}
use Rattle.wire.proofs.Packets.{held}
use Rattle.scsi.specs.Reply.{reply_packet}
use Rattle.scsi.proofs.Replies.{reply-short}
use Rattle.bot.proofs.RoundTrip.{length-csw}
use Rattle.machine.specs.Bulk.{bytes_of, deliver, packet_in}
use Rattle.wire.proofs.Parts.{length_part}
use Rattle.bulk.proofs.Running.{askable, found, in-medium, medium-bytes, delivers}
use Rattle.bulk.proofs.inward.packet_in.Goals as goal

pub ask-requires : goal.ask-requires
ask-requires c = askable _ _ _ c.requires

pub hand_out-requires : goal.hand_out-requires
hand_out-requires c =
    let f = found _ _ _ c.requires _ _ _ _ c.ask.ensures c.in-Packet.is c.in-Medium.is in
    simp c.unit_at-unit.ensures (in-medium _ _ _ c.requires _ _ f.1)

pub hand_out-requires-in-Reply : goal.hand_out-requires-in-Reply
unfolding reply_packet
hand_out-requires-in-Reply c =
    rw (c.as_slice.ensures ∙ (held _ _ c.reply_bytes-packet.ensures (reply-short _ c.in-Reply.reply)).slice) ((found _ _ _ c.requires _ _ _ _ c.ask.ensures c.in-Packet.is c.in-Reply.is).1 _)

pub returns-in-Quiet : goal.returns-in-Quiet
unfolding packet_in deliver
returns-in-Quiet c = λ p. simp (sym c.ask.ensures ∙ c.in-Quiet.is)

pub returns-in-Medium : goal.returns-in-Medium
returns-in-Medium c =
    λ p.
    let w = c.requires in
    let f = found _ _ _ c.requires _ _ _ _ c.ask.ensures c.in-Packet.is c.in-Medium.is in
    simp (c.hand_out.ensures.0, c.hand_out.ensures.1, add-sub_cancel_left, c.unit_at-unit.ensures) (delivers _ _ _ _ _ _ f.0 (medium-bytes _ _ _ w _ p _ _ f.1) (length_part _ _ _ (in-medium _ _ _ w _ _ f.1)))

pub returns-in-Reply : goal.returns-in-Reply
unfolding reply_packet bytes_of
returns-in-Reply c =
    λ p.
    let h = held _ _ c.reply_bytes-packet.ensures (reply-short _ c.in-Reply.reply) in
    let f = found _ _ _ c.requires _ _ _ _ c.ask.ensures c.in-Packet.is c.in-Reply.is in
    simp (c.hand_out-in-Reply.ensures.0, c.hand_out-in-Reply.ensures.1, add-sub_cancel_left, c.as_slice.ensures ∙ h.slice) (delivers _ _ _ _ _ _ f.0 refl (length_part _ _ _ (f.1 _)))

pub returns-in-Status : goal.returns-in-Status
unfolding bytes_of
returns-in-Status c =
    λ p.
    let f = found _ _ _ c.requires _ _ _ _ c.ask.ensures c.in-Packet.is c.in-Status.is in
    simp (c.put.ensures.1, c.csw_bytes.ensures) (delivers _ _ _ _ _ _ f.0 refl (length-csw _))
