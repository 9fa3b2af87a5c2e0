-- `ask` meets its contract. Assumes nothing.
use native.Mathlib.Omega.{arith}
use Rattle.std.proofs.Common.{inl, inr}
use Rattle.wire.specs.Choice.{when◌then◌else◌}
use Rattle.machine.specs.Bulk.{ask_stage, ask}
use Rattle.bulk.proofs.ask.ask.Goals as goal

pub returns-then-state : goal.returns-then-state
unfolding ask ask_stage when◌then◌else◌
returns-then-state c = simp c.if-state.true

pub overflow_add-more : goal.overflow_add-more
overflow_add-more c = let a = (c.requires.medium _ _ c.in-DataIn.is).within in record { fits = omega arith }

pub next_packet-requires : goal.next_packet-requires
next_packet-requires c = (c.requires.medium _ _ c.in-DataIn.is).due

pub overflow_add-more-in-ReplyIn : goal.overflow_add-more-in-ReplyIn
overflow_add-more-in-ReplyIn c = let a = (c.requires.reply _ _ _ c.in-ReplyIn.is).within in record { fits = omega arith }

pub next_packet-requires-in-ReplyIn : goal.next_packet-requires-in-ReplyIn
next_packet-requires-in-ReplyIn c = (c.requires.reply _ _ _ c.in-ReplyIn.is).due

pub returns-in-DataIn : goal.returns-in-DataIn
unfolding ask ask_stage when◌then◌else◌
returns-in-DataIn c = simp (c.if-state.false, c.in-DataIn.is, c.next_packet.ensures, c.packet_size-count.ensures, c.rest.ensures)

pub returns-in-ReplyIn : goal.returns-in-ReplyIn
unfolding ask ask_stage when◌then◌else◌
returns-in-ReplyIn c =
    simp (c.if-state.false, c.in-ReplyIn.is, c.next_packet-in-ReplyIn.ensures, c.packet_size-count-in-ReplyIn.ensures, c.rest-in-ReplyIn.ensures)

pub returns-in-StatusDue : goal.returns-in-StatusDue
unfolding ask ask_stage when◌then◌else◌
returns-in-StatusDue c = simp (c.if-state.false, c.in-StatusDue.is, c.after_status.ensures)

pub returns-in-Ready : goal.returns-in-Ready
unfolding ask ask_stage when◌then◌else◌
returns-in-Ready c = elim c.in-Ready.is [ inl e ↦ simp (c.if-state.false, e) | inr e ↦ simp (c.if-state.false, e.3) ]
