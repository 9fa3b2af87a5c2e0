-- The two ways between state and numbers undo each other. Proved in proofs/RoundTrip.antt.
use Rattle.std.specs.Prelude.{ℕ, ◌≡◌, true}
use Rattle.scsi.specs.Sense.{IsSense}
use Rattle.scsi.specs.declared.sense.Sense.{Sense}
use Rattle.scsi.specs.declared.reply.Reply.TheVariants as reply
use Rattle.machine.specs.declared.record.Stage.TheVariants.{ReplyIn}
use Rattle.machine.specs.declared.record.State.{State}
use Rattle.crecord.specs.declared.record.Flat as flats
use Rattle.crecord.specs.Flat.{decodes, state_from, flat_of}

-- A reply's sense is of bytes. Every state that a collector reaches is such a one (machine/proofs/Senses.antt).
pub record IsState (s : State) : Type 0 where
  pub sense : (n : Sense) (place left : ℕ) → s.link.task.stage ≡ ReplyIn (reply.Sense n) place left → IsSense n

pub record RoundTrip : Type 0 where
  pub written_decodes : (s : State) → IsState s → decodes (flat_of s) ≡ true
  pub written_is_read : (s : State) → IsState s → state_from (flat_of s) ≡ s
  pub read_is_written : (f : flats.Flat) → decodes f ≡ true → flat_of (state_from f) ≡ f
