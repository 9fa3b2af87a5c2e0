-- `numbers_of` meets its contract. Assumes nothing.
use Prim.Native.Nat.{ℕ}
use mathlib.Core.Path.{◌≡◌, sym, ap, ◌∙◌}
use Rattle.scsi.specs.declared.reply.Reply.{Reply}
use Rattle.bot.specs.declared.csw.Status.{Status}
use Rattle.machine.specs.declared.record.Stage.{Stage}
use Rattle.machine.specs.declared.record.Stage.TheVariants.{ReplyIn, StatusDue}
use Rattle.crecord.specs.Flat.{numbers_of}
use Rattle.crecord.proofs.encode.numbers_of.Goals as goal

-- the numbers of a stage that is known
at_stage : (s g : Stage) → s ≡ g → numbers_of g ≡ numbers_of s
at_stage s g e = ap numbers_of (sym e)

at-reply : (s : Stage) {q r : Reply} {place left : ℕ} → s ≡ ReplyIn q place left → q ≡ r → numbers_of (ReplyIn r place left) ≡ numbers_of s
at-reply s {place = place} {left = left} e f = at_stage s _ (e ∙ ap (λ (x : Reply). ReplyIn x place left) f)

at-status : (s : Stage) {q r : Status} → s ≡ StatusDue q → q ≡ r → numbers_of (StatusDue r) ≡ numbers_of s
at-status s e f = at_stage s _ (e ∙ ap StatusDue f)

pub returns-in-Ready : goal.returns-in-Ready
unfolding numbers_of
returns-in-Ready c = c.numbered.ensures ∙ at_stage _ _ c.in-Ready.is

pub returns-in-DataOut : goal.returns-in-DataOut
unfolding numbers_of
returns-in-DataOut c = c.numbered-in-DataOut.ensures ∙ at_stage _ _ c.in-DataOut.is

pub returns-in-DataIn : goal.returns-in-DataIn
unfolding numbers_of
returns-in-DataIn c = c.numbered-in-DataIn.ensures ∙ at_stage _ _ c.in-DataIn.is

pub returns-in-Sense : goal.returns-in-Sense
unfolding numbers_of
returns-in-Sense c = c.numbered-in-Sense.ensures ∙ simp c.sense_number.ensures (at-reply _ c.in-ReplyIn.is c.in-Sense.is)

pub returns-in-Inquiry : goal.returns-in-Inquiry
unfolding numbers_of
returns-in-Inquiry c = c.numbered-in-Inquiry.ensures ∙ at-reply _ c.in-ReplyIn.is c.in-Inquiry.is

pub returns-in-ModeSense : goal.returns-in-ModeSense
unfolding numbers_of
returns-in-ModeSense c = c.numbered-in-ModeSense.ensures ∙ simp c.worth.ensures (at-reply _ c.in-ReplyIn.is c.in-ModeSense.is)

pub returns-in-Capacity : goal.returns-in-Capacity
unfolding numbers_of
returns-in-Capacity c = c.numbered-in-Capacity.ensures ∙ at-reply _ c.in-ReplyIn.is c.in-Capacity.is

pub returns-in-Page : goal.returns-in-Page
unfolding numbers_of
returns-in-Page c = c.numbered-in-Page.ensures ∙ simp c.page_code.ensures (at-reply _ c.in-ReplyIn.is c.in-Page.is)

pub returns-in-Passed : goal.returns-in-Passed
unfolding numbers_of
returns-in-Passed c = c.numbered-in-Passed.ensures ∙ at-status _ c.in-StatusDue.is c.in-Passed.is

pub returns-in-Failed : goal.returns-in-Failed
unfolding numbers_of
returns-in-Failed c = c.numbered-in-Failed.ensures ∙ at-status _ c.in-StatusDue.is c.in-Failed.is

pub returns-in-PhaseError : goal.returns-in-PhaseError
unfolding numbers_of
returns-in-PhaseError c = c.numbered-in-PhaseError.ensures ∙ at-status _ c.in-StatusDue.is c.in-PhaseError.is
