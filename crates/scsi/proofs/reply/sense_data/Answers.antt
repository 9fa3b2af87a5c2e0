-- `sense_data` meets its contract. Assumes nothing.
use mathlib.Core.Path.{sym, ◌∙◌}
use Rattle.wire.proofs.Cases.{if-true, if-false}
use Rattle.scsi.specs.Reply.{sense_data}
use Rattle.scsi.proofs.reply.sense_data.Goals as goal

pub returns-then-is_out_of_range : goal.returns-then-is_out_of_range
unfolding sense_data
returns-then-is_out_of_range c = c.fixed_format.ensures ∙ sym (if-true _ _ _ (sym c.is_out_of_range.ensures ∙ c.if-is_out_of_range.true))

pub returns-else-is_out_of_range : goal.returns-else-is_out_of_range
unfolding sense_data
returns-else-is_out_of_range c =
    c.fixed_format-else-is_out_of_range.ensures ∙ sym (if-false _ _ _ (sym c.is_out_of_range.ensures ∙ c.if-is_out_of_range.false))
