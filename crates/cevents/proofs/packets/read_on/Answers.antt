-- `read_on` meets its contract. Assumes nothing.
use mathlib.Core.Path.{sym, ◌∙◌}
use Rattle.cevents.proofs.Due.{read-last, read_more}
use Rattle.cevents.proofs.packets.read_on.Goals as goal

pub returns-then-flat-eq64 : goal.returns-then-flat-eq64
returns-then-flat-eq64 c = c.moved_on.ensures ∙ sym (read-last c.args.flat c.if-flat-eq64.true)

pub returns : goal.returns
returns c = c.moved_on-2.ensures ∙ sym (read_more c.args.flat c.if-flat-eq64.false)
