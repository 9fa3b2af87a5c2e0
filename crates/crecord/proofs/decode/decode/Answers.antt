-- `decode` meets its contract. Assumes nothing.
use mathlib.Core.Path.{sym, ap, ◌∙◌}
use Rattle.std.specs.Prelude.{Some}
use Rattle.wire.proofs.Cases.{if-true, if-false}
use Rattle.crecord.proofs.decode.decode.Goals as goal

pub returns-then-decodes : goal.returns-then-decodes
returns-then-decodes c = ap Some c.state_from.ensures ∙ sym (if-true _ _ _ (sym c.decodes.ensures ∙ c.if-decodes.true))

pub returns-else-decodes : goal.returns-else-decodes
returns-else-decodes c = sym (if-false _ _ _ (sym c.decodes.ensures ∙ c.if-decodes.false))
