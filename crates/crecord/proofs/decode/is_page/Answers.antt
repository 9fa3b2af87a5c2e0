-- `is_page` meets its contract. Assumes nothing.
use mathlib.Core.Path.{sym, ap, ◌∙◌}
use lib.Dec.{eqb}
use Rattle.wire.specs.Choice.{◌and◌}
use Rattle.std.specs.Prelude.{Option}
use Rattle.scsi.specs.declared.page.Page.{Page}
use Rattle.crecord.specs.Flat.{is_found, is_page}
use Rattle.crecord.proofs.decode.is_page.Goals as goal

pub returns-in-None : goal.returns-in-None
unfolding is_page ◌and◌
returns-in-None c = sym (ap (λ (x : Option Page). is_found x and eqb c.args.extra 0) (sym c.page_of.ensures ∙ c.in-None.is))

pub returns-in-Some : goal.returns-in-Some
unfolding is_page ◌and◌
returns-in-Some c = sym (ap (λ (x : Option Page). is_found x and eqb c.args.extra 0) (sym c.page_of.ensures ∙ c.in-Some.is))
