-- `decodes` meets its contract. Assumes nothing.
use borrow.Author.Tests.{le-leb, lt-leb}
use Rattle.wire.specs.Choice.{◌and◌}
use Rattle.crecord.specs.Flat.{decodes}
use Rattle.crecord.proofs.decode.decodes.Goals as goal

pub returns-then-unknown : goal.returns-then-unknown
unfolding decodes ◌and◌
returns-then-unknown c = simp (lt-leb _ _ c.if-unknown.true)

pub returns : goal.returns
unfolding decodes ◌and◌
returns c = simp (le-leb _ _ c.if-unknown.false) c.stage_decodes.ensures
