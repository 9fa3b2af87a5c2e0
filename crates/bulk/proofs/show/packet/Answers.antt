-- `packet` meets its contract. Assumes nothing.
use Rattle.machine.specs.Show.{bytes_shown}
use Rattle.bulk.proofs.show.packet.Goals as goal

pub returns-in-Nowhere : goal.returns-in-Nowhere
unfolding bytes_shown
returns-in-Nowhere c = simp c.in-Nowhere.is

pub returns-in-Medium : goal.returns-in-Medium
unfolding bytes_shown
returns-in-Medium c = simp (c.part.ensures, c.in-Medium.is)

pub returns-in-Reply : goal.returns-in-Reply
unfolding bytes_shown
returns-in-Reply c = simp (c.part-in-Reply.ensures, c.in-Reply.is)
