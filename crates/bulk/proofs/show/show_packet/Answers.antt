-- `show_packet` meets its contract. Assumes nothing.
use mathlib.Core.Path.{sym, ◌∙◌}
use Rattle.machine.specs.Show.{show_from, show_asked}
use Rattle.bulk.proofs.Running.{comes}
use Rattle.bulk.proofs.show.show_packet.Goals as goal

pub ask-requires : goal.ask-requires
ask-requires c = c.requires

pub returns-in-Quiet : goal.returns-in-Quiet
unfolding show_asked
returns-in-Quiet c = λ i p m. simp (sym c.ask.ensures ∙ c.in-Quiet.is, c.nowhere.ensures)

pub returns-in-Medium : goal.returns-in-Medium
unfolding show_asked show_from
returns-in-Medium c = λ i p m. simp (c.unit_at-unit.ensures, comes _ _ _ _ _ c.ask.ensures c.in-Packet.is c.in-Medium.is)

pub returns-in-Reply : goal.returns-in-Reply
unfolding show_asked show_from
returns-in-Reply c = λ i p m. simp (comes _ _ _ _ _ c.ask.ensures c.in-Packet.is c.in-Reply.is)

pub returns-in-Status : goal.returns-in-Status
unfolding show_asked show_from
returns-in-Status c = λ i p m. simp (comes _ _ _ _ _ c.ask.ensures c.in-Packet.is c.in-Status.is, c.nowhere-in-Status.ensures)
