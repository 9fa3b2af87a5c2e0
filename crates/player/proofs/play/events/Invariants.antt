-- The loop of `events`: what is printed so far, with what is left to play, is the whole. Assumes nothing.
use mathlib.Core.Path.{◌≡◌}
use Rattle.machine.specs.World.{world}
use Rattle.player.proofs.Loop.{Ran}
use Rattle.player.proofs.play.events.Given as goal

abbrev pub invariant-loop-done : goal.invariant-loop-done
invariant-loop-done l =
    record {
      recording : l.head.recording.now ≡ l.input;
      same : l.text.buffer.ghost_name ≡ l.initial.text.buffer.ghost_name;
      ran : Ran l.input l.initial.text.buffer.now l.initial.text.at l.count (world l.initial.device l.initial.units l.initial.medium) (world l.device l.units l.medium) l.text.buffer.now l.text.at l.done l.head.entry l.head.body;
    }
