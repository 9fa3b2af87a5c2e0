-- The loop of `hexes`: the bytes so far stand.
use mathlib.Core.Path.{◌≡◌}
use lib.ListN.{take}
use Rattle.printout.specs.Writing.{Wrote}
use Rattle.printout.specs.Print.{hexes}
use Rattle.printout.proofs.print.Text.hexes.Given as goal

abbrev pub invariant-loop-x : goal.invariant-loop-x
invariant-loop-x l =
    record {
      same : l.self.buffer.ghost_name ≡ l.initial.self.buffer.ghost_name;
      wrote : Wrote l.initial.self.buffer.now l.initial.self.at (hexes (take l.x-index l.s)) l.self.buffer.now l.self.at;
    }
