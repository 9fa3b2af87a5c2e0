-- The loop of `entries_formed`: what is left to look at decides.
use Prim.Native.Nat.{◌+◌, ◌*◌, ◌-◌}
use mathlib.Core.Path.{◌≡◌}
use lib.ListN.{drop}
use Rattle.recording.specs.Format.{formed}
use Rattle.recording.proofs.Cursors.{Place}
use Rattle.recording.proofs.format.entries_formed.Given as goal

abbrev pub invariant-loop : goal.invariant-loop
invariant-loop l =
    record {
      same : l.head.recording.now ≡ l.s;
      place : Place l.s (l.count - l.counter) l.head.entry l.head.body;
      left : formed l.units l.count (drop 2 l.s) (drop (2 + 4 * l.count) l.s) ≡ formed l.units (l.count - l.counter) (drop l.head.entry l.s) (drop l.head.body l.s);
    }
