-- What one event of a recording leaves, printed: what the inner functions' contracts cite.
use Rattle.std.specs.Prelude.{ℕ, ◌+◌, ◌≤◌, ◌≡◌, List}
use Rattle.machine.specs.World.{World, Out}
use Rattle.printout.specs.Writing.{Wrote}
use Rattle.printout.specs.Print.{line}

-- The machine's outcome o is left in a world, and its line was written from a place on.
pub record Turned (o : Out) (number : ℕ) (before : List ℕ) (at : ℕ) (after : List ℕ) (end : ℕ) (left : World) : Type 0 where
  pub world : left ≡ o.world
  pub text : Wrote before at (line number o.answer o.buffer) after end
  pub room : end ≤ at + 207
