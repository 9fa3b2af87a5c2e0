-- What is claimed of the player. Proved in proofs/Room.antt.
use Rattle.std.specs.Prelude.{ℕ, ◌≤◌, List, length}
use Rattle.machine.specs.Units.{Table}
use Rattle.player.specs.Player.{printed_over, most_text}

-- The text's buffer always suffices, over every table and medium.
abbrev pub TextFits : Type 0
TextFits = (us : Table) (start s : List ℕ) → length (printed_over us start s) ≤ most_text
