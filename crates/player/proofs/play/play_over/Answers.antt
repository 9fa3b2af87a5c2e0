-- `play_over` meets its contract. Assumes nothing.
use native.Mathlib.Omega.{arith}
use Rattle.std.proofs.Common.{rules}
use Rattle.player.proofs.Playing.{refuses, table_refuses}
use Rattle.player.proofs.play.play_over.Goals as goal

pub returns-then-not-is_formed-clause-leaves : goal.returns-then-not-is_formed-clause-leaves
returns-then-not-is_formed-clause-leaves c = refuses _ _ _ _ _ _ _ (search rules) (omega arith) c.malformed.ensures

pub returns-then-not-is_formed-clause-table : goal.returns-then-not-is_formed-clause-table
returns-then-not-is_formed-clause-table c = table_refuses _ _ _ (search rules)
