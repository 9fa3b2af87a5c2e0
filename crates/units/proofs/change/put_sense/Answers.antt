-- `put_sense` meets its contract: a unit that has the sense already is the same. Assumes nothing.
use mathlib.Core.Path.{◌≡◌}
use mathlib.Core.Bool.{false, not, ◌&&◌}
use native.Mathlib.Omega.{arith}
use lib.Dec.{eqb}
use Rattle.std.proofs.lemmas.Bool.Decides.{nat_tests}
use Rattle.scsi.specs.declared.sense.Sense.{Sense}
use Rattle.machine.specs.Units.{unit, with_sense}
use Rattle.units.proofs.change.put_sense.Goals as goal

-- what the library's test says of two senses
same : (a b : Sense) → false ≡ not (eqb a.key b.key && (eqb a.asc b.asc && (eqb a.ascq b.ascq && eqb a.information b.information))) → a ≡ b
same a b e = λ i. record { key = key i; asc = asc i; ascq = ascq i; information = information i }
  where
    key : a.key ≡ b.key
    key = grind (arith, nat_tests)

    asc : a.asc ≡ b.asc
    asc = grind (arith, nat_tests)

    ascq : a.ascq ≡ b.ascq
    ascq = grind (arith, nat_tests)

    information : a.information ≡ b.information
    information = grind (arith, nat_tests)

pub returns-else-ne : goal.returns-else-ne
unfolding with_sense
returns-else-ne c = let u = c.args.unit.now in let e = same u.sense c.args.sense c.if-ne.ensures in λ i. unit u.first u.blocks (e i) u.switch
