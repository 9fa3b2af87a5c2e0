-- `Hex`'s display writes what it states. Assumes nothing.
use Rattle.std.proofs.Common.{rules, refl, ap, ◌∙◌, arith, ◌<◌, length, ◌++◌, take}
use Rattle.std.proofs.Output.{has_written_append, has_written_of_eq}
use Rattle.printout.specs.Print.{hexes}
use Rattle.printout.proofs.Writes.{hexes-step}
use Rattle.hexprint.proofs.HexDisplay.fmt.Goals as goal

pub loop-b-init : goal.loop-b-init
unfolding hexes
loop-b-init g c = search rules

pub loop-b-preserved : goal.loop-b-preserved
loop-b-preserved g c p =
    let s = c.args.self.now.0.now in
    let i = c.loop-b.b-index in
    let lt : i < length s = omega arith in
    has_written_of_eq _ _ _ _ _
    (ap (λ t. hexes (take i s) ++ t) (c.in-Ok.ensures.cases.0 ∙ c.hex-text.ensures) ∙ hexes-step s i _ _ lt refl refl)
    (has_written_append _ _ _ _ _ _ (c.loop-b.invariant p) (search rules))
