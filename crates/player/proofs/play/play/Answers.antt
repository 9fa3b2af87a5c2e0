-- `play` meets its contract. Assumes nothing.
use mathlib.Core.Path.{◌≡◌, ap, ◌∙◌}
use native.Mathlib.Omega.{arith}
use lib.ListN.{length}
use Rattle.std.proofs.Common.{rules}
use mathlib.Core.List.{[], ◌∷◌}
use Rattle.wire.specs.Slices.{zeros}
use Rattle.machine.specs.declared.record.LogicalUnit.{LogicalUnit}
use Rattle.player.specs.Player.{bench_medium}
use Rattle.player.proofs.Playing.{refuses, cleared, bench_served}
use Rattle.player.proofs.play.play.Goals as goal

pub returns-then-not-is_formed : goal.returns-then-not-is_formed
returns-then-not-is_formed c = refuses _ _ _ _ _ _ _ (search rules) (omega arith) c.malformed.ensures

pub returns : goal.returns
unfolding bench_medium zeros
returns c = cleared _ _ _ _ _ _ _ _ _ _
    (search rules)
    bench_served
    (ap (λ (y : LogicalUnit). y ∷ []) c.part.ensures)
    (c.fill.ensures.after (λ y e. e) ∙ ap zeros (let l : length c.args.medium.now ≡ 32768 = omega arith in l))
    c.played.ensures.leaves
