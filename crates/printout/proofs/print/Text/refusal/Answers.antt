-- `refusal` meets its contract. Assumes nothing.
use mathlib.Core.Path.{sym}
use native.Mathlib.Omega.{arith}
use Rattle.printout.specs.Print.{refused_line}
use Rattle.printout.proofs.Writes.{wrote_length, wrote_more, wrote_kept, wrote_fitting, room-said, refused-length}
use Rattle.printout.proofs.print.Text.refusal.Goals as goal

pub returns-then-not-has_room-clause-wrote : goal.returns-then-not-has_room-clause-wrote
returns-then-not-has_room-clause-wrote c = wrote_kept _ _ _ _ (sym c.if-not-has_room.ensures)

pub refused-requires : goal.refused-requires
refused-requires c = omega (arith, room-said _ _ (sym c.if-not-has_room.ensures))

pub append-requires : goal.append-requires
append-requires c =
    let r = room-said _ _ (sym c.if-not-has_room.ensures) in
    let w = c.refused.ensures.wrote in
    let p = w.place in
    omega (arith, wrote_length _ _ _ _ _ w, refused-length c.args.number)

pub returns-clause-wrote : goal.returns-clause-wrote
unfolding refused_line
returns-clause-wrote c =
    let r = room-said _ _ (sym c.if-not-has_room.ensures) in
    let l = refused-length c.args.number in
    let first = c.refused.ensures.wrote in
    let u = first.place in
    wrote_fitting _ _ _ _ _ _ (sym c.if-not-has_room.ensures) (wrote_more _ _ _ _ _ _ _ _ first c.append.ensures.wrote (omega arith))
