-- `heading` meets its contract. Assumes nothing.
use mathlib.Core.Path.{sym}
use native.Mathlib.Omega.{arith}
use Rattle.printout.specs.Print.{heading}
use Rattle.printout.proofs.Writes.{wrote_length, wrote_more, wrote_kept, wrote_fitting, room-said, numeral-length}
use Rattle.printout.proofs.print.Text.heading.Goals as goal

pub returns-then-not-has_room-clause-wrote : goal.returns-then-not-has_room-clause-wrote
returns-then-not-has_room-clause-wrote c = wrote_kept _ _ _ _ (sym c.if-not-has_room.ensures)

pub append-requires : goal.append-requires
append-requires c = omega (arith, room-said _ _ (sym c.if-not-has_room.ensures))

pub numeral-requires : goal.numeral-requires
numeral-requires c =
    let r = room-said _ _ (sym c.if-not-has_room.ensures) in
    let w = c.append.ensures.wrote in
    let p = w.place in
    omega (arith, wrote_length _ _ _ _ _ w)

pub append-requires-2 : goal.append-requires-2
append-requires-2 c =
    let r = room-said _ _ (sym c.if-not-has_room.ensures) in
    let w = c.append.ensures.wrote in
    let x = c.numeral.ensures.wrote in
    let p = w.place in
    let q = x.place in
    omega (arith, wrote_length _ _ _ _ _ w, wrote_length _ _ _ _ _ x, numeral-length c.args.count)

pub returns-clause-wrote : goal.returns-clause-wrote
unfolding heading
returns-clause-wrote c =
    let r = room-said _ _ (sym c.if-not-has_room.ensures) in
    let l = numeral-length c.args.count in
    let first = c.append.ensures.wrote in
    let second = c.numeral.ensures.wrote in
    let u = first.place in
    let v = second.place in
    wrote_fitting _ _ _ _ _ _ (sym c.if-not-has_room.ensures)
    (wrote_more _ _ _ _ _ _ _ _ (wrote_more _ _ _ _ _ _ _ _ first second (omega arith)) c.append-2.ensures.wrote (omega arith))
