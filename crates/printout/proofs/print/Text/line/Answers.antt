-- `line` meets its contract. Assumes nothing.
use mathlib.Core.Path.{◌≡◌, sym, ap, ◌∙◌}
use mathlib.Core.Bool.{Bool, false}
use native.Mathlib.Omega.{arith}
use lib.Dec.{leb}
use lib.ListN.{length}
use borrow.Author.Tests.{le-leb, lt-leb}
use Rattle.wire.specs.Choice.{◌and◌}
use Rattle.wire.proofs.Cases.{and_true, and_false}
use Rattle.printout.specs.Print.{has_room, line}
use Rattle.printout.proofs.Writes.{wrote_length, wrote_more, wrote_kept, wrote_fitting, room-said, numeral-length, answer-length}
use Rattle.printout.proofs.print.Text.line.Goals as goal
use Rattle.printout.proofs.print.Text.line.Goals.{then-not-has_room-via-then-not-has_room, then-not-has_room-via-else-not-has_room+then-lent-gt64}

pub returns-then-not-has_room-clause-wrote : goal.returns-then-not-has_room-clause-wrote
unfolding ◌and◌
returns-then-not-has_room-clause-wrote c =
    let a = c.args in
    let t = a.self.now in
    let none : (has_room t.buffer.now t.at and leb (length a.lent.now) 64) ≡ false =
    elim c.then-not-has_room.branch [
      | then-not-has_room-via-then-not-has_room w ↦ ap (λ (b : Bool). b and leb (length a.lent.now) 64) (sym w.if-not-has_room.ensures)
      | then-not-has_room-via-else-not-has_room+then-lent-gt64 w ↦
          ap (λ (b : Bool). has_room t.buffer.now t.at and b) (lt-leb _ _ w.if-lent-gt64.true) ∙ and_false _
    ] in
    wrote_kept _ _ _ (line a.number a.said a.lent.now) none

pub numeral-requires : goal.numeral-requires
numeral-requires c = omega (arith, room-said _ _ (sym c.if-not-has_room.ensures))

pub append-requires : goal.append-requires
append-requires c =
    let r = room-said _ _ (sym c.if-not-has_room.ensures) in
    let w = c.numeral.ensures.wrote in
    let p = w.place in
    omega (arith, wrote_length _ _ _ _ _ w, numeral-length c.args.number)

pub answer-requires : goal.answer-requires
answer-requires c =
    let r = room-said _ _ (sym c.if-not-has_room.ensures) in
    let w = c.numeral.ensures.wrote in
    let x = c.append.ensures.wrote in
    let p = w.place in
    let q = x.place in
    (omega (arith, wrote_length _ _ _ _ _ w, wrote_length _ _ _ _ _ x, numeral-length c.args.number), c.if-lent-gt64.false)

pub append-requires-2 : goal.append-requires-2
append-requires-2 c =
    let r = room-said _ _ (sym c.if-not-has_room.ensures) in
    let w = c.numeral.ensures.wrote in
    let x = c.append.ensures.wrote in
    let y = c.answer.ensures.wrote in
    let p = w.place in
    let q = x.place in
    let s = y.place in
    let l = answer-length c.args.said c.args.lent.now c.if-lent-gt64.false in
    omega (arith, wrote_length _ _ _ _ _ w, wrote_length _ _ _ _ _ x, wrote_length _ _ _ _ _ y, numeral-length c.args.number)

pub returns-clause-wrote : goal.returns-clause-wrote
unfolding line
returns-clause-wrote c =
    let a = c.args in
    let room = sym c.if-not-has_room.ensures in
    let r = room-said _ _ room in
    let few = c.if-lent-gt64.false in
    let n = numeral-length a.number in
    let l = answer-length a.said a.lent.now few in
    let first = c.numeral.ensures.wrote in
    let second = c.append.ensures.wrote in
    let third = c.answer.ensures.wrote in
    let u = first.place in
    let v = second.place in
    let w = third.place in
    wrote_fitting _ _ _ _ _ _ (and_true _ _ room (le-leb _ _ few))
    (wrote_more _ _ _ _ _ _ _ _ (wrote_more _ _ _ _ _ _ _ _ (wrote_more _ _ _ _ _ _ _ _ first second (omega arith)) third (omega arith)) c.append-2.ensures.wrote (omega arith))
