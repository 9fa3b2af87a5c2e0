-- `played` meets its contract. Assumes nothing.
use mathlib.Core.Path.{ap, ◌∙◌}
use Prim.Native.Nat.{ℕ}
use native.Mathlib.Omega.{arith}
use Rattle.recording.specs.Format.{is_formed}
use Rattle.recording.proofs.Parses.{sound}
use Rattle.printout.proofs.Writes.{wrote_length}
use Rattle.player.proofs.Playing.{front_fits, plays, misfits, table_misfits, table_plays, counted, heading-length}
use Rattle.player.proofs.play.played.Goals as goal

pub returns-in-Err-clause-leaves : goal.returns-in-Err-clause-leaves
returns-in-Err-clause-leaves c =
    misfits _ _ _ _ _ _ _ _ _ _ c.requires c.in-Err.ensures c.number-number.ensures (omega arith)
    (front_fits _ _ _ _ _ _ c.new-text.ensures.held c.new-text.ensures.at (omega arith) c.refusal.ensures.wrote)

pub events-requires : goal.events-requires
events-requires c =
    let m = c.in-Ok.ensures in
    let w = sound _ _ _ (ap (λ (k : ℕ). is_formed k c.args.input.now) (counted _ _ _ _ m) ∙ c.requires) c.count_of-count.ensures in
    let h = front_fits _ _ _ _ _ _ c.new-text.ensures.held c.new-text.ensures.at (omega arith) c.heading.ensures.wrote in
    let p = h.place in
    let k = wrote_length _ _ _ _ _ h in
    let l = heading-length c.count_of-count.result in
    let few = w.few in
    (w.few, w.room, omega arith, w.good)

pub returns-clause-leaves : goal.returns-clause-leaves
returns-clause-leaves c =
    let e = c.events.ensures in
    let m = c.in-Ok.ensures in
    let h = front_fits _ _ _ _ _ _ c.new-text.ensures.held c.new-text.ensures.at (omega arith) c.heading.ensures.wrote in
    let k = wrote_length _ _ _ _ _ h in
    let within = e.within in
    plays _ _ _ _ _ _ _ _ _ _ _ _ c.requires m c.count_of-count.ensures h e.wrote e.left (omega arith)

pub returns-in-Err-clause-left : goal.returns-in-Err-clause-left
returns-in-Err-clause-left c = table_misfits _ _ _ _ _ c.requires c.in-Err.ensures

pub returns-clause-left : goal.returns-clause-left
returns-clause-left c = table_plays _ _ _ _ _ _ _ c.requires c.in-Ok.ensures c.count_of-count.ensures c.events.ensures.left
