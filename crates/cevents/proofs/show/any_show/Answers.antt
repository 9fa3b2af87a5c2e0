-- `any_show` meets its contract. Assumes nothing.
use Rattle.cevents.proofs.Options.{was-none, was-some}
use Rattle.cevents.proofs.ShownTurns.{refuses-show, decoded-show}
use Rattle.cevents.proofs.show.any_show.Goals as goal

pub returns-in_default : goal.returns-in_default
returns-in_default c =
    let a = c.args in
    simp c.shown.ensures (refuses-show a.held.now a.units.now a.medium.now a.reply.now (was-none _ _ _ c.decode.ensures c.in_default.is))

pub returns : goal.returns
returns c =
    let a = c.args in
    let s = was-some _ _ _ c.decode.ensures _ c.in-Some.is in
    decoded-show a.held.now a.units.now a.medium.now a.reply.now _ _ _ s.0 c.from-identity.ensures s.1 _ _ _ _ (c.show_parts-left.ensures a.held.now.part) c.shown-2.ensures c.from-held.ensures
