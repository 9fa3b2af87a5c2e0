-- `turn_reply` meets its contract. Assumes nothing.
use Rattle.cevents.proofs.Options.{was-none, was-some}
use Rattle.cevents.proofs.ShownTurns.{refuses-reply, decoded-reply}
use Rattle.cevents.proofs.show.turn_reply.Goals as goal

pub returns-in_default : goal.returns-in_default
returns-in_default c =
    λ m.
    let a = c.args in
    simp c.refused.ensures (refuses-reply a.held.now a.units.now m a.buffer.now (was-none _ _ _ c.decode.ensures c.in_default.is))

pub returns : goal.returns
returns c =
    λ m.
    let a = c.args in
    let s = was-some _ _ _ c.decode.ensures _ c.in-Some.is in
    decoded-reply a.held.now a.units.now m a.buffer.now _ _ _ s.0 c.from-identity.ensures s.1 _ _ (c.reply_parts.ensures a.held.now.part m) c.from.ensures
