-- `turn_reset` meets its contract. Assumes nothing.
use Rattle.std.proofs.Common.{rules, refl}
use Rattle.machine.specs.Machine as machine
use Rattle.machine.specs.Machine.{lent}
use Rattle.crecord.specs.Flat.{decodes}
use Rattle.cevents.proofs.Turns.{either, same, ran}
use Rattle.cevents.proofs.turn.turn_reset.Goals as goal

pub returns : goal.returns
unfolding lent
returns c =
    λ m.
    let a = c.args in
    let e = machine.bus_reset in
    either (decodes a.held.now.flat)
    (λ d. let r = c.decoded.ensures.ran d in
    ran a.held.now a.units.now m e r.identity r.state.now r.part.now r.answered r.state'.now _ r.part'.now _ _ _ _ d r.of_given r.of_flat r.of_part r.told r.left (let k = r.ran.met.1 in search (r, k, rules)))
    (λ d. let r = c.decoded.ensures.refused d in same a.held.now a.units.now m e _ _ _ _ _ d r.0 r.1 (search (r, rules)) refl refl)
