-- `quick_show` meets its contract. Assumes nothing.
use mathlib.Core.Path.{sym, ap, ◌∙◌}
use native.Mathlib.Omega.{arith}
use Rattle.std.specs.Prelude.{Some}
use Rattle.wire.proofs.Cases.{both, if-true, if-false}
use Rattle.crecord.specs.declared.record.Flat as flats
use Rattle.crecord.specs.Flat.{rec}
use Rattle.cevents.specs.Quick.{shows_on, quick_shown, quick_left}
use Rattle.cevents.proofs.Due.{reads, reads-due}
use Rattle.cevents.proofs.showing.quick_show.Goals as goal

pub returns-then-not-shows_on-clause-shown : goal.returns-then-not-shows_on-clause-shown
unfolding quick_shown
returns-then-not-shows_on-clause-shown c = sym (if-false _ _ _ (sym c.shows_on.ensures ∙ c.if-not-shows_on.true))

pub returns-then-not-shows_on-clause-left : goal.returns-then-not-shows_on-clause-left
unfolding quick_left
returns-then-not-shows_on-clause-left c = sym (if-false _ _ _ (sym c.shows_on.ensures ∙ c.if-not-shows_on.true))

pub read_on-held-requires : goal.read_on-held-requires
unfolding shows_on
read_on-held-requires c =
    let w = reads _ _ _ _ (both _ _ (sym c.shows_on.ensures ∙ c.if-not-shows_on.false)).1 in
    let d = reads-due _ _ _ _ w in
    let b = c.requires in
    (w.packet, omega (arith, d.due, w.packet), omega (arith, d.within, w.packet))

pub returns-clause-shown : goal.returns-clause-shown
unfolding quick_shown
returns-clause-shown c = ap Some c.shown.ensures ∙ sym (if-true _ _ _ (sym c.shows_on.ensures ∙ c.if-not-shows_on.false))

pub returns-clause-left : goal.returns-clause-left
unfolding quick_left
returns-clause-left c =
    let h = c.args.held.now in
    ap (λ (f : flats.Flat). rec h.given f h.part) c.read_on-held.ensures ∙ sym (if-true _ _ _ (sym c.shows_on.ensures ∙ c.if-not-shows_on.false))
