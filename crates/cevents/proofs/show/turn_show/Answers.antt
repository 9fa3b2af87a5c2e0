-- `turn_show` meets its contract. Assumes nothing.
use mathlib.Core.Path.{ap, ◌∙◌}
use Rattle.wire.proofs.Cases.{if-true, if-false}
use Rattle.crecord.specs.declared.record.Record.{Record}
use Rattle.cevents.specs.Shown.{left_shown, show_on_record}
use Rattle.cevents.specs.Quick.{quick_shown, quick_left}
use Rattle.cevents.proofs.Options.{was-none, was-some}
use Rattle.cevents.proofs.Places.{placed-whole}
use Rattle.cevents.proofs.Ways.{in-medium}
use Rattle.cevents.proofs.Shown.{quick-shows}
use Rattle.cevents.proofs.show.turn_show.Goals.{in-Some+in_default-quick_show, in_default}
use Rattle.cevents.proofs.show.turn_show.Goals as goal

pub quick_show-requires : goal.quick_show-requires
quick_show-requires c =
    let a = c.args in
    let h = a.held.now in
    (in-medium h.given h.flat a.units.now a.medium.now c.in-Some.place (placed-whole _ _ _ _ _ c.place_in.ensures c.in-Some.is)).1

pub returns-in-Some-quick_show : goal.returns-in-Some-quick_show
unfolding quick_shown quick_left
returns-in-Some-quick_show c =
    let a = c.args in
    let h = a.held.now in
    let s = was-some _ _ _ c.quick_show.ensures.shown _ c.in-Some-quick_show.is in
    let l = c.quick_show.ensures.left ∙ if-true _ _ _ s.0 in
    (λ i. left_shown (s.1 i) (l i) a.units.now a.medium.now)
    ∙ quick-shows h.given h.flat a.units.now a.medium.now c.in-Some.place (placed-whole _ _ _ _ _ c.place_in.ensures c.in-Some.is) a.reply.now h.part s.0

pub returns : goal.returns
unfolding quick_shown quick_left
returns c =
    let a = c.args in
    c.any_show.ensures
    ∙ ap (λ (r : Record). show_on_record r a.units.now a.medium.now a.reply.now)
    (elim c.match-place_in.branch [
      | in-Some+in_default-quick_show w ↦ w.held-is ∙ w.quick_show.ensures.left ∙ if-false _ _ _ (was-none _ _ _ w.quick_show.ensures.shown w.in_default-quick_show.is)
      | in_default w ↦ w.held-is
    ])
