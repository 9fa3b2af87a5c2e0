-- `turn_in` meets its contract. Assumes nothing.
use mathlib.Core.Path.{◌∙◌}
use Rattle.machine.specs.Machine.{bulk_in}
use Rattle.cevents.specs.Events.{on_record}
use Rattle.cevents.proofs.Places.{placed-whole}
use Rattle.cevents.proofs.Ways.{in-medium}
use Rattle.cevents.proofs.turn.turn_in.Goals.{in-Some+in_default-quick_in, in_default}
use Rattle.cevents.proofs.turn.turn_in.Goals as goal

pub quick_in-requires : goal.quick_in-requires
quick_in-requires c =
    let a = c.args in
    let h = a.held.now in
    in-medium h.given h.flat a.units.now a.medium.now c.in-Some.place (placed-whole _ _ _ _ _ c.place_in.ensures c.in-Some.is)

pub returns-in-Some-quick_in : goal.returns-in-Some-quick_in
returns-in-Some-quick_in c = c.quick_in.ensures.answers _ c.in-Some-quick_in.is c.args.units.now (placed-whole _ _ _ _ _ c.place_in.ensures c.in-Some.is)

pub returns : goal.returns
returns c =
    let a = c.args in
    elim c.match-place_in.branch [
      | in-Some+in_default-quick_in w ↦
          let k = w.quick_in.ensures.keeps w.in_default-quick_in.is in
          c.any_in.ensures ∙ (λ j. on_record ((w.held-is ∙ k.0) j) a.units.now a.medium.now (bulk_in ((w.buffer-is ∙ k.1) j)))
      | in_default w ↦ c.any_in.ensures ∙ (λ j. on_record (w.held-is j) a.units.now a.medium.now (bulk_in (w.buffer-is j)))
    ]
