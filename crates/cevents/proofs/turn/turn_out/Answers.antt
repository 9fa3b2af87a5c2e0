-- `turn_out` meets its contract. Assumes nothing.
use mathlib.Core.Path.{◌∙◌}
use Rattle.machine.specs.Machine.{bulk_out}
use Rattle.cevents.specs.Events.{on_record}
use Rattle.cevents.proofs.Places.{placed-whole}
use Rattle.cevents.proofs.Ways.{in-medium}
use Rattle.cevents.proofs.turn.turn_out.Goals.{in-Some+in_default-quick_out, in_default}
use Rattle.cevents.proofs.turn.turn_out.Goals as goal

pub quick_out-requires : goal.quick_out-requires
quick_out-requires c =
    let a = c.args in
    let h = a.held.now in
    in-medium h.given h.flat a.units.now a.medium.now c.in-Some.place (placed-whole _ _ _ _ _ c.place_in.ensures c.in-Some.is)

pub returns-in-Some-quick_out : goal.returns-in-Some-quick_out
returns-in-Some-quick_out c = c.quick_out.ensures.answers _ c.in-Some-quick_out.is c.args.units.now (placed-whole _ _ _ _ _ c.place_in.ensures c.in-Some.is)

pub returns : goal.returns
returns c =
    let a = c.args in
    elim c.match-place_in.branch [
      | in-Some+in_default-quick_out w ↦
          let k = w.quick_out.ensures.keeps w.in_default-quick_out.is in
          c.any_out.ensures ∙ (λ j. on_record ((w.held-is ∙ k.0) j) a.units.now ((w.medium-is ∙ k.1) j) (bulk_out a.packet.now))
      | in_default w ↦ c.any_out.ensures ∙ (λ j. on_record (w.held-is j) a.units.now (w.medium-is j) (bulk_out a.packet.now))
    ]
