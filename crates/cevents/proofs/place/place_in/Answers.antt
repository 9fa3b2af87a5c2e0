-- `place_in` meets its contract. Assumes nothing.
use mathlib.Core.Path.{sym, ◌∙◌}
use borrow.Author.Tests.{le-ltb, lt-ltb}
use Rattle.wire.specs.Choice.{when◌then◌else◌, ◌and◌}
use Rattle.cevents.specs.Ways.{place_in}
use Rattle.cevents.proofs.place.place_in.Goals.{then-units-lun-via-then-units-lun, then-units-lun-via-else-units-lun+then-not-fits_over}
use Rattle.cevents.proofs.place.place_in.Goals as goal

pub returns-then-units-lun : goal.returns-then-units-lun
unfolding place_in when◌then◌else◌ ◌and◌
returns-then-units-lun c =
    elim c.then-units-lun.branch [
      | then-units-lun-via-then-units-lun w ↦ simp (le-ltb _ _ w.if-units-lun.true)
      | then-units-lun-via-else-units-lun+then-not-fits_over w ↦ simp (lt-ltb _ _ w.if-units-lun.false, sym w.fits_over.ensures ∙ w.if-not-fits_over.true)
    ]

pub returns : goal.returns
unfolding place_in when◌then◌else◌ ◌and◌
returns c = simp (lt-ltb _ _ c.if-units-lun.false, sym c.fits_over.ensures ∙ c.if-not-fits_over.false)
