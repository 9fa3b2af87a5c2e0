-- `page_stage` meets its contract. Assumes nothing.
use Prim.Native.Nat.{ℕ}
use mathlib.Core.Path.{◌≡◌, sym, ap, ◌∙◌}
use Rattle.std.specs.Prelude.{Option}
use Rattle.scsi.specs.declared.page.Page.{Page}
use Rattle.crecord.specs.Flat.{page_stage}
use Rattle.crecord.proofs.decode.page_stage.Goals as goal

-- the stage of what was found
at-page : (r x y : Option Page) (place left : ℕ) → r ≡ y → r ≡ x → page_stage x place left ≡ page_stage y place left
at-page r x y place left e f = ap (λ (z : Option Page). page_stage z place left) (sym f ∙ e)

pub returns-in-None : goal.returns-in-None
returns-in-None c = at-page _ _ _ _ _ c.page_of.ensures c.in-None.is

pub returns-in-Some : goal.returns-in-Some
returns-in-Some c = at-page _ _ _ _ _ c.page_of.ensures c.in-Some.is
