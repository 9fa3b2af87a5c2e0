-- `page_of` meets its contract. Assumes nothing.
use mathlib.Core.Path.{sym}
use Rattle.std.specs.Prelude.{None}
use Rattle.wire.specs.Choice.{when◌then◌else◌, look}
use Rattle.wire.proofs.Cases.{look-rest}
use Rattle.scsi.specs.Page.{pages, page_of}
use Rattle.scsi.proofs.page.page_of.Goals as goal

pub returns-in-0 : goal.returns-in-0
unfolding page_of pages look when◌then◌else◌
returns-in-0 c = simp c.in-0.is

pub returns-in-128 : goal.returns-in-128
unfolding page_of pages look when◌then◌else◌
returns-in-128 c = simp c.in-128.is

pub returns-in-131 : goal.returns-in-131
unfolding page_of pages look when◌then◌else◌
returns-in-131 c = simp c.in-131.is

pub returns-in_default : goal.returns-in_default
unfolding page_of pages
returns-in_default c = sym (look-rest _ Unit pages None c.in_default.in_default-own.rest)
