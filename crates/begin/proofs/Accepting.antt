-- The plan of an accepted wrapper is of blocks in the unit, so it is in range. Assumes nothing.
use Prim.Native.Nat.{ℕ, ◌≤◌}
use mathlib.Core.Path.{◌≡◌, refl, subst}
use mathlib.Core.Bool.{true}
use mathlib.Core.List.{List}
use native.Mathlib.Omega.{arith}
use lib.ListN.{length, drop}
use borrow.Author.Tests.{le-leb}
use Rattle.std.specs.declared.option.Option.{Option}
use Rattle.std.specs.declared.option.Option.TheVariants.{None, Some}
use Rattle.wire.proofs.Cases.{by-if, if-true}
use Rattle.scsi.specs.declared.command.Plan.{Plan}
use Rattle.scsi.specs.declared.command.Plan.TheVariants.{Failed, Nothing, Reply, Read, Write}
use Rattle.scsi.proofs.Plans.{PlanFits, plan-fits}
use Rattle.bot.specs.Cbw.{header_of}
use Rattle.bot.specs.declared.cbw.Header.{Header}
use Rattle.machine.specs.declared.record.State.{State}
use Rattle.machine.specs.declared.wrapper.Wrapper.{Wrapper}
use Rattle.machine.specs.Begin.{begun, begun_unit}
use Rattle.machine.specs.Units.{Table, most_blocks, unit_at, is_protected, laid_out}
use Rattle.machine.specs.Wrapper.{accepted, plan_for, wrapper, wrapper_of}
use Rattle.machine.proofs.Tables.{unit-small}
use Rattle.begin.specs.InRange.{is_in_range, pair, begun_in_range}

in_range_lem : (n : ℕ) (p : Plan) → n ≤ most_blocks → PlanFits n p → is_in_range p ≡ true
unfolding is_in_range
in_range_lem n (Failed s) h f = refl
in_range_lem n Nothing h f = refl
in_range_lem n (Reply k size) h f = refl
in_range_lem n (Read block count) h f = le-leb block most_blocks (omega arith)
in_range_lem n (Write block count) h f = refl

abbrev InRangeWrapper : Option Wrapper → Type 0
InRangeWrapper None = Unit {0}
InRangeWrapper (Some x) = is_in_range x.plan ≡ true

wrapper_in_range : (us : Table) (p : List ℕ) → laid_out us ≡ true → InRangeWrapper (wrapper_of us p)
unfolding wrapper_of
wrapper_in_range us p l =
    let u = unit_at us (header_of p).lun in
    by-if InRangeWrapper (accepted (length us) p) _ _
    (λ _. in_range_lem u.blocks (plan_for u (drop 15 p)) (unit-small us (header_of p).lun l) (plan-fits (drop 15 p) u.blocks (is_protected u)))
    (λ _. tt)

-- in a table that is laid out an accepted wrapper begins its command
pub wrapper_begins : (us : Table) (p : List ℕ) (h : Header) (plan : Plan) (s : State) → laid_out us ≡ true → wrapper_of us p ≡ Some (wrapper h plan)
    → begun_in_range h plan s (unit_at us h.lun) ≡ pair (begun h plan s (unit_at us h.lun)) (begun_unit h plan (unit_at us h.lun))
unfolding begun_in_range
wrapper_begins us p h plan s l e = if-true _ _ _ (subst InRangeWrapper e (wrapper_in_range us p l))
