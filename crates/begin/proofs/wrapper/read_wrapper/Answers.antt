-- `read_wrapper` meets its contract. Assumes nothing.
use Prim.Native.Nat.{ℕ}
use mathlib.Core.Path.{refl, sym, ap, ◌∙◌}
use mathlib.Core.List.{List}
use native.Mathlib.Omega.{arith}
use lib.ListN.{drop}
use borrow.Author.Tests.{le-leb, lt-leb, le-ltb, lt-ltb}
use Rattle.std.proofs.lemmas.Grind.{common_steps}
use Rattle.std.specs.declared.option.Option.TheVariants.{None, Some}
use Rattle.wire.specs.Choice.{when◌then◌else◌, ◌and◌}
use Rattle.wire.proofs.Lists.{tail_is}
use Rattle.machine.specs.Wrapper.{accepted, plan_for, wrapper, wrapper_of}
use Rattle.scsi.specs.Command.{plan_of}
use Rattle.bot.proofs.Wrappers.{readable_long, read-readable, not-readable}
use Rattle.scsi.specs.declared.command.Plan.{Plan}
use Rattle.machine.specs.declared.record.LogicalUnit.{LogicalUnit}
use Rattle.begin.proofs.wrapper.read_wrapper.Goals.{then-units-header-via-then-units-header, then-units-header-via-else-units-header+then-header-block_length}
use Rattle.begin.proofs.wrapper.read_wrapper.Goals as goal

pub returns-in_err-header : goal.returns-in_err-header
unfolding wrapper_of accepted ◌and◌ when◌then◌else◌
returns-in_err-header c =
    let n = not-readable c.args.packet.now None c.in_err-header.ensures refl in
    grind (arith, common_steps)

pub returns-then-units-header : goal.returns-then-units-header
unfolding wrapper_of accepted ◌and◌ when◌then◌else◌
returns-then-units-header c =
    let t = read-readable c.args.packet.now (Some c.in_ok-header.header) _ c.in_ok-header.ensures refl in
    elim c.then-units-header.branch [
      | then-units-header-via-then-units-header w ↦ simp (t.0, sym t.1, le-ltb _ _ w.if-units-header.true)
      | then-units-header-via-else-units-header+then-header-block_length w ↦ simp (t.0, sym t.1, lt-ltb _ _ w.if-units-header.false, sym w.byte.ensures, sym w.block_length.ensures, lt-leb _ _ w.if-header-block_length.true)
    ]

pub slice_bounds-plan_of-count : goal.slice_bounds-plan_of-count
slice_bounds-plan_of-count c =
    let t = read-readable c.args.packet.now (Some c.in_ok-header.header) _ c.in_ok-header.ensures refl in
    let l = readable_long _ t.0 in omega arith

pub slice_bounds-plan_of-start : goal.slice_bounds-plan_of-start
slice_bounds-plan_of-start c =
    let t = read-readable c.args.packet.now (Some c.in_ok-header.header) _ c.in_ok-header.ensures refl in
    let l = readable_long _ t.0 in omega arith

pub returns : goal.returns
unfolding wrapper_of accepted ◌and◌ when◌then◌else◌
returns c =
    let a = c.args in
    let u = c.unit_at-unit.result in
    let h = c.in_ok-header.header in
    let t = read-readable c.args.packet.now (Some c.in_ok-header.header) _ c.in_ok-header.ensures refl in
    simp (t.0, sym t.1, lt-ltb _ _ c.if-units-header.false, sym c.byte.ensures, sym c.block_length.ensures, le-leb _ _ c.if-header-block_length.false)
    (ap (λ (p : Plan). Some (wrapper h p))
    (c.plan_of-plan.ensures
    ∙ ap (λ (l : List ℕ). plan_of l u.blocks c.is_protected.result) (tail_is 15 a.packet.now)
    ∙ ap (plan_of (drop 15 a.packet.now) u.blocks) c.is_protected.ensures
    ∙ ap (λ (v : LogicalUnit). plan_for v (drop 15 a.packet.now)) c.unit_at-unit.ensures))
