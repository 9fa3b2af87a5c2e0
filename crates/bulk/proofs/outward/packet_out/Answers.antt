-- `packet_out` meets its contract. Assumes nothing.
use borrow.Author.Tests.{eq-eqb, ne_eqb}
use Rattle.std.proofs.Common.{inl, inr}
use Rattle.wire.specs.Choice.{when◌then◌else◌}
use Rattle.machine.specs.Bulk.{out_stage, packet_out}
use Rattle.bulk.proofs.Running.{writing}
use Rattle.bulk.proofs.outward.packet_out.Goals as goal

pub returns-then-state : goal.returns-then-state
unfolding packet_out out_stage when◌then◌else◌
returns-then-state c = λ i. simp c.if-state.true

pub returns-then-left-eq0 : goal.returns-then-left-eq0
unfolding packet_out out_stage when◌then◌else◌
returns-then-left-eq0 c =
    λ i. simp (c.if-state.false, c.in-DataOut.is, eq-eqb _ _ c.if-left-eq0.true)

pub to_unit-requires : goal.to_unit-requires
to_unit-requires c = writing _ _ _ c.requires _ _ _ c.in-DataOut.is c.if-left-eq0.false

pub on_wrapper-requires : goal.on_wrapper-requires
on_wrapper-requires c = c.requires.laid

pub returns-else-left-eq0 : goal.returns-else-left-eq0
unfolding packet_out out_stage when◌then◌else◌
returns-else-left-eq0 c =
    λ i. simp (c.if-state.false, c.in-DataOut.is, ne_eqb _ _ c.if-left-eq0.false) (c.to_unit.ensures i)

pub returns-in-Ready : goal.returns-in-Ready
unfolding packet_out out_stage when◌then◌else◌
returns-in-Ready c =
    λ i. simp (c.if-state.false, c.in-Ready.is) (c.on_wrapper.ensures i _ _)

pub returns-in-DataIn : goal.returns-in-DataIn
unfolding packet_out out_stage when◌then◌else◌
returns-in-DataIn c = λ i. elim c.in-DataIn.is [
  | inl e ↦ simp (c.if-state.false, e.2)
  | inr e ↦ elim e [ inl f ↦ simp (c.if-state.false, f.3) | inr f ↦ simp (c.if-state.false, f.1) ]
]
