-- `play_one` meets its contract. Assumes nothing.
use mathlib.Core.Path.{◌∙◌}
use native.Mathlib.Omega.{arith}
use Rattle.wire.specs.Slices.{zeros}
use Rattle.machine.specs.World.{world}
use Rattle.machine.specs.Machine.{step, told, set_switch}
use Rattle.recording.specs.Format.{event_of}
use Rattle.player.proofs.Answers.{turned, turned_as}
use Rattle.player.proofs.turns.play_one.Goals as goal

pub returns-in-Reset-clause-turned : goal.returns-in-Reset-clause-turned
unfolding event_of
returns-in-Reset-clause-turned c = turned_as _ _ _ _ _ _ _ _ _ _ c.in-Reset.is (turned _ _ _ _ _ _ _ _ _ (c.reset_parts-answer.ensures _) (omega arith) c.requires c.line.ensures.wrote)

pub returns-in-Control-clause-turned : goal.returns-in-Control-clause-turned
unfolding event_of zeros
returns-in-Control-clause-turned c = turned_as _ _ _ _ _ _ _ _ _ _ c.in-Control.is (turned _ _ _ _ _ _ _ _ _ (c.control_parts-answer.ensures _) (omega arith) c.requires c.line-in-Control.ensures.wrote)

pub returns-in-Out-clause-turned : goal.returns-in-Out-clause-turned
unfolding event_of
returns-in-Out-clause-turned c = turned_as _ _ _ _ _ _ _ _ _ _ c.in-Out.is (turned _ _ _ _ _ _ _ _ _ (c.out_parts-answer.ensures) (omega arith) c.requires c.line-in-Out.ensures.wrote)

pub returns-in-Ask-clause-turned : goal.returns-in-Ask-clause-turned
unfolding event_of zeros
returns-in-Ask-clause-turned c = turned_as _ _ _ _ _ _ _ _ _ _ c.in-Ask.is (turned _ _ _ _ _ _ _ _ _ (c.in_parts-answer.ensures _) (omega arith) c.requires c.line-in-Ask.ensures.wrote)

pub returns-in-Switch-clause-turned : goal.returns-in-Switch-clause-turned
unfolding event_of
returns-in-Switch-clause-turned c =
    let a = c.args in
    let said = c.switch_parts-answer.ensures _ _ ∙ (λ i. told (step (world a.device.now a.units.now a.medium.now) (set_switch (c.byte.ensures i) (c.byte-in-Switch.ensures i)))) in
    turned_as _ _ _ _ _ _ _ _ _ _ c.in-Switch.is (turned _ _ _ _ _ _ _ _ _ said (omega arith) c.requires c.line-in-Switch.ensures.wrote)
