-- `plan_of` meets its contract: an arm's function is that of the table's row. Assumes nothing.
use Prim.Native.Nat.{ℕ}
use mathlib.Core.Path.{◌≡◌, sym, ap, ◌∙◌}
use mathlib.Core.Bool.{Bool, false, not}
use mathlib.Core.List.{List}
use borrow.Author.Tests.{not-true, not-false}
use Rattle.wire.specs.Choice.{when◌then◌else◌, look}
use Rattle.wire.specs.Slices.{byte_at}
use Rattle.wire.proofs.Cases.{if-true, look-rest}
use Rattle.scsi.specs.Command.{command_of, commands, unknown, plan_by, control_clear, plan_of}
use Rattle.scsi.proofs.command.plan_of.Goals as goal

-- the plan of a block whose control byte is clear and whose code is known
at_code : (k x n : ℕ) (p : Bool) (b : List ℕ) (r : Bool) → r ≡ control_clear b → not r ≡ false → x ≡ byte_at b 0 → x ≡ k → plan_by (command_of k) n p b ≡ plan_of b n p
unfolding plan_of
at_code k x n p b r e f g h = ap (λ (j : ℕ). plan_by (command_of j) n p b) (sym h ∙ g) ∙ sym (if-true (control_clear b) _ _ (sym e ∙ not-false r f))

pub returns-then-not-is_control_clear : goal.returns-then-not-is_control_clear
unfolding plan_of when◌then◌else◌
returns-then-not-is_control_clear c = simp (sym c.is_control_clear.ensures ∙ not-true _ c.if-not-is_control_clear.true-raw)

pub returns-in-0 : goal.returns-in-0
unfolding plan_by command_of look commands when◌then◌else◌
returns-in-0 c = at_code 0x00 _ _ _ _ _ c.is_control_clear.ensures c.if-not-is_control_clear.false-raw c.byte.ensures c.in-0.is

pub returns-in-3 : goal.returns-in-3
unfolding command_of look commands when◌then◌else◌
returns-in-3 c = c.request_sense.ensures _ _ ∙ at_code 0x03 _ _ _ _ _ c.is_control_clear.ensures c.if-not-is_control_clear.false-raw c.byte.ensures c.in-3.is

pub returns-in-18 : goal.returns-in-18
unfolding command_of look commands when◌then◌else◌
returns-in-18 c = c.inquiry.ensures _ _ ∙ at_code 0x12 _ _ _ _ _ c.is_control_clear.ensures c.if-not-is_control_clear.false-raw c.byte.ensures c.in-18.is

pub returns-in-26 : goal.returns-in-26
unfolding command_of look commands when◌then◌else◌
returns-in-26 c = c.mode_sense.ensures _ _ ∙ at_code 0x1A _ _ _ _ _ c.is_control_clear.ensures c.if-not-is_control_clear.false-raw c.byte.ensures c.in-26.is

pub returns-in-30 : goal.returns-in-30
unfolding command_of look commands when◌then◌else◌
returns-in-30 c = c.prevent_allow.ensures _ _ ∙ at_code 0x1E _ _ _ _ _ c.is_control_clear.ensures c.if-not-is_control_clear.false-raw c.byte.ensures c.in-30.is

pub returns-in-37 : goal.returns-in-37
unfolding plan_by command_of look commands when◌then◌else◌
returns-in-37 c = at_code 0x25 _ _ _ _ _ c.is_control_clear.ensures c.if-not-is_control_clear.false-raw c.byte.ensures c.in-37.is

pub returns-in-40 : goal.returns-in-40
unfolding command_of look commands when◌then◌else◌
returns-in-40 c = c.read10.ensures _ ∙ at_code 0x28 _ _ _ _ _ c.is_control_clear.ensures c.if-not-is_control_clear.false-raw c.byte.ensures c.in-40.is

pub returns-in-42 : goal.returns-in-42
unfolding command_of look commands when◌then◌else◌
returns-in-42 c = c.write10.ensures ∙ at_code 0x2A _ _ _ _ _ c.is_control_clear.ensures c.if-not-is_control_clear.false-raw c.byte.ensures c.in-42.is

pub returns-in-47 : goal.returns-in-47
unfolding command_of look commands when◌then◌else◌
returns-in-47 c = c.verify10.ensures _ ∙ at_code 0x2F _ _ _ _ _ c.is_control_clear.ensures c.if-not-is_control_clear.false-raw c.byte.ensures c.in-47.is

pub returns-in_default : goal.returns-in_default
unfolding plan_of plan_by command_of commands when◌then◌else◌
returns-in_default c =
    simp (
      sym c.is_control_clear.ensures ∙ not-false _ c.if-not-is_control_clear.false-raw,
      sym c.byte.ensures,
      look-rest c.byte.result Unit commands unknown c.in_default.in_default-own.rest,
    )
