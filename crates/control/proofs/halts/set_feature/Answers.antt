-- `set_feature` meets its contract. Assumes nothing.
use Prim.Native.Nat.{ℕ}
use mathlib.Core.Path.{◌≡◌, sym, ◌∙◌}
use mathlib.Core.Bool.{Bool, true, false}
use mathlib.Core.List.{List}
use Rattle.wire.specs.Choice.{when◌then◌else◌}
use Rattle.machine.specs.declared.answer.Answer.TheVariants.{Ack}
use Rattle.machine.specs.declared.record.State.{State}
use Rattle.machine.specs.World.{World, in_state, out}
use Rattle.machine.specs.Control.{needs_configured, halt_in, halt_out, clear_halt, set_halt}
use Rattle.control.proofs.halts.set_feature.Goals as goal

-- at a bulk pipe, setting and clearing differ in the halt alone
at_pipe : (f : Bool → State → State) (on : Bool) (w : World) (b : List ℕ) (s : State) → s ≡ f on w.dev.state → needs_configured w b (out Ack (in_state w s) b) ≡ when on then needs_configured w b (out Ack (in_state w (f true w.dev.state)) b) else needs_configured w b (out Ack (in_state w (f false w.dev.state)) b)
unfolding when◌then◌else◌
at_pipe f true w b s e = simp e
at_pipe f false w b s e = simp e

pub returns-then-on : goal.returns-then-on
unfolding when◌then◌else◌ set_halt
returns-then-on c = λ w b. simp (c.if-on.true, c.in-Control.is)

pub returns-else-on : goal.returns-else-on
unfolding when◌then◌else◌ clear_halt
returns-else-on c = λ w b. simp (c.if-on.false, c.in-Control.is)

pub returns-in-BulkIn : goal.returns-in-BulkIn
unfolding set_halt clear_halt halt_in
returns-in-BulkIn c =
    λ w b. simp c.in-BulkIn.is (c.acked.ensures w b ∙ at_pipe halt_in _ _ b _ (simp (sym c.halt-halted.ensures) c.with_halts.ensures))

pub returns-in-BulkOut : goal.returns-in-BulkOut
unfolding set_halt clear_halt halt_out
returns-in-BulkOut c =
    λ w b. simp c.in-BulkOut.is (c.acked-in-BulkOut.ensures w b ∙ at_pipe halt_out _ _ b _ (simp (sym c.halt-halted.ensures) c.with_halts-in-BulkOut.ensures))
