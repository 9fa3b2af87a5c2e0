-- Every block outside the addressed unit keeps its bytes, whatever is lent. Assumes nothing.
use Prim.Native.Nat.{ℕ}
use mathlib.Core.Path.{◌≡◌, refl, sym, ap, ◌∙◌}
use mathlib.Core.Bool.{false, true≢false}
use mathlib.Core.List.{List, []}
use lib.Dec.{eqb}
use lib.ListN.{length}
use borrow.Author.Tests.{eq-eqb}
use Rattle.std.specs.declared.option.Option.{Option}
use Rattle.std.specs.declared.option.Option.TheVariants.{None, Some}
use Rattle.wire.specs.Choice.{◌and◌}
use Rattle.wire.specs.Slices.{placed}
use Rattle.wire.proofs.Cases.{by-if}
use Rattle.wire.proofs.Lists.{length-placed}
use Rattle.usb.specs.Request.{request_of}
use Rattle.usb.specs.declared.request.Request.{Request}
use Rattle.machine.specs.declared.record.LogicalUnit.{LogicalUnit}
use Rattle.machine.specs.declared.record.Stage.{Stage}
use Rattle.machine.specs.declared.record.Stage.TheVariants.{Ready, DataOut, DataIn, ReplyIn, StatusDue}
use Rattle.machine.specs.declared.record.Device.{Device}
use Rattle.machine.specs.declared.wrapper.Wrapper.{Wrapper}
use Rattle.machine.specs.declared.ask.Asked.{Asked}
use Rattle.machine.specs.declared.ask.Asked.TheVariants.{Quiet, Packet}
use Rattle.machine.specs.Units.{unit_at, part_of}
use Rattle.machine.specs.World.{World, dropped, Out, UnitOut, in_unit}
use Rattle.machine.specs.Wrapper.{wrapper_of}
use Rattle.machine.specs.Control.{reset}
use Rattle.machine.specs.Bulk.{on_wrapper, on_data, out_stage, packet_out, ask, deliver, packet_in}
use Rattle.machine.specs.Machine.{Event, bus_reset, control, bulk_out, bulk_in, set_switch, effect}
use Rattle.machine.specs.Isolation.{is_write, writes_to, OutsideKept}
use Rattle.machine.proofs.Judge.{Passed, judge, fit_passed, out-medium}
use Rattle.machine.proofs.Requests.{Did, stalls, sends, acks, halts, addresses, configures, resets, performs}
use Rattle.machine.proofs.Fit.{fit_of, writes}
use Rattle.machine.proofs.Apart.{length-own, others}

-- a packet of data leaves its unit's part as long as it was
data_size : (block left held : ℕ) (p : List ℕ) (d : Device) (u : LogicalUnit) (m : List ℕ) → length (on_data block left held p d u m).medium ≡ length m
unfolding on_data
data_size block left held p d u m =
    by-if Long _ _ _ (λ _. by-if Long _ _ _ (λ _. refl) (λ _. length-placed m _ (placed d.part held p))) (λ _. refl)
  where
    Long : UnitOut → Type 0
    Long r = length r.medium ≡ length m

-- ---- the others leave the medium as it was

requests : (w : World) (b : List ℕ) (q : Request) (o : Out) → Did w b q o → o.world.medium ≡ w.medium
unfolding dropped
requests w b q o stalls = refl
requests w b q o (sends x n) = refl
requests w b q o (acks m) = refl
requests w b q o (halts hi ho m c k) = refl
requests w b q o (addresses a c) = refl
requests w b q o (configures v) = refl
requests w b q o (resets c) = refl

asks : (w : World) (b : List ℕ) (a : Asked) → (deliver a w b).world.medium ≡ w.medium
unfolding deliver
asks w b (Quiet a) = refl
asks w b (Packet x s) = refl

wrappers : (w : World) (x : Option Wrapper) → (on_wrapper x w).world.medium ≡ w.medium
unfolding on_wrapper
wrappers w None = refl
wrappers w (Some x) = refl

-- ---- one event

module _ (w : World) (n : ℕ) where
  abbrev g₀ : Stage
  g₀ = w.dev.state.link.task.stage

  abbrev lun : ℕ
  lun = w.dev.state.link.task.lun

  abbrev Same : Out → Type 0
  Same o = part_of (unit_at w.units n) o.world.medium ≡ part_of (unit_at w.units n) w.medium

  -- a write to another unit
  elsewhere : (block left held : ℕ) → g₀ ≡ DataOut block left held → (is_write g₀ and eqb lun n) ≡ false → n ≡ lun → ⊥
  unfolding is_write ◌and◌
  elsewhere block left held e h k = true≢false (sym (ap (λ (g : Stage). is_write g and eqb lun n) e ∙ eq-eqb lun n (sym k)) ∙ h)

  outs : (p : List ℕ) → Passed w (bulk_out p) → (is_write g₀ and eqb lun n) ≡ false → (g : Stage) → g₀ ≡ g → Same (out_stage g w p)
  unfolding out_stage in_unit
  outs p x h Ready e = ap (part_of (unit_at w.units n)) (wrappers w (wrapper_of w.units p))
  outs p x h (DataOut block left held) e =
      let f = fit_of w (fit_passed (bulk_out p) x) in
      let m = out-medium p [] x in
      let l = (writes w block left held f m e).listed in
      by-if Same (eqb left 0) _ _ (λ _. refl)
      (λ _. others w.units w.medium lun f.laid m l _ (data_size block left held p _ _ _ ∙ length-own w.units w.medium lun f.laid m l) n (elsewhere block left held e h))
  outs p x h (DataIn place left) e = refl
  outs p x h (ReplyIn reply place left) e = refl
  outs p x h (StatusDue status) e = refl

  event : (e : Event) → writes_to w e n ≡ false → Passed w e → Same (effect w e)
  unfolding effect reset dropped packet_out packet_in writes_to
  event bus_reset h x = refl
  event (control s b) h x = ap (part_of (unit_at w.units n)) (requests w b _ _ (performs w b (request_of s)))
  event (bulk_out p) h x = by-if Same w.dev.state.link.haltout _ _ (λ _. refl) (λ _. outs p x h g₀ refl)
  event (bulk_in b) h x = ap (part_of (unit_at w.units n)) (asks w b (ask w.dev.state))
  event (set_switch y j) h x = refl

pub outside_kept : OutsideKept
unfolding OutsideKept
outside_kept w e n h = judge (Same w n) w e (λ a x. refl) (event w n e h)
