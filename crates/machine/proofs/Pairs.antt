-- Two collectors side by side: what holds of both at a choice, at the checks and, where they have one state, at a control request. Assumes nothing.
use Prim.Native.Nat.{ℕ, ◌-◌}
use mathlib.Core.Path.{◌≡◌, refl, subst}
use mathlib.Core.Bool.{Bool, true, false}
use mathlib.Core.List.{List, [], ◌∷◌}
use lib.ListN.{length}
use Rattle.wire.specs.Choice.{when◌then◌else◌}
use Rattle.usb.specs.declared.descriptor.Identity.{Identity}
use Rattle.usb.specs.declared.request.Endpoint.TheVariants.{Control, BulkIn, BulkOut}
use Rattle.usb.specs.declared.request.Request.{Request}
use Rattle.usb.specs.declared.request.Request.TheVariants.{SetAddress, SetConfiguration, GetConfiguration, GetDeviceStatus, GetInterfaceStatus, GetEndpointStatus, ClearHalt, SetHalt, MassStorageReset, GetMaxLun, GetDescriptor}
use Rattle.usb.specs.declared.request.Request.TheVariants as request
use Rattle.machine.specs.declared.record.State.{State}
use Rattle.machine.specs.declared.answer.Answer.{Answer}
use Rattle.machine.specs.declared.answer.Answer.TheVariants.{Ack}
use Rattle.machine.specs.declared.checks.Checks.{Checks}
use Rattle.machine.specs.Units.{Table}
use Rattle.machine.specs.Record.{device, with_halts, with_address}
use Rattle.machine.specs.World.{World, world, dropped, Out, out, sends}
use Rattle.machine.specs.Control.{needs_configured, endpoint_status, halt_in, halt_out, clear_halt, set_halt, perform}
use Rattle.machine.specs.Machine.{Event, lent, checks, Verdict, in_order, effect, judged, step}
use Rattle.machine.proofs.Judge.{Barred, Passed, by_verdict}

pub pair_if : {A : Type 0} (R : A → A → Type 0) (c c' : Bool) (x y x' y' : A) → c ≡ c' → (c ≡ true → R x x') → (c ≡ false → R y y') → R (when c then x else y) (when c' then x' else y')
unfolding when◌then◌else◌
pair_if R c c' x y x' y' e f g = subst (λ (z : Bool). R (when c then x else y) (when z then x' else y')) e (go c f g)
  where
    go : (z : Bool) → (z ≡ true → R x x') → (z ≡ false → R y y') → R (when z then x else y) (when z then x' else y')
    go true f g = f refl
    go false f g = g refl

pub pair_judge : (R : Out → Out → Type 0) (w w' : World) (e e' : Event) → checks w e ≡ checks w' e'
    → ((a : Answer) → Barred w e a → R (out a w (lent e)) (out a w' (lent e'))) → (Passed w e → R (effect w e) (effect w' e')) → R (step w e) (step w' e')
unfolding step judged
pair_judge R w w' e e' h f g =
    subst (λ (c : Checks). R (judged (in_order (checks w e)) w (lent e) (effect w e)) (judged (in_order c) w' (lent e') (effect w' e'))) h
    (by_verdict (λ (v : Verdict). R (judged v w (lent e) (effect w e)) (judged v w' (lent e') (effect w' e'))) w e f g)

-- two collectors that differ in part block, table and medium, but not in how many units they have
module _ (R : Out → Out → Type 0) (i : Identity) (s : State) (p p' : List ℕ) (us us' : Table) (m m' b : List ℕ) (n : length us ≡ length us')
    (keeps : (a : Answer) (z : State) (x : List ℕ) → z.link.task ≡ s.link.task → R (out a (world (device i z p) us m) x) (out a (world (device i z p') us' m') x))
    (drops : (a : ℕ) (c hi ho : Bool) → R (out Ack (dropped (world (device i s p) us m) a c hi ho) b) (out Ack (dropped (world (device i s p') us' m') a c hi ho) b)) where
  abbrev w : World
  w = world (device i s p) us m

  abbrev w' : World
  w' = world (device i s p') us' m'

  stays : (a : Answer) (x : List ℕ) → R (out a w x) (out a w' x)
  stays a x = keeps a s x refl

  if-configured : {o o' : Out} → R o o' → R (needs_configured w b o) (needs_configured w' b o')
  unfolding needs_configured
  if-configured h = pair_if R s.configured _ _ _ _ _ refl (λ _. h) (λ _. stays _ b)

  pub pair-perform : (q : Request) → R (perform q w b) (perform q w' b)
  unfolding perform endpoint_status clear_halt set_halt halt_in halt_out with_halts with_address
  pair-perform (SetAddress a) = pair_if R s.configured _ _ _ _ _ refl (λ _. stays _ b) (λ _. keeps _ _ b refl)
  pair-perform (SetConfiguration v) = drops _ _ _ _
  pair-perform GetConfiguration = stays _ _
  pair-perform GetDeviceStatus = stays _ _
  pair-perform GetInterfaceStatus = if-configured (stays _ _)
  pair-perform (GetEndpointStatus Control) = stays _ _
  pair-perform (GetEndpointStatus BulkIn) = if-configured (stays _ _)
  pair-perform (GetEndpointStatus BulkOut) = if-configured (stays _ _)
  pair-perform (ClearHalt Control) = stays _ b
  pair-perform (ClearHalt BulkIn) = if-configured (keeps _ _ b refl)
  pair-perform (ClearHalt BulkOut) = if-configured (keeps _ _ b refl)
  pair-perform (SetHalt Control) = stays _ b
  pair-perform (SetHalt BulkIn) = if-configured (keeps _ _ b refl)
  pair-perform (SetHalt BulkOut) = if-configured (keeps _ _ b refl)
  pair-perform MassStorageReset = if-configured (drops _ _ _ _)
  pair-perform GetMaxLun = if-configured (subst (λ (k : ℕ). R (sends ((length us - 1) ∷ []) w b) (sends ((k - 1) ∷ []) w' b)) n (stays _ _))
  pair-perform (GetDescriptor which k) = stays _ _
  pair-perform request.Stall = stays _ b
