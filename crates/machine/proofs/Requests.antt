-- What a control request may do. Proofs about requests go by these cases. Assumes nothing.
use Prim.Native.Nat.{ℕ, ◌+◌, ◌≤◌}
use mathlib.Core.Path.{◌≡◌, refl}
use mathlib.Core.Bool.{Bool, true, false}
use mathlib.Core.List.{List, [], ◌∷◌}
use native.Mathlib.Omega.{arith}
use lib.Dec.{eqb}
use lib.ListN.{length, take, length-take}
use Rattle.wire.specs.Choice.{◌and◌}
use Rattle.wire.specs.Numbers.{low, decimal}
use Rattle.wire.specs.Texts.{ascii}
use Rattle.wire.proofs.Cases.{by-if, both, and_true, if-true}
use Rattle.wire.proofs.Positional.{digits}
use Rattle.usb.specs.Descriptor.{device_descriptor, configuration_descriptor, utf16, string_descriptor, descriptor_data}
use Rattle.usb.specs.declared.descriptor.Identity.{Identity}
use Rattle.usb.specs.declared.descriptor.Descriptor.{Descriptor}
use Rattle.usb.specs.declared.descriptor.Descriptor.TheVariants as descriptor
use Rattle.usb.specs.declared.request.Endpoint.{Endpoint}
use Rattle.usb.specs.declared.request.Endpoint.TheVariants.{Control, BulkIn, BulkOut}
use Rattle.usb.specs.declared.request.Request.{Request}
use Rattle.usb.specs.declared.request.Request.TheVariants.{SetAddress, SetConfiguration, GetConfiguration, GetDeviceStatus, GetInterfaceStatus, GetEndpointStatus, ClearHalt, SetHalt, MassStorageReset, GetMaxLun, GetDescriptor}
use Rattle.usb.specs.declared.request.Request.TheVariants as request
use Rattle.machine.specs.declared.record.Link.{Link}
use Rattle.machine.specs.declared.record.State.{State}
use Rattle.machine.specs.declared.answer.Answer.TheVariants.{Ack, Stall}
use Rattle.machine.specs.Record.{with_halts, with_address}
use Rattle.machine.specs.World.{World, in_state, dropped, Out, out}
use Rattle.machine.specs.World as worlds
use Rattle.machine.specs.Control.{needs_configured, flag, endpoint_status, halt_in, halt_out, clear_halt, set_halt, perform}
use Rattle.machine.specs.Tally.{Log, heard}
use Rattle.machine.specs.Claim.{is_drop}

-- a request that the history does not hear of, and that drops no command
pub record Minor (q : Request) : Type 0 where
  pub unheard : (l : Log) → heard q l ≡ l
  pub goes_on_lem : is_drop q ≡ false

-- the halts of a locked device stay
abbrev pub StayLocked : Link → Bool → Bool → Type 0
StayLocked l hi ho = l.locked ≡ true → (l.haltin and l.haltout) ≡ true → (hi and ho) ≡ true

pub data Did (w : World) (b : List ℕ) : Request → Out → Type 0 where
  stalls : {q : Request} → Did w b q (out Stall w b)
  sends : {q : Request} (s : List ℕ) → length s ≤ 64 → Did w b q (worlds.sends s w b)
  acks : {q : Request} → Minor q → Did w b q (out Ack w b)
  halts : {q : Request} (hi ho : Bool) → Minor q → w.dev.state.configured ≡ true → StayLocked w.dev.state.link hi ho
      → Did w b q (out Ack (in_state w (with_halts w.dev.state hi ho w.dev.state.link.locked)) b)
  addresses : (a : ℕ) → w.dev.state.configured ≡ false → Did w b (SetAddress a) (out Ack (in_state w (with_address w.dev.state a)) b)
  configures : (v : ℕ) → Did w b (SetConfiguration v) (out Ack (dropped w w.dev.state.address (eqb v 1) false false) b)
  resets : w.dev.state.configured ≡ true
      → Did w b MassStorageReset (out Ack (dropped w w.dev.state.address true w.dev.state.link.haltin w.dev.state.link.haltout) b)

-- ---- how long what is sent can be

length-utf16 : (s : List ℕ) → length (utf16 s) ≡ length s + length s
unfolding utf16
length-utf16 [] = refl
length-utf16 (c ∷ s) = let h = length-utf16 s in omega arith

descriptor_short : (d : Descriptor) (i : Identity) → length (descriptor_data d i) ≤ 64
unfolding device_descriptor configuration_descriptor string_descriptor low
descriptor_short descriptor.Device i = omega arith
descriptor_short descriptor.Configuration i = omega arith
descriptor_short descriptor.Languages i = omega arith
descriptor_short descriptor.Vendor i = omega (arith, length-utf16 (ascii "COLLECT"))
descriptor_short descriptor.Product i = omega (arith, length-utf16 (ascii "METER EXPORT"))
descriptor_short descriptor.Serial i = omega (arith, length-utf16 (decimal 12 i.number), digits.count 12 i.number)

take_short : (n k : ℕ) (s : List ℕ) → length s ≤ k → length (take n s) ≤ k
take_short n k s h = let e = length-take n s in omega arith

flag-short : (b : Bool) → length (flag b) ≤ 64
unfolding flag
flag-short true = omega arith
flag-short false = omega arith

-- ---- each request

clears_minor : (e : Endpoint) → Minor (ClearHalt e)
unfolding heard is_drop
clears_minor e = record { unheard = λ l. refl; goes_on_lem = refl }

sets_minor : (e : Endpoint) → Minor (SetHalt e)
unfolding heard is_drop
sets_minor e = record { unheard = λ l. refl; goes_on_lem = refl }

module _ (w : World) (b : List ℕ) where
  abbrev s : State
  s = w.dev.state

  if-configured : (q : Request) (o : Out) → (s.configured ≡ true → Did w b q o) → Did w b q (needs_configured w b o)
  unfolding needs_configured
  if-configured q o h = by-if (Did w b q) s.configured o _ h (λ _. stalls)

  flagged : (q : Request) (x : Bool) → Did w b q (worlds.sends (flag x) w b)
  flagged q x = sends (flag x) (flag-short x)

  byte : {q : Request} (x : ℕ) → Did w b q (worlds.sends (x ∷ []) w b)
  byte x = sends (x ∷ []) (omega arith)

  statuses : (q : Request) (e : Endpoint) → Did w b q (endpoint_status e w b)
  unfolding endpoint_status
  statuses q Control = flagged q false
  statuses q BulkIn = if-configured q _ (λ _. flagged q _)
  statuses q BulkOut = if-configured q _ (λ _. flagged q _)

  halt-in : (q : Request) (on : Bool) → Minor q → Did w b q (needs_configured w b (out Ack (in_state w (halt_in on s)) b))
  unfolding halt_in
  halt-in q on m = if-configured q _ (λ c. halts _ _ m c (λ k h. and_true _ _ (if-true s.link.locked true on k) (both _ _ h).1))

  halt-out : (q : Request) (on : Bool) → Minor q → Did w b q (needs_configured w b (out Ack (in_state w (halt_out on s)) b))
  unfolding halt_out
  halt-out q on m = if-configured q _ (λ c. halts _ _ m c (λ k h. and_true _ _ (both _ _ h).0 (if-true s.link.locked true on k)))

  clears : (e : Endpoint) → Did w b (ClearHalt e) (clear_halt e w b)
  unfolding clear_halt
  clears Control = acks (clears_minor Control)
  clears BulkIn = halt-in _ false (clears_minor BulkIn)
  clears BulkOut = halt-out _ false (clears_minor BulkOut)

  sets : (e : Endpoint) → Did w b (SetHalt e) (set_halt e w b)
  unfolding set_halt
  sets Control = stalls
  sets BulkIn = halt-in _ true (sets_minor BulkIn)
  sets BulkOut = halt-out _ true (sets_minor BulkOut)

  pub performs : (q : Request) → Did w b q (perform q w b)
  unfolding perform
  performs (SetAddress a) = by-if (Did w b (SetAddress a)) s.configured _ _ (λ _. stalls) (addresses a)
  performs (SetConfiguration v) = configures v
  performs GetConfiguration = byte _
  performs GetDeviceStatus = flagged _ true
  performs GetInterfaceStatus = if-configured _ _ (λ _. flagged _ false)
  performs (GetEndpointStatus e) = statuses _ e
  performs (ClearHalt e) = clears e
  performs (SetHalt e) = sets e
  performs MassStorageReset = if-configured _ _ resets
  performs GetMaxLun = if-configured _ _ (λ _. byte _)
  performs (GetDescriptor which n) = sends _ (take_short n 64 _ (descriptor_short which w.dev.identity))
  performs request.Stall = stalls
