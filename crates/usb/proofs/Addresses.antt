-- An address that is decoded is in range. Assumes nothing.
use Prim.Native.Nat.{ℕ, ◌≤◌}
use mathlib.Core.Path.{◌≡◌, subst}
use mathlib.Core.List.{List}
use borrow.Author.Tests.{leb-true}
use Rattle.std.specs.Prelude.{Option, None, Some}
use Rattle.std.proofs.Common.{rules}
use Rattle.wire.proofs.Cases.{both, by-if, look-all}
use Rattle.usb.specs.declared.descriptor.Descriptor.{Descriptor}
use Rattle.usb.specs.declared.request.Endpoint.{Endpoint}
use Rattle.usb.specs.declared.request.Request.{Request}
use Rattle.usb.specs.declared.request.Request.TheVariants.{SetAddress, SetConfiguration, GetConfiguration, GetDeviceStatus, GetInterfaceStatus, GetEndpointStatus, ClearHalt, SetHalt, MassStorageReset, GetMaxLun, GetDescriptor, Stall}
use Rattle.usb.specs.Request.{Fields, is_no_data, set_address, set_configuration, bare, target_of, aimed, at_endpoint, served, descriptors, get_descriptor, requests, decided, request_of}

abbrev Low : Request → Type 0
Low (SetAddress a) = a ≤ 0x7F
Low (SetConfiguration v) = Unit {0}
Low GetConfiguration = Unit {0}
Low GetDeviceStatus = Unit {0}
Low GetInterfaceStatus = Unit {0}
Low (GetEndpointStatus e) = Unit {0}
Low (ClearHalt e) = Unit {0}
Low (SetHalt e) = Unit {0}
Low MassStorageReset = Unit {0}
Low GetMaxLun = Unit {0}
Low (GetDescriptor which n) = Unit {0}
Low Stall = Unit {0}

abbrev AllLow : Fields → Type 0
AllLow f = (v i l : ℕ) → Low (f v i l)

addresses : AllLow set_address
unfolding set_address is_no_data
addresses v i l = by-if Low _ (SetAddress v) Stall (λ e. leb-true _ _ (both _ _ e).0) (λ _. tt)

configurations : AllLow set_configuration
unfolding set_configuration
configurations v i l = by-if Low _ _ _ (λ _. tt) (λ _. tt)

bares : (wanted : ℕ) (r : Request) → Low r → AllLow (bare wanted r)
unfolding bare
bares wanted r h v i l = by-if Low _ r Stall (λ _. h) (λ _. tt)

aimed-low : (f : Endpoint → Request) → ((e : Endpoint) → Low (f e)) → (t : Option Endpoint) → Low (aimed f t)
aimed-low f h None = tt
aimed-low f h (Some e) = h e

aims : (wanted : ℕ) (f : Endpoint → Request) → ((e : Endpoint) → Low (f e)) → AllLow (at_endpoint wanted f)
aims wanted f h v i l = aimed-low f h (target_of wanted v i l)

serves : (d : Descriptor) (w i l : ℕ) → Low (served d w i l)
unfolding served
serves d w i l = by-if Low _ _ _ (λ _. tt) (λ _. tt)

describes : AllLow get_descriptor
unfolding get_descriptor descriptors
describes v i l =
    look-all (λ (f : ℕ → ℕ → Request). Low (f i l)) _ v (λ _ _. Stall) (search (rules, serves)) tt

decides : (key : ℕ) → AllLow (decided key)
unfolding decided requests
decides key =
    look-all AllLow requests key (λ _ _ _. Stall) (search (rules, addresses, configurations, bares, aims, describes)) (λ _ _ _. tt)

pub address-low : (q : List ℕ) (a : ℕ) → request_of q ≡ SetAddress a → a ≤ 0x7F
unfolding request_of
address-low q a e = subst Low e (by-if Low _ _ Stall (λ _. decides _ _ _ _) (λ _. tt))
