-- Mass Storage Reset and both halt clearings, all acked, leave a collector that depends on identity, parts, address and medium alone;
-- a fresh one, given an address, configured, and its switches set, is that collector. Assumes nothing.
use Prim.Native.Nat.{ℕ, suc, ◌+◌, ◌≤◌, ◌<◌}
use mathlib.Core.Path.{◌≡◌, refl, sym, ap, ◌∙◌, subst}
use mathlib.Core.Bool.{Bool, true, false, true≢false}
use mathlib.Core.List.{List, [], ◌∷◌, ◌++◌}
use native.Mathlib.Nat.{add-zero}
use native.Mathlib.Omega.{arith}
use lib.ListN.{length, replicate}
use borrow.Author.Tests.{le-leb, lt-ltb, eq-eqb}
use Rattle.wire.specs.Choice.{when◌then◌else◌, ◌and◌, look}
use Rattle.wire.specs.Slices.{bytes_at}
use Rattle.wire.specs.Numbers.{value}
use Rattle.wire.proofs.Cases.{if-true, both, and_true}
use Rattle.usb.specs.Request.{request_of, decided, requests, is_no_data, set_address, set_configuration, bare, endpoints, endpoint_of, target_of}
use Rattle.usb.specs.declared.request.Endpoint.TheVariants.{BulkIn, BulkOut}
use Rattle.usb.specs.declared.request.Request.{Request}
use Rattle.usb.specs.declared.request.Request.TheVariants.{SetAddress, SetConfiguration, ClearHalt, MassStorageReset}
use Rattle.machine.specs.declared.answer.Answer.{Answer}
use Rattle.machine.specs.declared.answer.Answer.TheVariants.{Ack, Stall}
use Rattle.machine.specs.Units.{switch_fits, Table, cleared, switched_to, as_made, every, switches_fit, laid_out}
use Rattle.machine.specs.Record.{fresh, with_halts, dropped_state, with_address}
use Rattle.machine.specs.Fits.{address_fits, is_ready, idle_fits, lock_fits, fits}
use Rattle.machine.specs.World.{World, world, in_state, dropped, switched, Out, out}
use Rattle.machine.specs.Control.{needs_configured, halt_in, halt_out, clear_halt, perform}
use Rattle.machine.specs.Machine.{Event, control, set_switch, fitting, checks, effect, step, run}
use Rattle.machine.specs.Tally.{Making, is_ack}
use Rattle.machine.specs.Claim.{answers, setup, recovery, setting_up, switching}
use Rattle.machine.proofs.Judge.{judge, passes, fit_passed}
use Rattle.machine.proofs.Tables.{laid-made, calm_made, fits-made, cleared-made, made-cleared, made-made, made-switched, switched_from, switched_back, same_length}
use Rattle.machine.proofs.Making.{Sound}
use Rattle.machine.proofs.Fit.{Fit, fit_of, fits_of_lem}
use Rattle.machine.proofs.Reach.{none-fits, stays_fit}

-- ---- the setups that the demand names are read as what they ask for

read-reset : request_of (setup 0x21 0xFF 0 0) ≡ MassStorageReset
unfolding request_of decided requests look bare bytes_at value when◌then◌else◌ ◌and◌
read-reset = refl

read-clear_in : request_of (setup 0x02 0x01 0 0x81) ≡ ClearHalt BulkIn
unfolding request_of decided requests look target_of endpoint_of endpoints bytes_at value when◌then◌else◌ ◌and◌
read-clear_in = refl

read-clear-out : request_of (setup 0x02 0x01 0 0x02) ≡ ClearHalt BulkOut
unfolding request_of decided requests look target_of endpoint_of endpoints bytes_at value when◌then◌else◌ ◌and◌
read-clear-out = refl

read-configure : request_of (setup 0x00 0x09 1 0) ≡ SetConfiguration 1
unfolding request_of decided requests look set_configuration is_no_data bytes_at value when◌then◌else◌ ◌and◌
read-configure = refl

read-address : (a : ℕ) → a ≤ 0x7F → request_of (setup 0x00 0x05 a 0) ≡ SetAddress a
unfolding request_of decided requests look set_address is_no_data bytes_at value when◌then◌else◌ ◌and◌
read-address a h = simp (add-zero a, le-leb a 0x7F h)

-- ---- an acked control request passed its checks and was performed

not_ack : {a : Answer} → is_ack a ≡ false → a ≡ Ack → ⊥
unfolding is_ack
not_ack {a} h e = true≢false (sym (ap is_ack e) ∙ h)

acked : (w : World) (q b : List ℕ) → (step w (control q b)).answer ≡ Ack → (step w (control q b) ≡ perform (request_of q) w b) × (fitting w ≡ true)
unfolding effect
acked w q b =
    judge (λ (o : Out). o.answer ≡ Ack → (o ≡ perform (request_of q) w b) × (fitting w ≡ true)) w (control q b)
    (λ a x e. absurd (not_ack x.quiet e))
    (λ x _. (refl, fit_passed (control q b) x))

stall_ack : is_ack Stall ≡ false
unfolding is_ack
stall_ack = refl

-- where it needs a configured device, that was one
performed : (w : World) (q b : List ℕ) (r : Request) (w' : World) → request_of q ≡ r → perform r w b ≡ needs_configured w b (out Ack w' b)
    → (step w (control q b)).answer ≡ Ack → step w (control q b) ≡ out Ack w' b
unfolding needs_configured when◌then◌else◌
performed w q b r w' e f a =
    let z : step w (control q b) ≡ (when w.dev.state.configured then out Ack w' b else out Stall w b) = (acked w q b a).0 ∙ ap (λ (x : Request). perform x w b) e ∙ f in
    z ∙ go w.dev.state.configured (sym (ap (λ (o : Out). o.answer) z) ∙ a)
  where
    go : (c : Bool) → (when c then out Ack w' b else out Stall w b).answer ≡ Ack → (when c then out Ack w' b else out Stall w b) ≡ out Ack w' b
    go true h = refl
    go false h = absurd (not_ack stall_ack h)

reset-acked : (w : World) (b : List ℕ) → (step w (control (setup 0x21 0xFF 0 0) b)).answer ≡ Ack
    → step w (control (setup 0x21 0xFF 0 0) b) ≡ out Ack (dropped w w.dev.state.address true w.dev.state.link.haltin w.dev.state.link.haltout) b
unfolding perform
reset-acked w b a = performed w _ b MassStorageReset _ read-reset refl a

clear_in_acked : (w : World) (b : List ℕ) → (step w (control (setup 0x02 0x01 0 0x81) b)).answer ≡ Ack
    → step w (control (setup 0x02 0x01 0 0x81) b) ≡ out Ack (in_state w (halt_in false w.dev.state)) b
unfolding perform clear_halt
clear_in_acked w b a = performed w _ b (ClearHalt BulkIn) _ read-clear_in refl a

clear-out-acked : (w : World) (b : List ℕ) → (step w (control (setup 0x02 0x01 0 0x02) b)).answer ≡ Ack
    → step w (control (setup 0x02 0x01 0 0x02) b) ≡ out Ack (in_state w (halt_out false w.dev.state)) b
unfolding perform clear_halt
clear-out-acked w b a = performed w _ b (ClearHalt BulkOut) _ read-clear-out refl a

-- ---- three acked events in a row

pub first : (w : World) (e : Event) (es : List Event) (a : Answer) (bs : List Answer) → answers (run w (e ∷ es)).replies ≡ (a ∷ bs)
    → ((step w e).answer ≡ a) × (answers (run (step w e).world es).replies ≡ bs)
unfolding run answers
first w e es a bs h = (cc, cc)

three : (w : World) (e f g : Event) (w₁ w₂ w₃ : World) (x y z : List ℕ)
    → ((step w e).answer ≡ Ack → step w e ≡ out Ack w₁ x)
    → ((step w₁ f).answer ≡ Ack → step w₁ f ≡ out Ack w₂ y)
    → ((step w₂ g).answer ≡ Ack → step w₂ g ≡ out Ack w₃ z)
    → answers (run w (e ∷ f ∷ g ∷ [])).replies ≡ (Ack ∷ Ack ∷ Ack ∷ [])
    → (run w (e ∷ f ∷ g ∷ [])).world ≡ w₃
unfolding run
three w e f g w₁ w₂ w₃ x y z l₁ l₂ l₃ h =
    let a = first w e (f ∷ g ∷ []) Ack (Ack ∷ Ack ∷ []) h in
    let e₁ : step w e ≡ out Ack w₁ x = l₁ a.0 in
    let b = first w₁ f (g ∷ []) Ack (Ack ∷ []) (rw e₁ at a.1) in
    let e₂ : step w₁ f ≡ out Ack w₂ y = l₂ b.0 in
    let c = first w₂ g [] Ack [] (rw e₂ at b.1) in
    let e₃ : step w₂ g ≡ out Ack w₃ z = l₃ c.0 in
    rw (e₁, e₂, e₃)

pub recovered : (w : World) (order : Bool) (x y z : List ℕ) → answers (run w (recovery order x y z)).replies ≡ (Ack ∷ Ack ∷ Ack ∷ [])
    → (run w (recovery order x y z)).world ≡ dropped w w.dev.state.address true false false
unfolding recovery dropped dropped_state with_halts halt_in halt_out when◌then◌else◌
recovered w true x y z h =
    three w _ _ _ _ _ _ x y z (reset-acked w x) (clear_in_acked (dropped w w.dev.state.address true w.dev.state.link.haltin w.dev.state.link.haltout) y)
    (clear-out-acked (dropped w w.dev.state.address true false w.dev.state.link.haltout) z) h
recovered w false x y z h =
    three w _ _ _ _ _ _ x y z (reset-acked w x) (clear-out-acked (dropped w w.dev.state.address true w.dev.state.link.haltin w.dev.state.link.haltout) y)
    (clear_in_acked (dropped w w.dev.state.address true w.dev.state.link.haltin false) z) h

-- an acked recovery was asked of a record that fits together
pub recovery-fits : (w : World) (order : Bool) (x y z : List ℕ) → answers (run w (recovery order x y z)).replies ≡ (Ack ∷ Ack ∷ Ack ∷ []) → fitting w ≡ true
unfolding recovery
recovery-fits w true x y z h = (acked w _ x (first w _ _ Ack _ h).0).1
recovery-fits w false x y z h = (acked w _ x (first w _ _ Ack _ h).0).1

-- ---- a fresh collector, given an address, configured, and its switches set

-- a control request whose checks pass is performed
control_passed : (w : World) (q b : List ℕ) (r : Request) → fitting w ≡ true → 64 ≤ length b → length q ≡ 8 → request_of q ≡ r → step w (control q b) ≡ perform r w b
unfolding checks effect
control_passed w q b r f h k e =
    passes w (control q b) (record { fit = f; medium = refl; buffer = le-leb 64 (length b) h; packet = refl; setup = eq-eqb (length q) 8 k; configured = refl; unit = refl }) ∙ ap (λ (x : Request). perform x w b) e

-- the switch of a unit of a record that fits goes to a position that fits
turned : (w : World) (x n : ℕ) → fitting w ≡ true → switch_fits x ≡ true → n < length w.units → step w (set_switch x n) ≡ out Ack (switched w x n) []
unfolding checks effect
turned w x n f h l =
    passes w (set_switch x n) (record { fit = and_true _ _ f h; medium = refl; buffer = refl; packet = refl; setup = refl; configured = refl; unit = lt-ltb _ _ l })

-- what an event leaves fits again
pub fits_after : (w w' : World) (b : List ℕ) (e : Event) → fitting w ≡ true → step w e ≡ out Ack w' b → fitting w' ≡ true
fits_after w w' b e f h = fits_of_lem w' (subst (λ (o : Out). Fit o.world) h (stays_fit w (fit_of w f) e))

-- a run all of whose events are acked, and what it has come to
pub record Acked (w : World) (es : List Event) (n : ℕ) (w' : World) : Type 0 where
  pub said : answers (run w es).replies ≡ replicate n Ack
  pub comes_to : (run w es).world ≡ w'

acked-first : (w w₁ w' : World) (b : List ℕ) (e : Event) (es : List Event) (n : ℕ) → step w e ≡ out Ack w₁ b → Acked w₁ es n w' → Acked w (e ∷ es) (suc n) w'
unfolding run answers
acked-first w w₁ w' b e es n h r =
    record {
      said = ap (λ (o : Out). o.answer ∷ answers (run o.world es).replies) h ∙ ap (λ (l : List Answer). Ack ∷ l) r.said;
      comes_to = ap (λ (o : Out). (run o.world es).world) h ∙ r.comes_to;
    }

-- every switch set where a table of positions that fit has it
all-turned : (w : World) (n : ℕ) (vs : Table) → fitting w ≡ true → switches_fit vs ≡ true → n + length vs ≤ length w.units
    → Acked w (switching n vs) (length vs) (world w.dev (switched_from n vs w.units) w.medium)
unfolding switching switched_from run answers every
all-turned w n [] f h l = record { said = refl; comes_to = refl }
all-turned w n (v ∷ vs) f h l =
    let h' = both _ _ h in
    let e = turned w v.switch n f h'.0 (omega arith) in
    let same = same_length (switched_to w.units v.switch n) w.units (made-switched w.units v.switch n) in
    acked-first w _ _ [] _ _ _ e (all-turned (switched w v.switch n) (suc n) vs (fits_after w _ [] _ f e) h'.1 (omega arith))

module _ (k : Making) (s : Sound k) where
  abbrev new : World
  new = world (fresh k.identity) (as_made k.units) k.medium

  laid : laid_out (as_made k.units) ≡ true
  laid = laid-made k.units ∙ s.laid

  pub fits_fresh : fitting new ≡ true
  unfolding fits fresh address_fits idle_fits is_ready lock_fits when◌then◌else◌ ◌and◌
  fits_fresh = simp (laid, fits-made k.units, s.numbered, calm_made k.units, none-fits (as_made k.units) laid)

  module _ (a : ℕ) (x y : List ℕ) (low : a ≤ 0x7F) (hx : 64 ≤ length x) (hy : 64 ≤ length y) where
    abbrev named : World
    named = in_state new (with_address (fresh k.identity).state a)

    addressed : step new (control (setup 0x00 0x05 a 0) x) ≡ out Ack named x
    unfolding perform fresh when◌then◌else◌
    addressed = control_passed new _ x (SetAddress a) fits_fresh hx refl (read-address a low)

    fits-named : fitting named ≡ true
    fits-named = fits_after new named x _ fits_fresh addressed

    configured : step named (control (setup 0x00 0x09 1 0) y) ≡ out Ack (dropped new a true false false) y
    unfolding perform fresh dropped dropped_state with_address
    configured = control_passed named _ y (SetConfiguration 1) fits-named hy refl read-configure

    -- given the address, configured, and every switch set as a table of its parts has it
    pub set-up : (vs : Table) → switches_fit vs ≡ true → as_made vs ≡ as_made k.units
        → Acked new (setting_up a x y ++ switching 0 vs) (suc (suc (length vs))) (world (dropped new a true false false).dev (cleared vs) k.medium)
    unfolding setting_up dropped
    set-up vs h e =
        let ready = dropped new a true false false in
        let units = as_made k.units in
        let same : switched_from 0 vs (cleared units) ≡ cleared vs = ap (switched_from 0 vs) (cleared-made k.units ∙ sym e) ∙ switched_back vs in
        let long = same_length vs (cleared units) (e ∙ sym (made-cleared units ∙ made-made k.units)) in
        let turns = all-turned ready 0 vs (fits_after named ready y _ fits-named configured) h (omega arith) in
        subst (λ (t : Table). Acked new (setting_up a x y ++ switching 0 vs) (suc (suc (length vs))) (world ready.dev t k.medium)) same
        (acked-first new named _ x _ _ _ addressed (acked-first named ready _ y _ _ _ configured turns))

-- ---- the recovery of a configured device whose record fits is acked, with buffers of 64 bytes or more

module _ (w : World) (f : fitting w ≡ true) (c : w.dev.state.configured ≡ true) where
  asks : (q b : List ℕ) (x : Request) (o : Out) → request_of q ≡ x → perform x w b ≡ needs_configured w b o → length q ≡ 8 → 64 ≤ length b → step w (control q b) ≡ o
  unfolding needs_configured
  asks q b x o e g n h = control_passed w q b x f h n e ∙ g ∙ if-true _ _ _ c

  pub resets : (b : List ℕ) → 64 ≤ length b → step w (control (setup 0x21 0xFF 0 0) b) ≡ out Ack (dropped w w.dev.state.address true w.dev.state.link.haltin w.dev.state.link.haltout) b
  unfolding perform
  resets b h = asks _ b MassStorageReset _ read-reset refl refl h

  pub clears-in : (b : List ℕ) → 64 ≤ length b → step w (control (setup 0x02 0x01 0 0x81) b) ≡ out Ack (in_state w (halt_in false w.dev.state)) b
  unfolding perform clear_halt
  clears-in b h = asks _ b (ClearHalt BulkIn) _ read-clear_in refl refl h

  pub clears-out : (b : List ℕ) → 64 ≤ length b → step w (control (setup 0x02 0x01 0 0x02) b) ≡ out Ack (in_state w (halt_out false w.dev.state)) b
  unfolding perform clear_halt
  clears-out b h = asks _ b (ClearHalt BulkOut) _ read-clear-out refl refl h
