-- After a broken wrapper both pipes stay shut until an acked drop. Assumes nothing.
use Prim.Native.Nat.{ℕ}
use mathlib.Core.Path.{◌≡◌, refl, sym, ap, ◌∙◌, subst}
use mathlib.Core.Bool.{Bool, true, false, ◌||◌, or-true, true≢false}
use mathlib.Core.List.{List, []}
use lib.ListN.{length}
use lib.Dec.{eqb}
use Rattle.std.specs.declared.option.Option.{Option}
use Rattle.wire.specs.Choice.{◌and◌}
use Rattle.usb.specs.Request.{request_of}
use Rattle.usb.specs.declared.request.Request.{Request}
use Rattle.machine.specs.declared.answer.Answer.{Answer}
use Rattle.machine.specs.declared.answer.Answer.TheVariants.{Ack, Stall}
use Rattle.machine.specs.Answer.{number_of}
use Rattle.machine.specs.Wrapper.{accepted, wrapper_of}
use Rattle.machine.specs.Tally.{is_ack}
use Rattle.machine.specs.Claim.{answers, is_drop, ends, is_refusal, is_shut, shut_at, Watch, watch, watched, Locks}
use Rattle.machine.specs.Beside.{IsDue}
use Rattle.wire.proofs.Cases.{and_true, both, if-true, if-false}
use Rattle.machine.specs.declared.record.Stage.{Stage}
use Rattle.machine.specs.declared.wrapper.Wrapper.{Wrapper}
use Rattle.machine.specs.declared.ask.Asked.{Asked}
use Rattle.machine.specs.declared.ask.Asked.TheVariants.{Quiet}
use Rattle.machine.specs.Record.{with_halts}
use Rattle.machine.specs.World.{World, in_state, dropped, Out, out}
use Rattle.machine.specs.Control.{reset}
use Rattle.machine.specs.Bulk.{locked_state, on_wrapper, out_stage, packet_out, ask, deliver, packet_in}
use Rattle.machine.specs.Machine.{Event, bus_reset, control, bulk_out, bulk_in, set_switch, lent, checks, effect, step, run}
use Rattle.machine.proofs.Along.{along}
use Rattle.machine.proofs.Judge.{Barred, Passed, judge}
use Rattle.machine.proofs.Requests.{Did, stalls, sends, acks, halts, addresses, configures, resets, performs}
use Rattle.machine.proofs.Due.{due}

-- configured, locked, both pipes halted
record Locked (w : World) : Type 0 where
  configured : w.dev.state.configured ≡ true
  halted : (w.dev.state.link.haltin and w.dev.state.link.haltout) ≡ true
  locked : w.dev.state.link.locked ≡ true

-- what an event leaves of that: locked still unless a drop was acked, the medium as it was, a bulk pipe shut
record Shut (w : World) (e : Event) (o : Out) : Type 0 where
  still : ends e o.answer ≡ false → Locked o.world
  medium : o.world.medium ≡ w.medium
  pipe : shut_at e o.answer ≡ true

refusal-shut : (a : Answer) → is_refusal a ≡ true → is_shut a ≡ true
unfolding is_shut
refusal-shut a h = ap (λ (b : Bool). eqb (number_of a) 3 || b) h ∙ or-true (eqb (number_of a) 3)

stall_shut : is_shut Stall ≡ true
unfolding is_shut
stall_shut = refl

module _ (w : World) (k : Locked w) where
  same : (e : Event) (a : Answer) (b : List ℕ) → shut_at e a ≡ true → Shut w e (out a w b)
  same e a b h = record { still = λ _. k; medium = refl; pipe = h }

  -- ---- control requests

  drops : (q b : List ℕ) (r : Request) (w' : World) → request_of q ≡ r → is_drop r ≡ true → w'.medium ≡ w.medium → Shut w (control q b) (out Ack w' b)
  unfolding shut_at ends is_ack ◌and◌
  drops q b r w' e h m = record { still = λ x. absurd (true≢false (sym (ap is_drop e ∙ h) ∙ x)); medium = m; pipe = refl }

  requests : (q b : List ℕ) (r : Request) (o : Out) → request_of q ≡ r → Did w b r o → Shut w (control q b) o
  unfolding shut_at is_drop with_halts dropped
  requests q b r o e stalls = same _ Stall b refl
  requests q b r o e (sends x n) = same _ _ _ refl
  requests q b r o e (acks m) = same _ Ack b refl
  requests q b r o e (halts hi ho m c h) =
      record { still = λ _. record { configured = c; halted = h k.locked k.halted; locked = k.locked }; medium = refl; pipe = refl }
  requests q b r o e (addresses a c) = absurd (true≢false (sym k.configured ∙ c))
  requests q b r o e (configures v) = drops q b r _ e refl refl
  requests q b r o e (resets c) = drops q b r _ e refl refl

  -- ---- one event

  refused : (e : Event) (a : Answer) → Barred w e a → Shut w e (out a w (lent e))
  unfolding shut_at checks lent
  refused bus_reset a x = same _ a [] refl
  refused (control q b) a x = same _ a b refl
  refused (bulk_out p) a x = same _ a [] (refusal-shut a (x.number k.configured refl))
  refused (bulk_in b) a x = same _ a b (refusal-shut a (x.number k.configured refl))
  refused (set_switch y n) a x = same _ a [] refl

  event : (e : Event) → Passed w e → Shut w e (effect w e)
  unfolding effect reset dropped packet_out packet_in ask deliver shut_at ends is_ack
  event bus_reset x = record { still = λ y. absurd (true≢false y); medium = refl; pipe = refl }
  event (control q b) x = requests q b (request_of q) _ refl (performs w b (request_of q))
  event (bulk_out p) x = subst (Shut w (bulk_out p)) (sym (if-true w.dev.state.link.haltout (out Stall w []) _ (both _ _ k.halted).1)) (same (bulk_out p) Stall [] stall_shut)
  event (bulk_in b) x =
      subst (λ (a : Asked). Shut w (bulk_in b) (deliver a w b)) (sym (if-true w.dev.state.link.haltin (Quiet Stall) _ (both _ _ k.halted).0)) (same (bulk_in b) Stall b stall_shut)
  event (set_switch y n) x = record { still = λ _. record { configured = k.configured; halted = k.halted; locked = k.locked }; medium = refl; pipe = refl }

-- ---- over a list

or_left : (a b : Bool) → (a || b) ≡ false → a ≡ false
or_left true b h = h
or_left false b h = refl

or_right : (a b : Bool) → (a || b) ≡ false → b ≡ false
or_right true b h = absurd (true≢false h)
or_right false b h = h

-- as long as no drop was acked: locked, each bulk event shut, the medium as it was
record Held (m : List ℕ) (v : Watch) (w : World) : Type 0 where
  locked : v.ended ≡ false → Locked w
  shut : v.ended ≡ false → v.shut ≡ true
  medium : v.ended ≡ false → w.medium ≡ m

held_on : (m : List ℕ) (v : Watch) (w : World) (e : Event) → Held m v w → Held m (watch v e (step w e).answer) (step w e).world
unfolding watch
held_on m v w e h =
    record {
      locked = λ n. (one n).still (or_right v.ended (ends e (step w e).answer) n);
      shut = λ n. and_true v.shut (shut_at e (step w e).answer) (h.shut (before n)) (one n).pipe;
      medium = λ n. (one n).medium ∙ h.medium (before n);
    }
  where
    before : (v.ended || ends e (step w e).answer) ≡ false → v.ended ≡ false
    before n = or_left v.ended (ends e (step w e).answer) n

    one : (v.ended || ends e (step w e).answer) ≡ false → Shut w e (step w e)
    one n = let k = h.locked (before n) in judge (Shut w e) w e (refused w k e) (event w k e)

stays : (w : World) (gs : List Event) → Locked w → (watched gs (answers (run w gs).replies)).ended ≡ false
    → ((watched gs (answers (run w gs).replies)).shut ≡ true) × ((run w gs).world.medium ≡ w.medium)
unfolding watched
stays w gs k n =
    let h = along watch (Held w.medium) (held_on w.medium) (record { ended = false; shut = true }) w gs (record { locked = λ _. k; shut = λ _. refl; medium = λ _. refl }) in
    (h.shut n, h.medium n)

-- ---- a broken wrapper where one is due

locked_of : (w : World) → w.dev.state.configured ≡ true → Locked (in_state w (locked_state w.dev.state))
unfolding locked_state with_halts ◌and◌
locked_of w c = record { configured = c; halted = refl; locked = refl }

breaks : (w : World) (p : List ℕ) → accepted (length w.units) p ≡ false → is_refusal (step w (bulk_out p)).answer ≡ false → IsDue w.dev
    → step w (bulk_out p) ≡ out Stall (in_state w (locked_state w.dev.state)) []
unfolding effect packet_out out_stage on_wrapper wrapper_of checks
breaks w p n r u =
    judge (λ (o : Out). is_refusal o.answer ≡ false → o ≡ out Stall (in_state w (locked_state w.dev.state)) []) w (bulk_out p)
    (λ a x e. absurd (true≢false (sym (x.number u.configured refl) ∙ e)))
    (λ _ _. if-false w.dev.state.link.haltout _ _ u.unhalted
    ∙ ap (λ (g : Stage). out_stage g w p) u.ready
    ∙ ap (λ (x : Option Wrapper). on_wrapper x w) (if-false (accepted (length w.units) p) _ _ n))
    r

pub locks : (w : World) → Locks w
unfolding Locks run
locks w p n r h gs z =
    let u = due w h in
    let w' = in_state w (locked_state w.dev.state) in
    let e : step w (bulk_out p) ≡ out Stall w' [] = breaks w p n r u in
    let s = stays w' gs (locked_of w u.configured) (subst (λ (o : Out). (watched gs (answers (run o.world gs).replies)).ended ≡ false) e z) in
    record {
      stalls = ap (λ (o : Out). o.answer) e;
      pipes = subst (λ (o : Out). (watched gs (answers (run o.world gs).replies)).shut ≡ true) (sym e) s.0;
      medium = subst (λ (o : Out). (run o.world gs).world.medium ≡ w.medium) (sym e) s.1;
    }
