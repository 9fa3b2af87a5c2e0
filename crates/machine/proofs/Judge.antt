-- The checks, taken apart once for all events: which answers refuse, and what holds where all are passed. Assumes nothing.
use Prim.Native.Nat.{ℕ, ◌≤◌}
use mathlib.Core.Path.{◌≡◌, refl, sym, ◌∙◌}
use mathlib.Core.Bool.{Bool, true, false, true≢false}
use mathlib.Core.List.{List}
use lib.Dec.{leb}
use lib.ListN.{length}
use borrow.Author.Tests.{leb-true}
use Rattle.std.specs.declared.result.Result.TheVariants.{Ok, Err}
use Rattle.wire.specs.Choice.{◌and◌}
use Rattle.wire.proofs.Cases.{both}
use Rattle.machine.specs.declared.answer.Answer.{Answer}
use Rattle.machine.specs.declared.answer.Answer.TheVariants.{Silent, Refused}
use Rattle.machine.specs.declared.answer.Refusal.{Refusal}
use Rattle.machine.specs.declared.answer.Refusal.TheVariants as refusal
use Rattle.machine.specs.Answer.{number_of, refusal_number}
use Rattle.machine.specs.Units.{switch_fits, medium_fits}
use Rattle.machine.specs.World.{World, Out, out}
use Rattle.machine.specs.Machine.{Event, bus_reset, control, bulk_out, bulk_in, set_switch, lent, fitting, checks, Verdict, check, in_order, effect, judged, step}
use Rattle.machine.specs.Tally.{is_ack}
use Rattle.machine.specs.Claim.{is_refusal}
use Rattle.machine.specs.Beside.{is_quiet}

-- an answer that a check gives: no ack, 4 or more; and of a bulk event of a configured device, which names no unit, one of 10 to 14
pub record Barred (w : World) (e : Event) (a : Answer) : Type 0 where
  pub quiet : is_ack a ≡ false
  pub still : is_quiet a ≡ true
  pub high : leb 4 (number_of a) ≡ true
  pub number : (checks w e).configured ≡ true → (checks w e).unit ≡ true → is_refusal a ≡ true

-- what holds where all checks are passed
pub record Passed (w : World) (e : Event) : Type 0 where
  pub fit : (checks w e).fits ≡ true
  pub medium : (checks w e).medium ≡ true
  pub buffer : (checks w e).buffer ≡ true
  pub packet : (checks w e).packet ≡ true
  pub setup : (checks w e).setup ≡ true
  pub configured : (checks w e).configured ≡ true
  pub unit : (checks w e).unit ≡ true

-- numbers 10 to 14 refuse
refuses_as : (w : World) (e : Event) (r : Refusal) → leb 4 (refusal_number r) ≡ true → is_refusal (Refused r) ≡ true → Barred w e (Refused r)
unfolding is_ack is_quiet
refuses_as w e r h k = record { quiet = refl; still = refl; high = h; number = λ _ _. k }

silent_as : (w : World) (e : Event) → (checks w e).configured ≡ false → Barred w e Silent
unfolding is_ack is_quiet
silent_as w e n = record { quiet = refl; still = refl; high = refl; number = λ c _. absurd (true≢false (sym c ∙ n)) }

beyond_as : (w : World) (e : Event) → (checks w e).unit ≡ false → Barred w e (Refused refusal.Unit)
unfolding is_ack is_quiet
beyond_as w e n = record { quiet = refl; still = refl; high = refl; number = λ _ u. absurd (true≢false (sym u ∙ n)) }

pub by_verdict : (P : Verdict → Type 0) (w : World) (e : Event) → ((a : Answer) → Barred w e a → P (Err a)) → (Passed w e → P (Ok tt)) → P (in_order (checks w e))
unfolding check in_order is_refusal ◌and◌
by_verdict P w e f g =
    by-check _ _ _ (λ _. f _ (refuses_as w e refusal.Record refl refl))
    (λ fit. by-check _ _ _ (λ _. f _ (refuses_as w e refusal.Medium refl refl))
    (λ medium. by-check _ _ _ (λ _. f _ (refuses_as w e refusal.Buffer refl refl))
    (λ buffer. by-check _ _ _ (λ _. f _ (refuses_as w e refusal.Packet refl refl))
    (λ packet. by-check _ _ _ (λ _. f _ (refuses_as w e refusal.Setup refl refl))
    (λ setup. by-check _ _ _ (λ n. f _ (silent_as w e n))
    (λ configured. by-check _ _ _ (λ n. f _ (beyond_as w e n))
    (λ unit. g (record { fit = fit; medium = medium; buffer = buffer; packet = packet; setup = setup; configured = configured; unit = unit }))))))))
  where
    by-check : (b : Bool) (a : Answer) (v : Verdict) → (b ≡ false → P (Err a)) → (b ≡ true → P v) → P (check b a v)
    by-check true a v x y = y refl
    by-check false a v x y = x refl

pub judge : (P : Out → Type 0) (w : World) (e : Event) → ((a : Answer) → Barred w e a → P (out a w (lent e))) → (Passed w e → P (effect w e)) → P (step w e)
unfolding step judged
judge P w e f g = by_verdict (λ (v : Verdict). P (judged v w (lent e) (effect w e))) w e f g

-- an event whose checks pass
pub passes : (w : World) (e : Event) → Passed w e → step w e ≡ effect w e
unfolding step check in_order judged
passes w e x = simp (x.fit, x.medium, x.buffer, x.packet, x.setup, x.configured, x.unit)

-- ---- what the checks tell, by name

pub fit_passed : {w : World} (e : Event) → Passed w e → fitting w ≡ true
unfolding checks
fit_passed bus_reset x = x.fit
fit_passed (control s b) x = x.fit
fit_passed (bulk_out p) x = x.fit
fit_passed (bulk_in b) x = x.fit
fit_passed (set_switch y n) x = (both _ _ x.fit).0

pub switch_passed : {w : World} {y n : ℕ} → Passed w (set_switch y n) → switch_fits y ≡ true
unfolding checks
switch_passed x = (both _ _ x.fit).1

module _ {w : World} (p b : List ℕ) where
  pub out-medium : Passed w (bulk_out p) → medium_fits w.units w.medium ≡ true
  unfolding checks
  out-medium x = x.medium

  pub out-configured : Passed w (bulk_out p) → w.dev.state.configured ≡ true
  unfolding checks
  out-configured x = x.configured

  pub in-configured : Passed w (bulk_in b) → w.dev.state.configured ≡ true
  unfolding checks
  in-configured x = x.configured

  pub in-medium : Passed w (bulk_in b) → medium_fits w.units w.medium ≡ true
  unfolding checks
  in-medium x = x.medium

  pub in-room : Passed w (bulk_in b) → 64 ≤ length b
  unfolding checks
  in-room x = leb-true 64 (length b) x.buffer

  pub control-room : Passed w (control p b) → 64 ≤ length b
  unfolding checks
  control-room x = leb-true 64 (length b) x.buffer
