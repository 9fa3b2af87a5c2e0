-- Every record reached fits; where a wrapper is due, exactly; and recovery can be had. Assumes nothing.
use Prim.Native.Nat.{ℕ, ◌≤◌}
use mathlib.Core.Path.{◌≡◌, refl, sym, ap, ◌∙◌, subst}
use mathlib.Core.Bool.{Bool, true, false}
use mathlib.Core.List.{List, [], ◌∷◌, ◌++◌}
use native.Mathlib.Omega.{arith}
use lib.ListN.{length}
use borrow.Author.Tests.{le-leb, lt-ltb}
use Rattle.std.specs.declared.option.Option.{Option}
use Rattle.std.specs.declared.option.Option.TheVariants.{Some}
use Rattle.wire.specs.Slices.{zeros}
use Rattle.wire.proofs.Cases.{both, if-true, if-false}
use Rattle.scsi.specs.declared.command.Plan.{Plan}
use Rattle.scsi.specs.declared.command.Plan.TheVariants.{Nothing}
use Rattle.scsi.proofs.Plans.{test-has-nothing}
use Rattle.bot.specs.Cbw.{cbw_signature, header_of}
use Rattle.bot.specs.declared.csw.Status.TheVariants.{Passed}
use Rattle.bot.proofs.Wrappers.{readable_long}
use Rattle.machine.specs.declared.wrapper.Wrapper.{Wrapper}
use Rattle.machine.specs.declared.record.Stage.{Stage}
use Rattle.machine.specs.declared.record.Stage.TheVariants.{StatusDue}
use Rattle.machine.specs.declared.answer.Answer.TheVariants.{Ack, Nak}
use Rattle.machine.specs.Units.{as_made, medium_fits}
use Rattle.machine.specs.Record.{with_halts, dropped_state}
use Rattle.machine.specs.World.{World, dropped, Out, out}
use Rattle.machine.specs.Control.{halt_in, halt_out}
use Rattle.machine.specs.Wrapper.{accepted, wrapper, wrapper_of}
use Rattle.machine.specs.Bulk.{on_wrapper, out_stage, packet_out}
use Rattle.machine.specs.Machine.{Event, bulk_out, fitting, checks, effect, step, run}
use Rattle.machine.specs.Tally.{Making}
use Rattle.machine.specs.Claim.{answers, born, Makes, lived, recovery, good_test, WrapperDue}
use Rattle.machine.specs.Beside.{Reached, IsDue, Accepts, DueExactly, CanRecover}
use Rattle.machine.proofs.Compute.{computes}
use Rattle.machine.proofs.Along.{always}
use Rattle.machine.proofs.Judge.{passes}
use Rattle.machine.proofs.Tables.{cleared-sensed, same_parts, same_total, laid-some}
use Rattle.machine.proofs.Making.{sound, born-fresh}
use Rattle.machine.proofs.Fit.{Fit, fit_of, fits_of_lem}
use Rattle.machine.proofs.Reach.{stays_fit}
use Rattle.machine.proofs.Recover.{fits_after, fits_fresh, resets, clears-in, clears-out}
use Rattle.machine.proofs.Due.{due}
use Rattle.machine.proofs.Demand.{together, made-parts, same_size}

-- ---- every record reached fits

born-fits : (k : Making) → Makes k → Fit (born k)
born-fits k ok =
    subst Fit (sym (born-fresh k ok)) (fit_of _ (fits_fresh k (sound k ok)))

pub reached : Reached
unfolding lived born
reached k ok es = (fits_of_lem _ (always Fit (λ w e f. stays_fit w f e) (born k) es (born-fits k ok)), (together k ok es).identity, made-parts k ok es ∙ sym (ap (λ (w : World). w.units) (born-fresh k ok)), (together k ok es).units)

-- ---- recovery can be had

three_acks : (w : World) (e f g : Event) (w₁ w₂ w₃ : World) (x y z : List ℕ)
    → step w e ≡ out Ack w₁ x → step w₁ f ≡ out Ack w₂ y → step w₂ g ≡ out Ack w₃ z
    → answers (run w (e ∷ f ∷ g ∷ [])).replies ≡ (Ack ∷ Ack ∷ Ack ∷ [])
unfolding run answers
three_acks w e f g w₁ w₂ w₃ x y z e₁ e₂ e₃ = rw (e₁, e₂, e₃)

recovers : (w : World) → fitting w ≡ true → w.dev.state.configured ≡ true
    → (order : Bool) (x y z : List ℕ) → 64 ≤ length x → 64 ≤ length y → 64 ≤ length z
    → answers (run w (recovery order x y z)).replies ≡ (Ack ∷ Ack ∷ Ack ∷ [])
unfolding recovery dropped dropped_state halt_in halt_out with_halts
recovers w f c true x y z hx hy hz =
    let e₁ = resets w f c x hx in
    let f₁ = fits_after w _ x _ f e₁ in
    let e₂ = clears-in _ f₁ refl y hy in
    let f₂ = fits_after _ _ y _ f₁ e₂ in
    three_acks w _ _ _ _ _ _ x y z e₁ e₂ (clears-out _ f₂ refl z hz)
recovers w f c false x y z hx hy hz =
    let e₁ = resets w f c x hx in
    let f₁ = fits_after w _ x _ f e₁ in
    let e₂ = clears-out _ f₁ refl y hy in
    let f₂ = fits_after _ _ y _ f₁ e₂ in
    three_acks w _ _ _ _ _ _ x y z e₁ e₂ (clears-in _ f₂ refl z hz)

pub can_recover : CanRecover
can_recover k ok es c order x y z hx hy hz = recovers (lived k es).world (reached k ok es).0 ((together k ok es).configured ∙ c) order x y z hx hy hz

-- ---- a wrapper is due

-- a packet whose checks pass
out_passed : (w : World) (p : List ℕ) → fitting w ≡ true → medium_fits w.units w.medium ≡ true → length p ≤ 64 → w.dev.state.configured ≡ true
    → step w (bulk_out p) ≡ packet_out w p
unfolding checks effect
out_passed w p f n h c = passes w (bulk_out p) (record { fit = f; medium = n; buffer = refl; packet = le-leb (length p) 64 h; setup = refl; configured = c; unit = refl })

-- an accepted wrapper begins its command
pub taken : (w : World) (p : List ℕ) (x : Plan) → Accepts w p x → step w (bulk_out p) ≡ on_wrapper (Some (wrapper (header_of p) x)) w
unfolding packet_out out_stage wrapper_of accepted
taken w p x a =
    out_passed w p a.fit a.medium (let r = readable_long p (both _ _ a.accepts).0 in omega arith) a.due.configured
    ∙ if-false _ _ _ a.due.unhalted
    ∙ ap (λ (g : Stage). out_stage g w p) a.due.ready
    ∙ ap (λ (y : Option Wrapper). on_wrapper y w) (if-true _ _ _ a.accepts ∙ ap (λ (y : Plan). Some (wrapper (header_of p) y)) a.plan)

-- Test Unit Ready of unit 0, announcing 0
abbrev test : List ℕ
test = cbw_signature ++ zeros 10 ++ 6 ∷ zeros 16

good : (n : ℕ) → 1 ≤ n → good_test n test ≡ true
unfolding computes
good n h = simp (lt-ltb 0 n h)

-- it has no data, and the status is due at once
abbrev after : World → World
after w = (on_wrapper (Some (wrapper (header_of test) Nothing)) w).world

-- the collector after it: as before, but for the task
record StatusNext (w w' : World) : Type 0 where
  configured : w'.dev.state.configured ≡ w.dev.state.configured
  haltout : w'.dev.state.link.haltout ≡ w.dev.state.link.haltout
  stage : w'.dev.state.link.task.stage ≡ StatusDue Passed
  parts : as_made w'.units ≡ as_made w.units
  medium : w'.medium ≡ w.medium

status_next_lem : (w : World) → StatusNext w (after w)
unfolding computes
status_next_lem w = record { configured = refl; haltout = refl; stage = refl; parts = same_parts (after w).units w.units (cleared-sensed w.units 0 _); medium = refl }

acks_test : (w : World) → on_wrapper (Some (wrapper (header_of test) Nothing)) w ≡ out Ack (after w) []
unfolding on_wrapper
acks_test w = refl

two : (w : World) (e f : Event) (w₁ : World) (x : List ℕ) → step w e ≡ out Ack w₁ x → (step w₁ f).answer ≡ Nak → answers (run w (e ∷ f ∷ [])).replies ≡ (Ack ∷ Nak ∷ [])
unfolding run answers
two w e f w₁ x e₁ n = rw (e₁, n)

test-length : length test ≡ 31
unfolding zeros
test-length = refl

-- with the status due, bulk-out naks
naks : (w : World) → w.dev.state.link.haltout ≡ false → w.dev.state.link.task.stage ≡ StatusDue Passed → (packet_out w test).answer ≡ Nak
unfolding packet_out out_stage
naks w o e = ap (λ (r : Out). r.answer) (if-false _ _ _ o ∙ ap (λ (g : Stage). out_stage g w test) e)

pub same-medium : (w w' : World) → as_made w'.units ≡ as_made w.units → w'.medium ≡ w.medium → medium_fits w.units w.medium ≡ true → medium_fits w'.units w'.medium ≡ true
unfolding medium_fits
same-medium w w' e m h = simp (same_total w'.units w.units e, m) h

is_due : (w : World) → fitting w ≡ true → medium_fits w.units w.medium ≡ true → IsDue w.dev → WrapperDue w
unfolding WrapperDue good_test zeros
is_due w f n u =
    let short : length test ≤ 64 = omega (arith, test-length) in
    let g = good (length w.units) (laid-some w.units (fit_of w f).laid) in
    let e₁ = taken w test Nothing (record { fit = f; medium = n; due = u; accepts = (both _ _ g).0; plan = test-has-nothing _ _ }) ∙ acks_test w in
    let s = status_next_lem w in
    let f₁ = fits_after w (after w) [] (bulk_out test) f e₁ in
    let e₂ = out_passed (after w) test f₁ (same-medium w (after w) s.parts s.medium n) short (s.configured ∙ u.configured) in
    (test, g, two w (bulk_out test) (bulk_out test) (after w) [] e₁ (ap (λ (o : Out). o.answer) e₂ ∙ naks (after w) (s.haltout ∙ u.unhalted) s.stage))

-- the medium keeps the size that the table has
whole : (k : Making) → Makes k → (es : List Event) → medium_fits (lived k es).world.units (lived k es).world.medium ≡ true
unfolding medium_fits
whole k ok es =
    simp (same_total (lived k es).world.units k.units (made-parts k ok es), same_size k ok es) (sound k ok).whole

pub due_exactly : DueExactly
due_exactly k ok es = (due (lived k es).world, is_due (lived k es).world (reached k ok es).0 (whole k ok es))
