-- Where a wrapper is due on an unhalted pipe: what the two answers tell of the record. Assumes nothing.
use Prim.Native.Nat.{ℕ}
use mathlib.Core.Path.{◌≡◌, refl, sym, ap, ◌∙◌, subst}
use mathlib.Core.Bool.{Bool, true, false, true≢false}
use mathlib.Core.List.{List, [], ◌∷◌}
use native.Mathlib.Omega.{arith}
use lib.Dec.{leb, eqb}
use lib.ListN.{length}
use borrow.Author.Tests.{ne_eqb}
use Rattle.wire.specs.Choice.{when◌then◌else◌}
use Rattle.wire.proofs.Cases.{both, by-if, if-true, if-false}
use Rattle.bot.proofs.Wrappers.{readable_long}
use Rattle.machine.specs.declared.record.Stage.{Stage}
use Rattle.machine.specs.declared.record.Stage.TheVariants.{Ready, DataOut, DataIn, ReplyIn, StatusDue}
use Rattle.machine.specs.declared.answer.Answer.{Answer}
use Rattle.machine.specs.declared.answer.Answer.TheVariants.{Ack, Nak, Stall}
use Rattle.machine.specs.Answer.{number_of}
use Rattle.machine.specs.Record.{moved}
use Rattle.machine.specs.World.{World, Out, out, UnitOut, in_unit}
use Rattle.machine.specs.Wrapper.{accepted}
use Rattle.machine.specs.Bulk.{cut_state, cut_short, on_data, out_stage, packet_out}
use Rattle.machine.specs.Machine.{bulk_out, effect, step}
use Rattle.machine.specs.Claim.{good_test, WrapperDue}
use Rattle.machine.specs.Beside.{IsDue}
use Rattle.machine.proofs.Judge.{Passed, judge, out-configured}
use Rattle.machine.proofs.Recover.{first}

-- a packet answered by 0 to 3 passed its checks
ran : (w : World) (p : List ℕ) (a : Answer) → leb 4 (number_of a) ≡ false → (step w (bulk_out p)).answer ≡ a → (step w (bulk_out p) ≡ packet_out w p) × Passed w (bulk_out p)
unfolding effect
ran w p a h e =
    judge (λ (o : Out). leb 4 (number_of o.answer) ≡ false → (o ≡ packet_out w p) × Passed w (bulk_out p)) w (bulk_out p)
    (λ b x n. absurd (true≢false (sym x.high ∙ n)))
    (λ x n. (refl, x))
    (ap (λ (x : Answer). leb 4 (number_of x)) e ∙ h)

other : (a b : Answer) → (number_of a ≡ number_of b → ⊥) → a ≡ b → ⊥
other a b n e = n (ap number_of e)

stall_nak : Stall ≡ Nak → ⊥
stall_nak = other Stall Nak (λ e. omega arith)

stall_ack : Stall ≡ Ack → ⊥
stall_ack = other Stall Ack (λ e. omega arith)

nak_ack : Nak ≡ Ack → ⊥
nak_ack = other Nak Ack (λ e. omega arith)

-- a halted pipe never naks
halted : (w : World) (p : List ℕ) → w.dev.state.link.haltout ≡ true → (step w (bulk_out p)).answer ≡ Nak → ⊥
unfolding packet_out
halted w p h e =
    let r : step w (bulk_out p) ≡ out Stall w [] = (ran w p Nak refl e).0 ∙ if-true w.dev.state.link.haltout _ _ h in
    stall_nak (sym (ap (λ (o : Out). o.answer) r) ∙ e)

-- ---- the stage in which a good wrapper is acked, and another after it nakked

long : (count : ℕ) (p : List ℕ) → good_test count p ≡ true → length p ≡ 31
unfolding good_test accepted
long count p g = readable_long p (both _ _ (both _ _ g).0).0

-- as data it is of a wrong length, and halts the pipe
cut_halts : (w : World) (n block left held : ℕ) (p : List ℕ) → length p ≡ 31 → (in_unit w n (on_data block left held p)).world.dev.state.link.haltout ≡ true
unfolding in_unit on_data cut_short cut_state moved
cut_halts w n block left held p l = ap (λ (r : UnitOut). r.dev.state.link.haltout) (if-false _ _ _ (ne_eqb (length p) 64 (λ e. omega arith)))

stage_of : (w : World) (p : List ℕ) → length p ≡ 31 → (g : Stage) → (out_stage g w p).answer ≡ Ack → (step (out_stage g w p).world (bulk_out p)).answer ≡ Nak → g ≡ Ready
unfolding out_stage
stage_of w p n Ready a b = refl
stage_of w p n (DataOut block left held) a b =
    by-if (λ (o : Out). o.answer ≡ Ack → (step o.world (bulk_out p)).answer ≡ Nak → DataOut block left held ≡ Ready) (eqb left 0) _ _
    (λ _ x y. absurd (nak_ack x))
    (λ _ x y. absurd (halted _ p (cut_halts w _ block left held p n) y))
    a b
stage_of w p n (DataIn place left) a b = absurd (nak_ack a)
stage_of w p n (ReplyIn reply place left) a b = absurd (nak_ack a)
stage_of w p n (StatusDue status) a b = absurd (nak_ack a)

unhalted_of : (w : World) (p : List ℕ) → (packet_out w p).answer ≡ Ack → w.dev.state.link.haltout ≡ false
unfolding packet_out when◌then◌else◌
unhalted_of w p = go w.dev.state.link.haltout
  where
    go : (b : Bool) → (when b then out Stall w [] else out_stage w.dev.state.link.task.stage w p).answer ≡ Ack → b ≡ false
    go true e = absurd (stall_ack e)
    go false e = refl

pub due : (w : World) → WrapperDue w → IsDue w.dev
unfolding WrapperDue packet_out
due w (p, good, h) =
    let f = first w (bulk_out p) (bulk_out p ∷ []) Ack (Nak ∷ []) h in
    let g = first (step w (bulk_out p)).world (bulk_out p) [] Nak [] f.1 in
    let r = ran w p Ack refl f.0 in
    let o : w.dev.state.link.haltout ≡ false = unhalted_of w p (sym (ap (λ (x : Out). x.answer) r.0) ∙ f.0) in
    let e : step w (bulk_out p) ≡ out_stage w.dev.state.link.task.stage w p = r.0 ∙ if-false w.dev.state.link.haltout _ _ o in
    record {
      configured = out-configured p [] r.1;
      unhalted = o;
      ready = stage_of w p (long (length w.units) p good) w.dev.state.link.task.stage
          (sym (ap (λ (x : Out). x.answer) e) ∙ f.0)
          (subst (λ (x : Out). (step x.world (bulk_out p)).answer ≡ Nak) e g.0);
    }
