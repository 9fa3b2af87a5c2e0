-- The halt after data: the claim of specs/Halts.antt. Assumes nothing.
use Prim.Native.Nat.{ℕ, ◌+◌, ◌*◌, ◌-◌, ◌≤◌, ◌<◌, min}
use mathlib.Core.Path.{◌≡◌, refl, sym, ap, subst, ◌∙◌}
use mathlib.Core.Bool.{Bool, true, false, true≢false}
use mathlib.Core.List.{List}
use native.Mathlib.Omega.{arith}
use lib.Dec.{leb, ltb, eqb}
use lib.ListN.{length}
use borrow.Author.Tests.{leb-true, leb-false, ltb-true, ltb-false, eqb-true, lt-ltb, le-ltb, eq-eqb}
use Rattle.wire.specs.Choice.{when◌then◌else◌}
use Rattle.wire.proofs.Cases.{by-if, if-true, if-false}
use Rattle.scsi.specs.declared.command.Plan.{Plan}
use Rattle.scsi.specs.declared.command.Plan.TheVariants.{Failed, Nothing, Reply, Read, Write}
use Rattle.bot.specs.declared.csw.Status.TheVariants.{Passed}
use Rattle.cases.specs.Claims.{amount, is_after_data, after_data, Follows, nothing_moves, no_match, all_in, all_out}
use Rattle.cases.specs.declared.Case.{Case}
use Rattle.cases.specs.declared.Halt.{Halt}
use Rattle.cases.specs.declared.Halt.TheVariants as halt
use Rattle.cases.specs.declared.Pipe.{Pipe}
use Rattle.machine.specs.declared.record.Stage.{Stage}
use Rattle.machine.specs.declared.record.Stage.TheVariants.{Ready, DataOut, DataIn, ReplyIn, StatusDue}
use Rattle.machine.specs.declared.record.LogicalUnit.{LogicalUnit}
use Rattle.machine.specs.declared.record.Task.{Task}
use Rattle.machine.specs.declared.record.State.{State}
use Rattle.machine.specs.declared.record.Device.{Device}
use Rattle.machine.specs.declared.ask.Source.{Source}
use Rattle.machine.specs.declared.ask.Asked.{Asked}
use Rattle.machine.specs.Record.{moved}
use Rattle.machine.specs.World.{World, Out, UnitOut, in_unit}
use Rattle.machine.specs.Begin.{has_of, data_stage, first_stage, staged, begun_by, begun}
use Rattle.machine.specs.Bulk.{onward, halt_at_end, next_out, stored_state, stored_block, gathered_state, gathered, on_data, out_stage, packet_out, next_in, handed_state, next_packet, ask_stage, ask, deliver, packet_in}
use Rattle.machine.specs.Halts.{due, residue_at_end, moves, is_sending, is_taking, is_status_due, GoesOn, HaltAfterData}
use Rattle.machine.proofs.Fit.{Fit, fit_of, due-fits}
use Rattle.machine.proofs.Reach.{case_follows}

-- ---- at the wrapper

-- all of a command's data is due at first
data_due : (p : Plan) (u : LogicalUnit) → due (data_stage p u) ≡ amount (has_of p)
unfolding due data_stage has_of
data_due (Failed s) u = refl
data_due Nothing u = refl
data_due (Reply k n) u = refl
data_due (Read block count) u = refl
data_due (Write block count) u = refl

over : (a n : ℕ) → ltb n a ≡ ltb 0 (a - n)
over a n = go (ltb n a) refl
  where
    go : (b : Bool) → ltb n a ≡ b → ltb n a ≡ ltb 0 (a - n)
    go true e = let l = ltb-true n a e in e ∙ sym (lt-ltb 0 (a - n) (omega arith))
    go false e = let l = ltb-false n a e in e ∙ sym (le-ltb 0 (a - n) (omega arith))

after : (x : Pipe) (a n : ℕ) → is_after_data (after_data x a n) ≡ ltb n a
unfolding is_after_data after_data
after x a n = by-if (λ (h : Halt). is_after_data h ≡ ltb n a) (ltb n a) (halt.AfterData x) halt.None sym sym

by_case : (p : Plan) (u : LogicalUnit) (a : ℕ) (c : Case) → Follows a (amount (has_of p)) c → moves c.moves ≡ true
    → is_after_data c.halt ≡ ltb 0 (a - due (staged c.ending c.moves p u))
unfolding staged first_stage moves
by_case p u a c (nothing_moves e) q = absurd (true≢false (sym q))
by_case p u a c (no_match e) q = absurd (true≢false (sym q))
by_case p u a c (all_in l) q = after _ a (amount (has_of p)) ∙ over a (amount (has_of p)) ∙ ap (λ (n : ℕ). ltb 0 (a - n)) (sym (data_due p u))
by_case p u a c (all_out l) q = after _ a (amount (has_of p)) ∙ over a (amount (has_of p)) ∙ ap (λ (n : ℕ). ltb 0 (a - n)) (sym (data_due p u))

-- ---- a packet of data

-- the last of the data halts a pipe that was not halted exactly if some of the announced length is left
at-end : (r : ℕ) (before : Bool) → before ≡ false → halt_at_end true r before ≡ ltb 0 r
unfolding halt_at_end
at-end r before e = if-true true _ _ refl ∙ by-if (λ (b : Bool). b ≡ ltb 0 r) (ltb 0 r) true before sym (λ n. e ∙ sym n)

module _ (s : State) where
  abbrev now : Task
  now = s.link.task

  -- the next stage and residue, where these were the last bytes due, or more are
  last : (r : ℕ) (before : Bool) → before ≡ false → r ≡ residue_at_end now → (g : Stage) → due g ≡ 0
      → GoesOn now (onward s g r) (halt_at_end true r before)
  last r before h e g z = record { same = let a = e in omega arith; ends = λ _. at-end r before h ∙ ap (ltb 0) e }

  more : (r : ℕ) (before : Bool) (g : Stage) → r - due g ≡ residue_at_end now → is_status_due g ≡ false → GoesOn now (onward s g r) before
  more r before g e n = record { same = e; ends = λ y. absurd (true≢false (sym y ∙ n)) }

  handed : (left : ℕ) (g : Stage) → s.link.haltin ≡ false → due now.stage ≡ left → left ≤ now.residue → due g ≡ left - 64 → is_status_due g ≡ false
      → GoesOn now (handed_state s (min 64 left) left g).link.task (handed_state s (min 64 left) left g).link.haltin
  unfolding handed_state moved next_in due when◌then◌else◌
  handed left g h e l z n = go (leb left 64) refl
    where
      r : ℕ
      r = now.residue - min 64 left

      go : (b : Bool) → leb left 64 ≡ b → GoesOn now (onward s (when b then StatusDue Passed else g) r) (halt_at_end b r s.link.haltin)
      go true y = let k = leb-true left 64 y in last r _ h (omega arith) (StatusDue Passed) refl
      go false y = let k = leb-false left 64 y in more r _ g (omega arith) n

  stored : (block left held : ℕ) → s.link.haltout ≡ false → now.stage ≡ DataOut block left held → 0 < left → 512 * left ≤ now.residue
      → GoesOn now (stored_state s block left).link.task (stored_state s block left).link.haltout
  unfolding stored_state moved next_out due is_status_due when◌then◌else◌
  stored block left held h e p l = go (leb left 1) refl
    where
      r : ℕ
      r = now.residue - 512

      d : due now.stage ≡ 512 * left
      d = ap due e

      go : (b : Bool) → leb left 1 ≡ b → GoesOn now (onward s (when b then StatusDue Passed else DataOut (block + 1) (left - 1) 0) r) (halt_at_end b r s.link.haltout)
      go true y = let k = leb-true left 1 y in last r _ h (omega (arith, d)) (StatusDue Passed) refl
      go false y = let k = leb-false left 1 y in more r _ (DataOut (block + 1) (left - 1) 0) (omega (arith, d)) refl

-- ---- the claim

module _ (w : World) (f : Fit w) where
  abbrev s : State
  s = w.dev.state

  enough : due s.link.task.stage ≤ s.link.task.residue
  enough = due-fits w.units s.link.task f.task _ refl

  abbrev Sent : List ℕ → Asked → Type 0
  Sent b a = GoesOn s.link.task (deliver a w b).world.dev.state.link.task (deliver a w b).world.dev.state.link.haltin

  abbrev Left : Device → Type 0
  Left d = GoesOn s.link.task d.state.link.task d.state.link.haltout

  asked : (x : Source) (left : ℕ) (g : Stage) (b : List ℕ) → s.link.haltin ≡ false → due s.link.task.stage ≡ left → 0 < left → due g ≡ left - 64 → is_status_due g ≡ false
      → Sent b (next_packet s left x g)
  unfolding next_packet deliver
  asked x left g b h e p z n =
      by-if (Sent b) (eqb left 0) _ _ (λ y. let k = eqb-true left 0 y in absurd (omega arith)) (λ _. handed s left g h e (let l = enough in omega arith) z n)

  sending : (b : List ℕ) → s.link.haltin ≡ false → (g : Stage) → s.link.task.stage ≡ g → is_sending g ≡ true → Sent b (ask_stage g s)
  unfolding ask_stage is_sending due is_status_due
  sending b h Ready e q = absurd (true≢false (sym q))
  sending b h (DataOut block left held) e q = absurd (true≢false (sym q))
  sending b h (DataIn place left) e q = asked _ left _ b h (ap due e) (ltb-true 0 left q) refl refl
  sending b h (ReplyIn r place left) e q = asked _ left _ b h (ap due e) (ltb-true 0 left q) refl refl
  sending b h (StatusDue x) e q = absurd (true≢false (sym q))

  packet : (block left held : ℕ) (p : List ℕ) (u : LogicalUnit) (m : List ℕ) → s.link.haltout ≡ false → length p ≡ 64 → s.link.task.stage ≡ DataOut block left held → 0 < left
      → Left (on_data block left held p w.dev u m).dev
  unfolding on_data gathered gathered_state moved stored_block due is_status_due
  packet block left held p u m h n e l =
      by-if (λ (r : UnitOut). Left r.dev) (eqb (length p) 64) _ _
      (λ _. by-if (λ (r : UnitOut). Left r.dev) (ltb (held + 64) 512) _ _
      (λ _. more s s.link.task.residue s.link.haltout (DataOut block left (held + 64)) (ap (λ (g : Stage). s.link.task.residue - due g) (sym e)) refl)
      (λ _. stored s block left held h e l (let k = enough in let z : due s.link.task.stage ≡ 512 * left = ap due e in omega arith)))
      (λ y. absurd (true≢false (sym (eq-eqb _ _ n) ∙ y)))

  taking : (p : List ℕ) → s.link.haltout ≡ false → length p ≡ 64 → (g : Stage) → s.link.task.stage ≡ g → is_taking g ≡ true → Left (out_stage g w p).world.dev
  unfolding out_stage in_unit is_taking
  taking p h n Ready e q = absurd (true≢false (sym q))
  taking p h n (DataOut block left held) e q =
      let l = ltb-true 0 left q in
      by-if (λ (o : Out). Left o.world.dev) (eqb left 0) _ _ (λ y. let k = eqb-true left 0 y in absurd (omega arith)) (λ _. packet block left held p _ _ h n e l)
  taking p h n (DataIn place left) e q = absurd (true≢false (sym q))
  taking p h n (ReplyIn r place left) e q = absurd (true≢false (sym q))
  taking p h n (StatusDue x) e q = absurd (true≢false (sym q))

pub halt_after_data : HaltAfterData
unfolding begun begun_by moved packet_in ask packet_out
halt_after_data = record {
  begins = λ h p s u q. by_case p u h.announced _ (case_follows h p) q;
  sends = λ w b f h q. subst (Sent w (fit_of w f) b) (sym (if-false _ _ _ h)) (sending w (fit_of w f) b h _ refl q);
  takes = λ w p f h q n. subst (λ (o : Out). Left w (fit_of w f) o.world.dev) (sym (if-false _ _ _ h)) (taking w (fit_of w f) p h n _ refl q);
}
