-- The showing call beside the copying one, and what is claimed of every list of events, of every list of calls. Assumes nothing.
use Prim.Native.Nat.{ℕ, ◌≤◌}
use mathlib.Core.Path.{◌≡◌, refl, sym, ap, subst, ◌∙◌}
use mathlib.Core.Bool.{Bool, true, false, not, ◌||◌, true≢false}
use mathlib.Core.List.{List, [], ◌∷◌}
use native.Mathlib.Omega.{arith}
use lib.ListN.{length}
use borrow.Author.Tests.{le-leb}
use Rattle.std.specs.declared.result.Result.TheVariants.{Ok, Err}
use Rattle.wire.specs.Choice.{when◌then◌else◌, ◌and◌}
use Rattle.wire.specs.Slices.{zeros, same}
use Rattle.wire.proofs.Cases.{and_false, by-if}
use Rattle.wire.proofs.Same.{same_equal, same_self}
use Rattle.wire.proofs.Packets.{length-zeros}
use Rattle.machine.specs.declared.answer.Answer.{Answer}
use Rattle.machine.specs.declared.answer.Answer.TheVariants.{Data, Ack, Nak, Stall, Silent, Refused}
use Rattle.machine.specs.declared.answer.Refusal.TheVariants as refusal
use Rattle.machine.specs.declared.checks.Checks.{Checks}
use Rattle.machine.specs.declared.ask.Source.TheVariants as source
use Rattle.machine.specs.declared.ask.Asked.{Asked}
use Rattle.machine.specs.declared.ask.Asked.TheVariants.{Quiet, Packet}
use Rattle.machine.specs.declared.show.Extent.TheVariants as extent
use Rattle.machine.specs.Answer.{count_of}
use Rattle.machine.specs.Units.{medium_fits}
use Rattle.machine.specs.World.{World, Out}
use Rattle.machine.specs.Bulk.{packet_size, ask, packet_in}
use Rattle.machine.specs.Machine.{Event, bulk_in, lent, fitting, checks, Verdict, check, in_order, effect, judged, step, seen, Run, run}
use Rattle.machine.specs.Tally.{start}
use Rattle.machine.specs.Claim.{answers, born, lived, Locks, Demand3}
use Rattle.machine.specs.Beside.{is_quiet}
use Rattle.machine.specs.Isolation.{AllAlike, AllAgree, nothing, over_medium, Isolation}
use Rattle.machine.specs.Ledger.{Ledger}
use Rattle.machine.specs.Show.{reply_of, show_checks, Shown, shown, show_from, show_asked, show_judged, show}
use Rattle.machine.specs.EitherCall.{hands_status, passing, status_next, Shows, Call, event, showing, asked, step_call, is_idle, run_calls, events_of, EitherCall}
use Rattle.machine.proofs.Judge.{by_verdict, fit_passed, in-medium}
use Rattle.machine.proofs.Fit.{fit_of}
use Rattle.machine.proofs.Demand.{demand3}
use Rattle.machine.proofs.Ledger.{keeps-ledger}
use Rattle.machine.proofs.Isolation.{isolation}
use Rattle.machine.proofs.Stands.{Counts, Agrees, still, at-ask}

-- ---- the checks

-- with the record's reply lent they are those of an ask that is lent 64 bytes
same-checks : (w : World) (b : List ℕ) → packet_size ≤ length b → show_checks w (reply_of w) ≡ checks w (bulk_in b)
unfolding show_checks checks ◌and◌
same-checks w b h =
    λ i. record {
      fits = (ap (λ (x : Bool). fitting w and x) (same_self (reply_of w)) ∙ and_same (fitting w)) i;
      medium = medium_fits w.units w.medium;
      buffer = sym (le-leb packet_size (length b) h) i;
      packet = true;
      setup = true;
      configured = w.dev.state.configured;
      unit = true;
    }
  where
    and_same : (x : Bool) → x and true ≡ x
    and_same true = refl
    and_same false = refl

-- and what they refuse with counts no bytes
quiet_count : (a : Answer) → is_quiet a ≡ true → count_of a ≡ 0
unfolding is_quiet
quiet_count (Data n) e = absurd (true≢false (sym e))
quiet_count Ack e = refl
quiet_count Nak e = refl
quiet_count Stall e = refl
quiet_count Silent e = refl
quiet_count (Refused r) e = refl

-- at each verdict, and so with the record's reply lent
module _ (w : World) (b : List ℕ) where
  abbrev At : Verdict → Out → Type 0
  At v c = Agrees w b (reply_of w) (passing v and hands_status (ask w.dev.state)) (show_judged v w) c

  by-each : At (in_order (checks w (bulk_in b))) (step w (bulk_in b))
  unfolding step effect packet_in lent judged show_judged passing ◌and◌
  by-each =
      by_verdict (λ (v : Verdict). At v (judged v w b (packet_in w b))) w (bulk_in b)
      (λ a x. still w b (reply_of w) _ a (quiet_count a x.still))
      (λ x. at-ask w b (fit_of w (fit_passed (bulk_in b) x)) (in-medium [] b x))

  agrees : packet_size ≤ length b → Agrees w b (reply_of w) (status_next w) (show w (reply_of w)) (step w (bulk_in b))
  unfolding status_next show
  agrees h = subst (λ (c : Checks). At (in_order c) (step w (bulk_in b))) (sym (same-checks w b h)) by-each

-- ---- one call

-- with a status due
by_status : (w : World) (v : Verdict) → passing v and hands_status (ask w.dev.state) ≡ true → show_judged v w ≡ shown Nak w extent.Nowhere
unfolding passing hands_status show_judged show_asked show_from ◌and◌
by_status w (Err a) e = absurd (true≢false (sym e))
by_status w (Ok u) e = go (ask w.dev.state) e
  where
    go : (a : Asked) → hands_status a ≡ true → show_asked a w ≡ shown Nak w extent.Nowhere
    go (Quiet a) e = absurd (true≢false (sym e))
    go (Packet (source.Medium place n) s) e = absurd (true≢false (sym e))
    go (Packet (source.Reply q place n) s) e = absurd (true≢false (sym e))
    go (Packet (source.Status c) s) e = refl

-- with another reply lent
no_fit : (c : Checks) → c.fits ≡ false → in_order c ≡ Err (Refused refusal.Record)
unfolding in_order check
no_fit c e = simp e

refused : (w : World) (r : List ℕ) → same r (reply_of w) ≡ false → show w r ≡ shown (Refused refusal.Record) w extent.Nowhere
unfolding show show_judged show_checks
refused w r e = ap (λ (v : Verdict). show_judged v w) (no_fit (show_checks w r) (ap (λ (x : Bool). fitting w and x) e ∙ and_false (fitting w)))

by_same : (r s : List ℕ) (P : Type 0) → (r ≡ s → P) → (same r s ≡ false → P) → P
by_same r s P f g = by-if (λ (x : Bool). P) (same r s) true false (λ e. f (same_equal r s e)) g

pub shows : Shows
unfolding status_next show
shows =
    record {
      alike = λ w b l. (agrees w b (omega (arith, l))).1;
      counted = λ w r. by_same r (reply_of w) _
          (λ e. subst (λ (q : List ℕ). Counts w q (show w q)) (sym e) (agrees w (zeros packet_size) (omega (arith, length-zeros packet_size))).0)
          (λ e. subst (Counts w r) (sym (refused w r e)) (still w [] r true (Refused refusal.Record) refl).0);
      status = λ w. by_status w (in_order (show_checks w (reply_of w)));
      other = λ w r n. by_same r (reply_of w) _ (λ e. absurd (n e)) (refused w r);
    }

-- ---- a list of calls

-- an idle call changes nothing, and any other is its event
abbrev Taken : World → Call → Type 0
Taken w c = (is_idle w c ≡ true → (step_call w c).world ≡ w) × (is_idle w c ≡ false → step_call w c ≡ step w (asked c))

takes : (w : World) (c : Call) → Taken w c
unfolding is_idle step_call asked
takes w (event e) = (λ h. absurd (true≢false (sym h)), λ _. refl)
takes w (showing r) = by_same r (reply_of w) _ (λ e. subst (λ (q : List ℕ). Taken w (showing q)) (sym e) own) another
  where
    own : Taken w (showing (reply_of w))
    own =
        let n : is_idle w (showing (reply_of w)) ≡ status_next w = ap (λ (x : Bool). not x || status_next w) (same_self (reply_of w)) in
        (λ h. ap (λ (o : Shown). o.world) (shows.status w (sym n ∙ h)), λ h. shows.alike w (zeros packet_size) (length-zeros packet_size) (sym n ∙ h))

    another : same r (reply_of w) ≡ false → Taken w (showing r)
    another e = (λ _. ap (λ (o : Shown). o.world) (refused w r e), λ h. absurd (true≢false (ap (λ (x : Bool). not x || status_next w) (sym e) ∙ h)))

-- one call before a list of them, which is the run of its events
joins : (w : World) (idle : Bool) (o : Out) (e : Event) (es : List Event) (r : Run) → r ≡ run o.world es → (idle ≡ true → o.world ≡ w) × (idle ≡ false → o ≡ step w e)
    → record { replies = when idle then r.replies else seen o ∷ r.replies; world = r.world } ≡ run w (when idle then es else e ∷ es)
unfolding run when◌then◌else◌
joins w true o e es r i h = i ∙ ap (λ (v : World). run v es) (h.0 refl)
joins w false o e es r i h =
    let p = h.1 refl in
    let q = i ∙ ap (λ (x : Out). run x.world es) p in
    λ j. record { replies = seen (p j) ∷ (q j).replies; world = (q j).world }

runs : (w : World) (cs : List Call) → run_calls w cs ≡ run w (events_of w cs)
unfolding run_calls events_of run
runs w [] = refl
runs w (c ∷ cs) = let o = step_call w c in joins w (is_idle w c) o (asked c) (events_of o.world cs) (run_calls o.world cs) (runs o.world cs) (takes w c)

pub either_call : EitherCall
unfolding lived Demand3 Ledger Isolation
either_call =
    record {
      runs = runs;
      demand3 = λ k m cs. let d = demand3 k m (events_of (born k) cs) in (d.0, subst (λ (r : Run). Locks r.world) (sym (runs (born k) cs)) d.1);
      balanced = λ k m cs. keeps-ledger k m (events_of (born k) cs);
      isolation = λ k m b m' a cs cs' h.
          let es = events_of (born k) cs in
          let es' = events_of (born (over_medium k m')) cs' in
          subst (λ (r : Run). AllAgree k.units b (start k) nothing es r.replies (run_calls (born (over_medium k m')) cs').replies) (sym (runs (born k) cs))
          (subst (λ (r : Run). AllAgree k.units b (start k) nothing es (run (born k) es).replies r.replies) (sym (runs (born (over_medium k m')) cs'))
          (isolation k m b m' a es es' (subst (λ (r : Run). AllAlike b (start k) es (answers r.replies) es') (runs (born k) cs) h)));
    }
