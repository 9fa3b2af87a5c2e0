-- The claim of specs/Calls.antt: a record that was reached is read as it was written, so each call goes on where the machine does. Assumes nothing.
use Prim.Native.Nat.{ℕ}
use mathlib.Core.Path.{◌≡◌, refl, sym, ap, ◌∙◌, subst}
use mathlib.Core.Bool.{true}
use mathlib.Core.List.{List, [], ◌∷◌}
use Rattle.wire.specs.Choice.{when◌then◌else◌, row, look}
use Rattle.wire.proofs.Cases.{if-true}
use Rattle.machine.specs.declared.answer.Answer.{Answer}
use Rattle.machine.specs.declared.answer.Answer.TheVariants.{Data, Ack, Nak, Stall, Silent, Refused}
use Rattle.machine.specs.declared.answer.Refusal.TheVariants as refusal
use Rattle.machine.specs.Answer.{number_of, count_of}
use Rattle.machine.specs.Record.{device}
use Rattle.machine.specs.World.{World, world}
use Rattle.machine.specs.Machine.{Event, told, step, run}
use Rattle.machine.specs.Tally.{Making}
use Rattle.machine.specs.Claim.{born, lived}
use Rattle.machine.proofs.Senses.{StageSense, Senses, keeps-senses, made-senses, lived-senses}
use Rattle.crecord.specs.Flat.{decodes, world_from, record_of}
use Rattle.crecord.specs.Claims.{IsState}
use Rattle.crecord.proofs.RoundTrip.{round_trip}
use Rattle.cevents.specs.Events.{Left, leaves, on_record, on_making}
use Rattle.capi.specs.Calls.{Calls, before, calls, called, by_number, as_calls, RunByCalls, OfBytes, CallsRun}

-- what the numbers can hold: senses of bytes
is_state : (w : World) → Senses w → IsState w.dev.state
is_state w h = record { sense = λ n place left e. subst StageSense e h.stage }

module _ (w : World) (h : Senses w) where
  pub written : decodes (record_of w).flat ≡ true
  written = round_trip.written_decodes w.dev.state (is_state w h)

  pub read_back_lem : world_from (record_of w) w.units w.medium ≡ w
  read_back_lem = let s = round_trip.written_is_read w.dev.state (is_state w h) in λ i. world (device w.dev.identity (s i) w.dev.part) w.units w.medium

  pub one-call : (e : Event) → on_record (record_of w) w.units w.medium e ≡ leaves (told (step w e))
  unfolding on_record
  one-call e = if-true _ _ _ written ∙ ap (λ (x : World). leaves (told (step x e))) read_back_lem

runs : (w : World) (es : List Event) → Senses w → calls (record_of w) w.units w.medium es ≡ as_calls (run w es)
unfolding calls by_number as_calls run
runs w [] h = refl
runs w (e ∷ es) h =
    let o = step w e in
    ap (λ (l : Left). before l (calls l.rec l.units l.medium es)) (one-call w h e)
    ∙ ap (before (leaves (told o))) (runs o.world es (keeps-senses w h e))

run_by_calls : (k : Making) → OfBytes k.units → (es : List Event) → RunByCalls k es
unfolding called lived born on_making as_calls
run_by_calls k b es =
    let fresh = made-senses k b in
    let sees = runs (born k) es fresh in
    let h = lived-senses k fresh es in
    record {
      sees = sees;
      valid = ap (λ (c : Calls). decodes c.rec.flat) sees ∙ written (lived k es).world h;
      holds = ap (λ (c : Calls). world_from c.rec c.units c.medium) sees ∙ read_back_lem (lived k es).world h;
    }

-- ---- an answer by its number and count

abbrev answer_from : ℕ → ℕ → Answer
answer_from n count =
    look
    (row 0 (Data count)
    ∷ row 1 Ack
    ∷ row 2 Nak
    ∷ row 3 Stall
    ∷ row 4 Silent
    ∷ row 10 (Refused refusal.Record)
    ∷ row 11 (Refused refusal.Medium)
    ∷ row 12 (Refused refusal.Buffer)
    ∷ row 13 (Refused refusal.Packet)
    ∷ row 14 (Refused refusal.Setup)
    ∷ row 15 (Refused refusal.Number)
    ∷ [])
    n (Refused refusal.Unit)

known : (a : Answer) → answer_from (number_of a) (count_of a) ≡ a
unfolding look when◌then◌else◌
known (Data n) = refl
known Ack = refl
known Nak = refl
known Stall = refl
known Silent = refl
known (Refused refusal.Record) = refl
known (Refused refusal.Medium) = refl
known (Refused refusal.Buffer) = refl
known (Refused refusal.Packet) = refl
known (Refused refusal.Setup) = refl
known (Refused refusal.Number) = refl
known (Refused refusal.Unit) = refl

pub calls-run : CallsRun
calls-run = record { runs = run_by_calls; answers = λ a b e f. sym (known a) ∙ (λ i. answer_from (e i) (f i)) ∙ known b }
