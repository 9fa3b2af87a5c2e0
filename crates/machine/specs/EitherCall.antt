-- The showing call beside the copying one (document 02, A11): what both leave, and lists of calls in which either is used. Proved in proofs/EitherCall.antt.
use Rattle.std.specs.Prelude.{ℕ, ◌≡◌, Bool, true, false, not, ◌||◌, List, [], ◌∷◌, length, Ok, Err}
use Rattle.wire.specs.Choice.{when◌then◌else◌, ◌and◌}
use Rattle.wire.specs.Slices.{zeros, placed, same}
use Rattle.machine.specs.declared.answer.Answer.TheVariants.{Nak, Refused}
use Rattle.machine.specs.declared.answer.Refusal.TheVariants as refusal
use Rattle.machine.specs.declared.ask.Source.TheVariants as source
use Rattle.machine.specs.declared.ask.Asked.{Asked}
use Rattle.machine.specs.declared.ask.Asked.TheVariants.{Quiet, Packet}
use Rattle.machine.specs.declared.show.Extent.TheVariants as extent
use Rattle.machine.specs.Answer.{count_of}
use Rattle.machine.specs.World.{World, Out, out}
use Rattle.machine.specs.Bulk.{packet_size, ask}
use Rattle.machine.specs.Machine.{Event, bulk_in, Verdict, in_order, seen, Run, step, run}
use Rattle.machine.specs.Show.{reply_of, show_checks, bytes_shown, Shown, shown, show}
use Rattle.machine.specs.Tally.{Making, start}
use Rattle.machine.specs.Claim.{answers, born, Makes, Recovers, Locks}
use Rattle.machine.specs.Isolation.{Apart, AllAlike, nothing, AllAgree, over_medium}
use Rattle.machine.specs.Ledger.{AllBytes, ledger, Balanced}

-- ---- one call

-- What an ask comes to is the status wrapper.
unfoldable pub hands_status : Asked → Bool
hands_status (Quiet a) = false
hands_status (Packet (source.Medium place n) s) = false
hands_status (Packet (source.Reply reply place n) s) = false
hands_status (Packet (source.Status csw) s) = true

unfoldable pub passing : Verdict → Bool
passing (Ok u) = true
passing (Err a) = false

-- The checks are passed, and the copying call would hand out the status wrapper.
unfoldable pub status_next : World → Bool
status_next w = passing (in_order (show_checks w (reply_of w))) and hands_status (ask w.dev.state)

-- What a showing call leaves, as what a copying one would that was lent b: the bytes shown are put in front of it.
abbrev pub copied : Shown → List ℕ → List ℕ → List ℕ → Out
copied o m r b = out o.answer o.world (placed b 0 (bytes_shown o.at m r))

-- Of every record, table and medium, and of every reply that is lent: it is alike, a status is next, or the reply is another's.
pub record Shows : Type 0 where
  -- "it shows the same bytes, with the same number and following state, as the copying call .. given 64 bytes to write into"
  pub alike : (w : World) (b : List ℕ) → length b ≡ packet_size → status_next w ≡ false → copied (show w (reply_of w)) w.medium (reply_of w) b ≡ step w (bulk_in b)
  -- and as many as its answer counts; "without data the part is empty"
  pub counted : (w : World) (r : List ℕ) → length (bytes_shown (show w r).at w.medium r) ≡ count_of (show w r).answer
  -- "with a status due, not halted: 2, nothing changed"
  pub status : (w : World) → status_next w ≡ true → show w (reply_of w) ≡ shown Nak w extent.Nowhere
  -- "a lent reply not the record's: 10"
  pub other : (w : World) (r : List ℕ) → (r ≡ reply_of w → ⊥) → show w r ≡ shown (Refused refusal.Record) w extent.Nowhere

-- ---- a list of calls

-- An event, or a showing call with the reply that it is lent.
pub data Call : Type 0 where
  event : Event → Call
  showing : List ℕ → Call

-- A showing call as an ask that is lent 64 bytes.
unfoldable pub asked : Call → Event
asked (event e) = e
asked (showing r) = bulk_in (zeros packet_size)

unfoldable pub step_call : World → Call → Out
step_call w (event e) = step w e
step_call w (showing r) = copied (show w r) w.medium r (zeros packet_size)

-- A showing call that shows no packet which the copying call would hand out: its reply is not the record's, or a status is due. It changes nothing (`Shows`).
unfoldable pub is_idle : World → Call → Bool
is_idle w (event e) = false
is_idle w (showing r) = not (same r (reply_of w)) || status_next w

-- The run of a list of calls, as the host sees it: without the idle ones.
unfoldable pub run_calls : World → List Call → Run
run_calls w [] = record { replies = []; world = w }
run_calls w (c ∷ cs) =
    let o : Out = step_call w c in
    let r : Run = run_calls o.world cs in
    record { replies = when is_idle w c then r.replies else seen o ∷ r.replies; world = r.world }

-- The events that it comes to.
unfoldable pub events_of : World → List Call → List Event
events_of w [] = []
events_of w (c ∷ cs) = let es = events_of (step_call w c).world cs in when is_idle w c then es else asked c ∷ es

-- Either call: the run is that of those events, so that all that is claimed of every list of events is claimed of every list of calls: demand 3, the ledger, isolation.
pub record EitherCall : Type 0 where
  pub runs : (w : World) (cs : List Call) → run_calls w cs ≡ run w (events_of w cs)
  pub demand3 : (k : Making) → Makes k → (cs : List Call) → Recovers k (events_of (born k) cs) × Locks (run_calls (born k) cs).world
  pub balanced : (k : Making) → Makes k → (cs : List Call) → AllBytes (events_of (born k) cs) → Balanced (ledger k (events_of (born k) cs))
  pub isolation :
      (k : Making) → Makes k → (b : ℕ) (m' : List ℕ) → Apart k.units b k.medium m'
      → (cs cs' : List Call) → AllAlike b (start k) (events_of (born k) cs) (answers (run_calls (born k) cs).replies) (events_of (born (over_medium k m')) cs')
      → AllAgree k.units b (start k) nothing (events_of (born k) cs) (run_calls (born k) cs).replies (run_calls (born (over_medium k m')) cs').replies
