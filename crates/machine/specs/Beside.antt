-- Claims beside demand 3: of every step, and of every record that a collector comes to. Proved in proofs/Beside.antt and proofs/StepLaws.antt.
use Rattle.std.specs.Prelude.{ℕ, ◌≤◌, ◌≡◌, ◌↔◌, Bool, true, false, List, [], ◌∷◌, ◌++◌, length, drop}
use Rattle.bot.specs.Cbw.{header_of}
use Rattle.scsi.specs.declared.command.Plan.{Plan}
use Rattle.machine.specs.declared.record.Stage.TheVariants.{Ready}
use Rattle.machine.specs.declared.record.Device.{Device}
use Rattle.machine.specs.declared.answer.Answer.{Answer}
use Rattle.machine.specs.declared.answer.Answer.TheVariants.{Data, Ack, Nak, Stall, Silent, Refused}
use Rattle.machine.specs.Units.{unit_at, cleared, as_made, medium_fits}
use Rattle.machine.specs.Wrapper.{accepted, plan_for}
use Rattle.machine.specs.World.{World, world, in_state, Out, out}
use Rattle.machine.specs.Bulk.{locked_state}
use Rattle.machine.specs.Machine.{Event, lent, fitting, step, run}
use Rattle.machine.specs.Tally.{Making}
use Rattle.machine.specs.Claim.{answers, born, Makes, lived, history, recovery, WrapperDue}

-- ---- one step (document 01, "Numbers that come back", the column of effects)

-- nak, silence, a refusal
unfoldable pub is_quiet : Answer → Bool
is_quiet (Data n) = false
is_quiet Ack = false
is_quiet Nak = true
is_quiet Stall = false
is_quiet Silent = true
is_quiet (Refused r) = true

-- What an event may leave of the collector w and the buffer b.
pub data Lawful (w : World) (b : List ℕ) : Out → Type 0 where
  -- "nothing changes"
  unchanged : (a : Answer) → is_quiet a ≡ true → Lawful w b (out a w b)
  -- "nothing changes, but for the lock"
  stalled : Lawful w b (out Stall w b)
  locked : Lawful w b (out Stall (in_state w (locked_state w.dev.state)) b)
  -- "first n bytes of the lent buffer written, the rest kept": at most 64, and the table and the medium as they were
  handed : (d : Device) (s : List ℕ) → length s ≤ 64 → 64 ≤ length b
      → Lawful w b (out (Data (length s)) (world d w.units w.medium) (s ++ drop (length s) b))
  -- "buffer kept"
  acked : (w' : World) → Lawful w b (out Ack w' b)

abbrev pub StepLaws : Type 0
StepLaws = (w : World) (e : Event) → Lawful w (lent e) (step w e)

-- ---- every record reached from a fresh one

-- "Every record reached from a fresh one keeps them", and its identity; the table's parts are those that it was made with, and each switch is where the history
-- has it.
abbrev pub Reached : Type 0
Reached =
    (k : Making) → Makes k → (es : List Event)
    → (fitting (lived k es).world ≡ true)
    × ((lived k es).world.dev.identity ≡ k.identity)
    × (as_made (lived k es).world.units ≡ (born k).units)
    × (cleared (lived k es).world.units ≡ (history k es).units)

-- Ready for a wrapper, configured, bulk-out not halted.
pub record IsDue (d : Device) : Type 0 where
  pub configured : d.state.configured ≡ true
  pub unhalted : d.state.link.haltout ≡ false
  pub ready : d.state.link.task.stage ≡ Ready

-- A wrapper is due, and this one is accepted: its unit has this for its command.
pub record Accepts (w : World) (p : List ℕ) (x : Plan) : Type 0 where
  pub fit : fitting w ≡ true
  pub medium : medium_fits w.units w.medium ≡ true
  pub due : IsDue w.dev
  pub accepts : accepted (length w.units) p ≡ true
  pub plan : plan_for (unit_at w.units (header_of p).lun) (drop 15 p) ≡ x

-- "A wrapper is due on an unhalted pipe exactly where a good Test Unit Ready wrapper .. is answered ack, then nak."
abbrev pub DueExactly : Type 0
DueExactly = (k : Making) → Makes k → (es : List Event) → WrapperDue (lived k es).world ↔ IsDue (lived k es).world.dev

-- Demand 3's premise can be met: from every configured history the three requests are acked.
abbrev pub CanRecover : Type 0
CanRecover =
    (k : Making) → Makes k → (es : List Event)
    → (history k es).configured ≡ true
    → (order : Bool) (x y z : List ℕ) → 64 ≤ length x → 64 ≤ length y → 64 ≤ length z
    → answers (run (lived k es).world (recovery order x y z)).replies ≡ (Ack ∷ Ack ∷ Ack ∷ [])
