-- Lists of C's calls in which showing calls stand among the events (document 02, A11): at every moment C holds what the machine has come to, and sees of the next call
-- what the machine's step leaves. machine/specs/EitherCall.antt says what such a list comes to. Proved in proofs/EitherRun.antt.
use Rattle.std.specs.Prelude.{ℕ, ◌≡◌, true, List, [], ◌∷◌}
use Rattle.wire.specs.Choice.{row, look}
use Rattle.wire.specs.Slices.{part, placed, zeros}
use Rattle.machine.specs.Bulk.{packet_size}
use Rattle.machine.specs.Units.{Table}
use Rattle.machine.specs.Machine.{told}
use Rattle.machine.specs.Tally.{Making}
use Rattle.machine.specs.Claim.{born}
use Rattle.machine.specs.EitherCall.{Call, event, showing, step_call, run_calls}
use Rattle.crecord.specs.declared.record.Record.{Record}
use Rattle.crecord.specs.declared.record.Shown as showns
use Rattle.crecord.specs.Flat.{decodes, world_from, answer}
use Rattle.cevents.specs.Events.{Left, left, leaves, on_record, LeftMade, on_making}
use Rattle.cevents.specs.Shown.{LeftShown, show_on_record}
use Rattle.capi.specs.Calls.{OfBytes}

-- The bytes that C finds at the place that a showing call tells: in the medium 1, in the reply 2.
unfoldable pub bytes_told : showns.Shown → List ℕ → List ℕ → List ℕ
bytes_told o m s = look (row 1 (part m o.start o.count) ∷ row 2 (part s o.start o.count) ∷ []) o.source []

-- What a showing call leaves, as what a copying one would that was lent 64 bytes: the packet that is shown is put in front of them.
abbrev pub as_left : LeftShown → List ℕ → List ℕ → Left
as_left l m s =
    left (answer l.shown.number l.shown.count) l.rec l.units l.medium (placed (zeros packet_size) 0 (bytes_told l.shown m s))

-- What a call leaves.
unfoldable pub on_call : Record → Table → List ℕ → Call → Left
on_call r us m (event e) = on_record r us m e
on_call r us m (showing s) = as_left (show_on_record r us m s) m s

-- What C holds after a list of calls, each of which finds what the one before it left.
pub record Holds : Type 0 where
  pub rec : Record
  pub units : Table
  pub medium : List ℕ

unfoldable pub after : Holds → List Call → Holds
after h [] = h
after h (c ∷ cs) = let l : Left = on_call h.rec h.units h.medium c in after (record { rec = l.rec; units = l.units; medium = l.medium }) cs

-- After the making of a collector.
unfoldable pub held_after : Making → List Call → Holds
held_after k cs = let l : LeftMade = on_making k.identity k.units k.medium in after (record { rec = l.rec; units = l.units; medium = k.medium }) cs

-- After the calls cs.
pub record AtMoment (k : Making) (cs : List Call) : Type 0 where
  pub valid : decodes (held_after k cs).rec.flat ≡ true
  pub holds : world_from (held_after k cs).rec (held_after k cs).units (held_after k cs).medium ≡ (run_calls (born k) cs).world
  pub next : (c : Call) → on_call (held_after k cs).rec (held_after k cs).units (held_after k cs).medium c ≡ leaves (told (step_call (run_calls (born k) cs).world c))

-- Of every making, a refused one too, and every list of calls: so at each moment.
unfoldable pub EitherRun : Type 0
EitherRun = (k : Making) → OfBytes k.units → (cs : List Call) → AtMoment k cs
