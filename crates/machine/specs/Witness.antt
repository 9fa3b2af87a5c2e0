-- Closed runs in which the premises of demand 3, of isolation, and of the claims on cut replies and on failed commands, are met. Proved in proofs/Witness.antt.
use Rattle.std.specs.Prelude.{ℕ, ◌≡◌, true, false, List, [], ◌∷◌, ◌++◌, take, replicate}
use Rattle.wire.specs.Slices.{zeros}
use Rattle.scsi.specs.Sense.{out_of_range}
use Rattle.scsi.specs.declared.command.Plan.TheVariants.{Failed}
use Rattle.scsi.specs.declared.page.Page.TheVariants.{Serial}
use Rattle.scsi.specs.declared.reply.ReplyKind.TheVariants.{Page}
use Rattle.machine.specs.declared.answer.Answer.{Answer}
use Rattle.machine.specs.declared.answer.Answer.TheVariants.{Data, Ack, Stall}
use Rattle.machine.specs.Units.{unit_at}
use Rattle.machine.specs.Wrapper.{accepted}
use Rattle.machine.specs.World.{World}
use Rattle.machine.specs.Machine.{Event, control, bulk_out, bulk_in, set_switch, Run, step, run}
use Rattle.machine.specs.Tally.{Making, idle, writing, start}
use Rattle.machine.specs.Claim.{answers, Makes, lived, history, setup, recovery, setting_up, settings, anew, WrapperDue, is_refusal, watched}
use Rattle.machine.specs.Beside.{Accepts}
use Rattle.machine.specs.Sheet.{Exchange, parts, identity, cbw, test_unit_ready, on_blocks, buffer, configure, events, due, told}
use Rattle.machine.specs.Sent.{whole, first, Asks, Takes}
use Rattle.machine.specs.SeveralUnits.{writes, reads}
use Rattle.machine.specs.Isolation.{Apart, AllAlike, over_medium}

-- A collector of two blocks of zeros.
abbrev pub two : Making
two = record { identity = identity 42; units = parts 0 (2 ∷ []); medium = zeros 1024 }

abbrev pub recover : List Event
recover = recovery true buffer buffer buffer

-- ---- a write that is cut in the middle of its second block

-- Address 5, configured; a Write of both blocks; the first whole, then 192 bytes of the second.
unfoldable pub part_write : List Event
part_write =
    setting_up 5 buffer buffer
    ++ bulk_out (cbw 1 1024 0x00 0 (on_blocks 0x2A 0 2))
    ∷ replicate 8 (bulk_out (replicate 64 7))
    ++ replicate 3 (bulk_out (replicate 64 9))

-- So many events, all acked, and a Write to the unit is at its second block; the recovery leaves this medium.
pub record Cut (k : Making) (es : List Event) (count lun : ℕ) (left : List ℕ) : Type 0 where
  pub makes : Makes k
  pub acked : answers (lived k es).replies ≡ replicate count Ack
  pub configured : (history k es).configured ≡ true
  pub held : (history k es).tally ≡ writing lun 1 1 (replicate 192 9)
  pub recovers : answers (run (lived k es).world recover).replies ≡ (Ack ∷ Ack ∷ Ack ∷ [])
  pub arrived : (history k (es ++ recover)).arrived ≡ (record { lun = lun; number = 0; bytes = replicate 512 7 } ∷ [])
  pub medium : (lived k (es ++ recover)).world.medium ≡ left

abbrev pub WriteCut : Type 0
WriteCut = Cut two part_write 14 0 (replicate 512 7 ++ zeros 512)

-- ---- the switch closed in the middle of a Write (document 02, A4)

-- A Write of both blocks, the switch closed after 64 bytes: it goes on, and passes. The next Write is accepted and fails.
unfoldable pub closed_write : List Event
closed_write =
    setting_up 5 buffer buffer
    ++ bulk_out (cbw 1 1024 0x00 0 (on_blocks 0x2A 0 2))
    ∷ bulk_out (replicate 64 7)
    ∷ set_switch 1 0
    ∷ replicate 15 (bulk_out (replicate 64 7))
    ++ bulk_in buffer
    ∷ bulk_out (cbw 2 512 0x00 0 (on_blocks 0x2A 0 1))
    ∷ []

-- The history has the switch closed, both blocks and no write under way; the recovered collector has it closed, and a fresh one is given it.
pub record SwitchClosed : Type 0 where
  pub acked : answers (lived two closed_write).replies ≡ replicate 20 Ack ++ Data 13 ∷ Ack ∷ []
  pub configured : (history two closed_write).configured ≡ true
  pub closed : (unit_at (history two closed_write).units 0).switch ≡ 1
  pub none : (history two closed_write).tally ≡ idle
  pub recovers : answers (run (lived two closed_write).world recover).replies ≡ (Ack ∷ Ack ∷ Ack ∷ [])
  pub medium : (lived two (closed_write ++ recover)).world.medium ≡ replicate 1024 7
  pub keeps : (unit_at (lived two (closed_write ++ recover)).world.units 0).switch ≡ 1
  pub anew : answers (lived (anew two (lived two (closed_write ++ recover))) (settings (history two closed_write) buffer buffer)).replies ≡ (Ack ∷ Ack ∷ Ack ∷ [])

-- ---- the same of two units (document 02, A7)

-- One of one block and one of two.
abbrev pub one_and_two : Making
one_and_two = record { identity = identity 42; units = parts 0 (1 ∷ 2 ∷ []); medium = zeros 1536 }

-- Unit 0's switch is closed; a Write of both blocks of unit 1, cut in the second.
unfoldable pub part_write_there : List Event
part_write_there =
    setting_up 5 buffer buffer
    ++ set_switch 1 0
    ∷ bulk_out (cbw 1 1024 0x00 1 (on_blocks 0x2A 0 2))
    ∷ replicate 8 (bulk_out (replicate 64 7))
    ++ replicate 3 (bulk_out (replicate 64 9))

abbrev pub recovered_there : Run
recovered_there = lived one_and_two (part_write_there ++ recover)

-- The block stands in its unit's part, behind unit 0's; each switch is as it was, and a fresh collector is given both.
pub record WriteCutThere : Type 0 where
  pub cut : Cut one_and_two part_write_there 15 1 (zeros 512 ++ replicate 512 7 ++ zeros 512)
  pub closed : (unit_at recovered_there.world.units 0).switch ≡ 1
  pub opened : (unit_at recovered_there.world.units 1).switch ≡ 0
  pub anew : answers (lived (anew one_and_two recovered_there) (settings (history one_and_two part_write_there) buffer buffer)).replies ≡ (Ack ∷ Ack ∷ Ack ∷ Ack ∷ [])

-- ---- two histories that differ in unit 1 alone

-- Two units of one block each; what unit 1 holds at first.
unfoldable pub holding : ℕ → List ℕ
holding found = replicate 512 3 ++ replicate 512 found

abbrev pub one_and_one : Making
one_and_one = record { identity = identity 42; units = parts 0 (1 ∷ 1 ∷ []); medium = holding 0 }

-- Both units are read, unit 1 is written, and both are read again. The reads of unit 1 hand out what it holds, those of unit 0 the same throughout.
unfoldable pub story : ℕ → ℕ → List Exchange
story found written = configure ∷ reads 0 3 ++ reads 1 found ++ writes 1 written ++ reads 0 3 ++ reads 1 written

-- What both are answered: a read's packets and its status, and those of the write.
abbrev pub handed_out : List Answer
handed_out = Ack ∷ replicate 8 (Data 64) ++ Data 13 ∷ []

unfoldable pub said : List Answer
said = Ack ∷ handed_out ++ handed_out ++ replicate 9 Ack ++ Data 13 ∷ handed_out ++ handed_out

pub record UnitsApart : Type 0 where
  pub makes : Makes one_and_one
  pub media : Apart one_and_one.units 1 (holding 0) (holding 5)
  pub alike : AllAlike 1 (start one_and_one) (events (story 0 7)) (answers (lived one_and_one (events (story 0 7))).replies) (events (story 5 9))
  pub same : answers (lived one_and_one (events (story 0 7))).replies ≡ said
  pub same' : answers (lived (over_medium one_and_one (holding 5)) (events (story 5 9))).replies ≡ said
  -- every reply with its bytes
  pub bytes : told (lived one_and_one (events (story 0 7))).replies ≡ due (story 0 7)
  pub bytes' : told (lived (over_medium one_and_one (holding 5)) (events (story 5 9))).replies ≡ due (story 5 9)

-- ---- a lock, and its end

unfoldable pub test : List ℕ
test = cbw 1 0 0x00 0 test_unit_ready

-- Where a wrapper is due.
abbrev pub before : World
before = (lived two (setting_up 5 buffer buffer)).world

-- A wrapper of 30 bytes, and what a host may try after it.
abbrev pub broken : List ℕ
broken = take 30 test

unfoldable pub tries : List Event
tries =
    bulk_in buffer
    ∷ bulk_out test
    ∷ control (setup 0x02 0x01 0 0x81) buffer
    ∷ control (setup 0x02 0x01 0 0x02) buffer
    ∷ bulk_in buffer
    ∷ bulk_out test
    ∷ []

abbrev pub after : World
after = (step before (bulk_out broken)).world

-- The last field is the whole story: the stall, both pipes stalled before and after the acked clearings, the recovery, a wrapper acked again.
pub record LockRecovered : Type 0 where
  pub due : WrapperDue before
  pub unaccepted : accepted 1 broken ≡ false
  pub unrefused : is_refusal (step before (bulk_out broken)).answer ≡ false
  pub undropped : (watched tries (answers (run after tries).replies)).ended ≡ false
  pub replies : answers (run before (bulk_out broken ∷ tries ++ recover ++ bulk_out test ∷ [])).replies
      ≡ (Stall ∷ Stall ∷ Stall ∷ Ack ∷ Ack ∷ Stall ∷ Stall ∷ Ack ∷ Ack ∷ Ack ∷ Ack ∷ [])

-- ---- a page that is cut

-- So many bytes of page 80 are allocated, and its sixteen announced.
unfoldable pub ask_page : ℕ → List ℕ
ask_page most = cbw 1 16 0x80 0 (0x12 ∷ 0x01 ∷ 0x80 ∷ 0x00 ∷ most ∷ 0x00 ∷ [])

pub record PageCut : Type 0 where
  pub some : Asks before (ask_page 5) (Page Serial) 5
  pub takes : Takes before (ask_page 5) (first 5 (whole before (ask_page 5) (Page Serial)))
  pub sent : first 5 (whole before (ask_page 5) (Page Serial)) ≡ (0x00 ∷ 0x80 ∷ 0x00 ∷ 0x0C ∷ 0x30 ∷ [])
  pub none : Asks before (ask_page 0) (Page Serial) 0

-- ---- a Write over the end of the two blocks

pub record RangeRefused : Type 0 where
  pub fails : Accepts before (cbw 1 1024 0x00 0 (on_blocks 0x2A 1 2)) (Failed (out_of_range 2))
