-- Document 01's "Bench sheet": the rows marked *, as one table and one claim. Proved in proofs/Sheet.antt.
use Rattle.std.specs.Prelude.{ℕ, ◌+◌, ◌*◌, ◌-◌, ◌≡◌, List, [], ◌∷◌, ◌++◌, length, take, replicate}
use Prim.Native.String.{String}
use Rattle.wire.specs.Numbers.{little_bytes, big_bytes}
use Rattle.wire.specs.Slices.{zeros}
use Rattle.wire.specs.Texts.{ascii}
use Rattle.scsi.specs.Sense.{no_sense}
use Rattle.usb.specs.Descriptor.{utf16}
use Rattle.usb.specs.declared.descriptor.Identity.{Identity}
use Rattle.machine.specs.Answer.{number_of, count_of}
use Rattle.machine.specs.Units.{block_size, Table, unit, total}
use Rattle.machine.specs.Making.{make}
use Rattle.machine.specs.World.{world}
use Rattle.machine.specs.Machine.{Event, control, bulk_out, bulk_in, Seen, run}
use Rattle.machine.specs.Claim.{setup}

-- ---- what a row is

-- What comes back of an event: the number, the count, and so many bytes of the buffer.
pub record Reply : Type 0 where
  pub number : ℕ
  pub count : ℕ
  pub bytes : List ℕ

-- An event, and what must come back.
pub record Exchange : Type 0 where
  pub event : Event
  pub reply : Reply

-- The collector's number (its other identity numbers are 0), what its making must answer, and what follows the making.
pub record Row : Type 0 where
  pub collector : ℕ
  pub made : ℕ
  pub exchanges : List Exchange

-- ---- packets of the host

-- "55 53 42 43, tag, announced length (little endian), flags, unit, block length, 16 command bytes"
unfoldable pub cbw : ℕ → ℕ → ℕ → ℕ → List ℕ → List ℕ
cbw tag announced flags unit block =
    0x55 ∷ 0x53 ∷ 0x42 ∷ 0x43 ∷ little_bytes 4 tag ++ little_bytes 4 announced ++ flags ∷ unit ∷ length block ∷ block ++ zeros (16 - length block)

-- Command blocks.
unfoldable pub test_unit_ready : List ℕ
test_unit_ready = zeros 6

unfoldable pub request_sense : List ℕ
request_sense = 0x03 ∷ 0x00 ∷ 0x00 ∷ 0x00 ∷ 18 ∷ 0x00 ∷ []

unfoldable pub inquiry : ℕ → List ℕ
inquiry most = 0x12 ∷ 0x00 ∷ 0x00 ∷ 0x00 ∷ most ∷ 0x00 ∷ []

unfoldable pub read_capacity : List ℕ
read_capacity = 0x25 ∷ zeros 9

-- "Block address in bytes 2 to 5, count in 7 to 8, big endian"
unfoldable pub on_blocks : ℕ → ℕ → ℕ → List ℕ
on_blocks code block count = code ∷ 0x00 ∷ big_bytes 4 block ++ 0x00 ∷ big_bytes 2 count ++ 0x00 ∷ []

-- ---- exchanges

abbrev pub answered : Event → ℕ → List ℕ → Exchange
answered e n s = record { event = e; reply = record { number = n; count = length s; bytes = s } }

-- The buffer that is lent.
abbrev pub buffer : List ℕ
buffer = zeros 64

-- Set Configuration 1, and Clear Feature of an endpoint, acked.
unfoldable pub configure : Exchange
configure = answered (control (setup 0x00 0x09 1 0) buffer) 1 []

unfoldable pub cleared : ℕ → Exchange
cleared endpoint = answered (control (setup 0x02 0x01 0 endpoint) buffer) 1 []

-- A packet, and the number that it must be answered by.
unfoldable pub sent : List ℕ → ℕ → Exchange
sent p n = answered (bulk_out p) n []

-- A command for unit 0 with the tag of source document 002, acked: announcing data in, or none.
unfoldable pub command_in : List ℕ → ℕ → Exchange
command_in block announced = sent (cbw 0x826A6008 announced 0x80 0 block) 1

unfoldable pub command : List ℕ → Exchange
command block = sent (cbw 0x826A6008 0 0x00 0 block) 1

-- An ask that must hand out these bytes; one that must stall.
unfoldable pub hands : List ℕ → Exchange
hands s = answered (bulk_in buffer) 0 s

unfoldable pub stalls : Exchange
stalls = answered (bulk_in buffer) 3 []

-- An ask that must hand out the status wrapper of that tag.
unfoldable pub status : ℕ → ℕ → Exchange
status residue code = hands (0x55 ∷ 0x53 ∷ 0x42 ∷ 0x53 ∷ 0x08 ∷ 0x60 ∷ 0x6A ∷ 0x82 ∷ little_bytes 4 residue ++ code ∷ [])

-- The serial number: string 0303, index 0409, of which at most 255 bytes are wanted.
unfoldable pub serial : String → Exchange
serial digits = answered (control (0x80 ∷ 0x06 ∷ 0x03 ∷ 0x03 ∷ 0x09 ∷ 0x04 ∷ 0xFF ∷ 0x00 ∷ []) buffer) 0 (26 ∷ 0x03 ∷ utf16 (ascii digits))

-- Request Sense, and the data that it must hand out.
unfoldable pub senses : List ℕ → List Exchange
senses s = command_in request_sense 18 ∷ hands s ∷ status 0 0 ∷ []

-- Sense data of 05/21/00: "F0 in byte 0 and that number, big endian, in bytes 3 to 6" (document 02, A8).
unfoldable pub outside_data : List ℕ → List ℕ
outside_data number = 0xF0 ∷ 0x00 ∷ 0x05 ∷ number ++ 0x0A ∷ 0x00 ∷ 0x00 ∷ 0x00 ∷ 0x00 ∷ 0x21 ∷ 0x00 ∷ 0x00 ∷ 0x00 ∷ 0x00 ∷ 0x00 ∷ []

-- A Read out of range, its address outside the unit: 512 bytes announced in and none sent, so that bulk-in is halted until it is cleared; status 1; then
-- Request Sense shows 05/21/00 and the address.
unfoldable pub out_of_range : ℕ → ℕ → List Exchange
out_of_range block count =
    configure
    ∷ command_in (on_blocks 0x28 block count) 512
    ∷ stalls
    ∷ cleared 0x81
    ∷ status 512 1
    ∷ senses (outside_data (big_bytes 4 block))

-- A packet that locks: it stalls, bulk-in stalls, Clear Feature acks and frees neither pipe.
unfoldable pub locks : List ℕ → List Exchange
locks p =
    configure
    ∷ sent p 3
    ∷ stalls
    ∷ cleared 0x02
    ∷ cleared 0x81
    ∷ sent (cbw 1 0 0x00 0 test_unit_ready) 3
    ∷ stalls
    ∷ []

-- ---- the table

abbrev pub row : ℕ → ℕ → List Exchange → Row
row collector made exchanges = record { collector = collector; made = made; exchanges = exchanges }

unfoldable pub sheet : List Row
sheet =
    -- "number 42 gives 000000000042"
    row 42 1 (serial "000000000042" ∷ [])
    -- "0 gives twelve zeros"
    ∷ row 0 1 (serial "000000000000" ∷ [])
    -- "999,999,999,999 is made"
    ∷ row 999_999_999_999 1 []
    -- "1,000,000,000,000 gives 15"
    ∷ row 1_000_000_000_000 15 []
    -- "Read Capacity, tag 826A6008 hex (source document 002): data 00 00 00 7F 00 00 02 00, status 55 53 42 53 08 60 6A 82 00 00 00 00 00"
    ∷ row 42 1
    (configure
    ∷ command_in read_capacity 8
    ∷ hands (0x00 ∷ 0x00 ∷ 0x00 ∷ 0x7F ∷ 0x00 ∷ 0x00 ∷ 0x02 ∷ 0x00 ∷ [])
    ∷ hands (0x55 ∷ 0x53 ∷ 0x42 ∷ 0x53 ∷ 0x08 ∷ 0x60 ∷ 0x6A ∷ 0x82 ∷ 0x00 ∷ 0x00 ∷ 0x00 ∷ 0x00 ∷ 0x00 ∷ [])
    ∷ [])
    -- "Read block 127 count 1 passes"
    ∷ row 42 1 (configure ∷ command_in (on_blocks 0x28 127 1) 512 ∷ replicate 8 (hands (zeros 64)) ++ status 0 0 ∷ [])
    -- "128 count 0 passes"
    ∷ row 42 1 (configure ∷ command (on_blocks 0x28 128 0) ∷ status 0 0 ∷ [])
    -- "128 count 1 and FFFFFFFF count 1 fail 05/21/00"
    ∷ row 42 1 (out_of_range 128 1)
    ∷ row 42 1 (out_of_range 0xFFFF_FFFF 1)
    -- "Inquiry, byte 4 = 36, announced 64: 36 bytes, stall, status 0, residue 28."
    ∷ row 42 1
    (configure
    ∷ command_in (inquiry 36) 64
    ∷ hands (0x00 ∷ 0x80 ∷ 0x05 ∷ 0x02 ∷ 0x1F ∷ 0x00 ∷ 0x00 ∷ 0x00 ∷ ascii "COLLECT METER EXPORT    0100")
    ∷ stalls
    ∷ cleared 0x81
    ∷ status 28 0
    ∷ [])
    -- "Announced 18: status 2."
    ∷ row 42 1 (configure ∷ command_in (inquiry 36) 18 ∷ stalls ∷ cleared 0x81 ∷ status 18 2 ∷ [])
    -- "A wrapper of 30 bytes locks"
    ∷ row 42 1 (locks (take 30 (cbw 1 0 0x00 0 test_unit_ready)))
    -- "unit 1 locks"
    ∷ row 42 1 (locks (cbw 1 0 0x00 1 test_unit_ready))
    ∷ []

-- ---- the claim

-- A table of units of these sizes, their parts following on from a block.
unfoldable pub parts : ℕ → List ℕ → Table
parts n [] = []
parts n (size ∷ sizes) = unit n size no_sense 0 ∷ parts (n + size) sizes

-- "128 blocks unless said.": one unit
abbrev pub blocks128 : Table
blocks128 = parts 0 (128 ∷ [])

abbrev pub identity : ℕ → Identity
identity collector = record { number = collector; vendor = 0; product = 0; release = 0 }

unfoldable pub events : List Exchange → List Event
events [] = []
events (x ∷ xs) = x.event ∷ events xs

unfoldable pub due : List Exchange → List Reply
due [] = []
due (x ∷ xs) = x.reply ∷ due xs

unfoldable pub told : List Seen → List Reply
told [] = []
told (r ∷ rs) = record { number = number_of r.answer; count = count_of r.answer; bytes = take (count_of r.answer) r.buffer } ∷ told rs

-- What came of a row, and what must come.
pub record Outcome : Type 0 where
  pub made : ℕ
  pub replies : List Reply

-- Over a table of units, and a medium of zeros for them.
unfoldable pub outcome : Table → Row → Outcome
outcome us r =
    let m = zeros (block_size * total us) in
    let k = make (identity r.collector) us m in
    record { made = number_of k.answer; replies = told (run (world k.dev k.units m) (events r.exchanges)).replies }

unfoldable pub wanted : Row → Outcome
wanted r = record { made = r.made; replies = due r.exchanges }

unfoldable pub HoldOver : Table → List Row → Type 0
HoldOver us [] = Unit
HoldOver us (r ∷ rs) = (outcome us r ≡ wanted r) × HoldOver us rs

abbrev pub Hold : List Row → Type 0
Hold rs = HoldOver blocks128 rs

-- Of every row comes what must come.
unfoldable pub SheetHolds : Type 0
SheetHolds = Hold sheet
