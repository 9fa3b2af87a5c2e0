-- What the device has for a command (document 01, "Commands"; document 02, A1, A2, A4, A8 and A12): one row for each operation code.
use Rattle.std.specs.Prelude.{ℕ, ◌+◌, ◌-◌, min, max, Bool, true, List, [], ◌∷◌, eqb, leb, Option, Some, None}
use Rattle.wire.specs.Choice.{when◌then◌else◌, ◌and◌, Row, row, look}
use Rattle.wire.specs.Slices.{byte_at, bytes_at}
use Rattle.wire.specs.Numbers.{big}
use Rattle.wire.specs.Bits.{clear}
use Rattle.scsi.specs.declared.command.Plan.{Plan}
use Rattle.scsi.specs.declared.command.Plan.TheVariants.{Failed, Nothing, Reply, Read, Write}
use Rattle.scsi.specs.declared.reply.ReplyKind.{ReplyKind}
use Rattle.scsi.specs.declared.reply.ReplyKind.TheVariants as kind
use Rattle.scsi.specs.declared.page.Page.{Page}
use Rattle.scsi.specs.Sense.{invalid_code, invalid_field, out_of_range, write_protected}
use Rattle.scsi.specs.Page.{page_of}
use Rattle.scsi.specs.Reply.{reply_size}

-- A code's block length, its rules on the control byte and on the other fields, and what a unit has for it: of so many blocks,
-- and write protected or not.
pub record Command : Type 0 where
  pub size : ℕ
  pub control : List ℕ → Bool
  pub fields : List ℕ → Bool
  pub has : ℕ → Bool → List ℕ → Plan

-- "Any known command with bit 0, 1 or 2 set in its last byte (5 or 9) now fails 05/24/00, among the field checks" (document 02, A12): the CONTROL byte
-- (SPC-3, 4.3.4.7), whose bit 0 is LINK and bit 2 NACA.
abbrev pub known : ℕ → (List ℕ → Bool) → (ℕ → Bool → List ℕ → Plan) → Command
known n rule plan = record { size = n; control = λ b. clear 0 2 (byte_at b (n - 1)); fields = rule; has = plan }

-- "Codes 03 .. and 1A send at most byte 4 bytes": their allocation length (SPC-3, 4.3.4.6)
abbrev pub allocation : List ℕ → ℕ
allocation b = byte_at b 4

-- "SPC-3 puts the allocation length in bytes 3 and 4, big endian": of code 12 only, and of its pages too (document 02, A1; SPC-3, 6.4.1)
abbrev pub inquiry_allocation : List ℕ → ℕ
inquiry_allocation b = big (bytes_at 2 3 b)

-- A reply, cut to the allocation length.
unfoldable pub cut : ReplyKind → ℕ → Plan
cut k allocated = Reply k (min allocated (reply_size k))

-- "Inquiry serves page 00 .., 80 .. and 83 ... Other pages fail 05/24/00." (document 02, A2)
unfoldable pub paged : Option Page → ℕ → Plan
paged None allocated = Failed invalid_field
paged (Some p) allocated = cut (kind.Page p) allocated

-- "With byte 1 bit 0 set", EVPD, the page of byte 2; with it clear the standard data, byte 2 being 0 (SPC-3, 6.4.1).
unfoldable pub inquired : List ℕ → Plan
inquired b =
    when clear 0 0 (byte_at b 1)
    then (when eqb (byte_at b 2) 0 then cut kind.Inquiry (inquiry_allocation b) else Failed invalid_field)
    else paged (page_of (byte_at b 2)) (inquiry_allocation b)

-- "Block address in bytes 2 to 5, count in 7 to 8, big endian"
abbrev pub address : List ℕ → ℕ
address b = big (bytes_at 4 2 b)

abbrev pub count : List ℕ → ℕ
count b = big (bytes_at 2 7 b)

-- "the first block outside the unit, the larger of the address and the number of blocks" (document 02, A8)
unfoldable pub first_outside : ℕ → ℕ → ℕ
first_outside a blocks = max a blocks

-- "address plus count must not pass the number of blocks, count 0 included"
unfoldable pub within : ℕ → List ℕ → Plan → Plan
within blocks b p = when leb (address b + count b) blocks then p else Failed (out_of_range (first_outside (address b) blocks))

-- "A Write with the switch closed fails 07/27/00, checked after the range", count 0 included (document 02, A4)
unfoldable pub unless_protected : Bool → Plan → Plan
unless_protected protected p = when protected then Failed write_protected else p

-- "byte 1 bits 5 to 7 clear", of every command on blocks
abbrev pub unflagged : List ℕ → Bool
unflagged b = clear 5 7 (byte_at b 1)

unfoldable pub ranged_of : ℕ → List ℕ → Plan → Plan
ranged_of blocks b p = when unflagged b then within blocks b p else Failed invalid_field

-- The table's rows (SPC-3, 6; SBC-2, 5).
abbrev pub test_unit_ready : Command
test_unit_ready = known 6 (λ b. true) (λ n p b. Nothing)

abbrev pub request_sense : Command
request_sense = known 6 (λ b. clear 0 0 (byte_at b 1)) (λ n p b. cut kind.Sense (allocation b))

abbrev pub inquiry : Command
inquiry = known 6 (λ b. true) (λ n p b. inquired b)

abbrev pub mode_sense : Command
mode_sense = known 6 (λ b. eqb (byte_at b 2) 0x3F) (λ n p b. cut kind.ModeSense (allocation b))

abbrev pub prevent_allow : Command
prevent_allow = known 6 (λ b. clear 0 0 (byte_at b 4)) (λ n p b. Nothing)

abbrev pub read_capacity : Command
read_capacity = known 10 (λ b. true) (λ n p b. Reply kind.Capacity (reply_size kind.Capacity))

abbrev pub read10 : Command
read10 = known 10 (λ b. unflagged b) (λ n p b. within n b (Read (address b) (count b)))

abbrev pub write10 : Command
write10 = known 10 (λ b. unflagged b) (λ n p b. within n b (unless_protected p (Write (address b) (count b))))

abbrev pub verify10 : Command
verify10 = known 10 (λ b. clear 1 1 (byte_at b 1) and unflagged b) (λ n p b. within n b Nothing)

-- "An operation code not in this table fails with 05/20/00"; its block has at least the code, and which byte is its control byte is not known.
abbrev pub unknown : Command
unknown = record { size = 1; control = λ b. true; fields = λ b. true; has = λ n p b. Failed invalid_code }

unfoldable pub commands : List (Row Command)
commands =
    row 0x00 test_unit_ready
    ∷ row 0x03 request_sense
    ∷ row 0x12 inquiry
    ∷ row 0x1A mode_sense
    ∷ row 0x1E prevent_allow
    ∷ row 0x25 read_capacity
    ∷ row 0x28 read10
    ∷ row 0x2A write10
    ∷ row 0x2F verify10
    ∷ []

unfoldable pub command_of : ℕ → Command
command_of code = look commands code unknown

unfoldable pub block_length : ℕ → ℕ
block_length code = (command_of code).size

-- "Checks: code, fields, range", and then the switch (document 02, A4).
unfoldable pub plan_by : Command → ℕ → Bool → List ℕ → Plan
plan_by c blocks protected b = when c.fields b then c.has blocks protected b else Failed invalid_field

-- Among the fields is the control byte: where it stands goes by the code's own length, not the wrapper's.
unfoldable pub control_clear : List ℕ → Bool
control_clear b = (command_of (byte_at b 0)).control b

unfoldable pub plan_of : List ℕ → ℕ → Bool → Plan
plan_of b blocks protected = when control_clear b then plan_by (command_of (byte_at b 0)) blocks protected b else Failed invalid_field
