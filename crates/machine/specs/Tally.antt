-- What a history says (document 01, "Words of demand 3"; document 02, A4 and A7): the tally of arrived blocks, and address, configuration and switches as last set.
-- An observer that is fed the making, the events and the answers, and nothing else.
use Rattle.std.specs.Prelude.{ℕ, ◌+◌, ◌*◌, ◌-◌, Bool, true, false, not, List, [], ◌∷◌, ◌++◌, leb, ltb, eqb, length, Option, Some, None}
use Rattle.wire.specs.Choice.{when◌then◌else◌, ◌and◌}
use Rattle.wire.specs.Slices.{placed}
use Rattle.scsi.specs.declared.command.Plan.{Plan}
use Rattle.scsi.specs.declared.command.Plan.TheVariants.{Failed, Nothing, Reply, Read, Write}
use Rattle.bot.specs.declared.cbw.Header.{Header}
use Rattle.usb.specs.Request.{request_of}
use Rattle.usb.specs.declared.descriptor.Identity.{Identity}
use Rattle.usb.specs.declared.request.Request.{Request}
use Rattle.usb.specs.declared.request.Request.TheVariants.{SetAddress, SetConfiguration, GetConfiguration, GetDeviceStatus, GetInterfaceStatus, GetEndpointStatus, ClearHalt, SetHalt, MassStorageReset, GetMaxLun, GetDescriptor}
use Rattle.usb.specs.declared.request.Request.TheVariants as request
use Rattle.machine.specs.declared.wrapper.Wrapper.{Wrapper}
use Rattle.machine.specs.declared.answer.Answer.{Answer}
use Rattle.machine.specs.declared.answer.Answer.TheVariants.{Data, Ack, Nak, Stall, Silent, Refused}
use Rattle.machine.specs.Units.{block_size, Table, unit_at, switched_to, as_made}
use Rattle.machine.specs.Wrapper.{wrapper_of}
use Rattle.machine.specs.Bulk.{packet_size}
use Rattle.machine.specs.Machine.{Event, bus_reset, control, bulk_out, bulk_in, set_switch}

-- What a collector is made of, the table as it is lent.
pub record Making : Type 0 where
  pub identity : Identity
  pub units : Table
  pub medium : List ℕ

-- A block that arrived: its unit, its number there and its 512 bytes.
pub record Block : Type 0 where
  pub lun : ℕ
  pub number : ℕ
  pub bytes : List ℕ

-- No write under way, or one: its unit, the next block, how many are left, the bytes held.
pub data Tally : Type 0 where
  idle : Tally
  writing : ℕ → ℕ → ℕ → List ℕ → Tally

pub record Log : Type 0 where
  pub tally : Tally
  pub address : ℕ
  pub configured : Bool
  -- the table as made, but for the switches: each as "the last acked such event" for its unit set it, "else as made" (document 02, A4 and A7)
  pub units : Table
  pub arrived : List Block

abbrev pub log : Tally → ℕ → Bool → Table → List Block → Log
log t a c us bs = record { tally = t; address = a; configured = c; units = us; arrived = bs }

-- "At first no write is under way." "Configuration and address are those last set by an acked request since making or the last bus reset, else 0."
abbrev pub start : Making → Log
start k = log idle 0 false (as_made k.units) []

-- ---- an acked packet

-- "an acked bulk-out packet begins one exactly if it is a Write that passes its checks, count over 0, announcing out at least 512 bytes a block"
unfoldable pub write_of : Header → Plan → Tally
write_of h (Failed s) = idle
write_of h Nothing = idle
write_of h (Reply k n) = idle
write_of h (Read block count) = idle
write_of h (Write block count) =
    when ltb 0 count and not h.inward and leb (block_size * count) h.announced then writing h.lun block count [] else idle

unfoldable pub beginning : Option Wrapper → Tally
beginning None = idle
beginning (Some x) = write_of x.header x.plan

-- "with the last counted it ends"
unfoldable pub following : ℕ → ℕ → ℕ → Tally
following n block left = when leb left 1 then idle else writing n (block + 1) (left - 1) []

abbrev pub turned : Log → Tally → List Block → Log
turned l t bs = log t l.address l.configured l.units (l.arrived ++ bs)

-- "an acked packet of 64 is held; each 512 bytes held are the next block from its address, arrived. Another length acked ends it; held bytes are dropped."
unfoldable pub taken : Tally → List ℕ → Log → Log
taken idle p l = turned l (beginning (wrapper_of l.units p)) []
taken (writing n block left held) p l =
    when eqb (length p) packet_size
    then (when eqb (length (held ++ p)) block_size
    then turned l (following n block left) (record { lun = n; number = block; bytes = held ++ p } ∷ [])
    else turned l (writing n block left (held ++ p)) [])
    else turned l idle []

-- ---- an acked request: "Another length acked ends it, as do an acked bus reset, Set Configuration or Mass Storage Reset"

unfoldable pub heard : Request → Log → Log
heard (SetAddress a) l = log l.tally a l.configured l.units l.arrived
heard (SetConfiguration v) l = log idle l.address (eqb v 1) l.units l.arrived
heard GetConfiguration l = l
heard GetDeviceStatus l = l
heard GetInterfaceStatus l = l
heard (GetEndpointStatus e) l = l
heard (ClearHalt e) l = l
heard (SetHalt e) l = l
heard MassStorageReset l = log idle l.address l.configured l.units l.arrived
heard GetMaxLun l = l
heard (GetDescriptor which n) l = l
heard request.Stall l = l

unfoldable pub heeded : Log → Event → Log
heeded l bus_reset = log idle 0 false l.units l.arrived
heeded l (control s b) = heard (request_of s) l
heeded l (bulk_out p) = taken l.tally p l
heeded l (bulk_in b) = l
heeded l (set_switch x n) = log l.tally l.address l.configured (switched_to l.units x n) l.arrived

unfoldable pub is_ack : Answer → Bool
is_ack (Data n) = false
is_ack Ack = true
is_ack Nak = false
is_ack Stall = false
is_ack Silent = false
is_ack (Refused r) = false

-- "All else, refusals included, does nothing."
unfoldable pub noted : Log → Event → Answer → Log
noted l e a = when is_ack a then heeded l e else l

-- An observer over a list of events and what it is told of each: its answer, or that and more.
unfoldable pub observed : {L A : Type 0} → (L → Event → A → L) → L → List Event → List A → L
observed f l [] said = l
observed f l (e ∷ es) [] = l
observed f l (e ∷ es) (a ∷ said) = observed f (f l e a) es said

-- The medium changed in order by blocks that arrived, each at its place in its unit's part.
unfoldable pub stored : Table → List ℕ → List Block → List ℕ
stored us m [] = m
stored us m (b ∷ bs) = stored us (placed m (block_size * ((unit_at us b.lun).first + b.number)) b.bytes) bs
