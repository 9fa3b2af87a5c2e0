-- A recording's format (document 01, "The bench recording"; document 02, A4 and A7), for a collector of so many units.
use Rattle.std.specs.Prelude.{ℕ, zero, suc, ◌+◌, ◌*◌, ◌≤◌, ◌<◌, ◌≡◌, Bool, true, false, List, [], ◌∷◌, ◌++◌, leb, ltb, eqb, length, take, drop, Option, Some, None}
use Rattle.wire.specs.Choice.{when◌then◌else◌, ◌and◌}
use Rattle.wire.specs.Slices.{byte_at, bytes_at, zeros}
use Rattle.wire.specs.Numbers.{little, little_bytes}
use Rattle.machine.specs.Units.{switch_fits}
use Rattle.machine.specs.Machine.{Event, bus_reset, control, bulk_out, bulk_in, set_switch}
use Rattle.recording.specs.declared.cursor.Kind.{Kind}
use Rattle.recording.specs.declared.cursor.Kind.TheVariants.{Reset, Control, Out, Ask, Switch}

-- "at most 16,384 bytes", "a count (two bytes, at most 1,024)"
abbrev pub most_bytes : ℕ
most_bytes = 16384

abbrev pub most_events : ℕ
most_events = 1024

-- ---- an entry of the table of contents: "four bytes an event (kind, 00, length)"

-- "Kinds: 1 bus reset (length 0), 2 control (8), 3 bulk-out (0 to 64), 4 bulk-in ask (0). Anything else .. is 16";
-- "The bench recording gains kind 5, with one body byte 00 or 01" (document 02, A4); "the switch event names its unit in a second body byte (beyond the table: ..; on the
-- bench 16)" (A7): the position and the unit are the body's first two bytes, the last number says how many units there are.
unfoldable pub kind_of : ℕ → ℕ → ℕ → ℕ → ℕ → ℕ → Option Kind
kind_of first second n position unit units =
    when eqb second 0
    then (when eqb first 1 then (when eqb n 0 then Some Reset else None)
    else (when eqb first 2 then (when eqb n 8 then Some Control else None)
    else (when eqb first 3 then (when leb n 64 then Some Out else None)
    else (when eqb first 4 then (when eqb n 0 then Some Ask else None)
    else (when eqb first 5 then (when eqb n 2 and switch_fits position and ltb unit units then Some Switch else None)
    else None)))))
    else None

abbrev pub is_kind : Option Kind → Bool
is_kind (Some k) = true
is_kind None = false

-- The body's length that the first entry of a table gives, and the kind that it gives with the bodies.
abbrev pub length_in : List ℕ → ℕ
length_in table = little (bytes_at 2 2 table)

abbrev pub kind_in : ℕ → List ℕ → List ℕ → Option Kind
kind_in units table bodies = kind_of (byte_at table 0) (byte_at table 1) (length_in table) (byte_at bodies 0) (byte_at bodies 1) units

-- ---- the whole

-- So many entries of a table, and the bodies in order, nothing left over.
unfoldable pub formed : ℕ → ℕ → List ℕ → List ℕ → Bool
formed units zero table bodies = eqb (length bodies) 0
formed units (suc n) table bodies =
    is_kind (kind_in units table bodies)
    and leb (length_in table) (length bodies)
    and formed units n (drop 4 table) (drop (length_in table) bodies)

-- The event of a kind and a body. Control requests and asks are lent 64 zeros, for each event anew.
abbrev pub lent_buffer : List ℕ
lent_buffer = zeros 64

unfoldable pub event_of : Kind → List ℕ → Event
event_of Reset s = bus_reset
event_of Control s = control s lent_buffer
event_of Out s = bulk_out s
event_of Ask s = bulk_in lent_buffer
event_of Switch s = set_switch (byte_at s 0) (byte_at s 1)

-- The same where there may be no kind: no event has none, and what it gives here is never looked at.
abbrev pub event_in : Option Kind → List ℕ → Event
event_in (Some k) s = event_of k s
event_in None s = bus_reset

unfoldable pub events_in : ℕ → ℕ → List ℕ → List ℕ → List Event
events_in units zero table bodies = []
events_in units (suc n) table bodies =
    event_in (kind_in units table bodies) (take (length_in table) bodies) ∷ events_in units n (drop 4 table) (drop (length_in table) bodies)

abbrev pub count_of : List ℕ → ℕ
count_of s = little (bytes_at 2 0 s)

abbrev pub table_of : List ℕ → List ℕ
table_of s = drop 2 s

abbrev pub bodies_of : List ℕ → List ℕ
bodies_of s = drop (2 + 4 * count_of s) s

unfoldable pub is_formed : ℕ → List ℕ → Bool
is_formed units s =
    leb 2 (length s)
    and leb (length s) most_bytes
    and leb (count_of s) most_events
    and leb (2 + 4 * count_of s) (length s)
    and formed units (count_of s) (table_of s) (bodies_of s)

pub data Parsed : Type 0 where
  malformed : Parsed
  well_formed : List Event → Parsed

unfoldable pub parse : ℕ → List ℕ → Parsed
parse units s = when is_formed units s then well_formed (events_in units (count_of s) (table_of s) (bodies_of s)) else malformed

-- ---- writing

abbrev pub number_of_kind : Event → ℕ
number_of_kind bus_reset = 1
number_of_kind (control s b) = 2
number_of_kind (bulk_out p) = 3
number_of_kind (bulk_in b) = 4
number_of_kind (set_switch x n) = 5

abbrev pub body_of : Event → List ℕ
body_of bus_reset = []
body_of (control s b) = s
body_of (bulk_out p) = p
body_of (bulk_in b) = []
body_of (set_switch x n) = x ∷ n ∷ []

unfoldable pub table : List Event → List ℕ
table [] = []
table (e ∷ es) = number_of_kind e ∷ 0x00 ∷ little_bytes 2 (length (body_of e)) ++ table es

unfoldable pub bodies : List Event → List ℕ
bodies [] = []
bodies (e ∷ es) = body_of e ++ bodies es

unfoldable pub written : List Event → List ℕ
written es = little_bytes 2 (length es) ++ table es ++ bodies es

-- What a recording can hold: a setup of 8 bytes, a packet of at most 64, a position that the switch has and one of so many units, and the player's lent buffer.
abbrev pub Recordable : ℕ → Event → Type 0
Recordable units bus_reset = Unit
Recordable units (control s b) = (length s ≡ 8) × (b ≡ lent_buffer)
Recordable units (bulk_out p) = length p ≤ 64
Recordable units (bulk_in b) = b ≡ lent_buffer
Recordable units (set_switch x n) = (switch_fits x ≡ true) × (n < units)

unfoldable pub AllRecordable : ℕ → List Event → Type 0
AllRecordable units [] = Unit
AllRecordable units (e ∷ es) = Recordable units e × AllRecordable units es
