-- A short byte string by value, zeros behind it.
use Rattle.std.specs.Prelude.{ℕ, List, length}
use Rattle.wire.specs.Choice.{when◌then◌else◌}
use Rattle.wire.specs.Slices.{zeros, part, fits, placed}
use Rattle.wire.specs.declared.packet.Packet.{Packet}

unfoldable pub packet_of : List ℕ → Packet
packet_of s = record {
  bytes = placed (zeros 64) 0 s;
  len = when fits (zeros 64) 0 s then length s else 0;
}

-- The bytes that a packet holds; none, where its length is more than it has room for.
abbrev pub bytes_of : Packet → List ℕ
bytes_of k = part k.bytes 0 k.len
