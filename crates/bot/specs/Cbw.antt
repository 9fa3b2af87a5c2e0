-- The command wrapper (BOT 5.1; document 01, "Wrappers").
use Rattle.std.specs.Prelude.{ℕ, Bool, true, false, not, List, ◌∷◌, ◌++◌, eqb, leb, length, drop, Option, Some, None, Result, Ok, Err}
use Rattle.wire.specs.Choice.{when◌then◌else◌, ◌and◌}
use Rattle.wire.specs.Slices.{byte_at, bytes_at, zeros, starts_with, fits, placed}
use Rattle.wire.specs.Numbers.{little, little_bytes}
use Rattle.wire.specs.Bits.{bits, clear}
use Rattle.wire.specs.Texts.{ascii}
use Rattle.bot.specs.declared.cbw.Header.{Header}
use Rattle.bot.specs.declared.cbw.Cbw.{Cbw}
use Rattle.bot.specs.declared.refused.Refused.{Refused}
use Rattle.bot.specs.Answer.{Writing, writing}

-- 55 53 42 43
abbrev pub cbw_signature : List ℕ
cbw_signature = ascii "USBC"

-- "bits 0 to 6 of byte 12 must be clear, also bits 4 to 7 of byte 13 and 5 to 7 of byte 14; byte 14 is 1 to 16"
unfoldable pub in_range : ℕ → ℕ → ℕ → Bool
in_range flags lun size = clear 0 6 flags and clear 4 7 lun and clear 5 7 size and leb 1 size and leb size 16

unfoldable pub readable : List ℕ → Bool
readable p =
    eqb (length p) 31
    and starts_with cbw_signature p
    and in_range (byte_at p 12) (byte_at p 13) (byte_at p 14)

-- "tag, announced length (little endian), flags, unit, block length"; "Bit 7 of byte 12 set means data in"
unfoldable pub header_of : List ℕ → Header
header_of p = record {
  tag = little (bytes_at 4 4 p);
  announced = little (bytes_at 4 8 p);
  inward = not (clear 7 7 (byte_at p 12));
  lun = bits 0 3 (byte_at p 13);
  size = bits 0 4 (byte_at p 14);
}

abbrev pub zero_header : Header
zero_header = record { tag = 0; announced = 0; inward = false; lun = 0; size = 0 }

-- What reading the fields alone gives: document 01's number and the fields, zero where it is 17.
pub record Fields : Type 0 where
  pub number : ℕ
  pub header : Header

abbrev pub fields : ℕ → Header → Fields
fields n h = record { number = n; header = h }

abbrev pub shown_header : Option Header → Fields
shown_header (Some h) = fields 1 h
shown_header None = fields 17 zero_header

unfoldable pub read_header : List ℕ → Fields
read_header p = when readable p then fields 1 (header_of p) else fields 17 zero_header

-- What reading all of it gives: the number and the fields.
pub record Reading : Type 0 where
  pub number : ℕ
  pub cbw : Cbw

unfoldable pub zero_cbw : Cbw
zero_cbw = record { header = zero_header; block = zeros 16 }

abbrev pub shown : Result Cbw Refused → Reading
shown (Ok c) = record { number = 1; cbw = c }
shown (Err e) = record { number = 17; cbw = zero_cbw }

-- "The command block is read where it stands, from byte 15 of the wrapper."
unfoldable pub read_cbw : List ℕ → Reading
read_cbw p =
    when readable p
    then record { number = 1; cbw = record { header = header_of p; block = drop 15 p } }
    else record { number = 17; cbw = zero_cbw }

unfoldable pub direction : Bool → ℕ
direction true = 0x80
direction false = 0x00

unfoldable pub cbw_bytes : Cbw → List ℕ
cbw_bytes c =
    cbw_signature
    ++ little_bytes 4 c.header.tag
    ++ little_bytes 4 c.header.announced
    ++ direction c.header.inward ∷ c.header.lun ∷ c.header.size ∷ c.block

-- Fields that fit theirs: a unit of four bits, a block length of 1 to 16.
unfoldable pub writable : Header → Bool
writable h = leb h.lun 15 and leb 1 h.size and leb h.size 16

unfoldable pub write_cbw : Cbw → List ℕ → Writing
write_cbw c b =
    when writable c.header and fits b 0 (cbw_bytes c)
    then writing 0 31 (placed b 0 (cbw_bytes c))
    else writing 17 0 b
