-- Sense (SPC-3, 4.5; document 01, "Commands"; document 02, A4 and A8): key, additional code, qualifier, and the information that a range failure has.
-- Each value is named once.
use Rattle.std.specs.Prelude.{ℕ, ◌<◌, Bool, eqb}
use Rattle.wire.specs.Choice.{◌and◌}
use Rattle.scsi.specs.declared.sense.Sense.{Sense}

abbrev pub sense : ℕ → ℕ → ℕ → Sense
sense k a q = record { key = k; asc = a; ascq = q; information = 0 }

abbrev pub no_sense : Sense
no_sense = sense 0x00 0x00 0x00

abbrev pub invalid_code : Sense
invalid_code = sense 0x05 0x20 0x00

abbrev pub invalid_field : Sense
invalid_field = sense 0x05 0x24 0x00

-- "A range failure's sense now also carries the first block outside the unit" (document 02, A8)
abbrev pub out_of_range : ℕ → Sense
out_of_range block = record { key = 0x05; asc = 0x21; ascq = 0x00; information = block }

-- "A Write with the switch closed fails 07/27/00" (document 02, A4)
abbrev pub write_protected : Sense
write_protected = sense 0x07 0x27 0x00

abbrev pub data_phase : Sense
data_phase = sense 0x0B 0x4B 0x00

unfoldable pub is_no_sense : Sense → Bool
is_no_sense s = eqb s.key 0 and eqb s.asc 0 and eqb s.ascq 0 and eqb s.information 0

-- A range failure, whichever block it carries.
unfoldable pub is_out_of_range : Sense → Bool
is_out_of_range s = eqb s.key 0x05 and eqb s.asc 0x21 and eqb s.ascq 0x00

-- Key, code and qualifier are bytes.
pub record IsSense (s : Sense) : Type 0 where
  pub key : s.key < 256
  pub asc : s.asc < 256
  pub ascq : s.ascq < 256
