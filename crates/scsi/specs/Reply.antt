-- The bytes of the replies, and how many they are (document 01, "Commands"; document 02, A2, A4 and A8).
use Rattle.std.specs.Prelude.{ℕ, ◌-◌, Bool, List, [], ◌∷◌, ◌++◌}
use Rattle.wire.specs.Choice.{when◌then◌else◌}
use Rattle.wire.specs.Numbers.{big_bytes}
use Rattle.wire.specs.Packet.{packet_of}
use Rattle.wire.specs.Slices.{zeros}
use Rattle.wire.specs.Texts.{ascii, padded, vendor_text, product_text}
use Rattle.wire.specs.declared.packet.Packet.{Packet}
use Rattle.scsi.specs.declared.sense.Sense.{Sense}
use Rattle.scsi.specs.declared.reply.ReplyKind.{ReplyKind}
use Rattle.scsi.specs.declared.reply.ReplyKind.TheVariants as kind
use Rattle.scsi.specs.declared.reply.Reply.{Reply}
use Rattle.scsi.specs.declared.reply.Reply.TheVariants as reply
use Rattle.scsi.specs.Sense.{is_out_of_range}
use Rattle.scsi.specs.Page.{page_data, page_size}

-- Fixed format (SPC-3, 4.5.3): bit 7 of the first byte, VALID, says whether the INFORMATION field, bytes 3 to 6, has something to tell.
unfoldable pub fixed_format : ℕ → ℕ → Sense → List ℕ
fixed_format code information s = code ∷ 0x00 ∷ s.key ∷ big_bytes 4 information ++ 0x0A ∷ zeros 4 ++ s.asc ∷ s.ascq ∷ zeros 4

-- "Request Sense then sends F0 in byte 0 and that number, big endian, in bytes 3 to 6; other senses keep 70 and zeros." (document 02, A8)
unfoldable pub sense_data : Sense → List ℕ
sense_data s = when is_out_of_range s then fixed_format 0xF0 s.information s else fixed_format 0x70 0 s

-- Standard INQUIRY data (SPC-3, 6.4.2).
unfoldable pub inquiry_data : List ℕ
inquiry_data =
    (0x00 ∷ 0x80 ∷ 0x05 ∷ 0x02 ∷ 0x1F ∷ 0x00 ∷ 0x00 ∷ 0x00 ∷ [])
    ++ padded 8 vendor_text
    ++ padded 16 product_text
    ++ ascii "0100"

-- Mode parameter header (SPC-3, 7.4.3): "Mode Sense then shows 80 hex in its third byte" (document 02, A4), the bit WP (SBC-2, 6.3.1).
unfoldable pub mode_data : Bool → List ℕ
mode_data protected = 0x03 ∷ 0x00 ∷ (when protected then 0x80 else 0x00) ∷ 0x00 ∷ []

-- READ CAPACITY (10) data (SBC-2, 5.10): "last block, then 512".
unfoldable pub capacity_data : ℕ → List ℕ
capacity_data blocks = big_bytes 4 (blocks - 1) ++ big_bytes 4 512

-- The whole of a reply: of the values found at the wrapper, and of the collector number, which never changes.
abbrev pub reply_data : ℕ → Reply → List ℕ
reply_data number (reply.Sense s) = sense_data s
reply_data number reply.Inquiry = inquiry_data
reply_data number (reply.Page p) = page_data number p
reply_data number (reply.ModeSense protected) = mode_data protected
reply_data number (reply.Capacity blocks) = capacity_data blocks

unfoldable pub reply_packet : ℕ → Reply → Packet
reply_packet number r = packet_of (reply_data number r)

abbrev pub kind_of : Reply → ReplyKind
kind_of (reply.Sense s) = kind.Sense
kind_of reply.Inquiry = kind.Inquiry
kind_of (reply.Page p) = kind.Page p
kind_of (reply.ModeSense protected) = kind.ModeSense
kind_of (reply.Capacity blocks) = kind.Capacity

-- How long the whole is; that it is so, whatever the values and the number, is `Sizes` in Claims.antt.
abbrev pub reply_size : ReplyKind → ℕ
reply_size kind.Sense = 18
reply_size kind.Inquiry = 36
reply_size (kind.Page p) = page_size p
reply_size kind.ModeSense = 4
reply_size kind.Capacity = 8
