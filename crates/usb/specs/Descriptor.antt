-- Descriptors (document 01, "Control requests"; USB 2.0, 9.6; source document 003).
use Rattle.std.specs.Prelude.{ℕ, ◌+◌, ◌*◌, List, [], ◌∷◌, ◌++◌, length}
use Rattle.wire.specs.Numbers.{little_bytes}
use Rattle.wire.specs.Packet.{packet_of}
use Rattle.wire.specs.Texts.{vendor_text, product_text, serial_text}
use Rattle.wire.specs.declared.packet.Packet.{Packet}
use Rattle.usb.specs.declared.descriptor.Identity.{Identity}
use Rattle.usb.specs.declared.descriptor.Descriptor.{Descriptor}
use Rattle.usb.specs.declared.descriptor.Descriptor.TheVariants as descriptor

unfoldable pub device_descriptor : Identity → List ℕ
device_descriptor id =
    (0x12 ∷ 0x01 ∷ 0x00 ∷ 0x02 ∷ 0x00 ∷ 0x00 ∷ 0x00 ∷ 0x40 ∷ [])
    ++ little_bytes 2 id.vendor
    ++ little_bytes 2 id.product
    ++ little_bytes 2 id.release
    ++ 0x01 ∷ 0x02 ∷ 0x03 ∷ 0x01 ∷ []

unfoldable pub configuration_descriptor : List ℕ
configuration_descriptor =
    (0x09 ∷ 0x02 ∷ 0x20 ∷ 0x00 ∷ 0x01 ∷ 0x01 ∷ 0x00 ∷ 0xC0 ∷ 0x00 ∷ [])
    ++ (0x09 ∷ 0x04 ∷ 0x00 ∷ 0x00 ∷ 0x02 ∷ 0x08 ∷ 0x06 ∷ 0x50 ∷ 0x00 ∷ [])
    ++ (0x07 ∷ 0x05 ∷ 0x81 ∷ 0x02 ∷ 0x40 ∷ 0x00 ∷ 0x00 ∷ [])
    ++ (0x07 ∷ 0x05 ∷ 0x02 ∷ 0x02 ∷ 0x40 ∷ 0x00 ∷ 0x00 ∷ [])

-- English (United States), 0409.
abbrev pub languages : List ℕ
languages = 0x04 ∷ 0x03 ∷ 0x09 ∷ 0x04 ∷ []

-- An ASCII character is one unit of UTF-16, least byte first.
unfoldable pub utf16 : List ℕ → List ℕ
utf16 [] = []
utf16 (c ∷ s) = c ∷ 0x00 ∷ utf16 s

unfoldable pub string_descriptor : List ℕ → List ℕ
string_descriptor s = (2 + 2 * length s) ∷ 0x03 ∷ utf16 s

abbrev pub descriptor_data : Descriptor → Identity → List ℕ
descriptor_data descriptor.Device id = device_descriptor id
descriptor_data descriptor.Configuration id = configuration_descriptor
descriptor_data descriptor.Languages id = languages
descriptor_data descriptor.Vendor id = string_descriptor vendor_text
descriptor_data descriptor.Product id = string_descriptor product_text
descriptor_data descriptor.Serial id = string_descriptor (serial_text id.number)

unfoldable pub descriptor_packet : Descriptor → Identity → Packet
descriptor_packet d id = packet_of (descriptor_data d id)
