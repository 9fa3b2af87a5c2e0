-- Texts as bytes, and the names and the serial that the product shows.
use Rattle.std.specs.Prelude.{ℕ, ◌-◌, List, [], ◌∷◌, ◌++◌, length, replicate}
use Prim.Native.Char.{code}
use Prim.Native.String.{String}
use Rattle.wire.specs.Numbers.{decimal}

-- The characters' codes.
abbrev pub ascii : String → List ℕ
ascii String.[] = []
ascii (String.◌∷◌ c s) = code c ∷ ascii s

-- A text in a field of n bytes, spaces behind it (SPC-3, 4.4.1).
unfoldable pub padded : ℕ → List ℕ → List ℕ
padded n t = t ++ replicate (n - length t) 0x20

-- Document 01, "Control requests" (strings) and "Commands" (Inquiry).
abbrev pub vendor_text : List ℕ
vendor_text = ascii "COLLECT"

abbrev pub product_text : List ℕ
product_text = ascii "METER EXPORT"

-- "the collector number as exactly twelve decimal digits, zeros in front", as a USB string and in SCSI's pages (document 02, A2)
abbrev pub serial_text : ℕ → List ℕ
serial_text number = decimal 12 number
