-- Vital product data (SPC-3, 7.6; document 02, A2): the pages that Inquiry serves with byte 1 bit 0, EVPD, set.
use Rattle.std.specs.Prelude.{ℕ, List, [], ◌∷◌, ◌++◌, map, length, Option, Some, None}
use Rattle.wire.specs.Choice.{Row, row, look}
use Rattle.wire.specs.Numbers.{big_bytes}
use Rattle.wire.specs.Texts.{padded, vendor_text, serial_text}
use Rattle.scsi.specs.declared.page.Page.{Page}
use Rattle.scsi.specs.declared.page.Page.TheVariants as page

abbrev pub page_code : Page → ℕ
page_code page.Supported = 0x00
page_code page.Serial = 0x80
page_code page.Identification = 0x83

abbrev pub served : Page → Row (Option Page)
served p = row (page_code p) (Some p)

-- "page 00 (the list 00, 80, 83 ..), 80 (unit serial) and 83"
unfoldable pub pages : List (Row (Option Page))
pages = served page.Supported ∷ served page.Serial ∷ served page.Identification ∷ []

unfoldable pub page_of : ℕ → Option Page
page_of code = look pages code None

-- An identification descriptor (SPC-3, 7.6.3): code set 2, ASCII; association 0, the logical unit, and type 1, T10 vendor ID; its length.
unfoldable pub vendor_based : List ℕ → List ℕ
vendor_based text = 0x02 ∷ 0x01 ∷ 0x00 ∷ length text ∷ text

-- "one ASCII vendor-based identifier: the vendor field followed by the twelve digits"
unfoldable pub page_body : ℕ → Page → List ℕ
page_body number page.Supported = map (λ (r : Row (Option Page)). r.key) pages
page_body number page.Serial = serial_text number
page_body number page.Identification = vendor_based (padded 8 vendor_text ++ serial_text number)

-- "in the SPC-3 page form": device type 00, the page's code, how many bytes follow.
unfoldable pub page_data : ℕ → Page → List ℕ
page_data number p = 0x00 ∷ page_code p ∷ big_bytes 2 (length (page_body number p)) ++ page_body number p

-- Those four bytes and the rest.
abbrev pub page_size : Page → ℕ
page_size page.Supported = 7
page_size page.Serial = 16
page_size page.Identification = 28
