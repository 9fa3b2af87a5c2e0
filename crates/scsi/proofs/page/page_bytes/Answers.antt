-- `page_bytes` meets its contract. Assumes nothing.
use Prim.Native.Nat.{ℕ}
use mathlib.Core.Path.{◌≡◌, sym, ap, ◌∙◌}
use mathlib.Core.List.{List, [], ◌∷◌, ◌++◌}
use Rattle.wire.specs.Numbers.{decimal}
use Rattle.wire.specs.Packet.{packet_of}
use Rattle.wire.specs.Texts.{padded, vendor_text}
use Rattle.scsi.specs.declared.page.Page.{Page}
use Rattle.scsi.specs.Page.{page_data}
use Rattle.scsi.proofs.Pages.{page-bytes}
use Rattle.scsi.proofs.page.page_bytes.Goals as goal

-- what is sent of a known page
at-page : (number : ℕ) (q p : Page) {s : List ℕ} → page_data number q ≡ s → p ≡ q → packet_of s ≡ packet_of (page_data number p)
at-page number q p e f = ap packet_of (sym e ∙ ap (page_data number) (sym f))

-- two of them end in the digits
with_digits : (number : ℕ) (q p : Page) (front s t : List ℕ) → page_data number q ≡ front ++ decimal 12 number → p ≡ q → t ≡ front ++ s → s ≡ decimal 12 number
    → packet_of t ≡ packet_of (page_data number p)
with_digits number q p front s t e f g d = at-page number q p (e ∙ ap (λ (x : List ℕ). front ++ x) (sym d) ∙ sym g) f

pub returns-in-Supported : goal.returns-in-Supported
returns-in-Supported c = c.packet_of.ensures ∙ at-page _ _ _ (page-bytes.page_00 _) c.in-Supported.is

pub returns-in-Serial : goal.returns-in-Serial
returns-in-Serial c =
    c.packet_of-in-Serial.ensures
    ∙ with_digits _ _ _ (0x00 ∷ 0x80 ∷ 0x00 ∷ 0x0C ∷ []) _ _ (page-bytes.page_80 _) c.in-Serial.is c.serial_page.ensures c.digits-serial.ensures

pub returns-in-Identification : goal.returns-in-Identification
unfolding padded
returns-in-Identification c =
    c.packet_of-in-Identification.ensures
    ∙ with_digits _ _ _ (0x00 ∷ 0x83 ∷ 0x00 ∷ 0x18 ∷ 0x02 ∷ 0x01 ∷ 0x00 ∷ 0x14 ∷ padded 8 vendor_text) _ _ (page-bytes.page_83 _) c.in-Identification.is c.identification_page.ensures c.digits-serial.ensures
