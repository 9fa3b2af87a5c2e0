-- The pages: their bytes, that serials tell collectors apart, and their codes. Assumes nothing.
use Prim.Native.Nat.{ℕ}
use mathlib.Core.Path.{◌≡◌, refl, ap, sym, ◌∙◌}
use lib.ListN.{length, drop}
use Rattle.std.specs.Prelude.{Option, Some, None}
use Rattle.wire.specs.Choice.{when◌then◌else◌, look}
use Rattle.wire.specs.Numbers.{low, decimal}
use Rattle.wire.specs.Texts.{padded}
use Rattle.wire.proofs.Cases.{look_keyed}
use Rattle.wire.proofs.Positional.{digits}
use Rattle.scsi.specs.declared.page.Page.{Page}
use Rattle.scsi.specs.declared.page.Page.TheVariants as page
use Rattle.scsi.specs.Page.{page_code, pages, page_of, vendor_based, page_body, page_data, page_size}
use Rattle.scsi.specs.Claims.{PageBytes, Serials}

pub page-bytes : PageBytes
unfolding page_data page_body pages vendor_based padded decimal low
page-bytes = record { page_00 = λ n. refl; page_80 = λ n. refl; page_83 = λ n. refl }

pub page-length : (number : ℕ) (p : Page) → length (page_data number p) ≡ page_size p
unfolding page_data page_body pages vendor_based padded decimal low
page-length number page.Supported = refl
page-length number page.Serial = refl
page-length number page.Identification = refl

-- both pages end in the digits
pub serials : Serials
serials =
    record {
      page_80 = λ x y h k e. digits.apart 12 x y h k (ap (drop 4) (sym (page-bytes.page_80 x) ∙ e ∙ page-bytes.page_80 y));
      page_83 = λ x y h k e. digits.apart 12 x y h k (ap (drop 16) (sym (page-bytes.page_83 x) ∙ e ∙ page-bytes.page_83 y));
    }

-- ---- a page and its code

pub code-found : (p : Page) → page_of (page_code p) ≡ Some p
unfolding page_of pages look when◌then◌else◌
code-found page.Supported = refl
code-found page.Serial = refl
code-found page.Identification = refl

-- what is found under a number has it as its code
abbrev pub CodeIs : ℕ → Option Page → Type 0
CodeIs x None = Unit {0}
CodeIs x (Some p) = page_code p ≡ x

pub found-code : (x : ℕ) → CodeIs x (page_of x)
unfolding page_of pages
found-code x = look_keyed (CodeIs x) _ x None (sym, (sym, (sym, tt))) tt
