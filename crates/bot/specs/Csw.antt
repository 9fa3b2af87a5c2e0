-- The status wrapper (BOT 5.2; document 01, "Wrappers").
use Rattle.std.specs.Prelude.{ℕ, List, [], ◌∷◌, ◌++◌, eqb, length, Result, Ok, Err}
use Rattle.wire.specs.Choice.{when◌then◌else◌, ◌and◌, Row, row, look}
use Rattle.wire.specs.Slices.{byte_at, bytes_at, starts_with, fits, placed}
use Rattle.wire.specs.Numbers.{little, little_bytes}
use Rattle.wire.specs.Texts.{ascii}
use Rattle.bot.specs.declared.csw.Status.{Status}
use Rattle.bot.specs.declared.csw.Status.TheVariants.{Passed, Failed, PhaseError}
use Rattle.bot.specs.declared.csw.Csw.{Csw}
use Rattle.bot.specs.declared.refused.Refused.{Refused}
use Rattle.bot.specs.Answer.{refused, Writing, writing}

-- 55 53 42 53
abbrev pub csw_signature : List ℕ
csw_signature = ascii "USBS"

-- "status 0 passed, 1 failed, 2 phase error"
abbrev pub status_code : Status → ℕ
status_code Passed = 0
status_code Failed = 1
status_code PhaseError = 2

unfoldable pub csw_bytes : Csw → List ℕ
csw_bytes c =
    csw_signature
    ++ little_bytes 4 c.tag
    ++ little_bytes 4 c.residue
    ++ status_code c.status ∷ []

-- What reading gives: the number and the fields.
pub record Reading : Type 0 where
  pub number : ℕ
  pub csw : Csw

abbrev pub zero_csw : Csw
zero_csw = record { tag = 0; residue = 0; status = Passed }

abbrev pub shown : Result Csw Refused → Reading
shown (Ok c) = record { number = 1; csw = c }
shown (Err e) = record { number = 17; csw = zero_csw }

abbrev pub refusal : Result Csw Refused
refusal = Err refused

-- The fields of a wrapper whose status is readable.
abbrev pub acceptance : List ℕ → Result Status Refused → Result Csw Refused
acceptance p (Ok s) = Ok (record { tag = little (bytes_at 4 4 p); residue = little (bytes_at 4 8 p); status = s })
acceptance p (Err e) = Err e

-- "no other status is readable"
unfoldable pub statuses : List (Row (Result Status Refused))
statuses =
    row (status_code Passed) (Ok Passed)
    ∷ row (status_code Failed) (Ok Failed)
    ∷ row (status_code PhaseError) (Ok PhaseError)
    ∷ []

unfoldable pub status_of : ℕ → Result Status Refused
status_of k = look statuses k (Err refused)

unfoldable pub read_csw : List ℕ → Reading
read_csw p =
    when eqb (length p) 13 and starts_with csw_signature p
    then shown (acceptance p (status_of (byte_at p 12)))
    else shown refusal

unfoldable pub write_csw : Csw → List ℕ → Writing
write_csw c b =
    when fits b 0 (csw_bytes c)
    then writing 0 13 (placed b 0 (csw_bytes c))
    else writing 17 0 b
