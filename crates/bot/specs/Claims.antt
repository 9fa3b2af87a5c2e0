-- Demand 2 of the wrappers: what is written is read back to the same fields, what is read is written back to the same bytes. Proved in proofs/RoundTrip.antt.
use Rattle.std.specs.Prelude.{ℕ, ◌≤◌, ◌<◌, ◌^◌, ◌≡◌, List, ◌++◌, length, take, drop}
use Rattle.wire.specs.Slices.{Below}
use Rattle.bot.specs.declared.cbw.Cbw.{Cbw}
use Rattle.bot.specs.declared.csw.Csw.{Csw}
use Rattle.bot.specs.Answer.{writing}
use Rattle.bot.specs.Cbw.{read_cbw, write_cbw}
use Rattle.bot.specs.Csw.{read_csw, write_csw}

-- The values that the fields' types hold.
pub record IsCbw (c : Cbw) : Type 0 where
  pub tag : c.header.tag < 2 ^ 32
  pub announced : c.header.announced < 2 ^ 32
  pub block : length c.block ≡ 16

pub record IsCsw (c : Csw) : Type 0 where
  pub tag : c.tag < 2 ^ 32
  pub residue : c.residue < 2 ^ 32

pub record CbwRoundTrip : Type 0 where
  pub written_is_read : (c : Cbw) (b : List ℕ) → IsCbw c → (write_cbw c b).number ≡ 0
      → read_cbw (take 31 (write_cbw c b).buffer) ≡ record { number = 1; cbw = c }
  pub read_is_written : (p b : List ℕ) → Below 256 p → (read_cbw p).number ≡ 1 → 31 ≤ length b
      → write_cbw (read_cbw p).cbw b ≡ writing 0 31 (p ++ drop 31 b)

pub record CswRoundTrip : Type 0 where
  pub written_is_read : (c : Csw) (b : List ℕ) → IsCsw c → (write_csw c b).number ≡ 0
      → read_csw (take 13 (write_csw c b).buffer) ≡ record { number = 1; csw = c }
  pub read_is_written : (p b : List ℕ) → Below 256 p → (read_csw p).number ≡ 1 → 13 ≤ length b
      → write_csw (read_csw p).csw b ≡ writing 0 13 (p ++ drop 13 b)
