-- What an event hands out, and when that is a status wrapper: by the bytes alone.
use Rattle.std.specs.Prelude.{ℕ, Bool, List, eqb, length, take}
use Rattle.wire.specs.Choice.{◌and◌}
use Rattle.wire.specs.Slices.{starts_with}
use Rattle.bot.specs.Csw.{csw_signature}
use Rattle.machine.specs.declared.answer.Answer.{Answer}
use Rattle.machine.specs.Answer.{count_of}
use Rattle.machine.specs.Machine.{Seen}

-- An answer, and the bytes that came with it.
pub record Handed : Type 0 where
  pub answer : Answer
  pub bytes : List ℕ

abbrev pub handed : Seen → Handed
handed r = record { answer = r.answer; bytes = take (count_of r.answer) r.buffer }

-- 13 bytes that open with 55 53 42 53. No reply does, and a Read hands out 64 bytes at a time.
unfoldable pub is_status : List ℕ → Bool
is_status s = eqb (length s) 13 and starts_with csw_signature s
