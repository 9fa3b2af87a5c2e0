-- What the bench prints (document 01, "The bench recording"), as bytes.
use Rattle.std.specs.Prelude.{ℕ, ◌+◌, ◌/◌, ◌%◌, Bool, List, [], ◌∷◌, ◌++◌, ltb, leb, length, take}
use Rattle.wire.specs.Choice.{when◌then◌else◌}
use Rattle.wire.specs.Numbers.{decimal}
use Rattle.wire.specs.Texts.{ascii}
use Rattle.machine.specs.declared.answer.Answer.{Answer}
use Rattle.machine.specs.declared.answer.Answer.TheVariants.{Data, Ack, Nak, Stall, Silent, Refused}
use Rattle.machine.specs.Answer.{refusal_number}
use Rattle.machine.specs.Machine.{Seen}

-- Numbers below 10,000, without zeros in front.
unfoldable pub width_of : ℕ → ℕ
width_of n = when ltb n 10 then 1 else (when ltb n 100 then 2 else (when ltb n 1000 then 3 else 4))

unfoldable pub numeral : ℕ → List ℕ
numeral n = decimal (width_of n) n

-- "data is upper-case hex, a space between bytes": 0 to 9, then A to F.
abbrev pub hex_digit : ℕ → ℕ
hex_digit d = when ltb d 10 then 48 + d else 55 + d

unfoldable pub hexes : List ℕ → List ℕ
hexes [] = []
hexes (x ∷ s) = 32 ∷ hex_digit (x / 16) ∷ hex_digit (x % 16) ∷ hexes s

unfoldable pub data_text : ℕ → List ℕ → List ℕ
data_text n buffer = ascii "data " ++ numeral n ++ hexes (take n buffer)

unfoldable pub refused_text : ℕ → List ℕ
refused_text n = ascii "refused " ++ numeral n

-- An answer and what the lent buffer holds. On the bench no event is refused; the definition is total all the same.
unfoldable pub answer_text : Answer → List ℕ → List ℕ
answer_text (Data n) buffer = data_text n buffer
answer_text Ack buffer = ascii "ack"
answer_text Nak buffer = ascii "nak"
answer_text Stall buffer = ascii "stall"
answer_text Silent buffer = ascii "silent"
answer_text (Refused r) buffer = refused_text (refusal_number r)

abbrev pub newline : List ℕ
newline = 10 ∷ []

abbrev pub space : List ℕ
space = 32 ∷ []

-- A line, and the lines of a list of events, numbered from a number on.
unfoldable pub line : ℕ → Answer → List ℕ → List ℕ
line k a buffer = numeral k ++ space ++ answer_text a buffer ++ newline

unfoldable pub lines : ℕ → List Seen → List ℕ
lines k [] = []
lines k (o ∷ os) = line k o.answer o.buffer ++ lines (k + 1) os

unfoldable pub heading : ℕ → List ℕ
heading n = ascii "events " ++ numeral n ++ newline

-- All that is printed where nothing is run: "is 16, printed `refused 16`".
unfoldable pub refused_line : ℕ → List ℕ
refused_line n = refused_text n ++ newline

-- What a public function writes: nothing, unless there is room for the longest line behind the place. A line is at most a number of
-- four digits, a space, `data`, a space, four digits, three characters for each of 64 bytes, and a newline.
abbrev pub most_line : ℕ
most_line = 207

unfoldable pub has_room : List ℕ → ℕ → Bool
has_room t at = leb (at + most_line) (length t)

unfoldable pub fitting : Bool → List ℕ → List ℕ
fitting fits s = when fits then s else []
