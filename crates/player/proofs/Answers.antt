-- What is printed of an answer goes by its number and count: what the collector's contracts give. Assumes nothing.
use Prim.Native.Nat.{ℕ, ◌+◌, ◌≤◌}
use mathlib.Core.Path.{◌≡◌, refl, sym, ap, subst, ◌∙◌}
use mathlib.Core.List.{List, ◌++◌}
use native.Mathlib.Omega.{arith}
use lib.Dec.{leb, eqb}
use lib.ListN.{length, length-append}
use borrow.Author.Tests.{le-leb}
use Rattle.wire.specs.Choice.{when◌then◌else◌, ◌and◌}
use Rattle.wire.specs.Texts.{ascii}
use Rattle.wire.proofs.Cases.{and_true}
use Rattle.machine.specs.declared.answer.Answer.{Answer}
use Rattle.machine.specs.declared.answer.Answer.TheVariants.{Data, Ack, Nak, Stall, Silent, Refused}
use Rattle.machine.specs.declared.answer.Refusal.TheVariants as refusal
use Rattle.machine.specs.Answer.{number_of, count_of}
use Rattle.machine.specs.World.{World, Out, out}
use Rattle.machine.specs.Machine.{step, Told, told}
use Rattle.recording.specs.declared.cursor.Kind.{Kind}
use Rattle.recording.specs.Format.{event_of}
use Rattle.printout.specs.Writing.{Wrote}
use Rattle.printout.specs.Print.{numeral, space, newline, data_text, refused_text, answer_text, line, has_room, fitting}
use Rattle.player.specs.Turns.{Turned}
use Rattle.printout.proofs.Writes.{wrote_as, wrote_fits, room_there, numeral-length, answer-length}

abbrev by_number : ℕ → ℕ → List ℕ → List ℕ
by_number k n b =
    when eqb k 0 then data_text n b
    else (when eqb k 1 then ascii "ack"
    else (when eqb k 2 then ascii "nak"
    else (when eqb k 3 then ascii "stall"
    else (when eqb k 4 then ascii "silent"
    else refused_text k))))

by_number_lem : (a : Answer) (b : List ℕ) → answer_text a b ≡ by_number (number_of a) (count_of a) b
unfolding answer_text when◌then◌else◌
by_number_lem (Data n) b = refl
by_number_lem Ack b = refl
by_number_lem Nak b = refl
by_number_lem Stall b = refl
by_number_lem Silent b = refl
by_number_lem (Refused refusal.Record) b = refl
by_number_lem (Refused refusal.Medium) b = refl
by_number_lem (Refused refusal.Buffer) b = refl
by_number_lem (Refused refusal.Packet) b = refl
by_number_lem (Refused refusal.Setup) b = refl
by_number_lem (Refused refusal.Number) b = refl
by_number_lem (Refused refusal.Unit) b = refl

same_text : (o p : Out) → told o ≡ told p → answer_text o.answer o.buffer ≡ answer_text p.answer p.buffer
same_text o p e =
    by_number_lem o.answer o.buffer
    ∙ ap (λ (t : Told). by_number t.number t.count t.buffer) e
    ∙ sym (by_number_lem p.answer p.buffer)

same_line : (k : ℕ) (o p : Out) → told o ≡ told p → line k o.answer o.buffer ≡ line k p.answer p.buffer
unfolding line
same_line k o p e = ap (λ (s : List ℕ). numeral k ++ space ++ s ++ newline) (same_text o p e)

pub line-length : (k : ℕ) (a : Answer) (b : List ℕ) → length b ≤ 64 → length (line k a b) ≤ 207
unfolding line
line-length k a b h =
    let p = length-append (numeral k ++ space ++ answer_text a b) newline in
    let q = length-append (numeral k ++ space) (answer_text a b) in
    let r = length-append (numeral k) space in
    let n = numeral-length k in
    let l = answer-length a b h in
    omega arith

-- the code's outcome and its line are the machine's, where there is room for a line
pub turned : (a : Answer) (w : World) (b : List ℕ) (o : Out) (k : ℕ) (before : List ℕ) (at : ℕ) (after : List ℕ) (end : ℕ)
    → told (out a w b) ≡ told o → length b ≤ 64 → at + 207 ≤ length before
    → Wrote before at (fitting (has_room before at and leb (length b) 64) (line k a b)) after end → Turned o k before at after end w
turned a w b o k before at after end e l room said =
    let wrote = wrote_fits _ _ _ _ _ _ (and_true _ _ (room_there _ _ room) (le-leb _ _ l)) said in
    record {
      world = ap (λ (t : Told). t.world) e;
      text = wrote_as _ _ _ _ _ _ (same_line k (out a w b) o e) wrote;
      room = let n = line-length k a b l in let p = wrote.place in omega arith;
    }

-- the event of a kind that is known
pub turned_as : (w : World) (k x : Kind) (s : List ℕ) (n : ℕ) (before : List ℕ) (at : ℕ) (after : List ℕ) (end : ℕ) (left : World)
    → k ≡ x → Turned (step w (event_of x s)) n before at after end left → Turned (step w (event_of k s)) n before at after end left
turned_as w k x s n before at after end left e v = subst (λ (y : Kind). Turned (step w (event_of y s)) n before at after end left) (sym e) v
