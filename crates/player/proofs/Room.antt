-- The claim of specs/Claims.antt that the text's buffer always suffices. Assumes nothing.
use Prim.Native.Nat.{ℕ, zero, suc, ◌+◌, ◌*◌, ◌≤◌}
use mathlib.Core.Path.{◌≡◌, refl, sym, subst}
use mathlib.Core.Bool.{Bool, true, false}
use mathlib.Core.List.{List}
use Rattle.std.proofs.Common.{Option, Some, None}
use native.Mathlib.Omega.{arith}
use lib.Dec.{eqb}
use lib.ListN.{length, take, drop, length-append, length-drop}
use Rattle.wire.proofs.Packets.{length-zeros}
use Rattle.wire.proofs.Cases.{by-if}
use Rattle.machine.specs.Units.{Table}
use Rattle.machine.specs.World.{World, Out}
use Rattle.machine.specs.Machine.{lent, run, step}
use Rattle.machine.specs.Claim.{born, lived}
use Rattle.machine.specs.Beside.{Lawful, unchanged, stalled, locked, handed, acked}
use Rattle.machine.proofs.StepLaws.{step_laws}
use Rattle.recording.specs.declared.cursor.Kind.{Kind}
use Rattle.recording.specs.declared.cursor.Kind.TheVariants.{Reset, Control, Out as outward, Ask, Switch}
use Rattle.recording.specs.Format.{kind_in, length_in, event_of, event_in, events_in, count_of, table_of, bodies_of, is_formed, Parsed}
use Rattle.recording.proofs.Parses.{parse_bad, parse_good, sound}
use Rattle.printout.specs.Print.{line, lines, heading}
use Rattle.player.specs.Player.{bench_identity, making_number, played, text_of, printed_over, most_text}
use Rattle.player.specs.Claims.{TextFits}
use Rattle.printout.proofs.Writes.{refused-line-length}
use Rattle.player.proofs.Answers.{line-length}
use Rattle.player.proofs.Playing.{heading-length}

-- no event leaves a longer buffer than it is lent
keeps : (w : World) (b : List ℕ) (o : Out) → Lawful w b o → length b ≤ 64 → length o.buffer ≤ 64
keeps w b _ (unchanged a e) h = h
keeps w b _ stalled h = h
keeps w b _ locked h = h
keeps w b _ (handed d s k l) h = let p = length-append s (drop (length s) b) in let q = length-drop (length s) b in omega arith
keeps w b _ (acked v) h = h

lends : (k : Kind) (s : List ℕ) → length (lent (event_of k s)) ≤ 64
unfolding event_of lent
lends Reset s = omega arith
lends Control s = let n = length-zeros 64 in omega arith
lends outward s = omega arith
lends Ask s = let n = length-zeros 64 in omega arith
lends Switch s = omega arith

lends-any : (k : Option Kind) (s : List ℕ) → length (lent (event_in k s)) ≤ 64
unfolding lent
lends-any (Some k) s = lends k s
lends-any None s = omega arith

short : (w : World) (k : Option Kind) (s : List ℕ) → length (step w (event_in k s)).buffer ≤ 64
short w k s = keeps w (lent (event_in k s)) (step w (event_in k s)) (step_laws w (event_in k s)) (lends-any k s)

lines_most : (u n : ℕ) (t b : List ℕ) (w : World) (k : ℕ) → length (lines k (run w (events_in u n t b)).replies) ≤ 207 * n
unfolding events_in run lines
lines_most u zero t b w k = omega arith
lines_most u (suc n) t b w k =
    let e = event_in (kind_in u t b) (take (length_in t) b) in
    let o = step w e in
    let h = line-length k o.answer o.buffer (short w (kind_in u t b) (take (length_in t) b)) in
    let r = lines_most u n (drop 4 t) (drop (length_in t) b) o.world (k + 1) in
    let a = length-append (line k o.answer o.buffer) (lines (k + 1) (run o.world (events_in u n (drop 4 t) (drop (length_in t) b))).replies) in
    omega arith

text_good : (us : Table) (start s : List ℕ) → is_formed (length us) s ≡ true → length (printed_over us start s) ≤ most_text
unfolding printed_over text_of played lived
text_good us start s f =
    let es = events_in (length us) (count_of s) (table_of s) (bodies_of s) in
    let few = (sound (length us) s (count_of s) f refl).few in
    let h = heading-length (length es) in
    let l = lines_most (length us) (count_of s) (table_of s) (bodies_of s) (born (record { identity = bench_identity; units = us; medium = start })) 1 in
    let a = length-append (heading (length es)) (lines 1 (played us start es).replies) in
    let n = refused-line-length (making_number us start) in
    subst (λ (x : Parsed). length (text_of us start x) ≤ most_text) (sym (parse_good (length us) s f))
    (by-if (λ (x : List ℕ). length x ≤ most_text) (eqb (making_number us start) 1) _ _ (λ _. omega arith) (λ _. omega arith))

text_bad : (us : Table) (start s : List ℕ) → is_formed (length us) s ≡ false → length (printed_over us start s) ≤ most_text
unfolding printed_over text_of
text_bad us start s f = let n = refused-line-length 16 in subst (λ (x : Parsed). length (text_of us start x) ≤ most_text) (sym (parse_bad (length us) s f)) (omega arith)

pub text-fits : TextFits
text-fits us start s = either (is_formed (length us) s) refl
  where
    either : (t : Bool) → is_formed (length us) s ≡ t → length (printed_over us start s) ≤ most_text
    either true e = text_good us start s e
    either false e = text_bad us start s e
