-- The claim of specs/Claims.antt: what is written is read back. Assumes nothing.
use Prim.Native.Nat.{ℕ, suc, ◌+◌, ◌*◌, ◌≤◌, ◌<◌}
use mathlib.Core.Path.{◌≡◌, refl, sym, ap, ◌∙◌}
use mathlib.Core.Bool.{true}
use mathlib.Core.List.{List, [], ◌∷◌, ◌++◌}
use Rattle.std.proofs.Common.{Some}
use native.Mathlib.Omega.{arith}
use lib.Dec.{leb}
use lib.ListN.{length, take, drop, length-append}
use lib.Seq.{take-append_seam, drop-append_seam, drop_at, drop-drop}
use borrow.Author.Tests.{le-leb, lt-ltb}
use Rattle.wire.specs.Choice.{when◌then◌else◌, ◌and◌}
use Rattle.wire.specs.Slices.{byte_at, bytes_at}
use Rattle.wire.specs.Numbers.{low, value, little, little_bytes}
use Rattle.wire.proofs.Cases.{if-true, and_true}
use Rattle.machine.specs.Machine.{Event, bus_reset, control, bulk_out, bulk_in, set_switch}
use Rattle.recording.specs.declared.cursor.Kind.{Kind}
use Rattle.recording.specs.declared.cursor.Kind.TheVariants.{Reset, Control, Out, Ask, Switch}
use Rattle.recording.specs.Format.{kind_of, is_kind, kind_in, length_in, formed, event_of, event_in, events_in, count_of, table_of, bodies_of, is_formed, well_formed, parse, number_of_kind, body_of, table, bodies, written, Recordable, AllRecordable, most_bytes, most_events}
use Rattle.recording.specs.Claims.{WrittenIsParsed}

-- ---- a number of two bytes

two : (n : ℕ) → n < 65536 → little (little_bytes 2 n) ≡ n
unfolding low value
two n h = omega arith

-- ---- one entry

abbrev kind_for : Event → Kind
kind_for bus_reset = Reset
kind_for (control s b) = Control
kind_for (bulk_out p) = Out
kind_for (bulk_in b) = Ask
kind_for (set_switch x n) = Switch

-- its body stands in front of the others
kind_is : (u : ℕ) (e : Event) (y : List ℕ) → Recordable u e → kind_of (number_of_kind e) 0 (length (body_of e)) (byte_at (body_of e ++ y) 0) (byte_at (body_of e ++ y) 1) u ≡ Some (kind_for e)
unfolding kind_of when◌then◌else◌ ◌and◌
kind_is u bus_reset y h = refl
kind_is u (control s b) y h = ap (λ (n : ℕ). kind_of 2 0 n (byte_at (s ++ y) 0) (byte_at (s ++ y) 1) u) h.0
kind_is u (bulk_out p) y h = simp (le-leb (length p) 64 h)
kind_is u (bulk_in b) y h = refl
kind_is u (set_switch x n) y h = simp (h.0, lt-ltb n u h.1)

body_few : (u : ℕ) (e : Event) → Recordable u e → length (body_of e) ≤ 64
body_few u bus_reset h = omega arith
body_few u (control s b) h = omega arith
body_few u (bulk_out p) h = h
body_few u (bulk_in b) h = omega arith
body_few u (set_switch x n) h = omega arith

event_back : (u : ℕ) (e : Event) → Recordable u e → event_of (kind_for e) (body_of e) ≡ e
unfolding event_of
event_back u bus_reset h = refl
event_back u (control s b) h = ap (control s) (sym h.1)
event_back u (bulk_out p) h = refl
event_back u (bulk_in b) h = ap bulk_in (sym h)
event_back u (set_switch x n) h = refl

-- ---- the table and the bodies, whatever follows the table

module _ (u : ℕ) (e : Event) (es : List Event) (x : List ℕ) (h : Recordable u e) where
  entry_length : length_in (table (e ∷ es) ++ x) ≡ length (body_of e)
  unfolding table low bytes_at
  entry_length = two (length (body_of e)) (let l = body_few u e h in omega arith)

  entry-kind : (y : List ℕ) → kind_in u (table (e ∷ es) ++ x) (body_of e ++ y) ≡ Some (kind_for e)
  unfolding table
  entry-kind y = ap (λ (n : ℕ). kind_of (number_of_kind e) 0 n (byte_at (body_of e ++ y) 0) (byte_at (body_of e ++ y) 1) u) entry_length ∙ kind_is u e y h

  entry-rest : drop 4 (table (e ∷ es) ++ x) ≡ table es ++ x
  unfolding table low
  entry-rest = refl

formed-cons : (u n : ℕ) (t b : List ℕ) (k : Kind) (l : ℕ) (r : List ℕ) → kind_in u t b ≡ Some k → length_in t ≡ l → drop 4 t ≡ r
    → formed u (suc n) t b ≡ (is_kind (Some k) and leb l (length b) and formed u n r (drop l b))
unfolding formed
formed-cons u n t b k l r p q d = λ i. is_kind (p i) and leb (q i) (length b) and formed u n (d i) (drop (q i) b)

events-cons : (u n : ℕ) (t b : List ℕ) (k : Kind) (l : ℕ) (r : List ℕ) → kind_in u t b ≡ Some k → length_in t ≡ l → drop 4 t ≡ r
    → events_in u (suc n) t b ≡ event_of k (take l b) ∷ events_in u n r (drop l b)
unfolding events_in
events-cons u n t b k l r p q d = λ i. event_in (p i) (take (q i) b) ∷ events_in u n (d i) (drop (q i) b)

formed-written : (u : ℕ) (es : List Event) (x : List ℕ) → AllRecordable u es → formed u (length es) (table es ++ x) (bodies es) ≡ true
unfolding AllRecordable bodies formed
formed-written u [] x h = refl
formed-written u (e ∷ es) x h =
    let n = length-append (body_of e) (bodies es) in
    formed-cons u (length es) (table (e ∷ es) ++ x) (body_of e ++ bodies es) (kind_for e) (length (body_of e)) (table es ++ x)
    (entry-kind u e es x h.0 (bodies es)) (entry_length u e es x h.0) (entry-rest u e es x h.0)
    ∙ and_true _ _ refl (and_true _ _ (le-leb (length (body_of e)) (length (body_of e ++ bodies es)) (omega arith))
    (ap (formed u (length es) (table es ++ x)) (drop-append_seam (body_of e) (bodies es)) ∙ formed-written u es x h.1))

events-written : (u : ℕ) (es : List Event) (x : List ℕ) → AllRecordable u es → events_in u (length es) (table es ++ x) (bodies es) ≡ es
unfolding AllRecordable bodies events_in
events-written u [] x h = refl
events-written u (e ∷ es) x h =
    events-cons u (length es) (table (e ∷ es) ++ x) (body_of e ++ bodies es) (kind_for e) (length (body_of e)) (table es ++ x)
    (entry-kind u e es x h.0 (bodies es)) (entry_length u e es x h.0) (entry-rest u e es x h.0)
    ∙ (λ i. event_of (kind_for e) (take-append_seam (body_of e) (bodies es) i) ∷ events_in u (length es) (table es ++ x) (drop-append_seam (body_of e) (bodies es) i))
    ∙ (λ i. event_back u e h.0 i ∷ events-written u es x h.1 i)

-- ---- the whole

length-table : (es : List Event) → length (table es) ≡ 4 * length es
unfolding table low
length-table [] = refl
length-table (e ∷ es) = let h = length-table es in omega arith

module _ (u : ℕ) (es : List Event) (h : AllRecordable u es) (few : length es ≤ most_events) (fit : length (written es) ≤ most_bytes) where
  count-back : count_of (written es) ≡ length es
  unfolding written low bytes_at
  count-back = two (length es) (omega arith)

  table-back : table_of (written es) ≡ table es ++ bodies es
  unfolding written low
  table-back = refl

  bodies-back : bodies_of (written es) ≡ bodies es
  bodies-back =
      ap (λ (n : ℕ). drop (2 + 4 * n) (written es)) count-back
      ∙ sym (drop-drop (4 * length es) 2 (written es))
      ∙ ap (drop (4 * length es)) table-back
      ∙ drop_at (table es) (bodies es) (4 * length es) (length-table es)

  size : length (written es) ≡ 2 + 4 * length es + length (bodies es)
  unfolding written low
  size = let a = length-append (table es) (bodies es) in let t = length-table es in omega arith

  formed-back : is_formed u (written es) ≡ true
  unfolding is_formed
  formed-back =
      let z = size in
      let c = count-back in
      and_true _ _ (le-leb 2 (length (written es)) (omega arith))
      (and_true _ _ (le-leb (length (written es)) most_bytes fit)
      (and_true _ _ (le-leb (count_of (written es)) most_events (omega arith))
      (and_true _ _ (le-leb (2 + 4 * count_of (written es)) (length (written es)) (omega arith))
      ((λ i. formed u (count-back i) (table-back i) (bodies-back i)) ∙ formed-written u es (bodies es) h))))

  back : parse u (written es) ≡ well_formed es
  unfolding parse
  back =
      if-true _ _ _ formed-back
      ∙ ap well_formed ((λ i. events_in u (count-back i) (table-back i) (bodies-back i)) ∙ events-written u es (bodies es) h)

pub written_is_parsed : WrittenIsParsed
written_is_parsed u es h few fit = back u es h few fit
