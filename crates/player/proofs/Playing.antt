-- The player's loop: what is printed so far, with what is left to play, is the whole text. Assumes nothing.
use Prim.Native.Nat.{ℕ, ◌+◌, ◌*◌, ◌-◌, ◌≤◌, ◌<◌}
use mathlib.Core.Path.{◌≡◌, refl, sym, ap, subst, ◌∙◌}
use mathlib.Core.Bool.{true, false}
use mathlib.Core.List.{List, [], ◌∷◌, ◌++◌, append_assoc, append-nil}
use Rattle.std.proofs.Common.{Option, Some}
use native.Mathlib.Omega.{arith}
use native.Mathlib.Nat.{zero-add}
use lib.Dec.{eqb}
use lib.ListN.{length, take, drop, length-append, length-map}
use Rattle.wire.specs.Texts.{ascii}
use Rattle.wire.specs.Choice.{when◌then◌else◌, ◌and◌}
use Rattle.wire.proofs.Cases.{if-true, if-false, by-if}
use Rattle.wire.proofs.Lists.{placed_yes}
use Rattle.wire.proofs.Packets.{length-zeros}
use Rattle.machine.specs.declared.answer.Answer.TheVariants.{Ack}
use Rattle.machine.specs.declared.answer.Refusal.{Refusal}
use Rattle.machine.specs.declared.answer.Refusal.TheVariants as refusal
use Rattle.machine.specs.declared.record.Device.{Device}
use Rattle.machine.specs.Answer.{refusal_number, number_of}
use Rattle.machine.specs.Units.{size_fits, Table, unused, as_made, total, follow, laid_out, medium_fits}
use Rattle.machine.specs.Record.{fresh}
use Rattle.machine.specs.Fits.{number_fits}
use Rattle.machine.specs.Making.{Made, made, not_made, make, ToldMade, told_made}
use Rattle.machine.specs.World.{World, world}
use Rattle.machine.specs.Machine.{Event, Run, step, run}
use Rattle.machine.specs.Claim.{born, lived}
use Rattle.recording.specs.declared.cursor.Kind.{Kind}
use Rattle.recording.specs.declared.cursor.Reading.{Reading}
use Rattle.recording.specs.Format.{is_kind, formed, event_of, event_in, events_in, count_of, table_of, bodies_of, is_formed, Parsed, parse}
use Rattle.recording.specs.Cursor.{read_at}
use Rattle.printout.specs.Writing.{Wrote}
use Rattle.printout.specs.Print.{line, lines, numeral, newline, heading, refused_line, has_room, fitting}
use Rattle.player.specs.Player.{bench_identity, bench_table, bench_medium, making_number, played, run_in, text_of, medium_of, table_left, printed_over, Leaves}
use Rattle.player.specs.Turns.{Turned}
use Rattle.recording.proofs.Parses.{events-count, parse_bad, parse_good}
use Rattle.recording.proofs.Cursors.{Place, First, first}
use Rattle.printout.proofs.Writes.{wrote_more, wrote_as, wrote_fits, room_there, numeral-length, refused-line-length}

-- what is left to play, from a world on
abbrev pub left-run : ℕ → List ℕ → World → ℕ → ℕ → ℕ → Run
left-run u s w n e b = run w (events_in u n (drop e s) (drop b s))

-- n events are left, from the places e and b on; the next has the number k, and its line begins at `at`
pub record So-far (u : ℕ) (s : List ℕ) (whole : Run) (t₀ : List ℕ) (from : ℕ) (w : World) (t : List ℕ) (at n e b k : ℕ) : Type 0 where
  pub place : Place s n e b
  pub good : formed u n (drop e s) (drop b s) ≡ true
  pub room : at + 207 * n ≤ length t₀
  pub counts : k + n ≤ 1025
  pub done : List ℕ
  pub wrote : Wrote t₀ from done t at
  pub text : done ++ lines k (left-run u s w n e b).replies ≡ lines 1 whole.replies
  pub world : (left-run u s w n e b).world ≡ whole.world

pub began : (u : ℕ) (s : List ℕ) (whole : Run) (t₀ : List ℕ) (from : ℕ) (w : World) (t : List ℕ) (at n e b k : ℕ) (r : Reading)
    → (x : Kind) → r.kind ≡ Some x → So-far u s whole t₀ from w t at n e b k → r ≡ read_at u s e b → 0 < n → First u s n e b r
began u s whole t₀ from w t at n e b k r x y f q p = first u s n e b r q p f.place (ap is_kind y)

-- one event more
pub run-first : (w : World) (x : Event) (es : List Event) (k : ℕ)
    → lines k (run w (x ∷ es)).replies ≡ line k (step w x).answer (step w x).buffer ++ lines (k + 1) (run (step w x).world es).replies
unfolding run lines
run-first w x es k = refl

run-world : (w : World) (x : Event) (es : List Event) → (run w (x ∷ es)).world ≡ (run (step w x).world es).world
unfolding run
run-world w x es = refl

pub go_on : (u : ℕ) (s : List ℕ) (whole : Run) (t₀ : List ℕ) (from : ℕ) (w : World) (t : List ℕ) (at n e b k : ℕ) (r : Reading) (x : Kind) (w' : World) (t' : List ℕ) (at' : ℕ)
    → r.kind ≡ Some x → So-far u s whole t₀ from w t at n e b k → r ≡ read_at u s e b → 0 < n
    → Turned (step w (event_of x (take r.len (drop b s)))) k t at t' at' w'
    → So-far u s whole t₀ from w' t' at' (n - 1) r.entry r.body (k + 1)
go_on u s whole t₀ from w t at n e b k r x w' t' at' y v q p g =
    let f = began u s whole t₀ from w t at n e b k r x y v q p in
    let ev = event_of x (take r.len (drop b s)) in
    let es = events_in u (n - 1) (drop r.entry s) (drop r.body s) in
    let all : events_in u n (drop e s) (drop b s) ≡ ev ∷ es = f.events ∙ ap (λ (o : Option Kind). event_in o (take r.len (drop b s)) ∷ es) y in
    let o = step w ev in
    let this = line k o.answer o.buffer in
    let rm = v.room in
    let gr = g.room in
    let pl = g.text.place in
    let cn = v.counts in
    let back : left-run u s w' (n - 1) r.entry r.body ≡ run o.world es = λ i. run (g.world i) es in
    record {
      place = f.next;
      good = sym f.formed ∙ v.good;
      room = omega arith;
      counts = omega arith;
      done = v.done ++ this;
      wrote = wrote_more t₀ from v.done t at this t' at' v.wrote g.text (omega arith);
      text =
          append_assoc v.done this (lines (k + 1) (left-run u s w' (n - 1) r.entry r.body).replies)
          ∙ ap (λ (l : Run). v.done ++ (this ++ lines (k + 1) l.replies)) back
          ∙ ap (λ (l : List ℕ). v.done ++ l) (sym (run-first w ev es k))
          ∙ ap (λ (l : List Event). v.done ++ lines k (run w l).replies) (sym all)
          ∙ v.text;
      world =
          ap (λ (l : Run). l.world) back
          ∙ sym (run-world w ev es)
          ∙ ap (λ (l : List Event). (run w l).world) (sym all)
          ∙ v.world;
    }

-- none left
pub ended : (u : ℕ) (s : List ℕ) (whole : Run) (t₀ : List ℕ) (from : ℕ) (w : World) (t : List ℕ) (at n e b k : ℕ)
    → So-far u s whole t₀ from w t at n e b k → n ≡ 0 → Wrote t₀ from (lines 1 whole.replies) t at × (w ≡ whole.world)
unfolding run lines events_in
ended u s whole t₀ from w t at n e b k v z =
    let none : left-run u s w n e b ≡ record { replies = []; world = w } = ap (λ (j : ℕ). left-run u s w j e b) z in (
      wrote_as _ _ _ _ _ _ (sym (append-nil v.done) ∙ ap (λ (l : Run). v.done ++ lines k l.replies) (sym none) ∙ v.text) v.wrote,
      ap (λ (l : Run). l.world) (sym none) ∙ v.world,
    )

-- ---- the whole text

wrote_front : (t s t' : List ℕ) (e : ℕ) → Wrote t 0 s t' e → length s ≤ length t → (t' ≡ s ++ drop (length s) t) × (e ≡ length s)
wrote_front t s t' e w h = (
  w.text ∙ placed_yes t 0 s (omega arith) ∙ ap (λ (n : ℕ). s ++ drop n t) (zero-add (length s)),
  w.place ∙ zero-add (length s),
)

pub heading-length : (n : ℕ) → length (heading n) ≤ 12
unfolding heading
heading-length n =
    let a = length-append (ascii "events " ++ numeral n) newline in
    let b = length-append (ascii "events ") (numeral n) in
    let l = numeral-length n in
    omega arith

-- the text has room for what is printed first, when it is opened
pub front_fits : (t t₁ : List ℕ) (at : ℕ) (s t' : List ℕ) (r : ℕ) → t₁ ≡ t → at ≡ 0 → 207 ≤ length t → Wrote t₁ at (fitting (has_room t₁ at) s) t' r → Wrote t 0 s t' r
front_fits t t₁ at s t' r e z h w =
    wrote_fits t 0 (has_room t 0) s t' r (room_there t 0 (omega arith))
    (subst (λ (x : List ℕ). Wrote x 0 (fitting (has_room x 0) s) t' r) e (subst (λ (n : ℕ). Wrote t₁ n (fitting (has_room t₁ n) s) t' r) z w))

-- no refusal has the number of what is made
refused_not : (why : Refusal) → eqb (refusal_number why) 1 ≡ false
refused_not refusal.Record = refl
refused_not refusal.Medium = refl
refused_not refusal.Buffer = refl
refused_not refusal.Packet = refl
refused_not refusal.Setup = refl
refused_not refusal.Number = refl
refused_not refusal.Unit = refl

-- a making leaves as many units as there are
made-count : (us : Table) (m : List ℕ) → length (make bench_identity us m).units ≡ length us
unfolding make as_made
made-count us m =
    by-if same (laid_out us) _ _
    (λ _. by-if same (medium_fits us m) _ _ (λ _. by-if same (number_fits bench_identity.number) _ _ (λ _. length-map us unused) (λ _. refl)) (λ _. refl))
    (λ _. refl)
  where
    same : Made → Type 0
    same r = length r.units ≡ length us

pub counted : (d : Device) (us' us : Table) (m : List ℕ) → told_made (made Ack d us') ≡ told_made (make bench_identity us m) → length us' ≡ length us
counted d us' us m e = ap (λ (x : ToldMade). length x.units) e ∙ made-count us m

-- one that is refused keeps the table
kept : (us : Table) (m : List ℕ) → eqb (number_of (make bench_identity us m).answer) 1 ≡ false → (make bench_identity us m).units ≡ us
unfolding make
kept us m =
    by-if same (laid_out us) _ _
    (λ _. by-if same (medium_fits us m) _ _ (λ _. by-if same (number_fits 42) _ _ (λ _ e. absurd cc) (λ _ _. refl)) (λ _ _. refl))
    (λ _ _. refl)
  where
    same : Made → Type 0
    same r = eqb (number_of r.answer) 1 ≡ false → r.units ≡ us

-- its number, either way
refused_lem : (why : Refusal) (us' us : Table) (m : List ℕ) → told_made (not_made why us') ≡ told_made (make bench_identity us m) → eqb (making_number us m) 1 ≡ false
unfolding making_number
refused_lem why us' us m ke = ap (λ (k : ToldMade). eqb k.number 1) (sym ke) ∙ refused_not why

served_lem : (d : Device) (us' us : Table) (m : List ℕ) → told_made (made Ack d us') ≡ told_made (make bench_identity us m) → eqb (making_number us m) 1 ≡ true
unfolding making_number
served_lem d us' us m ke = ap (λ (k : ToldMade). eqb k.number 1) (sym ke)

-- the run over what was made is the run over what is lent
ran_lem : (us : Table) (s m : List ℕ) (n : ℕ) (d : Device) (us' : Table) → told_made (made Ack d us') ≡ told_made (make bench_identity us m) → n ≡ count_of s
    → run_in (length us') s n (world d us' m) ≡ played us m (events_in (length us) (count_of s) (table_of s) (bodies_of s))
unfolding played lived born
ran_lem us s m n d us' ke ne = λ i. run_in (counted d us' us m ke i) s (ne i) (world (ke i).dev (ke i).units m)

-- nothing is run
pub refuses : (us : Table) (start s t m t' : List ℕ) (r : ℕ) → is_formed (length us) s ≡ false → 207 ≤ length t → Wrote t 0 (refused_line 16) t' r → Leaves us start s t m t' r m
unfolding printed_over text_of medium_of
refuses us start s t m t' r f h w =
    let bad = parse_bad (length us) s f in
    let p : refused_line 16 ≡ printed_over us start s = ap (text_of us start) (sym bad) in
    let n = refused-line-length 16 in
    let l = wrote_front t (refused_line 16) t' r w (omega arith) in
    record { text = l.0 ∙ ap (λ (x : List ℕ). x ++ drop (length x) t) p; place = l.1 ∙ ap length p; medium = ap (λ (x : Parsed). medium_of us start x m) (sym bad) }

pub misfits : (us : Table) (start s t m t' : List ℕ) (r n : ℕ) (why : Refusal) (us' : Table) → is_formed (length us) s ≡ true → told_made (not_made why us') ≡ told_made (make bench_identity us start)
    → n ≡ refusal_number why → 207 ≤ length t → Wrote t 0 (refused_line n) t' r → Leaves us start s t m t' r m
unfolding printed_over text_of medium_of making_number
misfits us start s t m t' r n why us' f ke ne h w =
    let good = parse_good (length us) s f in
    let e : refusal_number why ≡ making_number us start = ap (λ (k : ToldMade). k.number) ke in
    let no = refused_lem why us' us start ke in
    let p : refused_line n ≡ printed_over us start s = ap refused_line (ne ∙ e) ∙ sym (ap (text_of us start) good ∙ if-false _ _ _ no) in
    let k = refused-line-length n in
    let l = wrote_front t (refused_line n) t' r w (omega arith) in
    record { text = l.0 ∙ ap (λ (x : List ℕ). x ++ drop (length x) t) p; place = l.1 ∙ ap length p; medium = sym (ap (λ (x : Parsed). medium_of us start x m) good ∙ if-false _ _ _ no) }

pub plays : (us : Table) (s t m : List ℕ) (n : ℕ) (d : Device) (us' : Table) (t₁ : List ℕ) (at : ℕ) (t₂ : List ℕ) (r : ℕ) (w₂ : World)
    → is_formed (length us) s ≡ true → told_made (made Ack d us') ≡ told_made (make bench_identity us m) → n ≡ count_of s
    → Wrote t 0 (heading n) t₁ at
    → Wrote t₁ at (lines 1 (run_in (length us') s n (world d us' m)).replies) t₂ r
    → w₂ ≡ (run_in (length us') s n (world d us' m)).world
    → r ≤ length t → Leaves us m s t m t₂ r w₂.medium
unfolding printed_over text_of medium_of
plays us s t m n d us' t₁ at t₂ r w₂ f ke ne w v q h =
    let es = events_in (length us) (count_of s) (table_of s) (bodies_of s) in
    let good = parse_good (length us) s f in
    let ok = served_lem d us' us m ke in
    let ran = ran_lem us s m n d us' ke ne in
    let count : n ≡ length es = ne ∙ sym (events-count (length us) (count_of s) (table_of s) (bodies_of s)) in
    let p : heading n ++ lines 1 (run_in (length us') s n (world d us' m)).replies ≡ printed_over us m s =
    (λ i. heading (count i) ++ lines 1 (ran i).replies) ∙ sym (ap (text_of us m) good ∙ if-true _ _ _ ok) in
    let a = v.place in
    let all = wrote_as _ _ _ _ _ _ p (wrote_more _ _ _ _ _ _ _ _ w v (omega arith)) in
    let b = all.place in
    let l = wrote_front t (printed_over us m s) t₂ r all (omega arith) in
    record { text = l.0; place = l.1; medium = ap (λ (x : World). x.medium) q ∙ ap (λ (x : Run). x.world.medium) ran ∙ sym (ap (λ (x : Parsed). medium_of us m x m) good ∙ if-true _ _ _ ok) }

-- the table that is left: of a malformed recording, where making refuses, and of a run
pub table_refuses : (us : Table) (start s : List ℕ) → is_formed (length us) s ≡ false → us ≡ table_left us start (parse (length us) s)
unfolding table_left
table_refuses us start s f = sym (ap (table_left us start) (parse_bad (length us) s f))

pub table_misfits : (us : Table) (start s : List ℕ) (why : Refusal) (us' : Table) → is_formed (length us) s ≡ true → told_made (not_made why us') ≡ told_made (make bench_identity us start)
    → us' ≡ table_left us start (parse (length us) s)
unfolding table_left making_number
table_misfits us start s why us' f ke =
    let no = refused_lem why us' us start ke in
    ap (λ (k : ToldMade). k.units) ke ∙ kept us start no ∙ sym (ap (table_left us start) (parse_good (length us) s f) ∙ if-false _ _ _ no)

pub table_plays : (us : Table) (s m : List ℕ) (n : ℕ) (d : Device) (us' : Table) (w₂ : World)
    → is_formed (length us) s ≡ true → told_made (made Ack d us') ≡ told_made (make bench_identity us m) → n ≡ count_of s
    → w₂ ≡ (run_in (length us') s n (world d us' m)).world → w₂.units ≡ table_left us m (parse (length us) s)
unfolding table_left
table_plays us s m n d us' w₂ f ke ne q =
    ap (λ (x : World). x.units) q
    ∙ ap (λ (x : Run). x.world.units) (ran_lem us s m n d us' ke ne)
    ∙ sym (ap (table_left us m) (parse_good (length us) s f) ∙ if-true _ _ _ (served_lem d us' us m ke))

-- what is run does not ask what stood on the medium before it was cleared
pub cleared : (us us₁ : Table) (start s t m₁ m t₂ : List ℕ) (r : ℕ) (m₂ : List ℕ) → is_formed (length us) s ≡ true → eqb (making_number us start) 1 ≡ true → us₁ ≡ us → m₁ ≡ start → Leaves us₁ m₁ s t m₁ t₂ r m₂
    → Leaves us start s t m t₂ r m₂
unfolding medium_of
cleared us us₁ start s t m₁ m t₂ r m₂ f ok d e l =
    let good = parse_good (length us) s f in
    let q = subst (λ (x : List ℕ). Leaves us x s t m₁ t₂ r m₂) e (subst (λ (x : Table). Leaves x m₁ s t m₁ t₂ r m₂) d l) in
    record { text = q.text; place = q.place; medium = q.medium ∙ (ap (λ (x : Parsed). medium_of us start x m₁) good ∙ if-true _ _ _ ok) ∙ sym (ap (λ (x : Parsed). medium_of us start x m) good ∙ if-true _ _ _ ok) }

-- the bench's table is served with the bench's medium
pub bench_served : eqb (making_number bench_table bench_medium) 1 ≡ true
unfolding bench_medium making_number make laid_out follow size_fits medium_fits total number_fits when◌then◌else◌ ◌and◌
bench_served = ap (λ (n : ℕ). eqb (number_of (when eqb n 32768 then made Ack (fresh bench_identity) (as_made bench_table) else not_made refusal.Medium bench_table).answer) 1) (length-zeros 32768)

-- the print-out lies within the text's buffer
pub within_text : (us : Table) (start s t m t' : List ℕ) (r : ℕ) (m' : List ℕ) → Leaves us start s t m t' r m' → r ≤ length t'
within_text us start s t m t' r m' l =
    let p = printed_over us start s in
    let a = ap length l.text in
    let b = length-append p (drop (length p) t) in
    let e = l.place in
    omega arith
