-- Laws of the cursor reader, and of a recording's events by places in it. Assumes nothing.
use Prim.Native.Nat.{ℕ, zero, suc, ◌+◌, ◌*◌, ◌-◌, ◌≤◌, ◌<◌}
use mathlib.Core.Path.{◌≡◌, refl, sym, ap, ap₂, subst, ◌∙◌}
use mathlib.Core.Bool.{Bool, true, false}
use mathlib.Core.List.{List, ◌∷◌}
use Rattle.std.proofs.Common.{Option, Some, None, is_some}
use native.Mathlib.Omega.{arith}
use native.Mathlib.Nat.{add_assoc, add-zero}
use lib.Dec.{leb, eqb}
use lib.ListN.{length, take, drop, get_or, length-drop}
use lib.Seq.{get_or-drop, drop-drop}
use borrow.Author.Tests.{le-leb, lt-leb, leb-true, leb-false, eq-eqb, ne_eqb, eqb-true, eqb-false}
use Rattle.wire.specs.Choice.{when◌then◌else◌, ◌and◌}
use Rattle.wire.specs.Slices.{byte_at, bytes_at}
use Rattle.wire.specs.Numbers.{little}
use Rattle.wire.proofs.Cases.{if-true, if-false, by-if, both, and_true, and_false}
use Rattle.recording.specs.declared.cursor.Reading.{Reading}
use Rattle.recording.specs.declared.cursor.Kind.{Kind}
use Rattle.recording.specs.declared.cursor.Kind.TheVariants.{Reset, Control, Out, Ask, Switch}
use Rattle.recording.specs.Format.{kind_of, kind_in, length_in, is_kind, formed, event_in, events_in}
use Rattle.recording.specs.Cursor.{reading, read_at, kind_number, Numbered, numbered}

pub bytes_drop : (n i e : ℕ) (s : List ℕ) → bytes_at n i (drop e s) ≡ bytes_at n (e + i) s
unfolding bytes_at
bytes_drop zero i e s = refl
bytes_drop (suc n) i e s = ap₂ ◌∷◌ (get_or-drop e s i 0) (bytes_drop n (i + 1) e s ∙ ap (λ (k : ℕ). bytes_at n k s) (sym (add_assoc e i 1)))

-- an entry's length, by its place; a body's first byte and its second; the kind, by both places
pub length-place : (s : List ℕ) (e : ℕ) → length_in (drop e s) ≡ little (bytes_at 2 (e + 2) s)
length-place s e = ap little (bytes_drop 2 2 e s)

pub first-place : (s : List ℕ) (b : ℕ) → byte_at (drop b s) 0 ≡ byte_at s b
first-place s b = get_or-drop b s 0 0 ∙ ap (λ (k : ℕ). get_or s k 0) (add-zero b)

second-place : (s : List ℕ) (b : ℕ) → byte_at (drop b s) 1 ≡ byte_at s (b + 1)
second-place s b = get_or-drop b s 1 0

pub kind-place : (u : ℕ) (s : List ℕ) (e b : ℕ) → kind_in u (drop e s) (drop b s) ≡ kind_of (byte_at s e) (byte_at s (e + 1)) (little (bytes_at 2 (e + 2) s)) (byte_at s b) (byte_at s (b + 1)) u
kind-place u s e b = λ i. kind_of (first-place s e i) (second-place s e i) (length-place s e i) (first-place s b i) (second-place s b i) u

pub read_short : (u : ℕ) (s : List ℕ) (e b : ℕ) → length s < e + 4 → read_at u s e b ≡ reading None 0 e b
unfolding read_at ◌and◌
read_short u s e b h = if-false _ _ _ (ap (λ (t : Bool). t and leb (b + length_in (drop e s)) (length s)) (lt-leb _ _ h))

pub read-over : (u : ℕ) (s : List ℕ) (e b : ℕ) → length s < b + little (bytes_at 2 (e + 2) s) → read_at u s e b ≡ reading None 0 e b
unfolding read_at
read-over u s e b h =
    if-false _ _ _ (ap (λ (t : Bool). leb (e + 4) (length s) and t) (ap (λ (n : ℕ). leb (b + n) (length s)) (length-place s e) ∙ lt-leb _ _ h) ∙ and_false _)

pub read_yes : (u : ℕ) (s : List ℕ) (e b : ℕ) → e + 4 ≤ length s → b + little (bytes_at 2 (e + 2) s) ≤ length s
    → read_at u s e b ≡ reading (kind_in u (drop e s) (drop b s)) (length_in (drop e s)) (e + 4) (b + length_in (drop e s))
unfolding read_at
read_yes u s e b h k =
    if-true _ _ _ (and_true _ _ (le-leb _ _ h) (ap (λ (n : ℕ). leb (b + n) (length s)) (length-place s e) ∙ le-leb _ _ k))

-- what the reader finds, by its parts
pub found : (u : ℕ) (s : List ℕ) (e b k l n p q : ℕ) (o : Option Kind) → o ≡ kind_of k l n p q u
    → k ≡ byte_at s e → l ≡ byte_at s (e + 1) → n ≡ little (bytes_at 2 (e + 2) s) → p ≡ byte_at s b → q ≡ byte_at s (b + 1)
    → e + 4 ≤ length s → b + n ≤ length s → reading o n (e + 4) (b + n) ≡ read_at u s e b
found u s e b k l n p q o m x y z w v h i =
    (λ j. reading (m j) n (e + 4) (b + n))
    ∙ (λ j. reading (kind_of (x j) (y j) (z j) (w j) (v j) u) (z j) (e + 4) (b + z j))
    ∙ sym
    (read_yes u s e b h (rw z at i)
    ∙ (λ j. reading (kind-place u s e b j) (length-place s e j) (e + 4) (b + length-place s e j)))

-- ---- a reading is told by its number

abbrev kind_from : ℕ → Option Kind
kind_from n =
    when eqb n 1 then Some Reset
    else (when eqb n 2 then Some Control else (when eqb n 3 then Some Out else (when eqb n 4 then Some Ask else (when eqb n 5 then Some Switch else None))))

kind_back : (k : Option Kind) → kind_from (kind_number k) ≡ k
unfolding when◌then◌else◌
kind_back (Some Reset) = refl
kind_back (Some Control) = refl
kind_back (Some Out) = refl
kind_back (Some Ask) = refl
kind_back (Some Switch) = refl
kind_back None = refl

abbrev reading_from : Numbered → Reading
reading_from t = reading (kind_from t.kind) t.len t.entry t.body

reading_back : (r : Reading) → reading_from (numbered r) ≡ r
unfolding numbered
reading_back r = ap (λ (k : Option Kind). reading k r.len r.entry r.body) (kind_back r.kind)

pub same-reading : (r t : Reading) → numbered r ≡ numbered t → r ≡ t
same-reading r t e = sym (reading_back r) ∙ ap reading_from e ∙ reading_back t

-- ---- the first event at a place, and the rest from the next place on

abbrev test : List ℕ → ℕ → ℕ → Bool
test s e b = leb (e + 4) (length s) and leb (b + length_in (drop e s)) (length s)

over : (s : List ℕ) (e b : ℕ) → e + 4 ≤ length s → test s e b ≡ false → length s < b + length_in (drop e s)
unfolding ◌and◌
over s e b h f = leb-false _ _ (sym (ap (λ (t : Bool). t and leb (b + length_in (drop e s)) (length s)) (le-leb _ _ h)) ∙ f)

under : (s : List ℕ) (e b : ℕ) → test s e b ≡ true → b + length_in (drop e s) ≤ length s
under s e b t = leb-true _ _ (both _ _ t).1

formed-first : (u n : ℕ) (s : List ℕ) (e b : ℕ) → e + 4 ≤ length s → b ≤ length s
    → formed u (suc n) (drop e s) (drop b s) ≡ (is_kind (read_at u s e b).kind and formed u n (drop (read_at u s e b).entry s) (drop (read_at u s e b).body s))
unfolding formed read_at ◌and◌
formed-first u n s e b h k =
    by-if (λ (r : Reading). formed u (suc n) (drop e s) (drop b s) ≡ (is_kind r.kind and formed u n (drop r.entry s) (drop r.body s))) (test s e b) _ _
    (λ t.
    let v : b + length_in (drop e s) ≤ length s = under s e b t in
    let l = length-drop b s in
    let fits : leb (length_in (drop e s)) (length (drop b s)) ≡ true = le-leb (length_in (drop e s)) (length (drop b s)) (omega arith) in
    rw (fits, drop-drop 4 e s, drop-drop (length_in (drop e s)) b s))
    (λ f.
    let v = over s e b h f in
    let l = length-drop b s in
    let fits : leb (length_in (drop e s)) (length (drop b s)) ≡ false = lt-leb (length_in (drop e s)) (length (drop b s)) (omega arith) in
    rw fits (and_false (is_kind (kind_in u (drop e s) (drop b s)))))

pub formed-step : (u n : ℕ) (s : List ℕ) (e b : ℕ) → 0 < n → e + 4 * n ≤ length s → b ≤ length s
    → formed u n (drop e s) (drop b s) ≡ (is_kind (read_at u s e b).kind and formed u (n - 1) (drop (read_at u s e b).entry s) (drop (read_at u s e b).body s))
formed-step u zero s e b p h k = absurd (omega arith)
formed-step u (suc n) s e b p h k =
    let j : n ≡ suc n - 1 = omega arith in
    formed-first u n s e b (omega arith) k ∙ ap (λ (m : ℕ). is_kind (read_at u s e b).kind and formed u m (drop (read_at u s e b).entry s) (drop (read_at u s e b).body s)) j

-- where a kind is read, the places are moved past the event
pub record Moved (u : ℕ) (s : List ℕ) (e b : ℕ) (r : Reading) : Type 0 where
  pub entry : r.entry ≡ e + 4
  pub body : r.body ≡ b + r.len
  pub within : r.body ≤ length s
  pub kind : r.kind ≡ kind_in u (drop e s) (drop b s)
  pub len : r.len ≡ length_in (drop e s)

pub moved : (u : ℕ) (s : List ℕ) (e b : ℕ) → is_kind (read_at u s e b).kind ≡ true → Moved u s e b (read_at u s e b)
unfolding read_at
moved u s e b =
    by-if (λ (r : Reading). is_kind r.kind ≡ true → Moved u s e b r) (test s e b) _ _
    (λ t _. record { entry = refl; body = refl; within = under s e b t; kind = refl; len = refl })
    (λ f g. let z : ◌≡◌ {A = ℕ} 0 1 = cc in absurd (omega arith))

pub events-step : (u n : ℕ) (s : List ℕ) (e b : ℕ) → 0 < n → is_kind (read_at u s e b).kind ≡ true
    → events_in u n (drop e s) (drop b s)
    ≡ event_in (read_at u s e b).kind (take (read_at u s e b).len (drop b s)) ∷ events_in u (n - 1) (drop (read_at u s e b).entry s) (drop (read_at u s e b).body s)
unfolding events_in
events-step u zero s e b p h = absurd (omega arith)
events-step u (suc n) s e b p h =
    let m = moved u s e b h in
    let j : n ≡ suc n - 1 = omega arith in
    let t : drop 4 (drop e s) ≡ drop (read_at u s e b).entry s = drop-drop 4 e s ∙ ap (λ (k : ℕ). drop k s) (sym m.entry) in
    let v : drop (length_in (drop e s)) (drop b s) ≡ drop (read_at u s e b).body s =
    drop-drop (length_in (drop e s)) b s ∙ ap (λ (k : ℕ). drop (b + k) s) (sym m.len) ∙ ap (λ (k : ℕ). drop k s) (sym m.body) in
    λ i. event_in (sym m.kind i) (take (sym m.len i) (drop b s)) ∷ events_in u (j i) (t i) (v i)

-- nothing left over
pub formed-end : (u : ℕ) (s t : List ℕ) (b : ℕ) → b ≤ length s → formed u 0 t (drop b s) ≡ eqb b (length s)
unfolding formed
formed-end u s t b h = ap (λ (n : ℕ). eqb n 0) (length-drop b s) ∙ ends b (length s) h (eqb b (length s)) refl
  where
    ends : (b n : ℕ) → b ≤ n → (t : Bool) → eqb b n ≡ t → eqb (n - b) 0 ≡ eqb b n
    ends b n h true e = let q = eqb-true b n e in eq-eqb (n - b) 0 (omega arith) ∙ sym e
    ends b n h false e = ne_eqb (n - b) 0 (λ z. eqb-false b n e (let q : b ≡ n = omega arith in q)) ∙ sym e

-- ---- for a loop over the events

-- so many entries from e on, and the bodies from b on, lie in s
pub record Place (s : List ℕ) (n e b : ℕ) : Type 0 where
  pub table : e + 4 * n ≤ length s
  pub bodies : b ≤ length s

-- the first of them was read
pub record First (u : ℕ) (s : List ℕ) (n e b : ℕ) (r : Reading) : Type 0 where
  pub next : Place s (n - 1) r.entry r.body
  pub within : b + r.len ≤ length s
  pub formed : formed u n (drop e s) (drop b s) ≡ formed u (n - 1) (drop r.entry s) (drop r.body s)
  pub events : events_in u n (drop e s) (drop b s) ≡ event_in r.kind (take r.len (drop b s)) ∷ events_in u (n - 1) (drop r.entry s) (drop r.body s)

pub first : (u : ℕ) (s : List ℕ) (n e b : ℕ) (r : Reading) → r ≡ read_at u s e b → 0 < n → Place s n e b → is_kind r.kind ≡ true → First u s n e b r
unfolding ◌and◌
first u s n e b r q p at k =
    let go : is_kind (read_at u s e b).kind ≡ true → First u s n e b (read_at u s e b) = λ k.
    let m = moved u s e b k in record {
      next = record { table = let x = m.entry in let y = at.table in omega arith; bodies = m.within };
      within = let x = m.body in let y = m.within in omega arith;
      formed = formed-step u n s e b p at.table at.bodies ∙ ap (λ (t : Bool). t and formed u (n - 1) (drop (read_at u s e b).entry s) (drop (read_at u s e b).body s)) k;
      events = events-step u n s e b p k;
    } in
    subst (λ (x : Reading). is_kind x.kind ≡ true → First u s n e b x) (sym q) go k

-- none was
pub unread : (u : ℕ) (s : List ℕ) (n e b : ℕ) (r : Reading) → r ≡ read_at u s e b → 0 < n → Place s n e b → is_kind r.kind ≡ false → formed u n (drop e s) (drop b s) ≡ false
unfolding ◌and◌
unread u s n e b r q p at k =
    formed-step u n s e b p at.table at.bodies
    ∙ ap (λ (t : Bool). t and formed u (n - 1) (drop (read_at u s e b).entry s) (drop (read_at u s e b).body s)) (ap (λ (x : Reading). is_kind x.kind) (sym q) ∙ k)

-- whether one was, as the library tests it
as_kind : (o : Option Kind) → is_kind o ≡ is_some o
as_kind (Some k) = refl
as_kind None = refl

-- the same of what the head has read: m are left
pub record Step (u : ℕ) (s : List ℕ) (n e b m : ℕ) (r : Reading) : Type 0 where
  pub next : Place s m r.entry r.body
  pub formed : formed u n (drop e s) (drop b s) ≡ formed u m (drop r.entry s) (drop r.body s)

pub step : (u : ℕ) (s : List ℕ) (n e b m : ℕ) (r : Reading) → numbered r ≡ numbered (read_at u s e b) → is_some r.kind ≡ true → n ≡ m + 1 → Place s n e b → Step u s n e b m r
step u s n e b m r q k p at =
    let f = first u s n e b r (same-reading r (read_at u s e b) q) (omega arith) at (as_kind r.kind ∙ k) in
    let less : n - 1 ≡ m = omega arith in
    record {
      next = subst (λ (j : ℕ). Place s j r.entry r.body) less f.next;
      formed = f.formed ∙ ap (λ (j : ℕ). formed u j (drop r.entry s) (drop r.body s)) less;
    }

pub stopped : (u : ℕ) (s : List ℕ) (n e b : ℕ) (r : Reading) → numbered r ≡ numbered (read_at u s e b) → is_some r.kind ≡ false → 0 < n → Place s n e b → formed u n (drop e s) (drop b s) ≡ false
stopped u s n e b r q k p at = unread u s n e b r (same-reading r (read_at u s e b) q) p at (as_kind r.kind ∙ k)
