-- The claims of specs/Claims.antt: both wrappers, there and back. Assumes nothing.
use Prim.Native.Nat.{ℕ, ◌+◌, ◌%◌, ◌/◌, ◌≤◌, ◌<◌, ◌^◌}
use mathlib.Core.Path.{◌≡◌, refl, sym, ap, ◌∙◌}
use mathlib.Core.Bool.{Bool, true, false, not}
use mathlib.Core.List.{List, [], ◌∷◌, ◌++◌}
use native.Mathlib.Omega.{arith}
use native.Mathlib.Nat.{mod-eq_of_lt}
use Rattle.std.specs.Prelude.{Result, Ok}
use lib.Dec.{eqb, leb}
use lib.ListN.{length, take, drop, drop_of_length-le}
use lib.Seq.{take_at}
use borrow.Author.Tests.{eqb-true, eqb-false, eq-eqb, le-leb, leb-true}
use Rattle.wire.specs.Choice.{when◌then◌else◌, ◌and◌, look}
use Rattle.wire.specs.Slices.{byte_at, bytes_at, Below, starts_with, fits, placed}
use Rattle.wire.specs.Numbers.{little, little_bytes, low}
use Rattle.wire.specs.Bits.{bits, clear}
use Rattle.wire.proofs.Cases.{both, and_true, if-true, by-if}
use Rattle.wire.proofs.Lists.{bytes_front, bytes_tail, length-bytes, starts_take, every-at, every-bytes, placed_yes, fits_yes}
use Rattle.wire.proofs.Positional.{byte_order}
use Rattle.bot.specs.declared.cbw.Header.{Header}
use Rattle.bot.specs.declared.cbw.Cbw.{Cbw}
use Rattle.bot.specs.declared.refused.Refused.{Refused}
use Rattle.bot.specs.Answer.{Writing, writing}
use Rattle.bot.specs.Cbw.{cbw_signature, in_range, readable, header_of, Reading, read_cbw, direction, cbw_bytes, writable, write_cbw}
use Rattle.bot.specs.declared.csw.Status.{Status}
use Rattle.bot.specs.declared.csw.Status.TheVariants.{Passed, Failed, PhaseError}
use Rattle.bot.specs.declared.csw.Csw.{Csw}
use Rattle.bot.specs.Csw.{csw_signature, status_code, csw_bytes, shown, refusal, acceptance, statuses, status_of, read_csw, write_csw}
use Rattle.bot.specs.Csw as csw
use Rattle.bot.specs.Claims.{IsCbw, IsCsw, CbwRoundTrip, CswRoundTrip}
use Rattle.bot.proofs.Wrappers.{readable_long}

-- ---- fields of four bytes

back32 : (x : ℕ) → x < 2 ^ 32 → little (little_bytes 4 x) ≡ x
back32 x h = byte_order.little_back 4 x ∙ mod-eq_of_lt h

again4 : (at : ℕ) (p : List ℕ) → Below 256 p → little_bytes 4 (little (bytes_at 4 at p)) ≡ bytes_at 4 at p
again4 at p h =
    ap (λ (n : ℕ). little_bytes n (little (bytes_at 4 at p))) (sym (length-bytes 4 at p))
    ∙ byte_order.little_again (bytes_at 4 at p) (every-bytes _ 4 at p (omega arith) h)

front4 : (f p : List ℕ) → length f ≡ 4 → 4 ≤ length p → starts_with f p ≡ true → f ≡ bytes_at 4 0 p
front4 f p n l e = sym (bytes_tail 4 0 p l ∙ ap (λ (k : ℕ). take k p) (sym n) ∙ starts_take f p e)

-- ---- writing: what is put into a buffer stands at its front

at_front : (b s : List ℕ) (n : ℕ) → length s ≡ n → n ≤ length b → placed b 0 s ≡ s ++ drop n b
at_front b s n e h = placed_yes b 0 s (omega arith) ∙ ap (λ (k : ℕ). s ++ drop k b) (let z : 0 + length s ≡ n = omega arith in z)

-- ---- the fields of bytes 12 to 14

way_back : (i : Bool) → (clear 0 6 (direction i) ≡ true) × (not (clear 7 7 (direction i)) ≡ i)
unfolding clear bits direction
way_back true = (refl, refl)
way_back false = (refl, refl)

way_again : (x : ℕ) → x < 256 → clear 0 6 x ≡ true → direction (not (clear 7 7 x)) ≡ x
unfolding clear bits direction
way_again x h e = go (eqb (x / 128 % 2) 0) refl
  where
    low0 : x / 1 % 128 ≡ 0
    low0 = eqb-true _ _ e

    go : (b : Bool) → eqb (x / 128 % 2) 0 ≡ b → direction (not b) ≡ x
    go true k = let z : x / 128 % 2 ≡ 0 = eqb-true _ _ k in omega (arith, low0)
    go false k = let z = eqb-false (x / 128 % 2) 0 k in omega (arith, low0)

-- unit and block length stand in the lowest bits, the others clear
bits_back : (x : ℕ) → (x ≤ 15 → clear 4 7 x ≡ true) × (x ≤ 16 → clear 5 7 x ≡ true)
unfolding clear bits
bits_back x = ((λ h. eq-eqb (x / 16 % 16) 0 (omega arith)), (λ h. eq-eqb (x / 32 % 8) 0 (omega arith)))

lun_again : (x : ℕ) → x < 256 → clear 4 7 x ≡ true → bits 0 3 x ≡ x
unfolding clear bits
lun_again x h e = let z : x / 16 % 16 ≡ 0 = eqb-true _ _ e in omega arith

size_again : (x : ℕ) → x ≤ 16 → bits 0 4 x ≡ x
unfolding bits
size_again x h = omega arith

-- ---- the command wrapper

length-cbw : (c : Cbw) → IsCbw c → length (cbw_bytes c) ≡ 31
unfolding cbw_bytes low
length-cbw c ok = let n = ok.block in omega arith

fields-small : (h : Header) → writable h ≡ true → (h.lun ≤ 15) × ((1 ≤ h.size) × (h.size ≤ 16))
unfolding writable
fields-small h w =
    let w2 = both _ _ (both _ _ w).1 in
    (leb-true _ _ (both _ _ w).0, (leb-true _ _ w2.0, leb-true _ _ w2.1))

written-readable : (c : Cbw) → IsCbw c → writable c.header ≡ true → readable (cbw_bytes c) ≡ true
unfolding readable in_range cbw_bytes low starts_with ◌and◌
written-readable c ok w =
    let n = ok.block in
    let h = c.header in
    let s = fields-small h w in
    simp (n, (way_back h.inward).0, (bits_back h.lun).0 s.0, (bits_back h.size).1 s.1.1, le-leb h.size 16 s.1.1)
    (and_true (leb 1 h.size) true (le-leb 1 h.size s.1.0) refl)

written-header : (c : Cbw) → IsCbw c → writable c.header ≡ true → header_of (cbw_bytes c) ≡ c.header
unfolding header_of cbw_bytes bytes_at low
written-header c ok w = λ i. record {
  tag = back32 c.header.tag ok.tag i;
  announced = back32 c.header.announced ok.announced i;
  inward = (way_back c.header.inward).1 i;
  lun = lun_again c.header.lun (omega (arith, small.0)) ((bits_back c.header.lun).0 small.0) i;
  size = size_again c.header.size small.1.1 i;
}
  where
    small : (c.header.lun ≤ 15) × ((1 ≤ c.header.size) × (c.header.size ≤ 16))
    small = fields-small c.header w

block-stands : (c : Cbw) → drop 15 (cbw_bytes c) ≡ c.block
unfolding cbw_bytes low
block-stands c = refl

read_of_written : (c : Cbw) → IsCbw c → writable c.header ≡ true → read_cbw (cbw_bytes c) ≡ record { number = 1; cbw = c }
unfolding read_cbw
read_of_written c ok w =
    if-true _ _ _ (written-readable c ok w)
    ∙ (λ i. record { number = 1; cbw = record { header = written-header c ok w i; block = block-stands c i } })

-- bytes 0 to 14 and the rest, field by field
cells : (s t a : List ℕ) (f l z : ℕ) (p : List ℕ)
    → s ≡ bytes_at 4 0 p → t ≡ bytes_at 4 4 p → a ≡ bytes_at 4 8 p → f ≡ byte_at p 12 → l ≡ byte_at p 13 → z ≡ byte_at p 14
    → s ++ t ++ a ++ f ∷ l ∷ z ∷ drop 15 p ≡ bytes_at 15 0 p ++ drop 15 p
unfolding bytes_at
cells s t a f l z p es et ea ef el ez = λ i. es i ++ et i ++ ea i ++ ef i ∷ el i ∷ ez i ∷ drop 15 p

written_of_read : (p : List ℕ) → Below 256 p → readable p ≡ true → cbw_bytes (record { header = header_of p; block = drop 15 p }) ≡ p
unfolding cbw_bytes header_of readable in_range
written_of_read p bs e =
    let long = readable_long p e in
    let r1 = both _ _ (both _ _ e).1 in
    let r2 = both _ _ r1.1 in
    let r3 = both _ _ r2.1 in
    let r4 = both _ _ r3.1 in
    let r5 = both _ _ r4.1 in
    let byte : (i : ℕ) → byte_at p i < 256 = λ i. every-at _ p i (omega arith) bs in
    cells _ _ _ _ _ _ p
    (front4 cbw_signature p refl (omega arith) r1.0)
    (again4 4 p bs)
    (again4 8 p bs)
    (way_again (byte_at p 12) (byte 12) r2.0)
    (lun_again (byte_at p 13) (byte 13) r3.0)
    (size_again (byte_at p 14) (leb-true _ _ r5.1))
    ∙ sym (bytes_front 15 p (omega arith))

-- ---- a choice between a wrapper and a refusal, told by its number

taken : {A : Type 0} (f : A → ℕ) (t : Bool) (x y : A) {k m : ℕ} → f y ≡ m → (m ≡ k → ⊥) → f (when t then x else y) ≡ k → t ≡ true
unfolding when◌then◌else◌
taken f true x y n d e = refl
taken f false x y n d e = absurd (d (sym n ∙ e))

front_of : (n : ℕ) (s b : List ℕ) → length s ≡ n → fits b 0 s ≡ true → take n (placed b 0 s) ≡ s
unfolding fits
front_of n s b e f = let h : 0 + length s ≤ length b = leb-true _ _ f in ap (take n) (at_front b s n e (omega arith)) ∙ take_at s (drop n b) n e

-- ---- the command wrapper, there and back

cbw_there : (c : Cbw) (b : List ℕ) → IsCbw c → (write_cbw c b).number ≡ 0 → read_cbw (take 31 (write_cbw c b).buffer) ≡ record { number = 1; cbw = c }
unfolding write_cbw
cbw_there c b ok e =
    let t = taken (λ (w : Writing). w.number) (writable c.header and fits b 0 (cbw_bytes c)) _ _ refl (λ z. omega arith) e in
    let w = both _ _ t in
    ap read_cbw (ap (λ (r : Writing). take 31 r.buffer) (if-true _ _ _ t) ∙ front_of 31 (cbw_bytes c) b (length-cbw c ok) w.1)
    ∙ read_of_written c ok w.0

lun-small : (x : ℕ) → bits 0 3 x ≤ 15
unfolding bits
lun-small x = omega arith

read-writable : (p : List ℕ) → readable p ≡ true → writable (header_of p) ≡ true
unfolding writable header_of readable in_range
read-writable p e =
    let r5 = both _ _ (both _ _ (both _ _ (both _ _ (both _ _ (both _ _ e).1).1).1).1).1 in
    let small = size_again (byte_at p 14) (leb-true _ _ r5.1) in
    and_true _ _ (le-leb _ _ (lun-small (byte_at p 13)))
    (and_true _ _ (ap (λ (n : ℕ). leb 1 n) small ∙ r5.0) (ap (λ (n : ℕ). leb n 16) small ∙ r5.1))

cbw_again : (p b : List ℕ) → Below 256 p → (read_cbw p).number ≡ 1 → 31 ≤ length b → write_cbw (read_cbw p).cbw b ≡ writing 0 31 (p ++ drop 31 b)
unfolding read_cbw write_cbw
cbw_again p b bs e h =
    let r = taken (λ (w : Reading). w.number) (readable p) _ _ refl (λ z. omega arith) e in
    let same = written_of_read p bs r in
    let long = readable_long p r in
    ap (λ (w : Reading). write_cbw w.cbw b) (if-true _ _ _ r)
    ∙ if-true _ _ _ (and_true _ _ (read-writable p r) (ap (fits b 0) same ∙ fits_yes b 0 p (omega arith)))
    ∙ ap (λ (s : List ℕ). writing 0 31 (placed b 0 s)) same
    ∙ ap (λ (l : List ℕ). writing 0 31 l) (at_front b p 31 long h)

pub cbw_round_trip : CbwRoundTrip
cbw_round_trip = record { written_is_read = cbw_there; read_is_written = cbw_again }

-- ---- the status wrapper

pub length-csw : (c : Csw) → length (csw_bytes c) ≡ 13
unfolding csw_bytes low
length-csw c = refl

-- the status byte of a readable wrapper
abbrev Found : ℕ → Result Status Refused → Type 0
Found x r = (s : Status) × (x ≡ status_code s) × (r ≡ Ok s)

found : (p : List ℕ) (x : ℕ) → (shown (acceptance p (status_of x))).number ≡ 1 → Found x (status_of x)
unfolding status_of statuses look
found p x =
    by-if P (eqb x 0) _ _ (λ h n. (Passed, eqb-true x 0 h, refl))
    (λ _. by-if P (eqb x 1) _ _ (λ h n. (Failed, eqb-true x 1 h, refl))
    (λ _. by-if P (eqb x 2) _ _ (λ h n. (PhaseError, eqb-true x 2 h, refl)) (λ _ n. absurd (omega arith))))
  where
    P : Result Status Refused → Type 0
    P r = (shown (acceptance p r)).number ≡ 1 → Found x r

status-known : (s : Status) → status_of (status_code s) ≡ Ok s
unfolding status_of statuses look when◌then◌else◌
status-known Passed = refl
status-known Failed = refl
status-known PhaseError = refl

written-csw : (c : Csw) → IsCsw c → read_csw (csw_bytes c) ≡ record { number = 1; csw = c }
unfolding read_csw csw_bytes low starts_with when◌then◌else◌ ◌and◌ bytes_at
written-csw c ok =
    ap (λ (r : Result Status Refused). shown (acceptance (csw_bytes c) r)) (status-known c.status)
    ∙ (λ i. record { number = 1; csw = record { tag = back32 c.tag ok.tag i; residue = back32 c.residue ok.residue i; status = c.status } })

csw_there : (c : Csw) (b : List ℕ) → IsCsw c → (write_csw c b).number ≡ 0 → read_csw (take 13 (write_csw c b).buffer) ≡ record { number = 1; csw = c }
unfolding write_csw
csw_there c b ok e =
    let t = taken (λ (w : Writing). w.number) (fits b 0 (csw_bytes c)) _ _ refl (λ z. omega arith) e in
    ap read_csw (ap (λ (r : Writing). take 13 r.buffer) (if-true _ _ _ t) ∙ front_of 13 (csw_bytes c) b (length-csw c) t)
    ∙ written-csw c ok

-- bytes 0 to 12, field by field
csw_cells : (g t r : List ℕ) (s : ℕ) (p : List ℕ)
    → g ≡ bytes_at 4 0 p → t ≡ bytes_at 4 4 p → r ≡ bytes_at 4 8 p → s ≡ byte_at p 12 → [] ≡ drop 13 p
    → g ++ t ++ r ++ s ∷ [] ≡ bytes_at 13 0 p ++ drop 13 p
unfolding bytes_at
csw_cells g t r s p eg et er es en = λ i. eg i ++ et i ++ er i ++ es i ∷ en i

csw_of_read : (p : List ℕ) (s : Status) → Below 256 p → length p ≡ 13 → starts_with csw_signature p ≡ true → byte_at p 12 ≡ status_code s
    → csw_bytes (shown (acceptance p (Ok s))).csw ≡ p
unfolding csw_bytes
csw_of_read p s bs long sig code =
    csw_cells _ _ _ _ p (front4 csw_signature p refl (omega arith) sig) (again4 4 p bs) (again4 8 p bs) (sym code) (sym (drop_of_length-le p {i = 13} (omega arith)))
    ∙ sym (bytes_front 13 p (omega arith))

csw_again : (p b : List ℕ) → Below 256 p → (read_csw p).number ≡ 1 → 13 ≤ length b → write_csw (read_csw p).csw b ≡ writing 0 13 (p ++ drop 13 b)
unfolding read_csw write_csw
csw_again p b bs e h =
    let t = taken (λ (w : csw.Reading). w.number) (eqb (length p) 13 and starts_with csw_signature p) _ _ refl (λ z. omega arith) e in
    let w = both _ _ t in
    let long : length p ≡ 13 = eqb-true _ _ w.0 in
    let chosen = if-true _ (shown (acceptance p (status_of (byte_at p 12)))) (shown refusal) t in
    let f = found p (byte_at p 12) (sym (ap (λ (r : csw.Reading). r.number) chosen) ∙ e) in
    let same = csw_of_read p f.0 bs long w.1 f.1 in
    ap (λ (r : csw.Reading). write_csw r.csw b) (chosen ∙ ap (λ (r : Result Status Refused). shown (acceptance p r)) f.2)
    ∙ if-true _ _ _ (ap (fits b 0) same ∙ fits_yes b 0 p (omega arith))
    ∙ ap (λ (s : List ℕ). writing 0 13 (placed b 0 s)) same
    ∙ ap (λ (l : List ℕ). writing 0 13 l) (at_front b p 13 long h)

pub csw_round_trip : CswRoundTrip
csw_round_trip = record { written_is_read = csw_there; read_is_written = csw_again }
