-- The claim of specs/Claims.antt: state and numbers, there and back. Assumes nothing.
use Prim.Native.Nat.{ℕ, ◌+◌, ◌*◌, ◌/◌, ◌%◌, ◌^◌, ◌≤◌, ◌<◌}
use mathlib.Core.Path.{◌≡◌, refl, sym, ap}
use mathlib.Core.Bool.{Bool, true, false}
use native.Mathlib.Omega.{arith}
use lib.Dec.{eqb, ltb}
use borrow.Author.Tests.{eqb-true, eqb-false, le-leb, leb-true, lt-ltb, ltb-true}
use Rattle.wire.specs.Choice.{when◌then◌else◌, ◌and◌, look}
use Rattle.wire.specs.Bits.{bits}
use Rattle.wire.specs.Numbers.{value}
use Rattle.wire.proofs.Cases.{both, and_true, by-if, look_keyed}
use Rattle.scsi.specs.Sense.{IsSense}
use Rattle.scsi.specs.declared.sense.Sense.{Sense}
use Rattle.scsi.specs.declared.reply.Reply.TheVariants as reply
use Rattle.std.specs.Prelude.{Option, Some, None}
use Rattle.scsi.specs.declared.page.Page.{Page}
use Rattle.scsi.specs.Page.{page_of}
use Rattle.scsi.proofs.Pages.{code-found, CodeIs, found-code}
use Rattle.bot.specs.declared.csw.Status.TheVariants.{Passed, Failed, PhaseError}
use Rattle.machine.specs.declared.record.Stage.{Stage}
use Rattle.machine.specs.declared.record.Stage.TheVariants.{Ready, DataOut, DataIn, ReplyIn, StatusDue}
use Rattle.machine.specs.declared.record.State.{State}
use Rattle.machine.specs.Record.{task, link, state}
use Rattle.crecord.specs.declared.record.Flat as flats
use Rattle.crecord.specs.Flat.{numbers, numbers_in, sense_number, sense_from, is_found, page_stage, Form, none, two, three, no_numbers, no_value, is_position, is_page, forms, no_form, form_of, flag, decodes, state_from}
use Rattle.crecord.specs.Flat.{numbers_of, worth, flags_of, flat_with, flat_of}
use Rattle.crecord.specs.declared.encode.Numbers.{Numbers}
use Rattle.crecord.specs.Claims.{IsState, RoundTrip}

-- ---- the flags

-- a flag in the place n is n times a bit
worth_bit : (on : Bool) (n : ℕ) → (worth on n ≡ n * worth on 1) × (worth on 1 ≤ 1)
unfolding worth when◌then◌else◌
worth_bit true n = (omega arith, omega arith)
worth_bit false n = (omega arith, omega arith)

bit_back : (on : Bool) (x : ℕ) → x ≡ worth on 1 → eqb x 1 ≡ on
unfolding worth when◌then◌else◌
bit_back true x e = simp e
bit_back false x e = simp e

bit_again : (n x : ℕ) → x < 2 → worth (eqb x 1) n ≡ n * x
unfolding worth
bit_again n x h =
    by-if (λ (w : ℕ). w ≡ n * x) (eqb x 1) n 0
    (λ e. let z : x ≡ 1 = eqb-true x 1 e in rw z (omega arith))
    (λ e. let z = eqb-false x 1 e in let y : x ≡ 0 = omega arith in rw y (omega arith))

record FlagsBack (s : State) : Type 0 where
  small : flags_of s ≤ 15
  configured : flag 0 (flags_of s) ≡ s.configured
  haltin : flag 1 (flags_of s) ≡ s.link.haltin
  haltout : flag 2 (flags_of s) ≡ s.link.haltout
  locked : flag 3 (flags_of s) ≡ s.link.locked

flags_back : (s : State) → FlagsBack s
unfolding flag flags_of bits
flags_back s =
    let c = worth_bit s.configured 1 in
    let i = worth_bit s.link.haltin 2 in
    let o = worth_bit s.link.haltout 4 in
    let k = worth_bit s.link.locked 8 in
    record {
      small = omega arith;
      configured = bit_back _ (flags_of s / 1 % 2) (omega arith);
      haltin = bit_back _ (flags_of s / 2 % 2) (omega arith);
      haltout = bit_back _ (flags_of s / 4 % 2) (omega arith);
      locked = bit_back _ (flags_of s / 8 % 2) (omega arith);
    }

flags_again : (x : ℕ) → x ≤ 15 → worth (flag 0 x) 1 + worth (flag 1 x) 2 + worth (flag 2 x) 4 + worth (flag 3 x) 8 ≡ x
unfolding flag bits
flags_again x h =
    let a = bit_again 1 (x / 1 % 2) (omega arith) in
    let b = bit_again 2 (x / 2 % 2) (omega arith) in
    let c = bit_again 4 (x / 4 % 2) (omega arith) in
    let d = bit_again 8 (x / 8 % 2) (omega arith) in
    let half : x / 2 ≡ 2 * (x / 4) + x / 2 % 2 = omega arith in
    let quarter : x / 4 ≡ 2 * (x / 8) + x / 4 % 2 = omega arith in
    let eighth : x / 8 % 2 ≡ x / 8 = omega arith in
    omega arith

-- ---- a reply's sense

sense-small : (s : Sense) → IsSense s → sense_number s < 256 ^ 3
unfolding sense_number value
sense-small s ok = omega arith

sense_back : (s : Sense) → IsSense s → sense_from (sense_number s) s.information ≡ s
unfolding sense_from sense_number value
sense_back s ok = λ i. record { key = key i; asc = asc i; ascq = ascq i; information = s.information }
  where
    key : sense_number s % 256 ≡ s.key
    key = omega arith

    asc : sense_number s / 256 % 256 ≡ s.asc
    asc = omega arith

    ascq : sense_number s / 256 ^ 2 % 256 ≡ s.ascq
    ascq = omega arith

sense_again : (v x : ℕ) → v < 256 ^ 3 → sense_number (sense_from v x) ≡ v
unfolding sense_from sense_number value
sense_again v x h = omega arith

information_again : (v x : ℕ) → (sense_from v x).information ≡ x
unfolding sense_from
information_again v x = refl

-- ---- the stage

abbrev ReadAs : Stage → Numbers → Type 0
ReadAs g n = ((form_of n.stage).has n ≡ true) × ((form_of n.stage).stage n ≡ g)

stage_back : (g : Stage) → ((n : Sense) (place left : ℕ) → g ≡ ReplyIn (reply.Sense n) place left → IsSense n) → ReadAs g (numbers_of g)
unfolding numbers_of form_of look when◌then◌else◌ no_numbers no_value is_position is_page ◌and◌
stage_back Ready ok = (refl, refl)
stage_back (DataOut block left held) ok = (refl, refl)
stage_back (DataIn place left) ok = (refl, refl)
stage_back (ReplyIn (reply.Sense s) place left) ok =
    let b = ok s place left refl in
    (lt-ltb _ _ (sense-small s b), ap (λ (r : Sense). ReplyIn (reply.Sense r) place left) (sense_back s b))
stage_back (ReplyIn reply.Inquiry place left) ok = (refl, refl)
stage_back (ReplyIn (reply.ModeSense protected) place left) ok =
    (and_true _ _ (le-leb _ _ (worth_bit protected 1).1) refl, ap (λ (x : Bool). ReplyIn (reply.ModeSense x) place left) (bit_back protected _ refl))
stage_back (ReplyIn (reply.Capacity n) place left) ok = (refl, refl)
stage_back (ReplyIn (reply.Page p) place left) ok = (and_true _ _ (ap is_found (code-found p)) refl, ap (λ (x : Option Page). page_stage x place left) (code-found p))
stage_back (StatusDue Passed) ok = (refl, refl)
stage_back (StatusDue Failed) ok = (refl, refl)
stage_back (StatusDue PhaseError) ok = (refl, refl)

stage_again : (n : Numbers) → (form_of n.stage).has n ≡ true → numbers_of ((form_of n.stage).stage n) ≡ n
unfolding form_of numbers_of no_numbers no_value is_position is_page
stage_again n =
    look_keyed P forms n.stage no_form
    (no-transfer, (no_extra, (no_number, (sense, (no_number, (mode, (no_extra, (no-transfer, (no-transfer, (no-transfer, (page, tt)))))))))))
    (λ h. let z : ◌≡◌ {A = ℕ} 0 1 = cc in absurd (omega arith))
  where
    P : Form → Type 0
    P f = f.has n ≡ true → numbers_of (f.stage n) ≡ n

    at : {k v x : ℕ} → n.stage ≡ k → v ≡ n.value → x ≡ n.extra → numbers k n.place n.left v x ≡ n
    at e c d = λ i. numbers (sym e i) n.place n.left (c i) (d i)

    zero : (x : ℕ) → eqb x 0 ≡ true → 0 ≡ x
    zero x h = sym (eqb-true x 0 h)

    no_extra : {k : ℕ} → n.stage ≡ k → three n ≡ true → numbers k n.place n.left n.value 0 ≡ n
    no_extra e h = at e refl (zero _ h)

    no_number : {k : ℕ} → n.stage ≡ k → two n ≡ true → numbers k n.place n.left 0 0 ≡ n
    no_number e h = let b = both _ _ h in at e (zero _ b.0) (zero _ b.1)

    sense : n.stage ≡ 3 → ltb n.value (256 ^ 3) ≡ true → numbers 3 n.place n.left (sense_number (sense_from n.value n.extra)) (sense_from n.value n.extra).information ≡ n
    sense e h = at e (sense_again n.value n.extra (ltb-true _ _ h)) (information_again n.value n.extra)

    mode : n.stage ≡ 5 → is_position n.value n.extra ≡ true → numbers 5 n.place n.left (worth (eqb n.value 1) 1) 0 ≡ n
    mode e h =
        let b = both _ _ h in
        let again = bit_again 1 n.value (omega (arith, leb-true n.value 1 b.0)) in
        let same : worth (eqb n.value 1) 1 ≡ n.value = omega arith in
        at e same (zero _ b.1)

    page : n.stage ≡ 10 → is_page n.value n.extra ≡ true → numbers_of (page_stage (page_of n.value) n.place n.left) ≡ n
    page e h = let b = both _ _ h in pages (page_of n.value) (found-code n.value) b.0 (zero _ b.1)
      where
        pages : (x : Option Page) → CodeIs n.value x → is_found x ≡ true → 0 ≡ n.extra → numbers_of (page_stage x n.place n.left) ≡ n
        pages None c f z = let z : ◌≡◌ {A = ℕ} 0 1 = cc in absurd (omega arith)
        pages (Some q) c f z = at e c z

    no-transfer : {k : ℕ} → n.stage ≡ k → none n ≡ true → numbers k 0 0 0 0 ≡ n
    no-transfer e h =
        let a = both _ _ h in
        let b = both _ _ a.1 in
        let c = both _ _ b.1 in
        λ i. numbers (sym e i) (zero n.place a.0 i) (zero n.left b.0 i) (zero n.value c.0 i) (zero n.extra c.1 i)

-- ---- the whole state

written_decodes : (s : State) → IsState s → decodes (flat_of s) ≡ true
unfolding decodes flat_of flat_with
written_decodes s ok = and_true _ _ (le-leb _ _ (flags_back s).small) (stage_back s.link.task.stage ok.sense).0

written_is_read : (s : State) → IsState s → state_from (flat_of s) ≡ s
unfolding state_from flat_of flat_with
written_is_read s ok =
    let f = flags_back s in
    let t = s.link.task in
    let g = (stage_back t.stage ok.sense).1 in
    λ i. state s.address (f.configured i) (link (f.haltin i) (f.haltout i) (f.locked i) (task (g i) t.lun t.tag t.announced t.residue))

read_is_written : (f : flats.Flat) → decodes f ≡ true → flat_of (state_from f) ≡ f
unfolding decodes state_from flat_of flat_with flags_of
read_is_written f h =
    let d = both _ _ h in
    let b = flags_again f.flags (leb-true _ _ d.0) in
    let n = stage_again (numbers_in f) d.1 in
    λ i. record {
      residue = f.residue;
      place = (n i).place;
      left = (n i).left;
      value = (n i).value;
      extra = (n i).extra;
      tag = f.tag;
      announced = f.announced;
      stage = (n i).stage;
      flags = b i;
      address = f.address;
      lun = f.lun;
    }

pub round_trip : RoundTrip
round_trip = record { written_decodes = written_decodes; written_is_read = written_is_read; read_is_written = read_is_written }
