-- What the tests of the quick ways tell of a record's numbers. Assumes nothing.
use Prim.Native.Nat.{ℕ, ◌+◌, ◌*◌, ◌-◌, ◌%◌, ◌≤◌, ◌<◌}
use mathlib.Core.Path.{◌≡◌, refl, sym, ◌∙◌}
use mathlib.Core.Bool.{Bool, true, false, true≢false}
use native.Mathlib.Omega.{arith}
use lib.Dec.{eqb}
use borrow.Author.Tests.{leb-true, ltb-true, eqb-true, le-leb, eq-eqb, ne_eqb}
use Rattle.wire.proofs.Cases.{both, and_true, by-if, if-true, if-false}
use Rattle.machine.specs.Units.{most_blocks, size_fits}
use Rattle.machine.specs.Fits.{out_fits, in_fits}
use Rattle.crecord.specs.declared.record.Given.{Given}
use Rattle.crecord.specs.declared.record.Flat as flats
use Rattle.cevents.specs.Ways.{Free, is_free, ReadsOn, reads_on, Gathers, moved_on, read_on, is_reading}

-- ---- a test and the facts that it stands for

pub untrue : (b : Bool) → (b ≡ true → ⊥) → false ≡ b
untrue true n = absurd (n refl)
untrue false n = refl

pub alike : (a b : Bool) → (a ≡ true → b ≡ true) → (b ≡ true → a ≡ true) → a ≡ b
alike true b f g = sym (f refl)
alike false b f g = untrue b (λ e. let z = g e in true≢false (sym z))

module _ (g : Given) (f : flats.Flat) where
  pub free : is_free g f ≡ true → Free g f
  unfolding is_free
  free e =
      let a = both _ _ e in
      let b = both _ _ a.1 in
      let c = both _ _ b.1 in
      record { flags = eqb-true _ _ a.0; extra = eqb-true _ _ b.0; address = leb-true _ _ c.0; number = c.1 }

  pub is_free_lem : Free g f → is_free g f ≡ true
  unfolding is_free
  is_free_lem w = and_true _ _ (eq-eqb _ _ w.flags) (and_true _ _ (eq-eqb _ _ w.extra) (and_true _ _ (le-leb _ _ w.address) w.number))

  module _ (blocks buffer : ℕ) where
    pub reads : reads_on g f blocks buffer ≡ true → ReadsOn g f blocks buffer
    unfolding reads_on
    reads e =
        let a = both _ _ e in
        let b = both _ _ a.1 in
        let c = both _ _ b.1 in
        let d = both _ _ c.1 in
        let l = both _ _ d.1 in
        let r = both _ _ l.1 in
        record {
          free = free a.0;
          stage = eqb-true _ _ b.0;
          value = eqb-true _ _ c.0;
          packet = leb-true _ _ d.0;
          last = λ z. eqb-true _ _ (sym (if-true _ _ _ (eq-eqb _ _ z)) ∙ l.0);
          running = r.0;
          room = leb-true _ _ r.1;
        }

    pub reads_on_lem : ReadsOn g f blocks buffer → reads_on g f blocks buffer ≡ true
    unfolding reads_on
    reads_on_lem w =
        and_true _ _ (is_free_lem w.free)
        (and_true _ _ (eq-eqb _ _ w.stage)
        (and_true _ _ (eq-eqb _ _ w.value)
        (and_true _ _ (le-leb _ _ w.packet)
        (and_true _ _ (by-if (λ (b : Bool). b ≡ true) (eqb f.left 64) _ _ (λ z. eq-eqb _ _ (w.last (eqb-true _ _ z))) (λ _. refl))
        (and_true _ _ w.running (le-leb _ _ w.room))))))

-- ---- what is then due

-- a read that is under way
pub record Under (g : Given) (f : flats.Flat) (blocks : ℕ) : Type 0 where
  pub stage : f.stage ≡ 2
  pub value : f.value ≡ 0
  pub running : in_fits (512 * blocks) f.place f.left f.announced f.residue ≡ true
  pub free : Free g f

pub under : (g : Given) (f : flats.Flat) (blocks : ℕ) → is_reading g f blocks ≡ true → Under g f blocks
unfolding is_reading
under g f blocks e =
    let a = both _ _ e in
    let b = both _ _ a.1 in
    let c = both _ _ b.1 in
    record { stage = eqb-true _ _ a.0; value = eqb-true _ _ b.0; running = c.0; free = free g f c.1 }

pub is_under : (g : Given) (f : flats.Flat) (blocks : ℕ) → Under g f blocks → is_reading g f blocks ≡ true
unfolding is_reading
is_under g f blocks w = and_true _ _ (eq-eqb _ _ w.stage) (and_true _ _ (eq-eqb _ _ w.value) (and_true _ _ w.running (is_free_lem g f w.free)))

-- four numbers compared as the digits of one
pub record Digits (stage flags value extra : ℕ) : Type 0 where
  pub first : stage ≡ 2
  pub second : flags ≡ 1
  pub third : value ≡ 0
  pub fourth : extra ≡ 0

pub digits_are : (stage flags value extra : ℕ) → stage < 256 → flags < 256 → stage + 256 * flags + 65536 * (value + extra) ≡ 258 → Digits stage flags value extra
digits_are stage flags value extra a b e = record { first = omega arith; second = omega arith; third = omega arith; fourth = omega arith }

-- a read that is under way, of whose bytes a packet is due
pub reading_on : (g : Given) (f : flats.Flat) (blocks : ℕ) → is_reading g f blocks ≡ true → 64 ≤ f.left → (f.left ≡ 64 → f.residue ≡ 64) → ReadsOn g f blocks 64
reading_on g f blocks e k l =
    let w = under g f blocks e in
    record { free = w.free; stage = w.stage; value = w.value; packet = k; last = l; running = w.running; room = omega arith }

pub is_reading_lem : (g : Given) (f : flats.Flat) (blocks buffer : ℕ) → ReadsOn g f blocks buffer → is_reading g f blocks ≡ true
is_reading_lem g f blocks buffer w = is_under g f blocks (record { stage = w.stage; value = w.value; running = w.running; free = w.free })

pub read-last : (f : flats.Flat) → f.left ≡ 64 → read_on f ≡ moved_on f 7 0 0 0 0
unfolding read_on
read-last f e = if-true _ _ _ (eq-eqb _ _ e)

pub read_more : (f : flats.Flat) → (f.left ≡ 64 → ⊥) → read_on f ≡ moved_on f 2 (f.residue - 64) (f.place + 64) (f.left - 64) 0
unfolding read_on
read_more f n = if-false _ _ _ (ne_eqb _ _ n)

-- ---- the numbers

pub record Sends (f : flats.Flat) (blocks : ℕ) : Type 0 where
  pub within : f.place + f.left ≤ 512 * blocks
  pub due : f.left ≤ f.residue

pub reads-due : (g : Given) (f : flats.Flat) (blocks buffer : ℕ) → ReadsOn g f blocks buffer → Sends f blocks
unfolding in_fits
reads-due g f blocks buffer w = let r = both _ _ w.running in record { within = leb-true _ _ r.0; due = leb-true _ _ (both _ _ r.1).0 }

-- of a unit within the limit, its place is a word's
pub within_word : (g : Given) (f : flats.Flat) (blocks buffer : ℕ) → size_fits blocks ≡ true → ReadsOn g f blocks buffer → f.place + 64 ≤ 512 * most_blocks
unfolding size_fits
within_word g f blocks buffer s w =
    let d = reads-due g f blocks buffer w in
    let k : blocks ≤ most_blocks = leb-true _ _ (both _ _ s).1 in
    omega (arith, w.packet, d.within)

pub record Takes (f : flats.Flat) (blocks : ℕ) : Type 0 where
  pub within : f.place + f.left ≤ blocks
  pub room : f.value ≤ 448
  pub due : 512 * f.left ≤ f.residue

pub gathers_due : (g : Given) (f : flats.Flat) (blocks packet : ℕ) → Gathers g f blocks packet → Takes f blocks
unfolding out_fits
gathers_due g f blocks packet w =
    let r = both _ _ w.running in
    let t = both _ _ r.1 in
    let j = both _ _ t.1 in
    let z : f.value % 64 ≡ 0 = eqb-true _ _ t.0 in
    let x : f.value < 512 = ltb-true _ _ j.0 in
    record { within = leb-true _ _ r.0; room = omega arith; due = leb-true _ _ (both _ _ j.1).0 }
