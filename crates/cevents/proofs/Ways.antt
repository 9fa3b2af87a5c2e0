-- The quick ways leave what the machine's step leaves. Assumes nothing.
use Prim.Native.Nat.{ℕ, ◌+◌, ◌*◌, ◌-◌, min, ◌≤◌, ◌<◌}
use mathlib.Core.Path.{◌≡◌, refl, sym, ap, ◌∙◌, subst}
use mathlib.Core.Bool.{Bool, true, false}
use mathlib.Core.List.{List, []}
use native.Mathlib.Omega.{arith}
use native.Mathlib.Nat.{min-eq_left}
use lib.Dec.{eqb}
use lib.ListN.{length, take, drop, set}
use lib.Seq.{set-get_or}
use borrow.Author.Tests.{leb-true, eqb-true, eqb-false, le-leb, lt-leb, lt-ltb, le-ltb, eq-eqb, ne_eqb}
use Rattle.wire.specs.Choice.{when◌then◌else◌, ◌and◌, look}
use Rattle.wire.specs.Slices.{zeros, placed}
use Rattle.wire.specs.Bits.{bits}
use Rattle.scsi.specs.Sense.{no_sense}
use Rattle.wire.proofs.Cases.{both, and_true, by-if, if-true, if-false}
use Rattle.wire.proofs.Lists.{length-placed}
use Rattle.wire.proofs.Parts.{length_part, part_of_part}
use Rattle.bot.specs.Csw.{csw_bytes}
use Rattle.bot.specs.declared.csw.Csw.{Csw}
use Rattle.bot.specs.declared.csw.Status.TheVariants.{Passed}
use Rattle.bot.proofs.RoundTrip.{length-csw}
use Rattle.machine.specs.declared.answer.Answer.TheVariants.{Ack}
use Rattle.machine.specs.declared.ask.Source.TheVariants as source
use Rattle.machine.specs.declared.ask.Asked.TheVariants.{Packet}
use Rattle.machine.specs.declared.record.LogicalUnit.{LogicalUnit}
use Rattle.machine.specs.declared.record.Stage.{Stage}
use Rattle.machine.specs.declared.record.Stage.TheVariants.{DataOut, DataIn, StatusDue}
use Rattle.machine.specs.declared.record.State.{State}
use Rattle.machine.specs.declared.record.Device.{Device}
use Rattle.machine.specs.Units.{most_blocks, Table, unit, unit_at, total, medium_fits, part_of, with_part}
use Rattle.machine.specs.Record.{task, link, state, device, moved}
use Rattle.machine.specs.World.{World, world, Out, out, UnitOut, unit_out, in_unit}
use Rattle.machine.specs.Fits.{address_fits, idle_fits, lock_fits, stage_fits, task_fits, out_fits, in_fits}
use Rattle.machine.specs.Bulk.{halt_at_end, next_out, gathered_state, gathered, stored_state, stored_block, on_data, out_stage, packet_out, next_in, handed_state, next_packet, after_status, ask_stage, ask, bytes_of, packet_in}
use Rattle.machine.specs.Machine.{Event, bulk_in, bulk_out, checks, fitting, effect, step, told}
use Rattle.machine.proofs.Judge.{passes}
use Rattle.machine.proofs.Fit.{fits_of_lem}
use Rattle.machine.proofs.Tables.{unit-small, unit-within, in_place, in_place-same}
use Rattle.bulk.proofs.Running.{delivers}
use Rattle.crecord.specs.declared.record.Given.{Given}
use Rattle.crecord.specs.declared.record.Flat as flats
use Rattle.crecord.specs.Flat.{no_numbers, no_value, form_of, flag, decodes, state_from, identity_from, numbers_of, worth, flags_of, flat_with, flat_of, answer, rec}
use Rattle.cevents.specs.Events.{left, leaves, on_record}
use Rattle.cevents.specs.Ways.{Whole, Free, ReadsOn, Passes, Gathers, moved_on, read_on, ended}
use Rattle.cevents.specs.declared.place.Place.{Place}

module _ (g : Given) (f : flats.Flat) (us : Table) (m : List ℕ) (place : Place) (h : Whole us f.lun (length m) place) where
  abbrev u : LogicalUnit
  u = unit_at us f.lun

  -- a free device in a stage
  abbrev pub at : Stage → ℕ → State
  at s residue = state f.address true (link false false false (task s f.lun f.tag f.announced residue))

  abbrev dev : Stage → ℕ → List ℕ → Device
  dev s residue p = device (identity_from g) (at s residue) p

  abbrev over : Device → World
  over d = world d us m

  -- the numbers stand for one
  pub record Stands (s : Stage) : Type 0 where
    pub free : Free g f
    pub running : stage_fits u.blocks s f.announced f.residue ≡ true
    pub valid : decodes f ≡ true
    pub is : state_from f ≡ at s f.residue

  pub served : medium_fits us m ≡ true
  unfolding medium_fits
  served = eq-eqb (length m) (512 * total us) h.whole

  small : u.blocks ≤ most_blocks
  small = unit-small us f.lun h.laid

  part_in : 512 * u.first + 512 * u.blocks ≤ length m
  part_in = unit-within us m f.lun h.laid served h.listed

  pub in-medium : (512 * place.first + 512 * place.blocks ≤ length m) × (place.blocks ≤ most_blocks)
  in-medium =
      let a = part_in in
      let s = small in
      let x = h.first in
      let y = h.blocks in
      (omega arith, omega arith)

  module _ {s : Stage} (w : Stands s) (p : List ℕ) where
    abbrev pub here : World
    here = over (dev s f.residue p)

    pub fit : fitting here ≡ true
    unfolding address_fits idle_fits lock_fits task_fits when◌then◌else◌
    fit =
        fits_of_lem here (record {
          laid = h.laid;
          switches = h.switches;
          number = w.free.number;
          address = le-leb _ _ w.free.address;
          idle = refl;
          lock = refl;
          task = and_true _ _ (lt-ltb _ _ h.listed) w.running;
        })

    -- what the step leaves, as a record
    turned : (e : Event) (o : Out) → step here e ≡ o → on_record (rec g f p) us m e ≡ leaves (told o)
    unfolding on_record
    turned e o k =
        if-true _ _ _ w.valid
        ∙ ap (λ (x : State). leaves (told (step (over (device (identity_from g) x p)) e))) w.is
        ∙ ap (λ (x : Out). leaves (told x)) k

    asks : (b : List ℕ) (o : Out) → 64 ≤ length b → packet_in here b ≡ o → on_record (rec g f p) us m (bulk_in b) ≡ leaves (told o)
    unfolding checks effect
    asks b o k e = turned (bulk_in b) o (passes here (bulk_in b) (record { fit = fit; medium = served; buffer = le-leb _ _ k; packet = refl; setup = refl; configured = refl; unit = refl }) ∙ e)

    takes : (q : List ℕ) (o : Out) → length q ≤ 64 → packet_out here q ≡ o → on_record (rec g f p) us m (bulk_out q) ≡ leaves (told o)
    unfolding checks effect
    takes q o k e = turned (bulk_out q) o (passes here (bulk_out q) (record { fit = fit; medium = served; buffer = refl; packet = le-leb _ _ k; setup = refl; configured = refl; unit = refl }) ∙ e)

  -- ---- a whole packet of a read

  module _ {buffer : ℕ} (w : ReadsOn g f place.blocks buffer) where
    running : in_fits (512 * u.blocks) f.place f.left f.announced f.residue ≡ true
    running = subst (λ (n : ℕ). in_fits (512 * n) f.place f.left f.announced f.residue ≡ true) h.blocks w.running

    pub reads_on_lem : Stands (DataIn f.place f.left)
    unfolding stage_fits decodes state_from form_of look when◌then◌else◌ ◌and◌ no_value flag bits
    reads_on_lem = record { free = w.free; running = running; valid = simp (w.stage, w.value, w.free.extra, w.free.flags); is = simp (w.stage, w.free.flags) }

    -- what is then due
    abbrev pub after : State
    after = when eqb f.left 64 then at (StatusDue Passed) 0 else at (DataIn (f.place + 64) (f.left - 64)) (f.residue - 64)

    pub after-flat : flat_of after ≡ read_on f
    unfolding flat_of flat_with numbers_of flags_of worth when◌then◌else◌ moved_on read_on
    after-flat = either (eqb f.left 64)
      where
        either : (b : Bool) → flat_of (when b then at (StatusDue Passed) 0 else at (DataIn (f.place + 64) (f.left - 64)) (f.residue - 64))
            ≡ (when b then moved_on f 7 0 0 0 0 else moved_on f 2 (f.residue - 64) (f.place + 64) (f.left - 64) 0)
        either true = refl
        either false = refl

    pub hands : ask (at (DataIn f.place f.left) f.residue) ≡ Packet (source.Medium f.place 64) after
    unfolding ask ask_stage next_packet handed_state moved halt_at_end next_in when◌then◌else◌
    hands =
        let k = w.packet in
        let n : min 64 f.left ≡ 64 = min-eq_left (omega arith) in
        let some = ne_eqb f.left 0 (λ x. omega arith) in
        by-if (λ (t : State). ask (at (DataIn f.place f.left) f.residue) ≡ Packet (source.Medium f.place 64) t) (eqb f.left 64) _ _
        (λ b.
        let e = eqb-true _ _ b in
        let r = w.last e in
        let z : f.residue - 64 ≡ 0 = omega arith in
        simp (some, le-leb f.left 64 (omega arith), n, z))
        (λ b.
        let e : f.left ≡ 64 → ⊥ = eqb-false _ _ b in
        simp (some, lt-leb f.left 64 (omega arith), n))

  pub quick-in : (b : List ℕ) → ReadsOn g f place.blocks (length b) → (p : List ℕ) → on_record (rec g f p) us m (bulk_in b)
      ≡ left (answer 0 64) (rec g (read_on f) p) us m (placed b 0 (take 64 (drop (512 * place.first + f.place) m)))
  unfolding in_fits bytes_of part_of
  quick-in b w p =
      let l : f.place + f.left ≤ 512 * u.blocks = leb-true _ _ (both _ _ (running w)).0 in
      let k : f.place + 64 ≤ 512 * u.blocks = omega (arith, w.packet) in
      let z : 512 * u.first + f.place ≡ 512 * place.first + f.place = omega (arith, h.first) in
      let r = part_in in
      asks (reads_on_lem w) p b _ w.room
      (sym (delivers (here (reads_on_lem w) p) b _ _ _ 64 (hands w) (part_of_part (512 * u.first) (512 * u.blocks) f.place 64 m k ∙ ap (λ (n : ℕ). take 64 (drop n m)) z) (length_part (512 * place.first + f.place) 64 m (omega arith))))
      ∙ ap (λ (n : flats.Flat). left (answer 0 64) (rec g n p) us m (placed b 0 (take 64 (drop (512 * place.first + f.place) m)))) (after-flat w)

  -- ---- the status of a command that passed

  module _ (b : List ℕ) (w : Passes g f (length b)) where
    abbrev csw : Csw
    csw = record { tag = f.tag; residue = f.residue; status = Passed }

    has-passed : Stands (StatusDue Passed)
    unfolding stage_fits decodes state_from form_of look when◌then◌else◌ ◌and◌ no_numbers no_value flag bits
    has-passed =
        record {
          free = w.free;
          running = le-leb _ _ w.running;
          valid = simp (w.stage, w.place, w.none, w.value, w.free.extra, w.free.flags);
          is = simp (w.stage, w.free.flags);
        }

    pub quick-status : (p : List ℕ) → on_record (rec g f p) us m (bulk_in b) ≡ left (answer 0 13) (rec g (ended f) p) us m (placed b 0 (csw_bytes csw))
    unfolding ask ask_stage bytes_of after_status moved flat_of flat_with numbers_of flags_of worth when◌then◌else◌ ended
    quick-status p = asks has-passed p b _ w.room (sym (delivers (here has-passed p) b (csw_bytes csw) (source.Status csw) _ 13 refl refl (length-csw csw)))

  -- ---- a whole packet of a write

  module _ (q p : List ℕ) (w : Gathers g f place.blocks (length q)) where
    due : out_fits u.blocks f.place f.left f.value f.announced f.residue ≡ true
    due = subst (λ (n : ℕ). out_fits n f.place f.left f.value f.announced f.residue ≡ true) h.blocks w.running

    gathers : Stands (DataOut f.place f.left f.value)
    unfolding stage_fits decodes state_from form_of look when◌then◌else◌ ◌and◌ flag bits
    gathers = record { free = w.free; running = due; valid = simp (w.stage, w.free.extra, w.free.flags); is = simp (w.stage, w.free.flags) }

    -- data changes no unit
    stored : (d : Device) (s m' : List ℕ) → on_data f.place f.left f.value q (here gathers p).dev u (part_of u m) ≡ unit_out Ack d u s → with_part u m s ≡ m'
        → on_record (rec g f p) us m (bulk_out q) ≡ leaves (told (out Ack (world d us m') []))
    unfolding packet_out out_stage in_unit when◌then◌else◌
    stored d s m' e k =
        let some : 1 ≤ f.left = w.some in
        takes gathers p q _ (omega (arith, w.full))
        (if-false _ _ _ (ne_eqb f.left 0 (λ z. omega arith))
        ∙ ap (λ (r : UnitOut). out r.answer (world r.dev (set us f.lun r.unit) (with_part u m r.medium)) []) e
        ∙ ap (λ (vs : Table). out Ack (world d vs (with_part u m s)) []) (set-get_or us f.lun (unit 0 0 no_sense 0))
        ∙ ap (λ (y : List ℕ). out Ack (world d us y) []) k)

    pub quick-part : f.value + 64 < 512 → on_record (rec g f p) us m (bulk_out q)
        ≡ left (answer 1 0) (rec g (moved_on f 1 f.residue f.place f.left (f.value + 64)) (placed p f.value q)) us m []
    unfolding on_data when◌then◌else◌ gathered moved flat_of flat_with numbers_of flags_of worth moved_on gathered_state
    quick-part k =
        stored (dev (DataOut f.place f.left (f.value + 64)) f.residue (placed p f.value q)) (part_of u m) m
        (simp (eq-eqb _ _ w.full, lt-ltb _ _ k))
        (in_place-same u m part_in)

    -- the block is stored at its place in the medium
    put-there : length p ≡ 512 → with_part u m (placed (part_of u m) (512 * f.place) (placed p f.value q)) ≡ placed m (512 * (place.first + f.place)) (placed p f.value q)
    unfolding out_fits
    put-there n =
        let l : f.place + f.left ≤ u.blocks = leb-true _ _ (both _ _ due).0 in
        let some : 1 ≤ f.left = w.some in
        in_place u place.first f.place m (placed p f.value q) (sym h.first) part_in (length-placed p _ q ∙ n) (omega arith)

    pub quick-block : 1 < f.left → length p ≡ 512 → (f.value + 64 < 512 → ⊥) → on_record (rec g f p) us m (bulk_out q)
        ≡ left (answer 1 0) (rec g (moved_on f 1 (f.residue - 512) (f.place + 1) (f.left - 1) 0) (zeros 512)) us (placed m (512 * (place.first + f.place)) (placed p f.value q)) []
    unfolding on_data when◌then◌else◌ stored_block moved next_out halt_at_end flat_of flat_with numbers_of flags_of worth moved_on stored_state
    quick-block more n k =
        stored (dev (DataOut (f.place + 1) (f.left - 1) 0) (f.residue - 512) (zeros 512)) (placed (part_of u m) (512 * f.place) (placed p f.value q)) _
        (simp (eq-eqb _ _ w.full, le-ltb (f.value + 64) 512 (omega arith), lt-leb f.left 1 more)) (put-there n)

    pub quick-end : f.left ≡ 1 → f.residue ≡ 512 → length p ≡ 512 → (f.value + 64 < 512 → ⊥) → on_record (rec g f p) us m (bulk_out q)
        ≡ left (answer 1 0) (rec g (moved_on f 7 0 0 0 0) (zeros 512)) us (placed m (512 * (place.first + f.place)) (placed p f.value q)) []
    unfolding on_data when◌then◌else◌ stored_block moved next_out halt_at_end flat_of flat_with numbers_of flags_of worth moved_on stored_state
    quick-end one rest n k =
        let z : f.residue - 512 ≡ 0 = omega arith in
        stored (dev (StatusDue Passed) 0 (zeros 512)) (placed (part_of u m) (512 * f.place) (placed p f.value q)) _
        (simp (eq-eqb _ _ w.full, le-ltb (f.value + 64) 512 (omega arith), le-leb f.left 1 (omega arith), z)) (put-there n)
