-- What a sound state tells of its numbers and of the packet that an ask comes to. Assumes nothing.
use Prim.Native.Nat.{ℕ, ◌+◌, ◌*◌, ◌%◌, ◌≤◌, ◌<◌}
use mathlib.Core.Path.{◌≡◌, refl, sym, subst, ap, ◌∙◌}
use mathlib.Core.Bool.{true}
use mathlib.Core.List.{List, []}
use native.Mathlib.Omega.{arith}
use lib.Dec.{eqb}
use lib.ListN.{length, take, drop, set}
use borrow.Author.Tests.{leb-true, ltb-true, eqb-true}
use Rattle.wire.specs.Slices.{placed}
use Rattle.wire.proofs.Cases.{both, by-if}
use borrow.Rule.Slice.PartMut.{put_mid}
use Rattle.wire.proofs.Lists.{placed-whole}
use Rattle.wire.proofs.Parts.{length_part, part_back, part_of_part}
use Rattle.scsi.specs.Reply.{kind_of, reply_size}
use Rattle.scsi.specs.declared.reply.Reply as replies
use Rattle.scsi.proofs.Replies.{sizes, reply-short}
use Rattle.usb.specs.declared.descriptor.Identity.{Identity}
use Rattle.machine.specs.declared.answer.Answer.TheVariants.{Data}
use Rattle.machine.specs.declared.record.LogicalUnit.{LogicalUnit}
use Rattle.machine.specs.declared.record.Stage.{Stage}
use Rattle.machine.specs.declared.record.Stage.TheVariants.{Ready, DataOut, DataIn, ReplyIn, StatusDue}
use Rattle.machine.specs.declared.record.State.{State}
use Rattle.machine.specs.declared.record.Device.{Device}
use Rattle.machine.specs.declared.ask.Source.{Source}
use Rattle.machine.specs.declared.ask.Source.TheVariants as source
use Rattle.machine.specs.declared.ask.Asked.{Asked}
use Rattle.machine.specs.declared.ask.Asked.TheVariants.{Packet}
use Rattle.machine.specs.Units.{most_blocks, Table, unit_at, part_of, with_part}
use Rattle.machine.specs.Fits.{stage_fits, out_fits, in_fits}
use Rattle.machine.specs.Record.{device}
use Rattle.machine.specs.World.{World, world, in_state, out, sends, UnitOut, in_unit}
use Rattle.machine.specs.Bulk.{next_packet, ask_stage, ask, bytes_of, deliver, packet_in}
use Rattle.machine.proofs.Tables.{unit-small, unit-within}
use Rattle.machine.proofs.Fit.{lun-fits, stage-fits}
use Rattle.bulk.specs.Parts.{Sound, Due, Gathering, Sending, Askable, Within}

-- Where the code comes to a packet, the machine comes to the same.
pub comes : (s : State) (a : Asked) (x y : Source) (t : State) → a ≡ ask s → a ≡ Packet x t → x ≡ y → ask s ≡ Packet y t
comes s a x y t e f g = sym e ∙ f ∙ ap (λ (z : Source). Packet z t) g

module _ (s : State) (us : Table) (m : List ℕ) (w : Sound s us m) where
  abbrev n₀ : ℕ
  n₀ = s.link.task.lun

  abbrev u : LogicalUnit
  u = unit_at us n₀

  small : u.blocks ≤ most_blocks
  small = unit-small us n₀ w.laid

  room : 512 * u.first + 512 * u.blocks ≤ length m
  room = unit-within us m n₀ w.laid w.whole (lun-fits us s.link.task w.running)

  at_stage : (g : Stage) → s.link.task.stage ≡ g → stage_fits u.blocks g s.link.task.announced s.link.task.residue ≡ true
  at_stage g e = stage-fits us s.link.task w.running g e

  pub writing : (block left held : ℕ) → s.link.task.stage ≡ DataOut block left held → (left ≡ 0 → ⊥) → Due s us block left held m
  unfolding stage_fits out_fits
  writing block left held e n =
      let f = both _ _ (at_stage (DataOut block left held) e) in
      let g = both _ _ f.1 in
      let h = both _ _ g.1 in
      let j = both _ _ h.1 in
      let b : held % 64 ≡ 0 = eqb-true _ _ g.0 in
      let c : held < 512 = ltb-true _ _ h.0 in
      let d : 512 * left ≤ s.link.task.residue = leb-true _ _ j.0 in
      record { room = room; write = leb-true _ _ f.0; small = small; some = omega arith; part = omega arith; due = omega arith }

  sent : (size place left : ℕ) → in_fits size place left s.link.task.announced s.link.task.residue ≡ true → Sending place left size s.link.task.residue
  unfolding in_fits
  sent size place left e = let f = both _ _ e in record { within = leb-true _ _ f.0; due = leb-true _ _ (both _ _ f.1).0 }

  sending : (place left : ℕ) → s.link.task.stage ≡ DataIn place left → Sending place left (512 * u.blocks) s.link.task.residue
  unfolding stage_fits
  sending place left e = sent _ place left (at_stage (DataIn place left) e)

  replying : (r : replies.Reply) (place left : ℕ) → s.link.task.stage ≡ ReplyIn r place left → Sending place left (reply_size (kind_of r)) s.link.task.residue
  unfolding stage_fits
  replying r place left e = sent _ place left (at_stage (ReplyIn r place left) e)

  pub askable : Askable s
  askable =
      record {
        medium = λ place left e. let t = sending place left e in let a = t.within in let k = small in record { within = omega arith; due = t.due };
        reply = λ r place left e. let t = replying r place left e in let a = t.within in let z = sizes 0 r in let k = reply-short 0 r in record { within = omega arith; due = t.due };
      }

  -- The bytes of a packet lie in their source.
  stage-within : (g : Stage) → s.link.task.stage ≡ g → Within s us (ask_stage g s)
  unfolding ask_stage next_packet
  stage-within Ready e = tt
  stage-within (DataOut block left held) e = tt
  stage-within (DataIn place left) e = let a = (sending place left e).within in by-if (Within s us) (eqb left 0) _ _ (λ _. tt) (λ _. omega arith)
  stage-within (ReplyIn r place left) e = let a = (replying r place left e).within in by-if (Within s us) (eqb left 0) _ _ (λ _. tt) (λ _ k. let z = sizes k r in omega arith)
  stage-within (StatusDue status) e = tt

  -- Of a sound state such a packet lies in its source.
  pub found : (a : Asked) (x y : Source) (t : State) → a ≡ ask s → a ≡ Packet x t → x ≡ y → (ask s ≡ Packet y t) × Within s us (Packet y t)
  unfolding ask
  found a x y t e f g =
      let h = comes s a x y t e f g in
      (h, subst (Within s us) h (by-if (Within s us) s.link.haltin _ _ (λ _. tt) (λ _. stage-within s.link.task.stage refl)))

  -- A packet of the unit's bytes stands in the medium, behind its first block.
  pub in-medium : (place n : ℕ) → place + n ≤ 512 * u.blocks → 512 * u.first + place + n ≤ length m
  in-medium place n h = let r = room in omega arith

  pub medium-bytes : (i : Identity) (p : List ℕ) (place n : ℕ) → place + n ≤ 512 * u.blocks → bytes_of (source.Medium place n) (world (device i s p) us m) ≡ take n (drop (512 * u.first + place) m)
  unfolding bytes_of part_of
  medium-bytes i p place n h = part_of_part (512 * u.first) (512 * u.blocks) place n m h

-- What a packet of n bytes leaves.
pub delivers : (w : World) (b s : List ℕ) (x : Source) (t : State) (n : ℕ) → ask w.dev.state ≡ Packet x t → bytes_of x w ≡ s → length s ≡ n → out (Data n) (in_state w t) (placed b 0 s) ≡ packet_in w b
unfolding packet_in deliver
delivers w b s x t n e f l =
    ap (λ (k : ℕ). out (Data k) (in_state w t) (placed b 0 s)) (sym l)
    ∙ sym (ap (λ (a : Asked). deliver a w b) e ∙ ap (λ (y : List ℕ). sends y (in_state w t) b) f)

-- A whole block put into its place, as a part of the medium, is put into the medium.
pub whole-block : (a n : ℕ) (m p y : List ℕ) → n ≡ 512 → a + 512 ≤ length m → length p ≡ 512 → y ≡ placed (take n (drop a m)) 0 p → put_mid a n m y ≡ placed m a p
whole-block a n m p y e h l q =
    let t = length_part a n m (omega arith) in
    let z : y ≡ p = q ∙ placed-whole (take n (drop a m)) p (omega arith) in
    let k : length y ≡ n = ap length z ∙ l ∙ sym e in
    part_back a n m y (omega arith) k ∙ ap (placed m a) z

-- ---- data for a unit, whose part of the medium is lent

pub gathering : (s : State) (us : Table) (block left held : ℕ) (m p : List ℕ) → Due s us block left held m → length p ≡ 512 * (unit_at us s.link.task.lun).blocks → Gathering s block left held p
gathering s us block left held m p d l =
    let a = d.write in
    let b = d.some in
    let c = d.small in
    record { within = omega arith; place = omega arith; room = d.part; due = d.due }

-- A unit's part lent as a slice of the medium, and what is left of it put back into the table and the medium.
module _ (us : Table) (m : List ℕ) (n : ℕ) (u : LogicalUnit) (k : ℕ) (e : u ≡ unit_at us n) (z : k ≡ 512 * u.blocks) (r : 512 * u.first + 512 * u.blocks ≤ length m) where
  lent-part : take k (drop (512 * u.first) m) ≡ part_of (unit_at us n) m
  unfolding part_of
  lent-part = ap (λ (j : ℕ). take j (drop (512 * u.first) m)) z ∙ ap (λ (v : LogicalUnit). take (512 * v.blocks) (drop (512 * v.first) m)) e

  pub given_back : (d : Device) (f : Device → LogicalUnit → List ℕ → UnitOut) (x : UnitOut) (vs : Table) → x ≡ f d (unit_at us n) (take k (drop (512 * u.first) m)) → vs ≡ set us n x.unit → length x.medium ≡ k
      → out x.answer (world x.dev vs (put_mid (512 * u.first) k m x.medium)) [] ≡ in_unit (world d us m) n f
  unfolding in_unit with_part
  given_back d f x vs h t l =
      let p : put_mid (512 * u.first) k m x.medium ≡ with_part (unit_at us n) m x.medium = part_back (512 * u.first) k m x.medium (omega arith) l ∙ ap (λ (v : LogicalUnit). with_part v m x.medium) e in
      let q : x ≡ f d (unit_at us n) (part_of (unit_at us n) m) = h ∙ ap (f d (unit_at us n)) lent-part in
      ap (λ (vs : Table). out x.answer (world x.dev vs (put_mid (512 * u.first) k m x.medium)) []) t
      ∙ ap (λ (y : List ℕ). out x.answer (world x.dev (set us n x.unit) y) []) p
      ∙ ap (λ (x : UnitOut). out x.answer (world x.dev (set us n x.unit) (with_part (unit_at us n) m x.medium)) []) q
