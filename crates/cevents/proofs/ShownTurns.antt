-- A showing call on C's numbers, and the record's reply: refused, and decoded. Assumes nothing.
use Prim.Native.Nat.{ℕ}
use mathlib.Core.Path.{◌≡◌, sym, ap, ◌∙◌}
use mathlib.Core.Bool.{true, false}
use mathlib.Core.List.{List}
use Rattle.wire.proofs.Cases.{if-true, if-false}
use Rattle.usb.specs.declared.descriptor.Identity.{Identity}
use Rattle.machine.specs.declared.answer.Answer.{Answer}
use Rattle.machine.specs.declared.record.State.{State}
use Rattle.machine.specs.declared.show.Extent.{Extent}
use Rattle.machine.specs.declared.show.Extent.TheVariants as extent
use Rattle.machine.specs.Answer.{number_of, count_of}
use Rattle.machine.specs.Units.{Table}
use Rattle.machine.specs.Record.{device}
use Rattle.machine.specs.World.{world, out}
use Rattle.machine.specs.Machine.{told}
use Rattle.machine.specs.Show.{shown, show, told_shown, give_reply}
use Rattle.crecord.specs.declared.record.Flat as flats
use Rattle.crecord.specs.declared.record.Record.{Record}
use Rattle.crecord.specs.declared.record.Told as tolds
use Rattle.crecord.specs.declared.record.Shown as showns
use Rattle.crecord.specs.Flat.{decodes, state_from, identity_from, flat_of, answer, rec, shown_as}
use Rattle.cevents.specs.Shown.{left_shown, leaves_shown, show_on_record, left_reply, leaves_reply, reply_on_record}

module _ (r : Record) (us : Table) (m s : List ℕ) where
  pub refuses-show : decodes r.flat ≡ false → left_shown (shown_as 10 0 extent.Nowhere) r us m ≡ show_on_record r us m s
  unfolding show_on_record
  refuses-show d = sym (if-false _ _ _ d)

  pub refuses-reply : decodes r.flat ≡ false → left_reply (answer 10 0) s ≡ reply_on_record r us m s
  unfolding reply_on_record
  refuses-reply d = sym (if-false _ _ _ d)

  module _ (i : Identity) (c : State) (a : Answer) (d : decodes r.flat ≡ true) (ei : i ≡ identity_from r.given) (es : c ≡ state_from r.flat) where
    pub decoded-show : (c' : State) (x : Extent) (t : showns.Shown) (f' : flats.Flat)
        → told_shown (shown a (world (device i c' r.part) us m) x) ≡ told_shown (show (world (device i c r.part) us m) s)
        → t ≡ shown_as (number_of a) (count_of a) x → f' ≡ flat_of c' → left_shown t (rec r.given f' r.part) us m ≡ show_on_record r us m s
    unfolding show_on_record
    decoded-show c' x t f' w et ef =
        simp (et, ef)
        (ap leaves_shown
        ((λ j. told_shown (shown a (world (device (sym ei j) c' r.part) us m) x))
        ∙ w ∙ (λ j. told_shown (show (world (device (ei j) (es j) r.part) us m) s)))
        ∙ sym (if-true _ _ _ d))

    pub decoded-reply : (b : List ℕ) (t : tolds.Told)
        → told (out a (world (device i c r.part) us m) b) ≡ told (give_reply (world (device i c r.part) us m) s)
        → t ≡ answer (number_of a) (count_of a) → left_reply t b ≡ reply_on_record r us m s
    unfolding reply_on_record
    decoded-reply b t w et =
        simp et
        (ap leaves_reply (w ∙ (λ j. told (give_reply (world (device (ei j) (es j) r.part) us m) s)))
        ∙ sym (if-true _ _ _ d))
