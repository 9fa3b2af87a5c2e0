-- The quick way of a showing call leaves what the call leaves. Assumes nothing.
use Prim.Native.Nat.{ℕ, ◌+◌, ◌*◌}
use mathlib.Core.Path.{◌≡◌, refl, sym, ap, ◌∙◌}
use mathlib.Core.Bool.{true}
use mathlib.Core.List.{List, [], ◌∷◌}
use native.Mathlib.Omega.{arith}
use lib.ListN.{length}
use borrow.Author.Tests.{eqb-true}
use Rattle.wire.specs.Choice.{◌and◌}
use Rattle.wire.specs.Slices.{same, starts_with}
use Rattle.wire.proofs.Cases.{both, if-true}
use Rattle.machine.specs.declared.answer.Answer.TheVariants.{Data}
use Rattle.machine.specs.declared.record.State.{State}
use Rattle.machine.specs.declared.ask.Asked.{Asked}
use Rattle.machine.specs.declared.show.Extent.TheVariants as extent
use Rattle.machine.specs.Units.{Table}
use Rattle.machine.specs.Record.{device}
use Rattle.machine.specs.World.{World, world, in_state}
use Rattle.machine.specs.Machine.{check, in_order}
use Rattle.machine.specs.Show.{reply_at, show_checks, Shown, shown, told_shown, show_from, show_asked, show_judged, show, in_medium}
use Rattle.crecord.specs.declared.record.Given.{Given}
use Rattle.crecord.specs.declared.record.Flat as flats
use Rattle.crecord.specs.Flat.{identity_from, shown_as, rec}
use Rattle.cevents.specs.declared.place.Place.{Place}
use Rattle.cevents.specs.Shown.{left_shown, leaves_shown, show_on_record}
use Rattle.cevents.specs.Ways.{Whole, ReadsOn, read_on}
use Rattle.cevents.specs.Quick.{shows_on}
use Rattle.cevents.proofs.Due.{reads}
use Rattle.cevents.proofs.Ways.{served, here, fit, reads_on_lem, after, after-flat, hands}

module _ (g : Given) (f : flats.Flat) (us : Table) (m : List ℕ) (place : Place) (h : Whole us f.lun (length m) place) where
  module _ (w : ReadsOn g f place.blocks 64) (p : List ℕ) where
    abbrev now : World
    now = here g f us m place h (reads_on_lem g f us m place h w) p

    -- a read has no reply to be lent
    shows : show now [] ≡ shown (Data 64) (in_state now (after g f us m place h w)) (extent.Medium (in_medium us f.lun f.place) 64)
    unfolding show show_checks reply_at same starts_with check in_order show_judged show_asked show_from ◌and◌
    shows = simp (fit g f us m place h (reads_on_lem g f us m place h w) p, served g f us m place h) (ap (λ (a : Asked). show_asked a now) (hands g f us m place h w))

    shows-on : show_on_record (rec g f p) us m [] ≡ left_shown (shown_as 0 64 (extent.Medium (512 * place.first + f.place) 64)) (rec g (read_on f) p) us m
    unfolding show_on_record
    shows-on =
        let s = reads_on_lem g f us m place h w in
        if-true _ _ _ s.valid
        ∙ ap (λ (x : State). leaves_shown (told_shown (show (world (device (identity_from g) x p) us m) []))) s.is
        ∙ ap (λ (o : Shown). leaves_shown (told_shown o)) shows
        ∙ ap (λ (n : flats.Flat). left_shown (shown_as 0 64 (extent.Medium (in_medium us f.lun f.place) 64)) (rec g n p) us m) (after-flat g f us m place h w)
        ∙ ap (λ (n : ℕ). left_shown (shown_as 0 64 (extent.Medium (512 * n + f.place) 64)) (rec g (read_on f) p) us m) (sym h.first)

  pub quick-shows : (s p : List ℕ) → shows_on g f place.blocks (length s) ≡ true
      → left_shown (shown_as 0 64 (extent.Medium (512 * place.first + f.place) 64)) (rec g (read_on f) p) us m ≡ show_on_record (rec g f p) us m s
  unfolding shows_on
  quick-shows s p b =
      let t = both _ _ b in
      sym (shows-on (reads _ _ _ _ t.1) p) ∙ ap (show_on_record (rec g f p) us m) (none s (eqb-true _ _ t.0))
    where
      none : (s : List ℕ) → length s ≡ 0 → [] ≡ s
      none [] e = refl
      none (x ∷ s) e = absurd (omega arith)
