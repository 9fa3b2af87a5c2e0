-- The packet that an ask comes to: where the showing call has it, there stand the bytes that the copying one hands out. Assumes nothing.
use Prim.Native.Nat.{ℕ, ◌+◌, ◌*◌, ◌≤◌, min}
use mathlib.Core.Path.{◌≡◌, refl, sym, ap, ◌∙◌}
use mathlib.Core.Bool.{Bool, true, false, true≢false}
use mathlib.Core.List.{List, []}
use native.Mathlib.Omega.{arith}
use native.Mathlib.Nat.{zero-add}
use lib.Dec.{eqb}
use lib.ListN.{length, take, drop}
use borrow.Author.Tests.{le-leb, leb-true}
use Rattle.wire.specs.Slices.{part, placed}
use Rattle.wire.proofs.Cases.{both, by-if, if-true}
use Rattle.wire.proofs.Lists.{placed_yes}
use Rattle.wire.proofs.Parts.{length_part, part_of_part}
use Rattle.scsi.specs.Reply.{reply_data, kind_of, reply_size}
use Rattle.scsi.specs.declared.reply.Reply as replies
use Rattle.scsi.proofs.Replies.{sizes}
use Rattle.machine.specs.declared.record.Stage.{Stage}
use Rattle.machine.specs.declared.record.Stage.TheVariants.{Ready, DataOut, DataIn, ReplyIn, StatusDue}
use Rattle.machine.specs.declared.record.State.{State}
use Rattle.machine.specs.declared.answer.Answer.{Answer}
use Rattle.machine.specs.declared.answer.Answer.TheVariants.{Data, Nak, Stall}
use Rattle.machine.specs.declared.ask.Source.TheVariants as source
use Rattle.machine.specs.declared.ask.Asked.{Asked}
use Rattle.machine.specs.declared.ask.Asked.TheVariants.{Packet}
use Rattle.machine.specs.declared.show.Extent.TheVariants as extent
use Rattle.machine.specs.Answer.{count_of}
use Rattle.machine.specs.Units.{unit_at, medium_fits, part_of}
use Rattle.machine.specs.Fits.{in_fits, stage_fits}
use Rattle.machine.specs.World.{World, in_state, Out, out, sends}
use Rattle.machine.specs.Bulk.{packet_size, next_packet, ask_stage, ask, bytes_of, deliver}
use Rattle.machine.specs.Show.{reply_at, reply_of, bytes_shown, Shown, shown, show_from, show_asked}
use Rattle.machine.specs.EitherCall.{hands_status, copied}
use Rattle.machine.proofs.Tables.{unit-within}
use Rattle.machine.proofs.Fit.{Fit, lun-fits, stage-fits}

abbrev pub Counts : World → List ℕ → Shown → Type 0
Counts w r o = length (bytes_shown o.at w.medium r) ≡ count_of o.answer

module _ (w : World) (b : List ℕ) where
  -- What is shown is as long as its answer counts; and where no status is due, it is what is handed out.
  abbrev pub Agrees : List ℕ → Bool → Shown → Out → Type 0
  Agrees r next o c = Counts w r o × (next ≡ false → copied o w.medium r b ≡ c)

  -- neither has bytes
  pub still : (r : List ℕ) (next : Bool) (a : Answer) → count_of a ≡ 0 → Agrees r next (shown a w extent.Nowhere) (out a w b)
  unfolding bytes_shown
  still r next a e = (sym e, λ _. ap (out a w) (placed_yes b 0 [] (omega arith)))

  -- n bytes that stand in a list, as the bytes q handed out
  moves : (next : Bool) (t : State) (s q : List ℕ) (a n : ℕ) → a + n ≤ length s → take n (drop a s) ≡ q
      → (length (part s a n) ≡ n) × (next ≡ false → out (Data n) (in_state w t) (placed b 0 (part s a n)) ≡ sends q (in_state w t) b)
  unfolding part
  moves next t s q a n h e =
      let p = if-true _ (take n (drop a s)) [] (le-leb _ _ h) in
      let l : length (part s a n) ≡ n = ap length p ∙ length_part a n s h in
      (l, λ _. ap (λ (k : ℕ). out (Data k) (in_state w t) (placed b 0 (part s a n))) (sym l) ∙ ap (λ (x : List ℕ). sends x (in_state w t) b) (p ∙ e))

  abbrev Meets : List ℕ → Asked → Type 0
  Meets r a = Agrees r (hands_status a) (show_asked a w) (deliver a w b)

  module _ (f : Fit w) (k : medium_fits w.units w.medium ≡ true) where
    -- a unit's bytes lie in its part of the medium
    in-unit : (place left : ℕ) → w.dev.state.link.task.stage ≡ DataIn place left → (t : State) → Meets [] (Packet (source.Medium place (min packet_size left)) t)
    unfolding stage_fits in_fits bytes_of part_of bytes_shown show_asked show_from deliver
    in-unit place left e t =
        let g = w.dev.state.link.task in
        let u = unit_at w.units g.lun in
        let l : place + left ≤ 512 * u.blocks = leb-true _ _ (both _ _ (stage-fits w.units g f.task (DataIn place left) e)).0 in
        let z = unit-within w.units w.medium g.lun f.laid k (lun-fits w.units g f.task) in
        moves _ t w.medium _ (512 * u.first + place) (min packet_size left) (omega arith)
        (sym (part_of_part (512 * u.first) (512 * u.blocks) place (min packet_size left) w.medium (omega arith)))

    -- a reply's in what its allocation length leaves of it
    in-reply : (q : replies.Reply) (place left : ℕ) → w.dev.state.link.task.stage ≡ ReplyIn q place left → (t : State)
        → Meets (take (place + left) (reply_data w.dev.identity.number q)) (Packet (source.Reply q place (min packet_size left)) t)
    unfolding stage_fits in_fits bytes_of bytes_shown show_asked show_from deliver
    in-reply q place left e t =
        let d = reply_data w.dev.identity.number q in
        let l : place + left ≤ reply_size (kind_of q) = leb-true _ _ (both _ _ (stage-fits w.units w.dev.state.link.task f.task (ReplyIn q place left) e)).0 in
        let z = sizes w.dev.identity.number q in
        let y = length_part 0 (place + left) d (omega arith) in
        moves _ t (take (place + left) d) _ place (min packet_size left) (omega arith)
        (part_of_part 0 (place + left) place (min packet_size left) d (omega arith) ∙ ap (λ (j : ℕ). take (min packet_size left) (drop j d)) (zero-add place))

    at_stage : (g : Stage) → w.dev.state.link.task.stage ≡ g → Meets (reply_at w.dev.identity.number g) (ask_stage g w.dev.state)
    unfolding ask_stage next_packet reply_at hands_status show_asked show_from deliver
    at_stage Ready e = still _ _ Nak refl
    at_stage (DataOut block left held) e = still _ _ Nak refl
    at_stage (DataIn place left) e = by-if (Meets []) (eqb left 0) _ _ (λ _. still _ _ Nak refl) (λ _. in-unit place left e _)
    at_stage (ReplyIn q place left) e = by-if (Meets _) (eqb left 0) _ _ (λ _. still _ _ Nak refl) (λ _. in-reply q place left e _)
    at_stage (StatusDue status) e = ((still [] true Nak refl).0, λ h. absurd (true≢false h))

    pub at-ask : Meets (reply_of w) (ask w.dev.state)
    unfolding ask hands_status show_asked deliver
    at-ask = by-if (Meets (reply_of w)) w.dev.state.link.haltin _ _ (λ _. still _ _ Stall refl) (λ _. at_stage w.dev.state.link.task.stage refl)
