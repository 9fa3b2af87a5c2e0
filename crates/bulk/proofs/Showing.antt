-- The record's reply as a packet, and what a showing call is once its checks are made. Assumes nothing.
use Prim.Native.Nat.{ℕ, ◌+◌, min, ◌≤◌}
use mathlib.Core.Path.{◌≡◌, refl, sym, ap, ◌∙◌}
use mathlib.Core.Bool.{Bool, true}
use mathlib.Core.List.{List, []}
use native.Mathlib.Omega.{arith}
use lib.Dec.{leb}
use lib.ListN.{length, take, length-take}
use Rattle.std.proofs.lemmas.List.{take_min}
use Rattle.std.specs.declared.result.Result.TheVariants.{Ok, Err}
use Rattle.wire.specs.Slices.{placed}
use Rattle.wire.specs.Packet.{packet_of, bytes_of}
use Rattle.wire.specs.declared.packet.Packet.{Packet}
use Rattle.wire.proofs.Packets.{Held, held}
use Rattle.scsi.specs.Reply.{reply_data, reply_packet}
use Rattle.scsi.specs.declared.reply.Reply as replies
use Rattle.scsi.proofs.Replies.{reply-short}
use Rattle.machine.specs.declared.answer.Answer.{Answer}
use Rattle.machine.specs.declared.answer.Answer.TheVariants.{Data}
use Rattle.machine.specs.declared.record.Stage.{Stage}
use Rattle.machine.specs.declared.record.Stage.TheVariants.{Ready, DataOut, DataIn, ReplyIn, StatusDue}
use Rattle.machine.specs.declared.show.Extent.TheVariants as extent
use Rattle.machine.specs.World.{World, out, sends}
use Rattle.machine.specs.Machine.{fitting, Verdict, in_order}
use Rattle.machine.specs.Bulk.{ask}
use Rattle.machine.specs.Show.{reply_at, reply_of, show_checks, shown, show_asked, show_judged, show, told_shown, reply_checks}
use Rattle.state.specs.Gates.{admission}
use Rattle.state.proofs.Gates.{goes_on_lem, ended}

-- ---- the record's reply

-- It is at most one packet.
short : (n : ℕ) (g : Stage) → length (reply_at n g) ≤ 64
unfolding reply_at
short n Ready = omega arith
short n (DataOut block left held) = omega arith
short n (DataIn place left) = omega arith
short n (ReplyIn q place left) = let t = length-take (place + left) (reply_data n q) in let z = reply-short n q in omega arith
short n (StatusDue status) = omega arith

pub reply-held : (n : ℕ) (g : Stage) (k : Packet) → k ≡ packet_of (reply_at n g) → Held k (reply_at n g)
reply-held n g k e = held k (reply_at n g) e (short n g)

-- The default of a `match` on the stage, after the arm of a reply.
pub no_reply : (n : ℕ) (g : Stage) → ((q : replies.Reply) (place left : ℕ) → g ≡ ReplyIn q place left → ⊥) → reply_at n g ≡ []
unfolding reply_at
no_reply n Ready h = refl
no_reply n (DataOut block left held) h = refl
no_reply n (DataIn place left) h = refl
no_reply n (ReplyIn q place left) h = absurd (h q place left refl)
no_reply n (StatusDue status) h = refl

-- A whole reply's packet k lends its bytes s: the record's reply is as many of them as were sent and are due.
pub reply-front : (n : ℕ) (g : Stage) (q : replies.Reply) (place left : ℕ) → g ≡ ReplyIn q place left → (k : Packet) → k ≡ reply_packet n q
    → (s : List ℕ) → s ≡ bytes_of k → (m : ℕ) → m ≡ min (place + left) (length s) → take m s ≡ reply_at n g
unfolding reply_packet reply_at
reply-front n g q place left e k z s f m h =
    ap (λ (j : ℕ). take j s) h
    ∙ ap (λ (l : List ℕ). take (min (place + left) (length l)) l) (f ∙ (held k (reply_data n q) z (reply-short n q)).slice)
    ∙ take_min (place + left) (reply_data n q)
    ∙ sym (ap (reply_at n) e)

-- ---- the showing call

-- What is shown where the code's verdict ends the call, and where it passes it.
module _ (v : Verdict) (w : World) (r : List ℕ) (h : admission v ≡ admission (in_order (show_checks w r))) where
  pub show-ended : (a : Answer) → v ≡ Err a → told_shown (shown a w extent.Nowhere) ≡ told_shown (show w r)
  unfolding show show_judged
  show-ended a z = let f = ended v (in_order (show_checks w r)) a z h in simp (f.is, f.number, f.count)

  pub show-passed : v ≡ Ok tt → told_shown (show_asked (ask w.dev.state) w) ≡ told_shown (show w r)
  unfolding show show_judged
  show-passed z = simp (goes_on_lem v (in_order (show_checks w r)) z h)

-- ---- the reply given

-- The code's checks are the machine's.
pub reply-checks : (w : World) (b : List ℕ) (v : Verdict) (f : Bool) → f ≡ fitting w
    → admission v ≡ admission (in_order (record { fits = f; medium = true; buffer = leb 64 (length b); packet = true; setup = true; configured = true; unit = true }))
    → admission v ≡ admission (in_order (reply_checks w b))
unfolding reply_checks
reply-checks w b v f h e = simp (← h) e

-- What a reply of n bytes leaves.
pub gives : (w : World) (b y s : List ℕ) (n : ℕ) → y ≡ placed b 0 s → s ≡ reply_of w → n ≡ length (reply_of w) → out (Data n) w y ≡ sends (reply_of w) w b
gives w b y s n e f l = ap (λ (k : ℕ). out (Data k) w y) l ∙ ap (out (Data (length (reply_of w))) w) (e ∙ ap (placed b 0) f)
