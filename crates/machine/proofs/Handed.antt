-- What is handed out: the bytes in front of the buffer, and which of them are a status wrapper. Assumes nothing.
use Prim.Native.Nat.{ℕ, zero, suc, ◌%◌, ◌^◌, ◌≤◌, ◌<◌}
use mathlib.Core.Path.{◌≡◌, refl, sym, ap, ◌∙◌}
use mathlib.Core.Bool.{Bool, true, false}
use mathlib.Core.List.{List, [], ◌∷◌, ◌++◌}
use native.Mathlib.Omega.{arith}
use native.Mathlib.Nat.{zero-add}
use lib.Dec.{eqb}
use lib.ListN.{length, take, drop, length-take}
use lib.Seq.{take_at}
use borrow.Author.Tests.{eqb-true, ne_eqb}
use Rattle.wire.specs.Choice.{◌and◌}
use Rattle.wire.specs.Numbers.{low}
use Rattle.wire.specs.Slices.{byte_at, bytes_at, starts_with}
use Rattle.wire.proofs.Lists.{placed_yes}
use Rattle.wire.proofs.Positional.{byte_order}
use Rattle.scsi.specs.Reply.{reply_data}
use Rattle.scsi.specs.declared.reply.Reply.{Reply}
use Rattle.scsi.proofs.Replies.{reply_opens}
use Rattle.bot.specs.Csw.{csw_signature, status_code, csw_bytes}
use Rattle.bot.specs.declared.csw.Csw.{Csw}
use Rattle.machine.specs.World.{World, sends}
use Rattle.machine.specs.Machine.{seen}
use Rattle.machine.specs.Handed.{handed, is_status}
use Rattle.machine.specs.Ledger.{status_of}

-- what is sent stands in front of the buffer
pub in_front : (b s : List ℕ) (w : World) → length s ≤ length b → (handed (seen (sends s w b))).bytes ≡ s
in_front b s w h =
    ap (take (length s)) (placed_yes b 0 s (omega arith) ∙ ap (λ (n : ℕ). s ++ drop n b) (zero-add (length s))) ∙ take_at s (drop (length s) b) (length s) refl

-- ---- data

no_status : (s : List ℕ) → (length s ≡ 13 → starts_with csw_signature s ≡ false) → is_status s ≡ false
unfolding is_status ◌and◌
no_status s f = go (eqb (length s) 13) refl
  where
    go : (b : Bool) → eqb (length s) 13 ≡ b → (b and starts_with csw_signature s) ≡ false
    go true e = f (eqb-true _ _ e)
    go false e = refl

-- a packet of a Read is of 64 bytes
pub whole-packet : (s : List ℕ) → length s ≡ 64 → is_status s ≡ false
whole-packet s n = no_status s (λ e. absurd (omega arith))

-- another first byte
other_byte : (s : List ℕ) → (byte_at s 0 ≡ 0x55 → ⊥) → starts_with csw_signature s ≡ false
unfolding starts_with ◌and◌
other_byte [] h = refl
other_byte (x ∷ s) h = simp (ne_eqb x 0x55 h)

take-first : (n : ℕ) (s : List ℕ) → 1 ≤ n → byte_at (take n s) 0 ≡ byte_at s 0
take-first zero s h = absurd (omega arith)
take-first (suc n) [] h = refl
take-first (suc n) (x ∷ s) h = refl

pub reply-packet : (number n : ℕ) (r : Reply) → is_status (take n (reply_data number r)) ≡ false
reply-packet number n r =
    no_status _
    (λ e. let l = length-take n (reply_data number r) in
    other_byte _ (λ x. reply_opens number r (omega arith) (sym (take-first n (reply_data number r) (omega arith)) ∙ x)))

-- ---- a status wrapper

pub status-packet : (c : Csw) → is_status (csw_bytes c) ≡ true
unfolding is_status starts_with csw_bytes low ◌and◌
status-packet c = refl

-- its fields come back
pub status-read : (c : Csw) → c.tag < 2 ^ 32 → c.residue < 2 ^ 32
    → status_of (csw_bytes c) ≡ record { tag = c.tag; residue = c.residue; code = status_code c.status }
unfolding csw_bytes bytes_at low
status-read c t r = λ j. record { tag = (byte_order.little_back 4 c.tag ∙ small c.tag t) j; residue = (byte_order.little_back 4 c.residue ∙ small c.residue r) j; code = status_code c.status }
  where
    small : (x : ℕ) → x < 2 ^ 32 → x % 256 ^ 4 ≡ x
    small x h = omega arith
