-- Laws of the replies: how long each is, a sense's bytes, and that none begins as a status wrapper does. Assumes nothing.
use Prim.Native.Nat.{ℕ, ◌≤◌, ◌<◌}
use mathlib.Core.Path.{◌≡◌, refl}
use mathlib.Core.List.{List}
use native.Mathlib.Omega.{arith}
use lib.ListN.{length}
use Rattle.wire.specs.Choice.{when◌then◌else◌, ◌and◌}
use Rattle.wire.specs.Numbers.{low}
use Rattle.wire.specs.Slices.{byte_at, zeros}
use Rattle.wire.specs.Texts.{padded}
use Rattle.wire.proofs.Cases.{by-if, if-false}
use Rattle.scsi.specs.declared.reply.ReplyKind.{ReplyKind}
use Rattle.scsi.specs.declared.reply.ReplyKind.TheVariants as kind
use Rattle.scsi.specs.declared.reply.Reply.{Reply}
use Rattle.scsi.specs.declared.reply.Reply.TheVariants as reply
use Rattle.scsi.specs.declared.page.Page.TheVariants as page
use Rattle.scsi.specs.declared.sense.Sense.{Sense}
use Rattle.scsi.specs.Sense.{is_out_of_range}
use Rattle.scsi.specs.Page.{page_data}
use Rattle.scsi.specs.Reply.{fixed_format, sense_data, inquiry_data, mode_data, capacity_data, reply_data, kind_of, reply_size}
use Rattle.scsi.specs.Claims.{Sizes, SenseBytes}
use Rattle.scsi.proofs.Pages.{page-length}

-- ---- a sense, in whichever form

by_format : (P : List ℕ → Type 0) (s : Sense) → ((code information : ℕ) → 0x70 ≤ code → P (fixed_format code information s)) → P (sense_data s)
unfolding sense_data
by_format P s h = by-if P (is_out_of_range s) _ _ (λ _. h 0xF0 s.information (omega arith)) (λ _. h 0x70 0 (omega arith))

pub sense-bytes : SenseBytes
unfolding sense_data fixed_format is_out_of_range when◌then◌else◌ ◌and◌ zeros low
sense-bytes = record { range = λ block. refl; other = λ s e. if-false (is_out_of_range s) _ _ e }

-- ---- every reply

pub sizes : Sizes
unfolding fixed_format inquiry_data padded mode_data capacity_data zeros low
sizes n (reply.Sense s) = by_format (λ (d : List ℕ). length d ≡ 18) s (λ code information h. refl)
sizes n reply.Inquiry = refl
sizes n (reply.Page p) = page-length n p
sizes n (reply.ModeSense protected) = refl
sizes n (reply.Capacity blocks) = refl

-- a reply is not empty, and at most one packet
pub record Bounds (n : ℕ) : Type 0 where
  pub low : 0 < n
  pub high : n ≤ 64

pub kind_bounds : (k : ReplyKind) → Bounds (reply_size k)
kind_bounds kind.Sense = record { low = omega arith; high = omega arith }
kind_bounds kind.Inquiry = record { low = omega arith; high = omega arith }
kind_bounds (kind.Page page.Supported) = record { low = omega arith; high = omega arith }
kind_bounds (kind.Page page.Serial) = record { low = omega arith; high = omega arith }
kind_bounds (kind.Page page.Identification) = record { low = omega arith; high = omega arith }
kind_bounds kind.ModeSense = record { low = omega arith; high = omega arith }
kind_bounds kind.Capacity = record { low = omega arith; high = omega arith }

pub reply-short : (n : ℕ) (r : Reply) → length (reply_data n r) ≤ 64
reply-short n r = rw (sizes n r) (kind_bounds (kind_of r)).high

-- 55 hex opens a status wrapper of 13 bytes: no reply of that length or more begins with it
pub reply_opens : (n : ℕ) (r : Reply) → 13 ≤ length (reply_data n r) → byte_at (reply_data n r) 0 ≡ 0x55 → ⊥
unfolding fixed_format inquiry_data padded mode_data capacity_data page_data zeros low
reply_opens n (reply.Sense s) l e = by_format (λ (d : List ℕ). byte_at d 0 ≡ 0x55 → ⊥) s (λ code information h x. omega arith) e
reply_opens n reply.Inquiry l e = omega arith
reply_opens n (reply.Page p) l e = omega arith
reply_opens n (reply.ModeSense protected) l e = omega arith
reply_opens n (reply.Capacity blocks) l e = omega arith
