-- The largest medium (document 02, A5). Proved in proofs/Largest.antt.
use Rattle.std.specs.Prelude.{ℕ, ◌+◌, ◌*◌, ◌≤◌, ◌≡◌, true, false, [], ◌∷◌}
use Rattle.scsi.specs.Command.{plan_of}
use Rattle.scsi.specs.Reply.{reply_data}
use Rattle.scsi.specs.Sense.{out_of_range}
use Rattle.scsi.specs.declared.command.Plan.TheVariants.{Failed, Read}
use Rattle.scsi.specs.declared.reply.Reply.TheVariants.{Capacity}
use Rattle.machine.specs.Units.{block_size, most_blocks, size_fits}
use Rattle.machine.specs.Bulk.{packet_size}
use Rattle.machine.specs.Sheet.{on_blocks}

pub record Largest : Type 0 where
  -- "Raise the limit from 4,096; numbers 10 and 11 follow"
  pub served : size_fits most_blocks ≡ true
  pub unserved : size_fits (most_blocks + 1) ≡ false
  -- "Read Capacity of the largest medium answers 00 0F FF FF 00 00 02 00"
  pub capacity : (number : ℕ) → reply_data number (Capacity most_blocks) ≡ (0x00 ∷ 0x0F ∷ 0xFF ∷ 0xFF ∷ 0x00 ∷ 0x00 ∷ 0x02 ∷ 0x00 ∷ [])
  -- The last block, and the blocks past it; "address plus count still must not wrap".
  pub last : plan_of (on_blocks 0x28 0x000F_FFFF 1) most_blocks false ≡ Read 0x000F_FFFF 1
  pub end : plan_of (on_blocks 0x28 0x0010_0000 0) most_blocks false ≡ Read 0x0010_0000 0
  pub past : plan_of (on_blocks 0x28 0x0010_0000 1) most_blocks false ≡ Failed (out_of_range 0x0010_0000)
  pub wraps : plan_of (on_blocks 0x28 0xFFFF_FFFF 1) most_blocks false ≡ Failed (out_of_range 0xFFFF_FFFF)
  -- A record keeps a Read's place in the medium in 32 bits: enough for every place, and for a packet more.
  pub places : block_size * most_blocks + packet_size ≤ 0xFFFF_FFFF
