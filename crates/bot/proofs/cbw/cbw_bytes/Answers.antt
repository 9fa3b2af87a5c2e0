-- `cbw_bytes` meets its contract. Assumes nothing.
use Prim.Native.Nat.{ℕ}
use mathlib.Core.Path.{◌≡◌, ◌∙◌}
use mathlib.Core.List.{List, ◌∷◌, ◌++◌, append-nil}
use lib.ListN.{length}
use Rattle.wire.specs.Choice.{when◌then◌else◌}
use Rattle.wire.specs.Numbers.{low, little_bytes}
use Rattle.wire.specs.Slices.{zeros, fits, placed}
use Rattle.bot.specs.Cbw.{cbw_signature, cbw_bytes, direction}
use borrow.Author.Rules.{rules}
use Rattle.bot.proofs.cbw.cbw_bytes.Goals as goal

-- the block, put behind the fields
whole : (tag announced way lun size : ℕ) (block : List ℕ) → length block ≡ 16
    → placed (cbw_signature ++ little_bytes 4 tag ++ little_bytes 4 announced ++ way ∷ lun ∷ size ∷ zeros 16) 15 block
    ≡ cbw_signature ++ little_bytes 4 tag ++ little_bytes 4 announced ++ way ∷ lun ∷ size ∷ block
unfolding placed fits zeros low when◌then◌else◌
whole tag announced way lun size block n = rw n (append-nil (cbw_signature ++ little_bytes 4 tag ++ little_bytes 4 announced ++ way ∷ lun ∷ size ∷ block))

pub returns : goal.returns
unfolding cbw_bytes placed fits zeros low when◌then◌else◌
returns c =
    let h = c.args.cbw.header in
    let n : length c.args.cbw.block ≡ 16 = search rules in
    c.put-2.ensures.1
    ∙ simp (c.direction_byte.ensures, c.put_le32-2.ensures.1, c.put_le32.ensures.1, c.put.ensures.1)
    (whole h.tag h.announced (direction h.inward) h.lun h.size _ n)
