-- `on_data` meets its contract. Assumes nothing.
use Prim.Native.Nat.{◌+◌, ◌*◌, ◌-◌}
use mathlib.Core.Path.{◌≡◌, ap, ◌∙◌}
use native.Mathlib.Omega.{arith}
use lib.ListN.{length, take, drop}
use borrow.Author.Tests.{lt-ltb, le-ltb, eq-eqb, ne_eqb}
use Rattle.wire.specs.Slices.{placed}
use Rattle.wire.proofs.Lists.{length-placed}
use Rattle.wire.specs.Choice.{when◌then◌else◌}
use Rattle.machine.specs.Bulk.{cut_short, gathered, stored_block, on_data, cut_state, gathered_state, stored_state}
use borrow.Author.Rules.{rules}
use Rattle.bulk.proofs.Running.{whole-block}
use Rattle.bulk.proofs.outward.on_data.Goals as goal

pub returns-then-packet-ne64 : goal.returns-then-packet-ne64
unfolding on_data cut_short cut_state when◌then◌else◌
returns-then-packet-ne64 c =
    λ i. simp (ne_eqb _ _ c.if-packet-ne64.true, c.cut_state.ensures, c.wipe.ensures, c.put_sense.ensures)

pub returns-then-held-lt512 : goal.returns-then-held-lt512
unfolding on_data gathered gathered_state when◌then◌else◌
returns-then-held-lt512 c =
    λ i. simp (eq-eqb _ _ c.if-packet-ne64.false, lt-ltb _ _ c.if-held-lt512.true, c.gathered_state.ensures, c.put_packet.ensures)

pub returns : goal.returns
unfolding on_data stored_block stored_state when◌then◌else◌
returns c =
    let a = c.args in
    let y = c.put.new.dst in
    let l : length a.part.now ≡ 512 = search rules in
    let b : length (placed a.part.now a.held a.packet.now) ≡ 512 = length-placed a.part.now a.held a.packet.now ∙ l in
    let q : y ≡ placed (take (512 * a.block + 512 - 512 * a.block) (drop (512 * a.block) a.medium.now)) 0 (placed a.part.now a.held a.packet.now) = c.put.ensures.1 ∙ ap (placed _ 0) c.put_packet.ensures in
    λ i. simp (eq-eqb _ _ c.if-packet-ne64.false, le-ltb _ _ c.if-held-lt512.false, c.stored_state.ensures, c.wipe-2.ensures, whole-block (512 * a.block) (512 * a.block + 512 - 512 * a.block) a.medium.now _ y (omega arith) c.requires.place b q)
