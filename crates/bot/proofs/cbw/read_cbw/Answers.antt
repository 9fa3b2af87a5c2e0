-- `read_cbw` meets its contract. Assumes nothing.
use Prim.Native.Nat.{ℕ}
use mathlib.Core.Path.{ap₂, ◌∙◌}
use mathlib.Core.List.{List}
use Rattle.std.proofs.Common.{arith}
use Rattle.std.proofs.lemmas.Grind.{common_steps}
use Rattle.wire.specs.Choice.{when◌then◌else◌}
use Rattle.wire.proofs.Lists.{tail_is}
use Rattle.bot.specs.declared.cbw.Header.{Header}
use Rattle.bot.specs.Cbw.{Reading, read_cbw}
use Rattle.bot.proofs.Wrappers.{readable_long, read-readable, not-readable}
use Rattle.bot.proofs.cbw.read_cbw.Goals as goal

abbrev reading : Header → List ℕ → Reading
reading h s = record { number = 1; cbw = record { header = h; block = s } }

pub returns-in_err-header : goal.returns-in_err-header
unfolding read_cbw when◌then◌else◌
returns-in_err-header c =
    let n = not-readable _ _ c.read_header.ensures c.in_err-header.ensures.ok_part in
    grind (arith, common_steps)

pub slice_bounds-copy_from_slice-count : goal.slice_bounds-copy_from_slice-count
slice_bounds-copy_from_slice-count c =
    let l = readable_long _ (read-readable _ _ _ c.read_header.ensures c.in_ok-header.ensures.ok_part).0 in omega arith

pub slice_bounds-copy_from_slice-start : goal.slice_bounds-copy_from_slice-start
slice_bounds-copy_from_slice-start c =
    let l = readable_long _ (read-readable _ _ _ c.read_header.ensures c.in_ok-header.ensures.ok_part).0 in omega arith

pub copy_from_slice-requires : goal.copy_from_slice-requires
copy_from_slice-requires c =
    let l = readable_long _ (read-readable _ _ _ c.read_header.ensures c.in_ok-header.ensures.ok_part).0 in omega arith

pub returns : goal.returns
unfolding read_cbw when◌then◌else◌
returns c =
    let p = c.args.bytes.now in
    let t = read-readable _ _ _ c.read_header.ensures c.in_ok-header.ensures.ok_part in
    let block = c.copy_from_slice.ensures.after ∙ tail_is 15 p in
    simp t.0 (ap₂ (λ (h : Header) (s : List ℕ). reading h s) t.1 block)
