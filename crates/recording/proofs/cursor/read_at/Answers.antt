-- `read_at` meets its contract. Assumes nothing.
use mathlib.Core.Path.{◌≡◌, sym, ap}
use native.Mathlib.Omega.{arith}
use Rattle.std.proofs.Common.{None}
use Rattle.recording.specs.Cursor.{reading, read_at, numbered}
use Rattle.recording.proofs.Cursors.{read_short, read-over, found}
use Rattle.recording.proofs.cursor.read_at.Goals as goal
use Rattle.recording.proofs.cursor.read_at.Goals.{then-s-lt4-via-then-s-lt4, then-s-lt4-via-else-s-lt4+then-s-entry, then-s-lt4-via-else-s-lt4+else-s-entry+then-s-body}

pub returns-then-s-lt4 : goal.returns-then-s-lt4
returns-then-s-lt4 c =
    let a = c.args in
    let none : read_at a.units a.s.now a.entry a.body ≡ reading None 0 a.entry a.body =
    elim c.then-s-lt4.branch [
      | then-s-lt4-via-then-s-lt4 w ↦ read_short _ _ _ _ (omega arith)
      | then-s-lt4-via-else-s-lt4+then-s-entry w ↦ read_short _ _ _ _ (omega arith)
      | then-s-lt4-via-else-s-lt4+else-s-entry+then-s-body w ↦ read-over _ _ _ _ (omega arith)
    ] in
    ap numbered (sym none)

pub returns-then-s-body-2 : goal.returns-then-s-body-2
returns-then-s-body-2 c = ap numbered (sym (read-over _ _ _ _ (omega arith)))

pub returns : goal.returns
returns c =
    let n = c.le16-len in
    ap numbered (found _ _ _ _ _ _ _ _ _ _ c.kind_of-kind.ensures c.byte.ensures c.byte-2.ensures n.ensures c.byte-3.ensures c.byte-unit.ensures (omega arith) (omega arith))
