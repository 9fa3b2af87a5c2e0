-- `entries_formed` meets its contract. Assumes nothing.
use Prim.Native.Nat.{ℕ, ◌+◌, ◌-◌}
use mathlib.Core.Path.{◌≡◌, sym, ap, ◌∙◌}
use mathlib.Core.List.{List}
use native.Mathlib.Omega.{arith}
use lib.ListN.{drop}
use Rattle.recording.specs.Cursor.{read_at, numbered}
use Rattle.recording.specs.Format.{formed}
use Rattle.recording.proofs.Cursors.{step, stopped, formed-end}
use Rattle.recording.proofs.format.entries_formed.Goals as goal

pub returns-then-is_none : goal.returns-then-is_none
returns-then-is_none c =
    let l = c.loop in
    let e = l.head.entry in
    let b = l.head.body in
    let read = c.next.ensures.read ∙ ap (λ (s : List ℕ). numbered (read_at c.args.units s e b)) l.invariant.same in
    sym (l.invariant.left ∙ stopped _ _ _ _ _ _ read c.if-is_none.ensures (omega arith) l.invariant.place)

pub loop-preserved : goal.loop-preserved
loop-preserved c =
    let l = c.loop in
    let e = l.head.entry in
    let b = l.head.body in
    let n = c.next.ensures in
    let read = n.read ∙ ap (λ (s : List ℕ). numbered (read_at c.args.units s e b)) l.invariant.same in
    let s = step _ _ _ _ _ (c.args.count - (l.counter + 1)) _ read c.if-is_none.ensures (omega arith) l.invariant.place in
    record {
      same = rw n.recording l.invariant.same;
      place = rw (n.entry, n.body) s.next;
      left = rw (n.entry, n.body) (l.invariant.left ∙ s.formed);
    }

pub returns : goal.returns
returns c =
    let l = c.loop in
    let done : c.args.count - l.counter ≡ 0 = omega arith in
    sym (l.invariant.left ∙ ap (λ (n : ℕ). formed c.args.units n (drop l.head.entry c.args.s.now) (drop l.head.body c.args.s.now)) done ∙ formed-end _ _ _ _ l.invariant.place.bodies)
