-- `events` meets its contract (proofs/Loop.antt). Assumes nothing.
use mathlib.Core.Path.{refl, ap, ◌∙◌}
use native.Mathlib.Omega.{arith}
use Rattle.player.proofs.Loop.{found, begun, is_read, asks, goes_on_lem, finished}
use Rattle.player.proofs.play.events.Goals as goal

pub loop-done-init : goal.loop-done-init
loop-done-init c =
    let h = c.new-head.ensures in
    record {
      recording = ap (λ x. x.now) h.recording;
      same = refl;
      ran = begun _ _ _ _ _ c.requires _ _ h.entry h.body;
    }

pub unwrap-kind-requires : goal.unwrap-kind-requires
unwrap-kind-requires c =
    let v = c.loop-done.invariant in
    is_read _ _ _ _ _ _ _ _ _ _ _ v.ran _ (found _ _ _ _ _ _ _ c.next-event.ensures.read c.loop-done.auto.units v.recording) c.loop-done-test.true

pub returns-clause-wrote : goal.returns-clause-wrote
returns-clause-wrote c = (finished _ _ _ _ _ _ _ _ _ _ _ c.loop-done.invariant.ran c.loop-done-test.false).0

pub returns-clause-left : goal.returns-clause-left
returns-clause-left c = (finished _ _ _ _ _ _ _ _ _ _ _ c.loop-done.invariant.ran c.loop-done-test.false).1

pub overflow_add-body : goal.overflow_add-body
overflow_add-body c =
    let v = c.loop-done.invariant in
    let a = (asks _ _ _ _ _ _ _ _ _ _ _ v.ran _ (found _ _ _ _ _ _ _ c.next-event.ensures.read c.loop-done.auto.units v.recording) c.loop-done-test.true _ c.unwrap-kind.ensures).0 in
    omega arith

pub slice_bounds-play_one-end : goal.slice_bounds-play_one-end
slice_bounds-play_one-end c =
    let v = c.loop-done.invariant in
    (asks _ _ _ _ _ _ _ _ _ _ _ v.ran _ (found _ _ _ _ _ _ _ c.next-event.ensures.read c.loop-done.auto.units v.recording) c.loop-done-test.true _ c.unwrap-kind.ensures).0

pub play_one-requires : goal.play_one-requires
play_one-requires c =
    let v = c.loop-done.invariant in
    (asks _ _ _ _ _ _ _ _ _ _ _ v.ran _ (found _ _ _ _ _ _ _ c.next-event.ensures.read c.loop-done.auto.units v.recording) c.loop-done-test.true _ c.unwrap-kind.ensures).2

pub loop-done-preserved : goal.loop-done-preserved
loop-done-preserved c =
    let v = c.loop-done.invariant in
    let n = c.next-event.ensures in
    let t = c.play_one.ensures in
    record {
      recording = ap (λ x. x.now) n.recording ∙ v.recording;
      same = t.same ∙ v.same;
      ran =
          goes_on_lem _ _ _ _ _ _ _ _ _ _ _ v.ran _ (found _ _ _ _ _ _ _ n.read c.loop-done.auto.units v.recording) c.loop-done-test.true _ c.unwrap-kind.ensures
          _ (omega arith) _ _ _ t.turned _ _ n.entry n.body;
    }
