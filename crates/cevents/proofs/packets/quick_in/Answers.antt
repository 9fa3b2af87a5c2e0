-- `quick_in` meets its contract. Assumes nothing.
use Prim.Native.Nat.{◌+◌, ◌*◌, ◌-◌}
use mathlib.Core.Path.{◌≡◌, refl, sym, ◌∙◌}
use native.Mathlib.Nat.{add-sub_cancel_left}
use native.Mathlib.Omega.{arith}
use Rattle.cevents.proofs.Options.{no_other, some-is}
use Rattle.cevents.proofs.Ways.{quick-in}
use Rattle.cevents.proofs.Due.{reads, reads-due}
use Rattle.cevents.proofs.packets.quick_in.Goals as goal

pub slice_bounds-put_packet-end : goal.slice_bounds-put_packet-end
slice_bounds-put_packet-end c =
    let w = reads _ _ _ _ (sym c.reads_on.ensures ∙ c.if-not-reads_on.false) in
    let d = reads-due _ _ _ _ w in
    omega (arith, d.within, w.packet, c.requires.0)

pub read_on-held-requires : goal.read_on-held-requires
read_on-held-requires c =
    let w = reads _ _ _ _ (sym c.reads_on.ensures ∙ c.if-not-reads_on.false) in
    let d = reads-due _ _ _ _ w in
    let b = c.requires.1 in
    (w.packet, omega (arith, d.due, w.packet), omega (arith, d.within, w.packet))

pub returns : goal.returns
returns c =
    let a = c.args in
    let h = a.held.now in
    let w = reads _ _ _ _ (sym c.reads_on.ensures ∙ c.if-not-reads_on.false) in
    let n : 512 * a.place.first + h.flat.place + 64 - (512 * a.place.first + h.flat.place) ≡ 64 = add-sub_cancel_left _ _ in
    record {
      answers = λ t e us v.
          simp (some-is _ _ e, c.from.ensures, c.read_on-held.ensures, c.put_packet.ensures, n) (sym (quick-in h.given h.flat us a.medium.now a.place v a.buffer.now w h.part));
      keeps = λ e. no_other _ _ refl e;
    }
