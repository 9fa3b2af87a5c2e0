-- `quick_out` meets its contract. Assumes nothing.
use mathlib.Core.Path.{◌≡◌, refl, sym}
use native.Mathlib.Omega.{arith}
use lib.ListN.{length}
use borrow.Author.Rules.{rules}
use Rattle.cevents.proofs.Options.{no_other, some-is}
use Rattle.cevents.proofs.Ways.{quick-part, quick-block, quick-end}
use Rattle.cevents.proofs.Due.{gathers_due}
use Rattle.cevents.proofs.packets.quick_out.Goals as goal

pub returns-then-not-gathers : goal.returns-then-not-gathers
returns-then-not-gathers c = record { answers = λ t e. no_other _ _ e refl; keeps = λ _. (refl, refl) }

pub overflow_add-flat : goal.overflow_add-flat
overflow_add-flat c =
    let d = gathers_due _ _ _ _ (c.gathers.ensures c.if-not-gathers.false) in
    record { fits = omega (arith, d.room) }

pub returns-then-flat-lt512 : goal.returns-then-flat-lt512
returns-then-flat-lt512 c =
    let a = c.args in
    let h = a.held.now in
    let w = c.gathers.ensures c.if-not-gathers.false in
    record {
      answers = λ t e us v. simp (some-is _ _ e, c.from-ack.ensures, c.moved_on-held.ensures, c.put_packet.ensures) (sym (quick-part h.given h.flat us a.medium.now a.place v a.packet.now h.part w c.if-flat-lt512.true));
      keeps = λ e. no_other _ _ refl e;
    }

pub returns-then-flat-eq1 : goal.returns-then-flat-eq1
returns-then-flat-eq1 c =
    let a = c.args in
    let h = a.held.now in
    let w = c.gathers.ensures c.if-not-gathers.false in
    let k = c.if-flat-lt512.false in
    let l : length h.part ≡ 512 = search rules in
    record {
      answers = λ t e us v.
          simp (some-is _ _ e, c.from-ack.ensures, c.moved_on-held-then-flat-eq1.ensures, c.wipe.ensures, c.put.ensures.1, c.put_packet.ensures)
          (sym (quick-end h.given h.flat us a.medium.now a.place v a.packet.now h.part w c.if-flat-eq1.true (w.last c.if-flat-eq1.true) l (λ x. omega arith)));
      keeps = λ e. no_other _ _ refl e;
    }

pub overflow_sub-flat : goal.overflow_sub-flat
overflow_sub-flat c =
    let w = c.gathers.ensures c.if-not-gathers.false in
    let d = gathers_due _ _ _ _ w in
    omega (arith, d.due, w.some)

pub overflow_add-flat-2 : goal.overflow_add-flat-2
overflow_add-flat-2 c =
    let w = c.gathers.ensures c.if-not-gathers.false in
    let d = gathers_due _ _ _ _ w in
    record { fits = omega (arith, d.within, w.some) }

pub overflow_sub-flat-2 : goal.overflow_sub-flat-2
overflow_sub-flat-2 c =
    let w = c.gathers.ensures c.if-not-gathers.false in
    omega (arith, w.some)

pub returns : goal.returns
returns c =
    let a = c.args in
    let h = a.held.now in
    let w = c.gathers.ensures c.if-not-gathers.false in
    let k = c.if-flat-lt512.false in
    let l : length h.part ≡ 512 = search rules in
    record {
      answers = λ t e us v.
          simp (some-is _ _ e, c.from-ack.ensures, c.moved_on-held-2.ensures, c.wipe.ensures, c.put.ensures.1, c.put_packet.ensures)
          (sym (quick-block h.given h.flat us a.medium.now a.place v a.packet.now h.part w (omega (arith, w.some, c.if-flat-eq1.false)) l (λ x. omega arith)));
      keeps = λ e. no_other _ _ refl e;
    }
