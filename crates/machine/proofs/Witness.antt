-- The closed runs of specs/Witness.antt, computed by the checker. Assumes nothing.
use Prim.Native.Nat.{ℕ, zero, suc}
use mathlib.Core.Path.{◌≡◌, refl, sym, subst}
use mathlib.Core.List.{List, [], ◌∷◌, ◌++◌}
use native.Mathlib.Omega.{arith}
use lib.ListN.{length, replicate}
use Rattle.machine.specs.declared.answer.Answer.{Answer}
use Rattle.machine.specs.declared.answer.Answer.TheVariants.{Ack}
use Rattle.machine.specs.Units.{unit_at, part_of}
use Rattle.machine.specs.Machine.{Event, bulk_out}
use Rattle.machine.specs.Tally.{Log, start, noted, observed}
use Rattle.machine.specs.Claim.{answers, lived}
use Rattle.machine.specs.Sheet.{parts, cbw, test_unit_ready, on_blocks, configure, sent, hands, status, events, due, told}
use Rattle.machine.specs.SeveralUnits.{for_unit, writes, reads}
use Rattle.machine.specs.Isolation.{IsWriting, same, data_to, AllAlike}
use Rattle.machine.specs.Witness.{part_write, WriteCut, closed_write, SwitchClosed, part_write_there, WriteCutThere, holding, one_and_one, story, handed_out, said, UnitsApart, test, tries, LockRecovered, ask_page, PageCut, RangeRefused}
use Rattle.machine.proofs.Compute.{computes}

pub write-cut : WriteCut
unfolding computes parts cbw on_blocks part_write
write-cut = record { makes = refl; acked = refl; configured = refl; held = refl; recovers = refl; arrived = refl; medium = refl }

pub switch_closed : SwitchClosed
unfolding computes parts cbw on_blocks closed_write
switch_closed = record { acked = refl; configured = refl; closed = refl; none = refl; recovers = refl; medium = refl; keeps = refl; anew = refl }

pub write_cut_there : WriteCutThere
unfolding computes parts cbw on_blocks part_write_there
write_cut_there = record {
  cut = record { makes = refl; acked = refl; configured = refl; held = refl; recovers = refl; arrived = refl; medium = refl };
  closed = refl;
  opened = refl;
  anew = refl;
}

-- ---- two histories

-- a history is alike itself, to its end or as far as another two are alike
alike_same : (b : ℕ) (l : Log) (es : List Event) (said : List Answer) → length es ≡ length said → AllAlike b l es said es
unfolding AllAlike
alike_same b l [] said n = tt
alike_same b l (e ∷ es) [] n = absurd (omega arith)
alike_same b l (e ∷ es) (a ∷ said) n = (same e, alike_same b (noted l e a) es said (omega arith))

alike_then : (b : ℕ) (l : Log) (es fs fs' : List Event) (said more : List Answer) → length es ≡ length said → AllAlike b (observed noted l es said) fs more fs'
    → AllAlike b l (es ++ fs) (said ++ more) (es ++ fs')
unfolding AllAlike observed
alike_then b l [] fs fs' [] more n h = h
alike_then b l [] fs fs' (a ∷ said) more n h = absurd (omega arith)
alike_then b l (e ∷ es) fs fs' [] more n h = absurd (omega arith)
alike_then b l (e ∷ es) fs fs' (a ∷ said) more n h = (same e, alike_then b (noted l e a) es fs fs' said more (omega arith) h)

-- unit 0 holds the same in both, and there is no third
media-apart : (n : ℕ) → (n ≡ 1 → ⊥) → part_of (unit_at one_and_one.units n) (holding 0) ≡ part_of (unit_at one_and_one.units n) (holding 5)
unfolding computes parts holding
media-apart zero h = refl
media-apart (suc zero) h = absurd (h refl)
media-apart (suc (suc n)) h = refl

-- a packet of data for unit 1, other bytes
alike_data : (l : Log) (es es' : List Event) (said : List Answer) → IsWriting 1 l.tally
    → AllAlike 1 (noted l (bulk_out (replicate 64 7)) Ack) es said es' → AllAlike 1 l (bulk_out (replicate 64 7) ∷ es) (Ack ∷ said) (bulk_out (replicate 64 9) ∷ es')
unfolding AllAlike
alike_data l es es' said w h = (data_to refl w, h)

alike : AllAlike 1 (start one_and_one) (events (story 0 7)) said (events (story 5 9))
unfolding computes parts cbw on_blocks configure sent hands status events for_unit writes reads story said
alike =
    alike_then 1 _ (events (configure ∷ reads 0 3 ++ reads 1 0 ++ for_unit 1 0x00 512 (on_blocks 0x2A 0 1) ∷ [])) _ _ (Ack ∷ handed_out ++ handed_out ++ Ack ∷ []) _ refl
    (alike_data _ _ _ _ refl
    (alike_data _ _ _ _ refl
    (alike_data _ _ _ _ refl
    (alike_data _ _ _ _ refl
    (alike_data _ _ _ _ refl
    (alike_data _ _ _ _ refl
    (alike_data _ _ _ _ refl
    (alike_data _ _ _ _ refl (alike_same 1 _ _ _ refl)))))))))

units-said : answers (lived one_and_one (events (story 0 7))).replies ≡ said
unfolding computes parts cbw on_blocks configure sent hands status events for_unit writes reads holding story said
units-said = refl

pub units-apart : UnitsApart
unfolding computes parts cbw on_blocks configure sent hands status events due told for_unit writes reads holding story said
units-apart = record {
  makes = refl;
  media = record { size = refl; others = media-apart };
  alike = subst (λ (a : List Answer). AllAlike 1 (start one_and_one) (events (story 0 7)) a (events (story 5 9))) (sym units-said) alike;
  same = units-said;
  same' = refl;
  bytes = refl;
  bytes' = refl;
}

pub lock_recovered : LockRecovered
unfolding computes parts cbw test_unit_ready test tries
lock_recovered = record { due = (test, refl, refl); unaccepted = refl; unrefused = refl; undropped = refl; replies = refl }

pub page-cut : PageCut
unfolding computes parts cbw ask_page
page-cut = record {
  some = record { fit = refl; medium = refl; due = record { configured = refl; unhalted = refl; ready = refl }; accepts = refl; plan = refl };
  takes = record { haltin = refl; inward = refl; room = omega arith };
  sent = refl;
  none = record { fit = refl; medium = refl; due = record { configured = refl; unhalted = refl; ready = refl }; accepts = refl; plan = refl };
}

pub range-refused : RangeRefused
unfolding computes parts cbw on_blocks
range-refused = record {
  fails = record { fit = refl; medium = refl; due = record { configured = refl; unhalted = refl; ready = refl }; accepts = refl; plan = refl };
}
