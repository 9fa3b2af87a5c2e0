-- Demand 3 of the specification machine. Assumes nothing.
use Prim.Native.Nat.{ℕ, suc, ◌≤◌}
use mathlib.Core.Path.{◌≡◌, refl, sym, ap, ◌∙◌, subst}
use mathlib.Core.Bool.{Bool, true, false}
use mathlib.Core.List.{List, [], ◌∷◌, ◌++◌}
use lib.ListN.{length}
use borrow.Author.Tests.{leb-true}
use Rattle.wire.proofs.Lists.{length-placed}
use Rattle.machine.specs.declared.answer.Answer.TheVariants.{Ack}
use Rattle.machine.specs.Units.{Table, cleared, as_made, switches_fit}
use Rattle.machine.specs.Record.{fresh, dropped_state}
use Rattle.machine.specs.Fits.{address_fits}
use Rattle.machine.specs.World.{World, world, dropped}
use Rattle.machine.specs.Machine.{Event, Run, run}
use Rattle.machine.specs.Tally.{Making, Block, Log, start, noted, stored}
use Rattle.machine.specs.Claim.{answers, born, Makes, lived, history, recovery, settings, anew, AsFresh, MediumFromHistory, Recovers, Demand3}
use Rattle.machine.proofs.Along.{along, run-append}
use Rattle.machine.proofs.Tables.{cleared_again, cleared-made, made-made, same-switches}
use Rattle.machine.proofs.Making.{sound, born-fresh, made_again}
use Rattle.machine.proofs.Fit.{Fit, fit_of}
use Rattle.machine.proofs.Sim.{Sim, rests, parts_of, simulates}
use Rattle.machine.proofs.Recover.{recovered, recovery-fits, Acked, set-up}
use Rattle.machine.proofs.Lock.{locks}

-- ---- history, record, table and medium are together from the making on

length-stored : (us : Table) (bs : List Block) (m : List ℕ) → length (stored us m bs) ≡ length m
unfolding stored
length-stored us [] m = refl
length-stored us (b ∷ bs) m = length-stored us bs _ ∙ length-placed m _ b.bytes

module _ (k : Making) (ok : Makes k) where
  pub begins : Sim k (start k) (born k)
  unfolding fresh stored
  begins =
      subst (Sim k (start k)) (sym (born-fresh k ok))
      (record { identity = refl; units = cleared-made k.units; parts = made-made k.units; address = refl; configured = refl; tally = rests tt refl; medium = refl })

  pub together : (es : List Event) → Sim k (history k es) (lived k es).world
  unfolding lived history
  together es = along noted (Sim k) (simulates k) (start k) (born k) es begins

  -- the table's parts are the making's throughout
  pub made-parts : (es : List Event) → as_made (lived k es).world.units ≡ as_made k.units
  made-parts es = parts_of k (history k es) (lived k es).world (together es)

  -- the history's table has no sense
  calm : (es : List Event) → cleared (history k es).units ≡ (history k es).units
  calm es = ap cleared (sym (together es).units) ∙ cleared_again (lived k es).world.units ∙ (together es).units

  pub same_size : (es : List Event) → length (lived k es).world.medium ≡ length k.medium
  same_size es = ap length (together es).medium ∙ length-stored (history k es).units (history k es).arrived k.medium

-- a dropped collector depends on identity, parts, switches, address and medium
dropped-alike : (w w' : World) (a a' : ℕ) (vs : Table) → w.dev.identity ≡ w'.dev.identity → cleared w.units ≡ vs → w.medium ≡ w'.medium → a ≡ a'
    → dropped w a true false false ≡ world (dropped w' a' true false false).dev vs w'.medium
unfolding dropped dropped_state
dropped-alike w w' a a' vs e f g h = cc

dropped-medium : (w : World) (a : ℕ) → (dropped w a true false false).medium ≡ w.medium
unfolding dropped
dropped-medium w a = refl

low_of : (a : ℕ) → address_fits a ≡ true → a ≤ 0x7F
unfolding address_fits
low_of a h = leb-true _ _ h

module _ (k : Making) (ok : Makes k) (es : List Event) (order : Bool) (x y z : List ℕ)
    (acks : answers (run (lived k es).world (recovery order x y z)).replies ≡ (Ack ∷ Ack ∷ Ack ∷ [])) where
  abbrev before : World
  before = (lived k es).world

  abbrev after : Run
  after = lived k (es ++ recovery order x y z)

  abbrev l : Log
  l = history k es

  abbrev k' : Making
  k' = anew k after

  abbrev new : World
  new = world (fresh k.identity) (as_made k.units) after.world.medium

  recovers : after.world ≡ dropped before before.dev.state.address true false false
  unfolding lived
  recovers = run-append (born k) es (recovery order x y z) ∙ recovered before order x y z acks

  makes : Makes k'
  makes = made_again k after.world.medium (same_size k ok (es ++ recovery order x y z)) ok

  -- the recovered collector is a fresh one given the address, configured, its switches set
  back : after.world ≡ world (dropped new l.address true false false).dev (cleared l.units) after.world.medium
  unfolding fresh
  back =
      recovers
      ∙ dropped-alike before new _ _ _ (together k ok es).identity ((together k ok es).units ∙ sym (calm k ok es))
      (sym (ap (λ (w : World). w.medium) recovers ∙ dropped-medium before _)) (together k ok es).address

  fit : Fit before
  fit = fit_of before (recovery-fits before order x y z acks)

  low : l.address ≤ 0x7F
  low = subst (λ (a : ℕ). a ≤ 0x7F) (together k ok es).address (low_of _ fit.address)

  fitted : switches_fit l.units ≡ true
  fitted = same-switches l.units before.units (calm k ok es ∙ sym (together k ok es).units) ∙ fit.switches

  module _ (x' y' : List ℕ) (hx : 64 ≤ length x') (hy : 64 ≤ length y') where
    ready : Acked (born k') (settings l x' y') (suc (suc (length l.units))) (world (dropped new l.address true false false).dev (cleared l.units) after.world.medium)
    unfolding settings
    ready =
        subst (λ (w : World). Acked w (settings l x' y') (suc (suc (length l.units))) (world (dropped new l.address true false false).dev (cleared l.units) after.world.medium))
        (sym (born-fresh k' makes)) (set-up k' (sound k' makes) l.address x' y' low hx hy l.units fitted (together k ok es).parts)

    as-fresh : AsFresh k l after x' y'
    unfolding lived
    as-fresh =
        record {
          makes = makes;
          sets_up = ready.said;
          keeps = ap (λ (w : World). w.medium) ready.comes_to;
          further = λ fs. ap (λ (w : World). run w fs) (back ∙ sym ready.comes_to);
        }

pub demand3 : Demand3
unfolding Demand3 Recovers MediumFromHistory
demand3 k ok es =
    (λ c order x y z acks. ((together k ok (es ++ recovery order x y z)).medium, as-fresh k ok es order x y z acks), locks (lived k es).world)
