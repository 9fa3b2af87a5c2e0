-- The units keep apart, over whole lists of events. Assumes nothing.
use Prim.Native.Nat.{ℕ}
use mathlib.Core.Path.{◌≡◌, refl, sym, subst}
use mathlib.Core.List.{List, [], ◌∷◌}
use Rattle.machine.specs.Units.{as_made}
use Rattle.machine.specs.Record.{device, fresh}
use Rattle.machine.specs.World.{World, world}
use Rattle.machine.specs.Machine.{Event, step, run}
use Rattle.machine.specs.Tally.{Making, Log, start}
use Rattle.machine.specs.Claim.{answers, born, lived}
use Rattle.machine.specs.Isolation.{Source, nothing, AllAlike, AllAgree, over_medium, Isolation}
use Rattle.machine.proofs.Making.{born-fresh, made_again}
use Rattle.machine.proofs.Sim.{Sim, simulates}
use Rattle.machine.proofs.Demand.{begins}
use Rattle.machine.proofs.Twins.{Twin, Matches, event}

module _ (k : Making) (b : ℕ) where
  -- the second collector, written by the first one's record and table
  by_first : (x : Source) (w w' : World) → Twin k.units b x w w' → world (device w.dev.identity w.dev.state w'.dev.part) w.units w'.medium ≡ w'
  by_first x w w' t = λ j. world (device (t.identity j) (t.state j) w'.dev.part) (t.units j) w'.medium

  on : (es es' : List Event) (x : Source) (l : Log) (w w' : World) → Sim k l w → Twin k.units b x w w'
      → AllAlike b l es (answers (run w es).replies) es' → AllAgree k.units b l x es (run w es).replies (run w' es').replies
  unfolding AllAlike AllAgree run answers
  on [] [] x l w w' s t h = tt
  on [] (e' ∷ es') x l w w' s t h = absurd h
  on (e ∷ es) [] x l w w' s t h = absurd h
  on (e ∷ es) (e' ∷ es') x l w w' s t h =
      let one : Matches k.units b x l e (step w e) (step w' e') =
      subst (λ (v : World). Matches k.units b x l e (step w e) (step v e')) (by_first x w w' t)
      (event k b x l w.dev.identity w.dev.state w.units w.dev.part w'.dev.part w.medium w'.medium s t.part t.media t.shape e e' h.0) in (
        record { answers = one.answers; buffers = one.buffers; statuses = one.statuses; media = one.next.media; tables = one.next.units },
        on es es' _ _ (step w e).world (step w' e').world (simulates k l w e s) one.next h.1,
      )

pub isolation : Isolation
unfolding Isolation lived fresh
isolation k ok b m' a es es' h =
    on k b es es' nothing (start k) (born k) (born (over_medium k m')) (begins k ok)
    (subst (λ (w : World). Twin k.units b nothing w (born (over_medium k m'))) (sym (born-fresh k ok))
    (subst (λ (w : World). Twin k.units b nothing (world (fresh k.identity) (as_made k.units) k.medium) w) (sym (born-fresh (over_medium k m') (made_again k m' (sym a.size) ok)))
    (record { identity = refl; state = refl; units = refl; part = λ _. refl; media = a; shape = tt })))
    h
