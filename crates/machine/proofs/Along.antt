-- The one induction over lists of events: what an observer has noted and what a run has come to stay in a relation that each event keeps. Assumes nothing.
use mathlib.Core.Path.{◌≡◌, refl}
use mathlib.Core.List.{List, [], ◌∷◌, ◌++◌}
use Rattle.machine.specs.declared.answer.Answer.{Answer}
use Rattle.machine.specs.World.{World}
use Rattle.machine.specs.Machine.{Event, step, run}
use Rattle.machine.specs.Tally.{observed}
use Rattle.machine.specs.Claim.{answers}

pub along : {L : Type 0} (f : L → Event → Answer → L) (I : L → World → Type 0)
    → ((l : L) (w : World) (e : Event) → I l w → I (f l e (step w e).answer) (step w e).world)
    → (l : L) (w : World) (es : List Event)
    → I l w → I (observed f l es (answers (run w es).replies)) (run w es).world
unfolding run observed answers
along f I k l w [] i = i
along f I k l w (e ∷ es) i = along f I k (f l e (step w e).answer) (step w e).world es (k l w e i)

-- a law of one world, with no observer
pub always : (I : World → Type 0) → ((w : World) (e : Event) → I w → I (step w e).world) → (w : World) (es : List Event) → I w → I (run w es).world
always I k w es i = along (λ (u : Unit {0}) (e : Event) (a : Answer). u) (λ (u : Unit {0}) (x : World). I x) (λ u x e h. k x e h) tt w es i

-- a run of two lists is the second run from where the first ended
pub run-append : (w : World) (es fs : List Event) → (run w (es ++ fs)).world ≡ (run (run w es).world fs).world
unfolding run
run-append w [] fs = refl
run-append w (e ∷ es) fs = run-append (step w e).world es fs
