-- One event on C's record as it is decoded: what `decoded` promises of an event that it is handed as a closure.
use Rattle.std.specs.Prelude.{◌≡◌, ℕ, List}
use Rattle.std.specs.Borrow.{MutBor}
use Rattle.usb.specs.declared.descriptor.Identity.{Identity}
use Rattle.machine.specs.declared.answer.Answer.{Answer}
use Rattle.machine.specs.declared.record.State.{State}
use Rattle.machine.specs.Answer.{number_of, count_of}
use Rattle.crecord.specs.declared.record.Record.{Record}
use Rattle.crecord.specs.declared.record.Told.{Told}
use Rattle.crecord.specs.Flat.{identity_from, state_from, flat_of, rec, answer}

-- What the event was run on, what it may leave of that (`may`), and that as numbers again.
pub record Ran (may : Identity → MutBor State → MutBor (List ℕ) → Answer → MutBor State → MutBor (List ℕ) → Type 0) (h : Record) (t : Told) (h' : Record) : Type 0 where
  pub identity : Identity
  pub state : MutBor State
  pub part : MutBor (List ℕ)
  pub answered : Answer
  pub state' : MutBor State
  pub part' : MutBor (List ℕ)
  pub ran : may identity state part answered state' part'
  pub of_given : identity ≡ identity_from h.given
  pub of_flat : state.now ≡ state_from h.flat
  pub of_part : part.now ≡ h.part
  pub told : t ≡ answer (number_of answered) (count_of answered)
  pub left : h' ≡ rec h.given (flat_of state'.now) part'.now
