-- What a making leaves, acked or refused. Assumes nothing.
use Prim.Native.Nat.{ℕ}
use mathlib.Core.Path.{◌≡◌, refl}
use mathlib.Core.Bool.{true}
use mathlib.Core.List.{List}
use native.Mathlib.Omega.{arith}
use lib.ListN.{length}
use Rattle.wire.proofs.Cases.{by-if}
use Rattle.machine.specs.declared.answer.Answer.TheVariants.{Ack, Refused}
use Rattle.machine.specs.declared.answer.Refusal.{Refusal}
use Rattle.machine.specs.Units.{as_made, laid_out, medium_fits}
use Rattle.machine.specs.Record.{fresh}
use Rattle.machine.specs.Fits.{number_fits}
use Rattle.machine.specs.World.{world}
use Rattle.machine.specs.Making.{Made, made, not_made, make}
use Rattle.machine.specs.Tally.{Making}
use Rattle.machine.specs.Claim.{born, Makes}

-- what an acked making has found
pub record Sound (k : Making) : Type 0 where
  pub laid : laid_out k.units ≡ true
  pub whole : medium_fits k.units k.medium ≡ true
  pub numbered : number_fits k.identity.number ≡ true

pub by_making : (P : Made → Type 0) (k : Making) → (Sound k → P (made Ack (fresh k.identity) (as_made k.units))) → ((r : Refusal) → P (not_made r k.units))
    → P (make k.identity k.units k.medium)
unfolding make
by_making P k f g =
    by-if P (laid_out k.units) _ _
    (λ l. by-if P (medium_fits k.units k.medium) _ _
    (λ m. by-if P (number_fits k.identity.number) _ _ (λ n. f (record { laid = l; whole = m; numbered = n })) (λ _. g _))
    (λ _. g _))
    (λ _. g _)

refused : (r : Refusal) → Refused r ≡ Ack → ⊥
refused r e = let z : ◌≡◌ {A = ℕ} 0 1 = cc in omega arith

pub sound : (k : Making) → Makes k → Sound k
sound k = by_making (λ (r : Made). r.answer ≡ Ack → Sound k) k (λ s _. s) (λ r e. absurd (refused r e))

pub born-fresh : (k : Making) → Makes k → born k ≡ world (fresh k.identity) (as_made k.units) k.medium
unfolding born
born-fresh k =
    by_making (λ (r : Made). r.answer ≡ Ack → world r.dev r.units k.medium ≡ world (fresh k.identity) (as_made k.units) k.medium) k (λ _ _. refl) (λ r e. absurd (refused r e))

-- over a medium of the same length it is made again
pub made_again : (k : Making) (m : List ℕ) → length m ≡ length k.medium → Makes k → Makes (record { identity = k.identity; units = k.units; medium = m })
unfolding make medium_fits
made_again k m e ok = rw e ok
