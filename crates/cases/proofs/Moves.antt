-- How much the thirteen cases move, and when the halt comes: the claim of specs/Claims.antt, and two laws by name. Assumes nothing.
use Prim.Native.Nat.{ℕ, ◌≤◌, ◌<◌}
use mathlib.Core.Path.{◌≡◌, refl, sym, subst}
use mathlib.Core.Bool.{Bool, true, false}
use native.Mathlib.Omega.{arith}
use lib.Dec.{ltb, eqb}
use borrow.Author.Tests.{ltb-true, ltb-false, eqb-true, eq-eqb, ne_eqb}
use Rattle.wire.specs.Choice.{when◌then◌else◌}
use Rattle.wire.proofs.Cases.{by-if, if-true, if-false}
use Rattle.cases.specs.declared.Transfer.{Transfer}
use Rattle.cases.specs.declared.Transfer.TheVariants.{None, In, Out}
use Rattle.cases.specs.declared.Pipe.{Pipe}
use Rattle.cases.specs.declared.Pipe.TheVariants as pipe
use Rattle.cases.specs.declared.Ending.TheVariants.{Command}
use Rattle.cases.specs.declared.Halt.{Halt}
use Rattle.cases.specs.Cases.{plain, same_way, counted, meeting, case_of}
use Rattle.cases.specs.Claims.{amount, is_after_data, after_data, Follows, nothing_moves, no_match, all_in, all_out, CasesFollow}

same_way_lem : (p : Pipe) (host has : ℕ) (t : Transfer) → (has ≤ host → Follows host has (plain t (after_data p host has))) → Follows host has (same_way p host has t)
unfolding same_way after_data is_after_data
same_way_lem p host has t f =
    by-if (Follows host has) (ltb has host) _ _ (λ e. subst (λ (h : Halt). Follows host has (plain t h)) (if-true _ _ _ e) (f (let l = ltb-true has host e in omega arith)))
    (λ n. by-if (Follows host has) (eqb has host) _ _
    (λ e. subst (λ (h : Halt). Follows host has (plain t h)) (if-false _ _ _ n) (f (let l = eqb-true has host e in omega arith)))
    (λ _. no_match refl))

meets : (host has : Transfer) → Follows (amount host) (amount has) (meeting host has)
unfolding meeting is_after_data
meets None None = nothing_moves refl
meets None (In d) = no_match refl
meets None (Out d) = no_match refl
meets (In h) None = nothing_moves refl
meets (In h) (In d) = same_way_lem _ h d (In d) all_in
meets (In h) (Out d) = no_match refl
meets (Out h) None = nothing_moves refl
meets (Out h) (In d) = no_match refl
meets (Out h) (Out d) = same_way_lem _ h d (Out d) all_out

counts : (t : Transfer) → amount (counted t) ≡ amount t
unfolding counted
counts None = refl
counts (In n) = by-if (λ (t : Transfer). amount t ≡ n) (eqb n 0) None (In n) (λ e. sym (eqb-true n 0 e)) (λ _. refl)
counts (Out n) = by-if (λ (t : Transfer). amount t ≡ n) (eqb n 0) None (Out n) (λ e. sym (eqb-true n 0 e)) (λ _. refl)

pub cases_follow : CasesFollow
unfolding case_of
cases_follow host has =
    subst (λ (a : ℕ). Follows a (amount has) (case_of host has)) (counts host)
    (subst (λ (a : ℕ). Follows (amount (counted host)) a (case_of host has)) (counts has) (meets (counted host) (counted has)))

-- ---- what follows where host and device name one pipe, and where the device has nothing

abbrev pub over : Pipe → ℕ → Transfer
over pipe.In n = In n
over pipe.Out n = Out n

some : (p : Pipe) (n : ℕ) → 0 < n → counted (over p n) ≡ over p n
unfolding counted
some pipe.In n h = if-false _ _ _ (ne_eqb n 0 (λ e. omega arith))
some pipe.Out n h = if-false _ _ _ (ne_eqb n 0 (λ e. omega arith))

-- no more than is announced: all of it moves
enough : (p : Pipe) (a n : ℕ) (t : Transfer) (b : Bool) → n ≤ a → ltb n a ≡ b → same_way p a n t ≡ plain t (after_data p a n)
unfolding same_way after_data when◌then◌else◌
enough p a n t true l e = simp e
enough p a n t false l e = let g = ltb-false n a e in let q : n ≡ a = omega arith in simp (e, eq-eqb n a q)

all_of : (p : Pipe) (a n : ℕ) → n ≤ a → meeting (over p a) (over p n) ≡ plain (over p n) (after_data p a n)
unfolding meeting
all_of pipe.In a n l = enough pipe.In a n (In n) (ltb n a) l refl
all_of pipe.Out a n l = enough pipe.Out a n (Out n) (ltb n a) l refl

pub all-moves : (p : Pipe) (a n : ℕ) → 0 < n → n ≤ a → case_of (over p a) (over p n) ≡ plain (over p n) (after_data p a n)
unfolding case_of
all-moves p a n h l = rw (some p a (omega arith)) (rw (some p n h) (all_of p a n l))

-- no bytes count as none
nothing : (t : Transfer) → amount t ≡ 0 → counted t ≡ None
unfolding counted
nothing None e = refl
nothing (In n) e = if-true _ _ _ (eq-eqb n 0 e)
nothing (Out n) e = if-true _ _ _ (eq-eqb n 0 e)

-- no data moves, and the status is the command's own
pub none_moves : (t has : Transfer) → amount has ≡ 0 → ((case_of t has).moves ≡ None) × ((case_of t has).ending ≡ Command)
unfolding case_of meeting
none_moves t has e = rw (nothing has e) (alone (counted t))
  where
    alone : (t : Transfer) → ((meeting t None).moves ≡ None) × ((meeting t None).ending ≡ Command)
    alone None = (refl, refl)
    alone (In n) = (refl, refl)
    alone (Out n) = (refl, refl)
