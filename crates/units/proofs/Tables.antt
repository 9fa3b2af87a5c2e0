-- What the loops over a table keep. Assumes nothing.
use Prim.Native.Nat.{ℕ, ◌+◌, ◌-◌, ◌*◌, ◌≤◌, ◌<◌}
use mathlib.Core.Path.{◌≡◌, refl, ap, ◌∙◌}
use mathlib.Core.Bool.{Bool, true, false, ◌&&◌}
use mathlib.Core.List.{[], ◌∷◌, ◌++◌, map}
use native.Mathlib.Omega.{arith}
use lib.Dec.{eqb}
use lib.ListN.{length, take, drop, get_or, set}
use borrow.Author.Tests.{eq-eqb, ne_eqb, leb-true}
use Rattle.std.specs.List.{list_all}
use Rattle.std.proofs.lemmas.List.{drop_more, get_or_default}
use Rattle.std.proofs.lemmas.List.Edits.{map_over_more}
use Rattle.std.proofs.lemmas.Bool.Decides.{same_from_decides, Decides-eqb}
use Rattle.wire.specs.Choice.{◌and◌}
use Rattle.wire.proofs.Cases.{both}
use Rattle.machine.specs.declared.record.LogicalUnit.{LogicalUnit}
use Rattle.machine.specs.Units.{block_size, most_blocks, size_fits, Table, every, total, follow}

and_is : (a b : Bool) → (a && b) ≡ (a and b)
unfolding ◌and◌
and_is true b = refl
and_is false b = refl

pub every_is : (test : LogicalUnit → Bool) (us : Table) → list_all test us ≡ every test us
unfolding every
every_is test [] = refl
every_is test (u ∷ us) = let r = every_is test us in let a = and_is (test u) (list_all test us) in cc

-- ---- the parts, one unit after the other

follow_at : (us : Table) (n i : ℕ) (d : LogicalUnit) → i < length us
    → follow n (drop i us) ≡ (eqb (get_or us i d).first n and size_fits (get_or us i d).blocks and follow (n + (get_or us i d).blocks) (drop (i + 1) us))
unfolding follow
follow_at us n i d l = ap (follow n) (drop_more us i d l)

-- a unit that begins elsewhere, one of a size outside the limit, and one that follows on
pub elsewhere : (us : Table) (n i : ℕ) (d : LogicalUnit) → i < length us → ((get_or us i d).first ≡ n → ⊥) → follow n (drop i us) ≡ false
unfolding ◌and◌
elsewhere us n i d l k = follow_at us n i d l ∙ simp (ne_eqb _ _ k)

pub no_size : (us : Table) (n i : ℕ) (d : LogicalUnit) → i < length us → (get_or us i d).first ≡ n → size_fits (get_or us i d).blocks ≡ false → follow n (drop i us) ≡ false
unfolding ◌and◌
no_size us n i d l e k = follow_at us n i d l ∙ simp (eq-eqb _ _ e, k)

pub follows_on : (us : Table) (n i : ℕ) (d : LogicalUnit) → i < length us → (get_or us i d).first ≡ n → size_fits (get_or us i d).blocks ≡ true
    → follow n (drop i us) ≡ follow (n + (get_or us i d).blocks) (drop (i + 1) us)
unfolding ◌and◌
follows_on us n i d l e k = follow_at us n i d l ∙ simp (eq-eqb _ _ e, k)

pub sized : (n : ℕ) → size_fits n ≡ true → n ≤ most_blocks
unfolding size_fits
sized n e = leb-true _ _ (both _ _ e).1

-- ---- the blocks that a length is for

eqb-minus : (a b c : ℕ) → b ≤ a → eqb a (b + c) ≡ eqb (a - b) c
eqb-minus a b c l =
    let d = Decides-eqb (a - b) c in
    same_from_decides _ _ (Decides-eqb a (b + c)) (λ e. let f = d.0 e in omega arith, λ e. d.1 (omega arith))

total_at : (us : Table) (i : ℕ) (d : LogicalUnit) → i < length us → total (drop i us) ≡ (get_or us i d).blocks + total (drop (i + 1) us)
unfolding total
total_at us i d l = ap total (drop_more us i d l)

-- a unit that the rest has room for, and one that it has not
pub room : (us : Table) (i rest : ℕ) (d : LogicalUnit) → i < length us → block_size * (get_or us i d).blocks ≤ rest
    → eqb rest (block_size * total (drop i us)) ≡ eqb (rest - block_size * (get_or us i d).blocks) (block_size * total (drop (i + 1) us))
room us i rest d l k =
    let t = total_at us i d l in
    let e : block_size * total (drop i us) ≡ block_size * (get_or us i d).blocks + block_size * total (drop (i + 1) us) = omega arith in
    ap (eqb rest) e ∙ eqb-minus rest (block_size * (get_or us i d).blocks) (block_size * total (drop (i + 1) us)) k

pub no_room : (us : Table) (i rest : ℕ) (d : LogicalUnit) → i < length us → rest < block_size * (get_or us i d).blocks
    → eqb rest (block_size * total (drop i us)) ≡ false
no_room us i rest d l k = let t = total_at us i d l in ne_eqb _ _ (λ e. omega arith)

-- ---- a change of every unit in its place

pub mapped_more : (f : LogicalUnit → LogicalUnit) (us now : Table) (i : ℕ) (d u : LogicalUnit) → i < length us → i < length now
    → now ≡ map f (take i us) ++ drop i us → u ≡ f (get_or now i d) → set now i u ≡ map f (take (i + 1) us) ++ drop (i + 1) us
mapped_more f us now i d u l k e r =
    let x = get_or now i d in
    ap (set now i) r ∙ map_over_more f us now i x l e (get_or_default now i d x k)
