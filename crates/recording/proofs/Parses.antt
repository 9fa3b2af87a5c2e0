-- What a recording is, by whether it is well formed. Assumes nothing.
use Prim.Native.Nat.{ℕ, zero, suc, ◌+◌, ◌*◌, ◌≤◌}
use mathlib.Core.Path.{◌≡◌, refl, sym, ap, subst}
use mathlib.Core.Bool.{true, false}
use mathlib.Core.List.{List}
use lib.ListN.{length, drop}
use borrow.Author.Tests.{leb-true}
use Rattle.wire.proofs.Cases.{both, if-true, if-false}
use Rattle.recording.specs.Format.{length_in, formed, events_in, count_of, table_of, bodies_of, is_formed, malformed, well_formed, parse}

pub events-count : (u n : ℕ) (t b : List ℕ) → length (events_in u n t b) ≡ n
unfolding events_in
events-count u zero t b = refl
events-count u (suc n) t b = ap suc (events-count u n (drop 4 t) (drop (length_in t) b))

pub parse_bad : (u : ℕ) (s : List ℕ) → is_formed u s ≡ false → parse u s ≡ malformed
unfolding parse
parse_bad u s f = if-false _ _ _ f

pub parse_good : (u : ℕ) (s : List ℕ) → is_formed u s ≡ true → parse u s ≡ well_formed (events_in u (count_of s) (table_of s) (bodies_of s))
unfolding parse
parse_good u s f = if-true _ _ _ f

-- ---- what a well-formed recording has

pub record Sound (u : ℕ) (s : List ℕ) (n : ℕ) : Type 0 where
  pub few : n ≤ 1024
  pub room : 2 + 4 * n ≤ length s
  pub good : formed u n (drop 2 s) (drop (2 + 4 * n) s) ≡ true

pub sound : (u : ℕ) (s : List ℕ) (n : ℕ) → is_formed u s ≡ true → n ≡ count_of s → Sound u s n
unfolding is_formed
sound u s n f e =
    let a = both _ _ (both _ _ (both _ _ f).1).1 in
    let b = both _ _ a.1 in
    subst (Sound u s) (sym e) (record { few = leb-true _ _ a.0; room = leb-true _ _ b.0; good = b.1 })
