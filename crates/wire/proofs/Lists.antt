-- Laws of slices as lists. Assumes nothing.
use Prim.Native.Nat.{ℕ, zero, suc, ◌+◌, ◌-◌, ◌≤◌, ◌<◌}
use mathlib.Core.Path.{◌≡◌, refl, sym, ap, ap₂, ◌∙◌}
use mathlib.Core.Bool.{true, false}
use mathlib.Core.List.{List, [], ◌∷◌, ◌++◌, append-nil, append_assoc, reverse, reverse-cons}
use native.Mathlib.Omega.{arith}
use native.Mathlib.Numerals.{add-one}
use native.Mathlib.Nat.{add_assoc, add-zero}
use lib.ListN.{length, take, drop, get_or, length-append, length-drop, take-append-drop, drop_of_length-le}
use lib.Seq.{drop-cons, drop-drop, take_all, take_at, length-take-le, drop-append-add}
use borrow.Author.Tests.{le-leb, lt-leb, leb-true, eqb-true}
use Rattle.wire.specs.Choice.{when◌then◌else◌}
use Rattle.wire.specs.Slices.{byte_at, bytes_at, Every, starts_with, fits, placed}
use Rattle.wire.proofs.Cases.{both, by-if}

-- a part from a on, as the borrow checker states it
pub tail_is : (a : ℕ) (s : List ℕ) → take (length s - a) (drop a s) ≡ drop a s
tail_is a s = take_all (length s - a) (drop a s) (simp length-drop (omega arith))

-- ---- bytes in front

pub starts_take : (f s : List ℕ) → starts_with f s ≡ true → take (length f) s ≡ f
unfolding starts_with
starts_take [] s e = refl
starts_take (x ∷ f) [] e = let z : ◌≡◌ {A = ℕ} 0 1 = cc in absurd (omega arith)
starts_take (x ∷ f) (y ∷ s) e = ap₂ ◌∷◌ (eqb-true y x (both _ _ e).0) (starts_take f s (both _ _ e).1)

-- ---- a copy into a slice

pub fits_yes : (d : List ℕ) (at : ℕ) (s : List ℕ) → at + length s ≤ length d → fits d at s ≡ true
unfolding fits
fits_yes d at s h = le-leb _ _ h

pub fits_no : (d : List ℕ) (at : ℕ) (s : List ℕ) → length d < at + length s → fits d at s ≡ false
unfolding fits
fits_no d at s h = lt-leb _ _ h

pub placed_yes : (d : List ℕ) (at : ℕ) (s : List ℕ) → at + length s ≤ length d → placed d at s ≡ take at d ++ s ++ drop (at + length s) d
unfolding placed when◌then◌else◌
placed_yes d at s h = simp (fits_yes d at s h)

pub placed_no : (d : List ℕ) (at : ℕ) (s : List ℕ) → length d < at + length s → placed d at s ≡ d
unfolding placed when◌then◌else◌
placed_no d at s h = simp (fits_no d at s h)

-- a copy keeps the length
pub length-placed : (d : List ℕ) (at : ℕ) (s : List ℕ) → length (placed d at s) ≡ length d
unfolding placed fits
length-placed d at s =
    by-if (λ (l : List ℕ). length l ≡ length d) (fits d at s) (take at d ++ s ++ drop (at + length s) d) d
    (λ e.
    let h : at + length s ≤ length d = leb-true _ _ e in
    length-append (take at d ++ s) (drop (at + length s) d)
    ∙ (let a = length-append (take at d) s in let b = length-take-le at d (omega arith) in let c = length-drop (at + length s) d in omega arith))
    (λ _. refl)

-- s takes the whole of d
pub placed-whole : (d s : List ℕ) → length s ≡ length d → placed d 0 s ≡ s
placed-whole d s e =
    placed_yes d 0 s (omega arith)
    ∙ ap (λ (l : List ℕ). s ++ l) (drop_of_length-le d {i = 0 + length s} (omega arith))
    ∙ append-nil s

-- s takes the end of d
pub placed_end : (d : List ℕ) (at : ℕ) (s : List ℕ) → at + length s ≡ length d → placed d at s ≡ take at d ++ s
placed_end d at s e =
    placed_yes d at s (omega arith)
    ∙ ap (λ (l : List ℕ). (take at d ++ s) ++ l) (drop_of_length-le d {i = at + length s} (omega arith))
    ∙ append-nil (take at d ++ s)

-- one copy behind the other is one copy of both
pub placed_more : (t : List ℕ) (at : ℕ) (s u : List ℕ) → at + length s + length u ≤ length t
    → placed (placed t at s) (at + length s) u ≡ placed t at (s ++ u)
placed_more t at s u h =
    let n = length-append s u in
    let first = placed_yes t at s (omega arith) in
    let l = length-placed t at s in
    let whole = placed_yes t at (s ++ u) (omega arith) in
    let front : length (take at t ++ s) ≡ at + length s = length-append (take at t) s ∙ ap (λ (k : ℕ). k + length s) (length-take-le at t (omega arith)) in
    placed_yes (placed t at s) (at + length s) u (omega arith)
    ∙ ap (λ (w : List ℕ). take (at + length s) w ++ u ++ drop (at + length s + length u) w) first
    ∙ ap₂ (λ (a b : List ℕ). a ++ u ++ b)
    (take_at (take at t ++ s) (drop (at + length s) t) (at + length s) front)
    (ap (λ (k : ℕ). drop (k + length u) (take at t ++ s ++ drop (at + length s) t)) (sym front)
    ∙ drop-append-add (take at t ++ s) (drop (at + length s) t) (length u)
    ∙ drop-drop (length u) (at + length s) t)
    ∙ ap₂ (λ (a : List ℕ) (k : ℕ). a ++ drop k t) (append_assoc (take at t) s u) (add_assoc at (length s) (length u) ∙ ap (λ (k : ℕ). at + k) (sym n))
    ∙ sym whole

pub placed-none : (t : List ℕ) (at : ℕ) → placed t at [] ≡ t
unfolding placed
placed-none t at =
    by-if (λ (l : List ℕ). l ≡ t) (fits t at []) _ _
    (λ _. ap₂ (λ (a : List ℕ) (k : ℕ). a ++ drop k t) (append-nil (take at t)) (add-zero at) ∙ take-append-drop at t)
    (λ _. refl)

-- ---- the bytes from a place on

pub bytes_tail : (n at : ℕ) (s : List ℕ) → at + n ≤ length s → bytes_at n at s ≡ take n (drop at s)
unfolding bytes_at
bytes_tail zero at s h = refl
bytes_tail (suc n) at s h = rw (drop-cons s at 0 (omega arith), ← add-one at) (ap (λ (l : List ℕ). get_or s at 0 ∷ l) (bytes_tail n (at + 1) s (omega arith)))

-- lists that have the same bytes there
pub bytes_same : (n at : ℕ) (s t : List ℕ) → ((i : ℕ) → i < at + n → byte_at s i ≡ byte_at t i) → bytes_at n at s ≡ bytes_at n at t
unfolding bytes_at
bytes_same zero at s t h = refl
bytes_same (suc n) at s t h = ap₂ ◌∷◌ (h at (omega arith)) (bytes_same n (at + 1) s t (λ i l. h i (omega arith)))

pub length-bytes : (n at : ℕ) (s : List ℕ) → length (bytes_at n at s) ≡ n
unfolding bytes_at
length-bytes zero at s = refl
length-bytes (suc n) at s = ap suc (length-bytes n (at + 1) s)

pub bytes_front : (n : ℕ) (s : List ℕ) → n ≤ length s → s ≡ bytes_at n 0 s ++ drop n s
bytes_front n s h = sym (ap (λ (l : List ℕ). l ++ drop n s) (bytes_tail n 0 s (omega arith)) ∙ take-append-drop n s)

-- ---- a property of every element

pub every_append : (P : ℕ → Type 0) (s t : List ℕ) → Every P s → Every P t → Every P (s ++ t)
unfolding Every
every_append P [] t h k = k
every_append P (x ∷ s) t h k = (h.0, every_append P s t h.1 k)

pub every-reverse : (P : ℕ → Type 0) (s : List ℕ) → Every P s → Every P (reverse s)
unfolding Every
every-reverse P [] h = h
every-reverse P (x ∷ s) h = rw (reverse-cons x s) (every_append P (reverse s) (x ∷ []) (every-reverse P s h.1) (h.0, tt))

pub every-at : (P : ℕ → Type 0) (s : List ℕ) (i : ℕ) → P 0 → Every P s → P (get_or s i 0)
unfolding Every
every-at P [] i z h = z
every-at P (x ∷ s) zero z h = h.0
every-at P (x ∷ s) (suc i) z h = every-at P s i z h.1

pub every-bytes : (P : ℕ → Type 0) (n at : ℕ) (s : List ℕ) → P 0 → Every P s → Every P (bytes_at n at s)
unfolding Every bytes_at
every-bytes P zero at s z h = tt
every-bytes P (suc n) at s z h = (every-at P s at z h, every-bytes P n (at + 1) s z h)
