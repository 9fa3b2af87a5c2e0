-- Case laws of the choice, the conjunction and the table. Assumes nothing.
use Prim.Native.Nat.{ℕ}
use mathlib.Core.Path.{◌≡◌, refl, sym, ap, subst, ◌∙◌}
use mathlib.Core.Bool.{Bool, true, false}
use mathlib.Core.List.{List, [], ◌∷◌, ◌++◌}
use mathlib.Core.Logic.{inl, inr}
use lib.Dec.{eqb}
use types.Run.{OneOf}
use native.Mathlib.Omega.{arith}
use borrow.Author.Tests.{ne_eqb, eqb-true}
use Rattle.wire.specs.Choice.{when◌then◌else◌, ◌and◌, Row, look}

pub if-true {ℓ} : {A : Type ℓ} (b : Bool) (x y : A) → b ≡ true → (when b then x else y) ≡ x
unfolding when◌then◌else◌
if-true true x y e = refl
if-true false x y e = let z : ◌≡◌ {A = ℕ} 0 1 = cc in absurd (omega arith)

pub if-false {ℓ} : {A : Type ℓ} (b : Bool) (x y : A) → b ≡ false → (when b then x else y) ≡ y
unfolding when◌then◌else◌
if-false true x y e = let z : ◌≡◌ {A = ℕ} 0 1 = cc in absurd (omega arith)
if-false false x y e = refl

pub by-if {ℓ} : {A : Type ℓ} (P : A → Type 0) (b : Bool) (x y : A) → (b ≡ true → P x) → (b ≡ false → P y) → P (when b then x else y)
unfolding when◌then◌else◌
by-if P true x y f g = f refl
by-if P false x y f g = g refl

pub both : (a b : Bool) → a and b ≡ true → (a ≡ true) × (b ≡ true)
unfolding ◌and◌
both true b e = (refl, e)
both false b e = let z : ◌≡◌ {A = ℕ} 0 1 = cc in absurd (omega arith)

pub and_true : (a b : Bool) → a ≡ true → b ≡ true → a and b ≡ true
unfolding ◌and◌
and_true true b e f = f
and_true false b e f = e

pub and_false : (b : Bool) → (b and false) ≡ false
unfolding ◌and◌
and_false true = refl
and_false false = refl

-- ---- a `match` on a number: what is known in its default, and the table that it reads

module _ {A : Type 0} (x : ℕ) where
  -- the keys that x is not, as a `match` gives them: nested to the left, T innermost
  abbrev pub Rest : Type 0 → List (Row A) → Type 0
  Rest T [] = T
  Rest T (r ∷ rs) = Rest (T × (x ≡ r.key → ⊥)) rs

  inner : (T : Type 0) (rs : List (Row A)) → Rest T rs → T
  inner T [] h = h
  inner T (r ∷ rs) h = (inner (T × (x ≡ r.key → ⊥)) rs h).0

  pub look-rest : (T : Type 0) (rs : List (Row A)) (other : A) → Rest T rs → look rs x other ≡ other
  unfolding look when◌then◌else◌
  look-rest T [] other h = refl
  look-rest T (r ∷ rs) other h = simp (ne_eqb x r.key (inner (T × (x ≡ r.key → ⊥)) rs h).1) (look-rest (T × (x ≡ r.key → ⊥)) rs other h)

-- what holds of every row's entry, and of the other value, holds of what is found
abbrev pub Rows : {A : Type 0} → (A → Type 0) → List (Row A) → Type 0
Rows P [] = Unit {0}
Rows P (r ∷ rs) = P r.entry × Rows P rs

pub look-all : {A : Type 0} (P : A → Type 0) (rs : List (Row A)) (x : ℕ) (other : A) → Rows P rs → P other → P (look rs x other)
unfolding look
look-all P [] x other h o = o
look-all P (r ∷ rs) x other h o = by-if P (eqb x r.key) r.entry (look rs x other) (λ _. h.0) (λ _. look-all P rs x other h.1 o)

-- the same where the row's key is known to be the number
abbrev pub Keyed : {A : Type 0} → (A → Type 0) → ℕ → List (Row A) → Type 0
Keyed P x [] = Unit {0}
Keyed P x (r ∷ rs) = (x ≡ r.key → P r.entry) × Keyed P x rs

pub look_keyed : {A : Type 0} (P : A → Type 0) (rs : List (Row A)) (x : ℕ) (other : A) → Keyed P x rs → P other → P (look rs x other)
unfolding look
look_keyed P [] x other h o = o
look_keyed P (r ∷ rs) x other h o =
    by-if P (eqb x r.key) r.entry (look rs x other) (λ e. h.0 (eqb-true _ _ e)) (λ _. look_keyed P rs x other h.1 o)

-- ---- an arm of several keys: a test that computes on the keys says what holds at each

unfoldable pub all_are : (ℕ → ℕ) → ℕ → List ℕ → Bool
all_are f v [] = true
all_are f v (k ∷ ks) = eqb (f k) v and all_are f v ks

pub by_keys : (f : ℕ → ℕ) (v : ℕ) (ks : List ℕ) (x : ℕ) → all_are f v ks ≡ true → OneOf ks x → f x ≡ v
unfolding all_are
by_keys f v [] x e h = absurd h
by_keys f v (k ∷ []) x e h = ap f h ∙ eqb-true _ _ (both _ _ e).0
by_keys f v (k ∷ l ∷ ks) x e (inl h) = ap f h ∙ eqb-true _ _ (both _ _ e).0
by_keys f v (k ∷ l ∷ ks) x e (inr h) = by_keys f v (l ∷ ks) x (both _ _ e).1 h

unfoldable pub among : ℕ → List ℕ → Bool
among x [] = false
among x (k ∷ ks) = when eqb x k then true else among x ks

among_one : (x : ℕ) (ks : List ℕ) → among x ks ≡ true → OneOf ks x
unfolding among
among_one x [] e = let z : ◌≡◌ {A = ℕ} 0 1 = cc in absurd (omega arith)
among_one x (k ∷ []) e = by-if (λ b. b ≡ true → x ≡ k) (eqb x k) true false (λ h _. eqb-true x k h) (λ h f. let z : ◌≡◌ {A = ℕ} 0 1 = cc in absurd (omega arith)) e
among_one x (k ∷ l ∷ ks) e = by-if (λ b. b ≡ true → OneOf (k ∷ l ∷ ks) x) (eqb x k) true (among x (l ∷ ks)) (λ h _. inl (eqb-true x k h)) (λ h f. inr (among_one x (l ∷ ks) f)) e

-- every row's key stands in the list
unfoldable pub covers : {A : Type 0} → List ℕ → List (Row A) → Bool
covers ks [] = true
covers ks (r ∷ rs) = among r.key ks and covers ks rs

-- a number that is none of the keys is under no row that they cover
pub look_none : {A : Type 0} (ks : List ℕ) (rs : List (Row A)) (x : ℕ) (other : A) → covers ks rs ≡ true → (OneOf ks x → ⊥) → look rs x other ≡ other
unfolding covers look when◌then◌else◌
look_none ks [] x other e n = refl
look_none ks (r ∷ rs) x other e n =
    let here : x ≡ r.key → ⊥ = λ h. n (subst (OneOf ks) (sym h) (among_one r.key ks (both _ _ e).0)) in
    simp (ne_eqb x r.key here) (look_none ks rs x other (both _ _ e).1 n)

-- two arms' keys as one list
pub neither : (ks ls : List ℕ) (x : ℕ) → (OneOf ks x → ⊥) → (OneOf ls x → ⊥) → OneOf (ks ++ ls) x → ⊥
neither [] ls x m n h = n h
neither (k ∷ []) [] x m n h = m h
neither (k ∷ []) (l ∷ ls) x m n (inl h) = m h
neither (k ∷ []) (l ∷ ls) x m n (inr h) = n h
neither (k ∷ j ∷ ks) ls x m n (inl h) = m (inl h)
neither (k ∷ j ∷ ks) ls x m n (inr h) = neither (j ∷ ks) ls x (λ g. m (inr g)) n h
