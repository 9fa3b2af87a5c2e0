-- Choice, conjunction and look-up in a table: what the definitions of every crate are made of.
use Rattle.std.specs.Prelude.{ℕ, Bool, true, false, List, [], ◌∷◌, eqb}

infix 10 when◌then◌else◌
unfoldable pub when◌then◌else◌ {ℓ} : {A : Type ℓ} → Bool → A → A → A
when true then a else b = a
when false then a else b = b

infixr 20 ◌and◌
unfoldable pub ◌and◌ : Bool → Bool → Bool
true and b = b
false and b = false

-- A table's row: a key, and what stands under it.
pub record Row (A : Type 0) : Type 0 where
  pub key : ℕ
  pub entry : A

abbrev pub row : {A : Type 0} → ℕ → A → Row A
row k a = record { key = k; entry = a }

-- What stands under a key; under no row's key, the other value.
unfoldable pub look : {A : Type 0} → List (Row A) → ℕ → A → A
look [] k other = other
look (r ∷ rs) k other = when eqb k r.key then r.entry else look rs k other
