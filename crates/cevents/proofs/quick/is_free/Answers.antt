-- `is_free` meets its contract. Assumes nothing.
use Prim.Native.Nat.{◌<◌}
use mathlib.Core.Path.{◌≡◌, sym, ◌∙◌}
use mathlib.Core.Bool.{false}
use mathlib.Core.Logic.{◌⊎◌, inl, inr}
use native.Mathlib.Omega.{arith}
use Rattle.std.proofs.Common.{rules}
use Rattle.crecord.specs.declared.record.Given.{Given}
use Rattle.crecord.specs.declared.record.Flat as flats
use Rattle.cevents.specs.Ways.{is_free}
use Rattle.cevents.proofs.Due.{untrue, alike, free, is_free_lem}
use Rattle.cevents.proofs.quick.is_free.Goals as goal

not_free : (g : Given) (f : flats.Flat) → (f.flags ≡ 1 × f.extra ≡ 0 × 127 < f.address ⊎ f.flags ≡ 1 × (f.extra ≡ 0 → ⊥) ⊎ (f.flags ≡ 1 → ⊥)) → is_free g f ≡ false
not_free g f (inl h) = sym (untrue _ (λ e. let k = (free g f e).address in omega (arith, h.2)))
not_free g f (inr (inl h)) = sym (untrue _ (λ e. h.1 (free g f e).extra))
not_free g f (inr (inr h)) = sym (untrue _ (λ e. h (free g f e).flags))

pub returns-then-flat-le127 : goal.returns-then-flat-le127
returns-then-flat-le127 c =
    let h = c.if-flat-le127.true in
    alike _ _
    (λ e. is_free_lem _ _ (record { flags = h.0; extra = h.1; address = h.2; number = sym c.number_fits.ensures ∙ e }))
    (λ e. c.number_fits.ensures ∙ (free _ _ e).number)

pub returns-else-flat-le127 : goal.returns-else-flat-le127
returns-else-flat-le127 c = let e = not_free c.args.given c.args.flat c.if-flat-le127.either in search rules
