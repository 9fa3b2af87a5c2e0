-- Laws of the wrappers' definitions. Assumes nothing.
use Prim.Native.Nat.{ℕ}
use mathlib.Core.Path.{◌≡◌, sym, ap, ◌∙◌}
use mathlib.Core.Bool.{true, false}
use mathlib.Core.List.{List}
use native.Mathlib.Omega.{arith}
use lib.ListN.{length}
use borrow.Author.Tests.{eqb-true}
use Rattle.wire.proofs.Cases.{both, by-if}
use Rattle.bot.specs.declared.cbw.Header.{Header}
use Rattle.std.specs.Prelude.{Option, Some, None}
use Rattle.bot.specs.Cbw.{readable, header_of, zero_header, Fields, fields, shown_header, read_header}

pub readable_long : (p : List ℕ) → readable p ≡ true → length p ≡ 31
unfolding readable
readable_long p e = eqb-true _ _ (both _ _ e).0

-- what a read header tells of the bytes
pub read-readable : (p : List ℕ) (r : Option Header) (h : Header) → shown_header r ≡ read_header p → r ≡ Some h → (readable p ≡ true) × (h ≡ header_of p)
unfolding read_header
read-readable p r h e f =
    by-if (λ (x : Fields). fields 1 h ≡ x → (readable p ≡ true) × (h ≡ header_of p)) (readable p) _ _
    (λ y q. (y, ap (λ (x : Fields). x.header) q))
    (λ _ q. let z = ap (λ (x : Fields). x.number) q in absurd (omega arith))
    (sym (ap shown_header f) ∙ e)

pub not-readable : (p : List ℕ) (r : Option Header) → shown_header r ≡ read_header p → r ≡ None → readable p ≡ false
unfolding read_header
not-readable p r e f =
    by-if (λ (x : Fields). fields 17 zero_header ≡ x → readable p ≡ false) (readable p) _ _
    (λ _ q. let z = ap (λ (x : Fields). x.number) q in absurd (omega arith))
    (λ n _. n)
    (sym (ap shown_header f) ∙ e)
