-- `bytes_at` meets its contract. Assumes nothing.
use Prim.Native.Nat.{ℕ}
use mathlib.Core.Path.{◌≡◌, ap, ◌∙◌}
use mathlib.Core.List.{List}
use native.Mathlib.Omega.{arith}
use lib.ListN.{get_or, drop}
use Rattle.std.proofs.lemmas.Grind.{common_steps}
use Rattle.std.proofs.lemmas.List.{get_or-drop}
use Rattle.wire.proofs.Bytes.{bytes_made}
use Rattle.wire.proofs.fields.bytes_at.Goals as goal

pub returns : goal.returns
returns g c =
    let a = c.args in
    let rest : c.unwrap_or-rest.result.now ≡ drop a.at a.s.now = grind (arith, common_steps) in
    bytes_made _ _ _ _ c.loop-i.invariant.0
    (λ i h. c.loop-i.invariant.1 i (omega arith) ∙ ap (λ (l : List ℕ). get_or l i 0) rest ∙ get_or-drop a.at a.s.now i 0)
