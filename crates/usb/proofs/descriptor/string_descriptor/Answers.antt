-- `string_descriptor` meets its contract. Assumes nothing.
use Prim.Native.Nat.{ℕ, suc, ◌+◌, ◌*◌, ◌-◌, ◌≤◌, ◌<◌}
use mathlib.Core.Path.{◌≡◌, refl, sym, ap, ◌∙◌}
use mathlib.Core.List.{List, [], ◌∷◌, ◌++◌, append_assoc}
use native.Mathlib.Omega.{arith}
use native.Mathlib.Numerals.{add-one}
use lib.ListN.{length, take, get_or, set}
use lib.Seq.{set_at, take-suc, take-length, length-take-le}
use Rattle.wire.specs.Packet.{packet_of}
use Rattle.wire.specs.Slices.{zeros}
use Rattle.wire.proofs.Packets.{packet_is}
use Rattle.usb.specs.Descriptor.{utf16, string_descriptor}
use Rattle.usb.proofs.descriptor.string_descriptor.Invariants.{filled}
use Rattle.usb.proofs.descriptor.string_descriptor.Goals as goal

length-utf16 : (s : List ℕ) → length (utf16 s) ≡ 2 * length s
unfolding utf16
length-utf16 [] = refl
length-utf16 (c ∷ s) = let h = length-utf16 s in omega arith

utf16_more : (s : List ℕ) (c : ℕ) → utf16 (s ++ (c ∷ [])) ≡ utf16 s ++ (c ∷ 0x00 ∷ [])
unfolding utf16
utf16_more [] c = refl
utf16_more (x ∷ s) c = ap (λ (l : List ℕ). x ∷ 0x00 ∷ l) (utf16_more s c)

zeros-two : (k j : ℕ) → k ≡ suc (suc j) → zeros k ≡ 0 ∷ 0 ∷ zeros j
unfolding zeros
zeros-two k j e = ap zeros e

-- one character more
step : (text : List ℕ) (i : ℕ) → i < length text → length text ≤ 31 → set (filled text i) (2 + 2 * i) (get_or text i 0) ≡ filled text (i + 1)
step text i h k =
    let front = (2 + 2 * length text) ∷ 0x03 ∷ utf16 (take i text) in
    let rest = zeros (62 - 2 * (i + 1)) in
    let n = length-utf16 (take i text) in
    let m = length-take-le i text (omega arith) in
    rw (zeros-two (62 - 2 * i) (62 - 2 * (i + 1)) (omega arith))
    (set_at front 0 (0 ∷ rest) (get_or text i 0) (2 + 2 * i) (omega arith)
    ∙ rw (add-one i, take-suc text i 0 h) (simp (utf16_more, append_assoc)))

-- all characters
whole : (text : List ℕ) → length text ≤ 31 → packet_of (string_descriptor text) ≡ record { bytes = filled text (length text); len = 2 + 2 * length text }
unfolding string_descriptor
whole text k =
    let n = length-utf16 text in
    let size : suc (suc (length (utf16 text))) ≡ 2 + 2 * length text = omega arith in
    let left : 64 - (2 + 2 * length text) ≡ 62 - 2 * length text = omega arith in
    packet_is (string_descriptor text) (omega arith) ∙ simp (take-length, size, left)

pub loop-i-init : goal.loop-i-init
unfolding utf16 zeros
loop-i-init c = refl

pub loop-i-preserved : goal.loop-i-preserved
loop-i-preserved c = simp c.loop-i.invariant (step _ _ c.loop-i-test.true c.requires)

pub returns : goal.returns
returns c =
    let done : c.loop-i.i ≡ length c.args.text.now = omega arith in
    simp (c.loop-i.invariant, done) (sym (whole _ c.requires))
