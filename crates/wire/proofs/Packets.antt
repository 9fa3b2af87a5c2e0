-- A packet holds its bytes in front, zeros behind. Assumes nothing.
use Prim.Native.Nat.{ℕ, zero, suc, ◌+◌, ◌-◌, ◌≤◌}
use mathlib.Core.Path.{◌≡◌, refl, sym, ap, ◌∙◌}
use mathlib.Core.List.{List, [], ◌++◌}
use native.Mathlib.Omega.{arith}
use native.Mathlib.Nat.{sub-zero, zero-sub, suc-sub-suc}
use lib.ListN.{length, take, drop, length-replicate, length-append}
use lib.Seq.{take_at, take-append-le}
use borrow.Author.Tests.{le-leb}
use Rattle.wire.specs.Slices.{zeros, fits, part}
use Rattle.wire.specs.Packet.{packet_of, bytes_of}
use Rattle.wire.specs.declared.packet.Packet.{Packet}
use Rattle.wire.proofs.Cases.{if-true}
use Rattle.wire.proofs.Lists.{fits_yes, placed_yes}

pub length-zeros : (n : ℕ) → length (zeros n) ≡ n
unfolding zeros
length-zeros n = length-replicate n 0

pub drop-zeros : (k n : ℕ) → drop k (zeros n) ≡ zeros (n - k)
unfolding zeros
drop-zeros zero n = ap zeros (sym (sub-zero n))
drop-zeros (suc k) zero = ap zeros (sym (zero-sub (suc k)))
drop-zeros (suc k) (suc n) = drop-zeros k n ∙ ap zeros (sym (suc-sub-suc n k))

pub packet_is : (s : List ℕ) → length s ≤ 64 → packet_of s ≡ record { bytes = s ++ zeros (64 - length s); len = length s }
unfolding packet_of
packet_is s h =
    let n = length-zeros 64 in
    let room : 0 + length s ≤ length (zeros 64) = omega arith in
    let behind : drop (0 + length s) (zeros 64) ≡ zeros (64 - length s) = drop-zeros (0 + length s) 64 ∙ ap zeros (let e : 64 - (0 + length s) ≡ 64 - length s = omega arith in e) in
    λ i. record {
      bytes = (placed_yes (zeros 64) 0 s room ∙ ap (λ (l : List ℕ). s ++ l) behind) i;
      len = if-true (fits (zeros 64) 0 s) (length s) 0 (fits_yes (zeros 64) 0 s room) i;
    }

-- as many bytes as lie in front, as a slice has them
part-front : (n : ℕ) (s : List ℕ) → n ≤ length s → part s 0 n ≡ take n s
unfolding part
part-front n s h = if-true _ (take n s) [] (le-leb (0 + n) (length s) (omega arith))

-- what a packet holds
pub record Held (k : Packet) (s : List ℕ) : Type 0 where
  pub room : k.len ≤ length k.bytes
  pub count : k.len ≡ length s
  pub is : take k.len k.bytes ≡ s
  pub slice : bytes_of k ≡ s
  pub front : (n : ℕ) → n ≤ length s → take n k.bytes ≡ take n s

pub held : (k : Packet) (s : List ℕ) → k ≡ packet_of s → length s ≤ 64 → Held k s
held k s e h =
    let f = e ∙ packet_is s h in
    let all = take_at s (zeros (64 - length s)) (length s) refl in
    record {
      room = rw f (simp length-append (omega arith));
      count = rw f;
      is = rw f all;
      slice = rw f (part-front (length s) _ (simp length-append (omega arith)) ∙ all);
      front = λ n l. rw f (take-append-le n s (zeros (64 - length s)) l);
    }
