-- The state of the player's loop: so many events are done, and what is printed so far, with what is left to play, is the whole.
--     Ran          what a turn of the loop begins with, from the places e and b of the recording on
--     begun, goes_on_lem, finished     it holds at first; a turn goes to the next; none left, it is what the contract says
--     asks         what `play_one` asks of it
-- Assumes nothing.
use Prim.Native.Nat.{ℕ, ◌+◌, ◌*◌, ◌-◌, ◌≤◌, ◌<◌}
use mathlib.Core.Path.{◌≡◌, refl, sym, ap, subst, ◌∙◌}
use mathlib.Core.Bool.{Bool, true, false}
use Rattle.std.proofs.Common.{Some, is_some, IsSome}
use mathlib.Core.List.{List, []}
use native.Mathlib.Omega.{arith}
use lib.ListN.{length, take, drop}
use Rattle.machine.specs.World.{World}
use Rattle.machine.specs.Machine.{Run, step}
use Rattle.recording.specs.declared.cursor.Kind.{Kind}
use Rattle.recording.specs.declared.cursor.Reading.{Reading}
use Rattle.recording.specs.Format.{event_of, formed}
use Rattle.recording.specs.Cursor.{read_at, numbered}
use Rattle.recording.proofs.Cursors.{same-reading, stopped}
use Rattle.printout.specs.Writing.{Wrote}
use Rattle.printout.specs.Print.{lines}
use Rattle.printout.proofs.Writes.{wrote_none, wrote_length}
use Rattle.player.specs.Turns.{Turned}
use Rattle.player.proofs.Playing.{left-run, So-far, began, go_on, ended}

-- what is required, of the recording s, so many events n, the text t₀ with its place and the world to start from
abbrev pub Required : List ℕ → ℕ → List ℕ → ℕ → World → Type 0
Required s n t₀ from start = (n ≤ 1024) × (2 + 4 * n ≤ length s) × (from + 207 * n ≤ length t₀) × (formed (length start.units) n (drop 2 s) (drop (2 + 4 * n) s) ≡ true)

abbrev pub whole : List ℕ → ℕ → World → Run
whole s n start = left-run (length start.units) s start n 2 (2 + 4 * n)

-- the reader's result, over the recording that the head holds, for as many units as there are
pub found : (u v : ℕ) (s x : List ℕ) (e b : ℕ) (r : Reading) → numbered r ≡ numbered (read_at v x e b) → v ≡ u → x ≡ s → r ≡ read_at u s e b
found u v s x e b r f p q = same-reading r (read_at v x e b) f ∙ (λ i. read_at (p i) (q i) e b)

module _ (s t₀ : List ℕ) (from n : ℕ) (start : World) where
  abbrev pub Ran : World → List ℕ → ℕ → ℕ → ℕ → ℕ → Type 0
  Ran w t at done e b = So-far (length start.units) s (whole s n start) t₀ from w t at (n - done) e b (done + 1)

  at_first : Required s n t₀ from start → Ran start t₀ from 0 2 (2 + 4 * n)
  at_first r =
      let few = r.0 in
      let room = r.1 in
      let space = r.2 in
      let all : n ≡ n - 0 = omega arith in
      subst (λ (k : ℕ). So-far (length start.units) s (whole s n start) t₀ from start t₀ from k 2 (2 + 4 * n) 1) all (record {
        place = record { table = omega arith; bodies = omega arith };
        good = r.3;
        room = space;
        counts = omega arith;
        done = [];
        wrote = wrote_none t₀ from;
        text = refl;
        world = refl;
      })

  pub begun : Required s n t₀ from start → (e b : ℕ) → e ≡ 2 → b ≡ 2 + 4 * n → Ran start t₀ from 0 e b
  begun r e b p q = subst (λ (x : ℕ). Ran start t₀ from 0 x b) (sym p) (subst (λ (x : ℕ). Ran start t₀ from 0 2 x) (sym q) (at_first r))

  module _ (w : World) (t : List ℕ) (at done e b : ℕ) (ran : Ran w t at done e b) (r : Reading) (f : r ≡ read_at (length start.units) s e b) (less : done < n) where
    -- an event is left, and it is read
    pub is_read : IsSome r.kind
    is_read = either (is_some r.kind) refl
      where
        left : 0 < n - done
        left = omega arith

        either : (v : Bool) → is_some r.kind ≡ v → IsSome r.kind
        either true k = k
        either false k = absurd (let z : true ≡ false = sym ran.good ∙ stopped (length start.units) s (n - done) e b r (ap numbered f) k left ran.place in cc)

    pub asks : (k : Kind) → r.kind ≡ Some k → (b + r.len ≤ length s) × (done < 1024) × (at + 207 ≤ length t)
    asks k y =
        let left : 0 < n - done = omega arith in
        let v = (began (length start.units) s (whole s n start) t₀ from w t at (n - done) e b (done + 1) r k y ran f left).within in
        let c = ran.counts in
        let room = ran.room in
        let l = wrote_length _ _ _ _ _ ran.wrote in
        (omega arith, omega arith, omega arith)

    pub goes_on_lem : (k : Kind) → r.kind ≡ Some k → (i : ℕ) → i ≡ r.len → (w' : World) (t' : List ℕ) (at' : ℕ)
        → Turned (step w (event_of k (take i (drop b s)))) (done + 1) t at t' at' w'
        → (e' b' : ℕ) → e' ≡ r.entry → b' ≡ r.body → Ran w' t' at' (done + 1) e' b'
    goes_on_lem k y i same w' t' at' said e' b' p o =
        let one_less : n - done - 1 ≡ n - (done + 1) = omega arith in
        let left : 0 < n - done = omega arith in
        let told = subst (λ (j : ℕ). Turned (step w (event_of k (take j (drop b s)))) (done + 1) t at t' at' w') same said in
        let next = subst (λ (j : ℕ). So-far (length start.units) s (whole s n start) t₀ from w' t' at' j r.entry r.body (done + 1 + 1)) one_less
        (go_on (length start.units) s (whole s n start) t₀ from w t at (n - done) e b (done + 1) r k w' t' at' y ran f left told) in
        subst (λ (y : ℕ). Ran w' t' at' (done + 1) y b') (sym p) (subst (λ (y : ℕ). Ran w' t' at' (done + 1) r.entry y) (sym o) next)

  pub finished : (w : World) (t : List ℕ) (at done e b : ℕ) → Ran w t at done e b
      → n ≤ done → (Wrote t₀ from (lines 1 (whole s n start).replies) t at) × (w ≡ (whole s n start).world) × (at ≤ length t₀)
  finished w t at done e b ran over =
      let none : n - done ≡ 0 = omega arith in
      let v = ended (length start.units) s (whole s n start) t₀ from w t at (n - done) e b (done + 1) ran none in
      let room = ran.room in
      (v.0, v.1, omega arith)
