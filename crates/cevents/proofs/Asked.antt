-- A control request that is answered with data changes no record. Assumes nothing.
use Prim.Native.Nat.{ℕ}
use mathlib.Core.Path.{◌≡◌, refl}
use mathlib.Core.List.{List}
use native.Mathlib.Omega.{arith}
use Rattle.usb.specs.Request.{request_of}
use Rattle.usb.specs.declared.request.Request.{Request}
use Rattle.machine.specs.Answer.{number_of}
use Rattle.machine.specs.World.{World, Out}
use Rattle.machine.specs.Machine.{effect, control, step}
use Rattle.machine.proofs.Judge.{judge}
use Rattle.machine.proofs.Requests.{Did, stalls, sends, acks, halts, addresses, configures, resets, performs}

module _ (w : World) (b : List ℕ) where
  abbrev Keeps : Out → Type 0
  Keeps o = number_of o.answer ≡ 0 → o.world ≡ w

  keeps : (q : Request) (o : Out) → Did w b q o → Keeps o
  keeps q o stalls e = refl
  keeps q o (sends s n) e = refl
  keeps q o (acks m) e = refl
  keeps q o (halts hi ho m c k) e = absurd (omega arith)
  keeps q o (addresses a c) e = absurd (omega arith)
  keeps q o (configures v) e = absurd (omega arith)
  keeps q o (resets c) e = absurd (omega arith)

  pub asked : (s : List ℕ) → Keeps (step w (control s b))
  unfolding effect
  asked s = judge Keeps w (control s b) (λ a x _. refl) (λ _. keeps _ _ (performs w b (request_of s)))
