-- What a verdict of the code tells of the checks and of the step. Assumes nothing.
use Prim.Native.Nat.{ℕ}
use mathlib.Core.Path.{◌≡◌, refl, sym, ap, ◌∙◌}
use mathlib.Core.Bool.{Bool, true, false}
use mathlib.Core.List.{List}
use native.Mathlib.Omega.{arith}
use Rattle.std.specs.declared.result.Result.TheVariants.{Ok, Err}
use Rattle.machine.specs.declared.answer.Answer.{Answer}
use Rattle.machine.specs.Answer.{number_of, count_of}
use Rattle.machine.specs.World.{World, Out, out}
use Rattle.machine.specs.Machine.{Event, lent, checks, Verdict, check, in_order, effect, judged, step, told}
use Rattle.state.specs.Gates.{goes_on, ends, admission}

pub goes_on_lem : (v x : Verdict) → v ≡ Ok tt → admission v ≡ admission x → x ≡ Ok tt
goes_on_lem v x p e = by_verdict x (sym (ap admission p) ∙ e)
  where
    by_verdict : (x : Verdict) → goes_on ≡ admission x → x ≡ Ok tt
    by_verdict (Ok u) e = refl
    by_verdict (Err a) e = let z : ◌≡◌ {A = ℕ} 0 1 = cc in absurd (omega arith)

-- Where all checks are passed each of them is.
pub passed : (b : Bool) (a : Answer) (v : Verdict) → check b a v ≡ Ok tt → (b ≡ true) × (v ≡ Ok tt)
unfolding check
passed true a v e = (refl, e)
passed false a v e = let z : ◌≡◌ {A = ℕ} 0 1 = cc in absurd (omega arith)

-- A verdict of the code that ends an event: the checks end it too, by the same numbers.
pub record Ended (a : Answer) (x : Verdict) : Type 0 where
  pub answer : Answer
  pub is : x ≡ Err answer
  pub number : number_of a ≡ number_of answer
  pub count : count_of a ≡ count_of answer

pub ended : (v x : Verdict) (a : Answer) → v ≡ Err a → admission v ≡ admission x → Ended a x
ended v x a r e = by_verdict x (sym (ap admission r) ∙ e)
  where
    by_verdict : (x : Verdict) → ends (number_of a) (count_of a) ≡ admission x → Ended a x
    by_verdict (Ok u) i = let z : ◌≡◌ {A = ℕ} 0 1 = cc in absurd (omega arith)
    by_verdict (Err f) i = record { answer = f; is = refl; number = cc; count = cc }

-- What is left where the code's verdict ends a call, and where it passes it.
module _ (v x : Verdict) (h : admission v ≡ admission x) (w : World) (b : List ℕ) (o : Out) where
  pub judged-ended : (a : Answer) → v ≡ Err a → told (out a w b) ≡ told (judged x w b o)
  unfolding judged
  judged-ended a r = let f = ended v x a r h in simp (f.is, f.number, f.count)

  pub judged-passed : v ≡ Ok tt → told o ≡ told (judged x w b o)
  unfolding judged
  judged-passed p = simp (goes_on_lem v x p h)

-- The same of an event's step.
module _ (v : Verdict) (w : World) (e : Event) (h : admission v ≡ admission (in_order (checks w e))) where
  pub refused : (a : Answer) → v ≡ Err a → told (out a w (lent e)) ≡ told (step w e)
  unfolding step
  refused a r = judged-ended v (in_order (checks w e)) h w (lent e) (effect w e) a r

  pub gone-on : v ≡ Ok tt → told (effect w e) ≡ told (step w e)
  unfolding step
  gone-on p = judged-passed v (in_order (checks w e)) h w (lent e) (effect w e) p

  pub fits-passed : v ≡ Ok tt → (checks w e).fits ≡ true
  unfolding in_order
  fits-passed p = (passed _ _ _ (goes_on_lem v (in_order (checks w e)) p h)).0
