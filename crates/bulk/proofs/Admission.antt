-- What the checks before a bulk event tell. Assumes nothing.
use mathlib.Core.Path.{◌≡◌, refl, sym, ap, ◌∙◌}
use mathlib.Core.Bool.{Bool, true, false}
use mathlib.Core.List.{List}
use Prim.Native.Nat.{ℕ}
use lib.Dec.{leb}
use lib.ListN.{length}
use Rattle.std.specs.declared.result.Result.TheVariants.{Ok}
use Rattle.wire.specs.Choice.{◌and◌}
use Rattle.wire.specs.Slices.{same}
use Rattle.wire.proofs.Cases.{both}
use Rattle.usb.specs.declared.descriptor.Identity.{Identity}
use Rattle.machine.specs.declared.checks.Checks.{Checks}
use Rattle.machine.specs.declared.record.State.{State}
use Rattle.machine.specs.Units.{Table, medium_fits}
use Rattle.machine.specs.Record.{device}
use Rattle.machine.specs.World.{World, world}
use Rattle.machine.specs.Fits.{fits}
use Rattle.machine.specs.Machine.{checks, Verdict, check, in_order, bulk_out, bulk_in}
use Rattle.machine.specs.Show.{record_reply, show_checks}
use Rattle.machine.proofs.Fit.{fit_of}
use Rattle.state.specs.Gates.{admission}
use Rattle.state.proofs.Gates.{goes_on_lem, passed}
use Rattle.bulk.specs.Parts.{Sound}

module _ (i : Identity) (s : State) (p : List ℕ) (us : Table) (m : List ℕ) (v : Verdict) (f g : Bool) where
  abbrev lent : World
  lent = world (device i s p) us m

  abbrev checks-of : Bool → Bool → Bool → Bool → Checks
  checks-of x y b q = record { fits = x; medium = y; buffer = b; packet = q; setup = true; configured = s.configured; unit = true }

  abbrev checked : Bool → Bool → Checks
  checked = checks-of f g

  -- Whether the medium fits tells nothing where the record does not.
  beside : (x y b q : Bool) → in_order (checks-of x (x and y) b q) ≡ in_order (checks-of x y b q)
  unfolding in_order ◌and◌ check
  beside true _ _ _ = refl
  beside false _ _ _ = refl

  as-beside : g ≡ (f and medium_fits us m) → (b q : Bool) → in_order (checked b q) ≡ in_order (checks-of f (medium_fits us m) b q)
  as-beside k b q = ap (λ y. in_order (checks-of f y b q)) k ∙ beside f (medium_fits us m) b q

  -- Where they are passed, the record fits its table and the medium is of its size.
  sound-of : (f ≡ true → fits i s us ≡ true) → g ≡ (f and medium_fits us m) → (b q : Bool) → v ≡ Ok tt → admission v ≡ admission (in_order (checked b q)) → Sound s us m
  unfolding in_order
  sound-of h k b q z e =
      let t = passed _ _ _ (goes_on_lem v (in_order (checked b q)) z e) in
      let a = fit_of lent (h t.0) in
      record { laid = a.laid; running = a.task; whole = (both _ _ (sym k ∙ (passed _ _ _ t.1).0)).1 }

  module _ (h : f ≡ fits i s us) (k : g ≡ (f and medium_fits us m)) where
    -- The code's checks are the machine's.
    pub out-checks : (q : List ℕ) → admission v ≡ admission (in_order (checked true (leb (length q) 64))) → admission v ≡ admission (in_order (checks lent (bulk_out q)))
    unfolding checks
    out-checks q e = simp (← h) (e ∙ ap admission (as-beside k true (leb (length q) 64)))

    pub in-checks : (b : List ℕ) → admission v ≡ admission (in_order (checked (leb 64 (length b)) true)) → admission v ≡ admission (in_order (checks lent (bulk_in b)))
    unfolding checks
    in-checks b e = simp (← h) (e ∙ ap admission (as-beside k (leb 64 (length b)) true))

    pub sound : (b q : Bool) → v ≡ Ok tt → admission v ≡ admission (in_order (checked b q)) → Sound s us m
    sound b q z e = sound-of (λ t. sym h ∙ t) k b q z e

  -- The same of a showing call, which the reply is lent to.
  module _ (r : List ℕ) (h : f ≡ (fits i s us and same r (record_reply i s))) (k : g ≡ (f and medium_fits us m)) (e : admission v ≡ admission (in_order (checked true true))) where
    pub show-checks : admission v ≡ admission (in_order (show_checks lent r))
    unfolding show_checks
    show-checks = simp (← h) (e ∙ ap admission (as-beside k true true))

    pub show-sound : v ≡ Ok tt → Sound s us m
    show-sound z = sound-of (λ t. (both _ _ (sym h ∙ t)).0) k true true z e
