-- An event on C's numbers, refused, and decoded. Assumes nothing.
use Prim.Native.Nat.{ℕ}
use mathlib.Core.Path.{◌≡◌, refl, sym, ap, subst, ◌∙◌}
use mathlib.Core.Bool.{Bool, true, false}
use mathlib.Core.List.{List}
use Rattle.wire.proofs.Cases.{if-true, if-false}
use Rattle.usb.specs.declared.descriptor.Identity.{Identity}
use Rattle.machine.specs.declared.answer.Answer.{Answer}
use Rattle.machine.specs.declared.record.State.{State}
use Rattle.machine.specs.Answer.{number_of, count_of}
use Rattle.machine.specs.Units.{Table}
use Rattle.machine.specs.Record.{device}
use Rattle.machine.specs.World.{World, world, out}
use Rattle.machine.specs.Machine.{Event, control, lent, Told, told, step}
use Rattle.cevents.proofs.Asked.{asked}
use Rattle.crecord.proofs.RoundTrip.{round_trip}
use Rattle.crecord.specs.declared.record.Flat as flats
use Rattle.crecord.specs.declared.record.Record.{Record}
use Rattle.crecord.specs.declared.record.Told as tolds
use Rattle.crecord.specs.Flat.{decodes, state_from, identity_from, flat_of, answer, rec}
use Rattle.cevents.specs.Events.{left, leaves, on_record}

-- ---- refused: numbers that stand for no record

pub refuses : (r : Record) (us : Table) (m : List ℕ) (e : Event) → decodes r.flat ≡ false → left (answer 10 0) r us m (lent e) ≡ on_record r us m e
unfolding on_record
refuses r us m e d = sym (if-false _ _ _ d)

-- ---- decoded: what the code of an event leaves is what its step leaves

abbrev Turns : Identity → State → Table → List ℕ → List ℕ → Event → Answer → State → Table → List ℕ → List ℕ → List ℕ → Type 0
Turns i s us p m e a s' us' p' m' b' = told (out a (world (device i s' p') us' m') b') ≡ told (step (world (device i s p) us m) e)

module _ (r : Record) (us : Table) (e : Event) (m : List ℕ) (i : Identity) (s : State) (a : Answer) (s' : State) (us' : Table) (p' m' b' : List ℕ) where
  pub decoded : (t : tolds.Told) (f' : flats.Flat)
      → decodes r.flat ≡ true → i ≡ identity_from r.given → s ≡ state_from r.flat → Turns i s us r.part m e a s' us' p' m' b'
      → t ≡ answer (number_of a) (count_of a) → f' ≡ flat_of s' → left t (rec r.given f' p') us' m' b' ≡ on_record r us m e
  unfolding on_record
  decoded t f' d ei es w et ef =
      simp (et, ef)
      (ap leaves
      ((λ j. told (out a (world (device (sym ei j) s' p') us' m') b'))
      ∙ w ∙ (λ j. told (step (world (device (ei j) (es j) r.part) us m) e)))
      ∙ sym (if-true _ _ _ d))

-- A control request that is answered with data leaves the numbers as they were.
module _ (r : Record) (us : Table) (setup m b : List ℕ) (i : Identity) (s : State) (a : Answer) (s' : State) (us' : Table) (p' b' : List ℕ) where
  pub unchanged : (t : tolds.Told) → decodes r.flat ≡ true → i ≡ identity_from r.given → s ≡ state_from r.flat → Turns i s us r.part m (control setup b) a s' us' p' m b'
      → t ≡ answer (number_of a) (count_of a) → t.number ≡ 0 → left t (rec r.given r.flat p') us' m b' ≡ on_record r us m (control setup b)
  unchanged t d ei es w et z =
      let v : World = world (device i s r.part) us m in
      let n : number_of (step v (control setup b)).answer ≡ 0 = sym (ap (λ (y : Told). y.number) w) ∙ sym (ap (λ (y : tolds.Told). y.number) et) ∙ z in
      let same : world (device i s' p') us' m ≡ v = ap (λ (y : Told). y.world) w ∙ asked v b setup n in
      let k : flat_of s' ≡ r.flat = ap (λ (y : World). flat_of y.dev.state) same ∙ ap flat_of es ∙ round_trip.read_is_written r.flat d in
      decoded r us (control setup b) m i s a s' us' p' m b' t r.flat d ei es w et (sym k)

-- ---- by the parts that `decoded` of src/turn.rt names

pub either : {P : Type 0} (b : Bool) → (b ≡ true → P) → (b ≡ false → P) → P
either true t f = t refl
either false t f = f refl

pub same : (h : Record) (us : Table) (m : List ℕ) (e : Event) (t : tolds.Told) (h' : Record) (us' : Table) (m' b' : List ℕ)
    → decodes h.flat ≡ false → t ≡ answer 10 0 → h' ≡ h → us' ≡ us → m' ≡ m → b' ≡ lent e → left t h' us' m' b' ≡ on_record h us m e
same h us m e t h' us' m' b' d et eh eu em eb = simp (et, eh, eu, em, eb) (refuses h us m e d)

pub ran : (h : Record) (us : Table) (m : List ℕ) (e : Event) (i : Identity) (s : State) (p : List ℕ) (a : Answer) (s' : State) (us' : Table) (p' m' b' : List ℕ) (t : tolds.Told) (h' : Record)
    → decodes h.flat ≡ true → i ≡ identity_from h.given → s ≡ state_from h.flat → p ≡ h.part → t ≡ answer (number_of a) (count_of a) → h' ≡ rec h.given (flat_of s') p'
    → Turns i s us p m e a s' us' p' m' b' → left t h' us' m' b' ≡ on_record h us m e
ran h us m e i s p a s' us' p' m' b' t h' d ei es ep et eh w =
    simp eh (decoded h us e m i s a s' us' p' m' b' t (flat_of s') d ei es (subst (λ x. Turns i s us x m e a s' us' p' m' b') ep w) et refl)
