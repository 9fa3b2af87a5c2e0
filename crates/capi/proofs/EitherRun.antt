-- The claim of specs/EitherRun.antt: at the place that a showing call tells stand the bytes that the machine shows, and each call finds a record that was reached. Assumes nothing.
use Prim.Native.Nat.{ℕ, ◌+◌}
use mathlib.Core.Path.{◌≡◌, refl, sym, ap, ◌∙◌, subst}
use mathlib.Core.List.{List, [], ◌∷◌}
use lib.Dec.{leb}
use lib.ListN.{length}
use borrow.Author.Tests.{leb-true}
use Rattle.wire.specs.Choice.{when◌then◌else◌, look}
use Rattle.wire.specs.Slices.{part, placed, zeros}
use Rattle.wire.proofs.Cases.{if-true, by-if}
use Rattle.wire.proofs.Parts.{length_part}
use Rattle.machine.specs.declared.show.Extent.{Extent}
use Rattle.machine.specs.declared.show.Extent.TheVariants as extent
use Rattle.machine.specs.Answer.{number_of}
use Rattle.machine.specs.Bulk.{packet_size}
use Rattle.machine.specs.World.{World, out}
use Rattle.machine.specs.Machine.{told, Run}
use Rattle.machine.specs.Claim.{born}
use Rattle.machine.specs.Show.{bytes_shown, told_shown, show}
use Rattle.machine.specs.EitherCall.{Call, event, showing, step_call, run_calls, events_of}
use Rattle.machine.proofs.Along.{always}
use Rattle.machine.proofs.Senses.{Senses, keeps-senses, made-senses}
use Rattle.machine.proofs.EitherCall.{shows, either_call}
use Rattle.crecord.specs.Flat.{decodes, world_from, record_of, shown_as}
use Rattle.cevents.specs.Events.{Left, leaves, on_making}
use Rattle.cevents.specs.Shown.{LeftShown, leaves_shown, show_on_record}
use Rattle.capi.specs.EitherRun.{bytes_told, as_left, on_call, Holds, after, held_after, EitherRun}
use Rattle.capi.proofs.Calls.{written, read_back_lem, one-call}

-- ---- the bytes at the place that is told

-- a part by its own length: as many bytes, or none where they do not all lie there
told_part : (m : List ℕ) (a c k : ℕ) → length (part m a c) ≡ k → part m a k ≡ part m a c
unfolding part
told_part m a c k =
    by-if (λ (x : List ℕ). length x ≡ k → part m a k ≡ x) (leb (a + c) (length m)) _ _
    (λ t l. ap (part m a) (sym l ∙ length_part a c m (leb-true _ _ t)) ∙ if-true _ _ _ t)
    (λ _ l. ap (part m a) (sym l) ∙ by-if (λ (x : List ℕ). x ≡ []) (leb (a + 0) (length m)) _ _ (λ _. refl) (λ _. refl))

told-bytes : (m s : List ℕ) (n k : ℕ) (x : Extent) → length (bytes_shown x m s) ≡ k → bytes_told (shown_as n k x) m s ≡ bytes_shown x m s
unfolding bytes_told bytes_shown look when◌then◌else◌
told-bytes m s n k extent.Nowhere e = refl
told-bytes m s n k (extent.Medium a c) e = told_part m a c k e
told-bytes m s n k (extent.Reply a c) e = told_part s a c k e

-- ---- one call

either_one : (w : World) → Senses w → (c : Call) → on_call (record_of w) w.units w.medium c ≡ leaves (told (step_call w c))
unfolding on_call step_call show_on_record
either_one w h (event e) = one-call w h e
either_one w h (showing s) =
    let o = show w s in
    let m = w.medium in
    ap (λ (l : LeftShown). as_left l m s) (if-true _ _ _ (written w h) ∙ ap (λ (x : World). leaves_shown (told_shown (show x s))) (read_back_lem w h))
    ∙ ap (λ (b : List ℕ). leaves (told (out o.answer o.world (placed (zeros packet_size) 0 b)))) (told-bytes m s (number_of o.answer) _ o.at (shows.counted w s))

-- ---- a list of calls

-- it comes to what its events come to
call_senses : (w : World) → Senses w → (cs : List Call) → Senses (run_calls w cs).world
call_senses w h cs = subst (λ (r : Run). Senses r.world) (sym (either_call.runs w cs)) (always Senses (λ x e i. keeps-senses x i e) w (events_of w cs) h)

abbrev held : World → Holds
held w = record { rec = record_of w; units = w.units; medium = w.medium }

comes_to : (w : World) → Senses w → (cs : List Call) → after (held w) cs ≡ held (run_calls w cs).world
unfolding after run_calls
comes_to w h [] = refl
comes_to w h (c ∷ cs) =
    ap (λ (l : Left). after (record { rec = l.rec; units = l.units; medium = l.medium }) cs) (either_one w h c)
    ∙ comes_to (step_call w c).world (call_senses w h (c ∷ [])) cs

pub either_run : EitherRun
unfolding EitherRun held_after born on_making
either_run k b cs =
    let fresh = made-senses k b in
    let v = (run_calls (born k) cs).world in
    let h = call_senses (born k) fresh cs in
    let e = comes_to (born k) fresh cs in
    record {
      valid = ap (λ (x : Holds). decodes x.rec.flat) e ∙ written v h;
      holds = ap (λ (x : Holds). world_from x.rec x.units x.medium) e ∙ read_back_lem v h;
      next = λ c. ap (λ (x : Holds). on_call x.rec x.units x.medium c) e ∙ either_one v h c;
    }
