-- What is sent of a reply. Assumes nothing.
use Prim.Native.Nat.{ℕ, ◌-◌, ◌≤◌, ◌<◌, min}
use mathlib.Core.Path.{◌≡◌, refl, sym, ap, subst, ◌∙◌}
use mathlib.Core.Bool.{Bool, true, false}
use mathlib.Core.List.{List, []}
use native.Mathlib.Omega.{arith}
use lib.Dec.{ltb}
use lib.ListN.{length, take, drop, set, length-take}
use borrow.Author.Tests.{ne_eqb, le-leb}
use Rattle.std.specs.declared.option.Option.TheVariants.{Some}
use Rattle.wire.specs.Slices.{placed}
use Rattle.wire.proofs.Cases.{by-if, if-true, if-false}
use Rattle.scsi.specs.Command.{cut}
use Rattle.scsi.specs.Reply.{reply_data, reply_size}
use Rattle.scsi.specs.declared.command.Plan.TheVariants.{Reply}
use Rattle.scsi.specs.declared.reply.Reply as replies
use Rattle.scsi.specs.declared.reply.ReplyKind.{ReplyKind}
use Rattle.scsi.proofs.Pages.{page-bytes}
use Rattle.scsi.proofs.Replies.{sizes, kind_bounds}
use Rattle.cases.specs.Cases.{plain, case_of}
use Rattle.cases.specs.Claims.{after_data}
use Rattle.cases.specs.declared.Case.{Case}
use Rattle.cases.proofs.Moves.{all-moves, none_moves}
use Rattle.cases.specs.declared.Transfer.{Transfer}
use Rattle.cases.specs.declared.Transfer.TheVariants.{In}
use Rattle.cases.specs.declared.Pipe.TheVariants as pipe
use Rattle.cases.specs.declared.Halt.{Halt}
use Rattle.bot.specs.Cbw.{header_of}
use Rattle.bot.specs.declared.cbw.Header.{Header}
use Rattle.bot.specs.declared.csw.Status.TheVariants.{Passed}
use Rattle.usb.specs.Descriptor.{string_descriptor}
use Rattle.machine.specs.declared.record.Stage.{Stage}
use Rattle.machine.specs.declared.record.Stage.TheVariants.{ReplyIn, StatusDue}
use Rattle.machine.specs.declared.record.State.{State}
use Rattle.machine.specs.declared.record.LogicalUnit.{LogicalUnit}
use Rattle.machine.specs.declared.ask.Asked.{Asked}
use Rattle.machine.specs.declared.answer.Answer.TheVariants.{Data, Ack}
use Rattle.machine.specs.Record.{moved, task, with_state}
use Rattle.machine.specs.Units.{unit_at, as_made, medium_fits}
use Rattle.machine.specs.World.{World, world, in_state, Out, out, sends}
use Rattle.machine.specs.Wrapper.{wrapper}
use Rattle.machine.specs.Begin.{host_of, has_of, own_status, reply_of, data_stage, first_stage, halts_in, halts_out, staged, begun_by, begun, begun_unit}
use Rattle.machine.specs.Bulk.{on_wrapper, next_in, handed_state, next_packet, ask_stage, ask, bytes_of, deliver, packet_in}
use Rattle.machine.specs.Machine.{bulk_out, bulk_in, fitting, checks, effect, step}
use Rattle.machine.specs.Sent.{whole, first, Asks, Takes, Sends, CutReplies, SameSerial}
use Rattle.machine.proofs.Judge.{passes}
use Rattle.machine.proofs.Reach.{same_kind}
use Rattle.machine.proofs.Recover.{fits_after}
use Rattle.machine.proofs.Parts.{keeps-parts}
use Rattle.machine.proofs.Beside.{taken, same-medium}

-- ---- the size

whole_length : (w : World) (p : List ℕ) (k : ReplyKind) → length (whole w p k) ≡ reply_size k
whole_length w p k = let u = unit_at w.units (header_of p).lun in sizes w.dev.identity.number (reply_of k u) ∙ ap reply_size (same_kind k u)

same_size : (w : World) (p : List ℕ) (k : ReplyKind) (allocated : ℕ) → length (first allocated (whole w p k)) ≡ min allocated (reply_size k)
same_size w p k allocated = length-take (min allocated (length (whole w p k))) (whole w p k) ∙ (let e = whole_length w p k in omega arith)

-- ---- the wrapper

asked : (w : World) (p : List ℕ) (k : ReplyKind) (allocated : ℕ) → Asks w p k allocated → step w (bulk_out p) ≡ on_wrapper (Some (wrapper (header_of p) (Reply k (min allocated (reply_size k))))) w
unfolding cut
asked w p k allocated a = taken w p _ a

-- no halt before the data
later : (a n : ℕ) (i o : Bool) → (halts_in (after_data pipe.In a n) i ≡ i) × (halts_out (after_data pipe.In a n) o ≡ o)
unfolding after_data halts_in halts_out
later a n i o =
    by-if (λ (h : Halt). (halts_in h i ≡ i) × (halts_out h o ≡ o)) (ltb n a) _ _ (λ _. (refl, refl)) (λ _. (refl, refl))

-- the record of a wrapper whose reply is announced
abbrev replying : Header → ReplyKind → ℕ → State → LogicalUnit → State
replying h k n s u = moved s s.link.haltin s.link.haltout (task (ReplyIn (reply_of k u) 0 n) h.lun h.tag h.announced h.announced)

settles : (h : Header) (k : ReplyKind) (n : ℕ) (s : State) (u : LogicalUnit) → begun_by (plain (In n) (after_data pipe.In h.announced n)) h (Reply k n) s u ≡ replying h k n s u
unfolding begun_by staged first_stage data_stage
settles h k n s u =
    let q = later h.announced n s.link.haltin s.link.haltout in
    λ j. moved s (q.0 j) (q.1 j) (task (ReplyIn (reply_of k u) 0 n) h.lun h.tag h.announced h.announced)

begins : (h : Header) (k : ReplyKind) (n : ℕ) (s : State) (u : LogicalUnit) → h.inward ≡ true → 0 < n → n ≤ h.announced → begun h (Reply k n) s u ≡ replying h k n s u
unfolding begun host_of has_of
begins h k n s u i p l =
    ap (λ (t : Transfer). begun_by (case_of t (In n)) h (Reply k n) s u) (if-true _ _ _ i)
    ∙ ap (λ (c : Case). begun_by c h (Reply k n) s u) (all-moves pipe.In h.announced n p l)
    ∙ settles h k n s u

-- of none, the status is due at once
ended : (h : Header) (k : ReplyKind) (s : State) (u : LogicalUnit) → (begun h (Reply k 0) s u).link.task ≡ task (StatusDue Passed) h.lun h.tag h.announced h.announced
unfolding begun begun_by has_of moved staged first_stage own_status
ended h k s u =
    let q = none_moves (host_of h) (In 0) refl in
    λ j. task (staged (q.1 j) (q.0 j) (Reply k 0) u) h.lun h.tag h.announced h.announced

-- ---- the ask

-- an ask whose checks pass
in_passed : (w : World) (b : List ℕ) → fitting w ≡ true → medium_fits w.units w.medium ≡ true → 64 ≤ length b → w.dev.state.configured ≡ true → step w (bulk_in b) ≡ packet_in w b
unfolding checks effect
in_passed w b f n h c = passes w (bulk_in b) (record { fit = f; medium = n; buffer = le-leb 64 (length b) h; packet = refl; setup = refl; configured = c; unit = refl })

-- a reply of at most a packet is handed out at once
handed : (w : World) (b : List ℕ) (r : replies.Reply) (n : ℕ) → w.dev.state.link.haltin ≡ false → w.dev.state.link.task.stage ≡ ReplyIn r 0 n → 0 < n → n ≤ 64
    → packet_in w b ≡ sends (take n (reply_data w.dev.identity.number r)) (in_state w (handed_state w.dev.state n n (ReplyIn r 64 (n - 64)))) b
unfolding packet_in ask ask_stage next_packet deliver bytes_of
handed w b r n h e p l =
    let z : min 64 n ≡ n = omega arith in
    ap (λ (a : Asked). deliver a w b) (if-false _ _ _ h ∙ ap (λ (g : Stage). ask_stage g w.dev.state) e ∙ if-false _ _ _ (ne_eqb n 0 (λ q. omega arith)))
    ∙ ap (λ (j : ℕ). sends (take j (reply_data w.dev.identity.number r)) (in_state w (handed_state w.dev.state j n (ReplyIn r 64 (n - 64)))) b) z

-- and the status is due, with so much less of a residue
residue-left : (s : State) (n : ℕ) (g : Stage) (j : ℕ) → j ≡ n → (handed_state s n n g).link.task.residue ≡ s.link.task.residue - j
unfolding handed_state moved
residue-left s n g j e = ap (λ (i : ℕ). s.link.task.residue - i) (sym e)

ends : (s : State) (n : ℕ) (g : Stage) → n ≤ 64 → (handed_state s n n g).link.task.stage ≡ StatusDue Passed
unfolding handed_state moved next_in
ends s n g l = if-true _ _ _ (le-leb n 64 l)

some-sent : (w : World) (p b : List ℕ) (k : ReplyKind) (allocated : ℕ) → Asks w p k allocated → Takes w p (first allocated (whole w p k)) → 0 < allocated → 64 ≤ length b
    → Sends (step (step w (bulk_out p)).world (bulk_in b)) (first allocated (whole w p k)) b (header_of p).announced
unfolding moved on_wrapper
some-sent w p b k allocated a t l h =
    let c = header_of p in
    let n = min allocated (reply_size k) in
    let s = whole w p k in
    let u = unit_at w.units c.lun in
    let us = set w.units c.lun (begun_unit c (Reply k n) u) in
    let r = replying c k n w.dev.state u in
    let more = ReplyIn (reply_of k u) 64 (n - 64) in
    let w₁ = world (with_state w.dev r) us w.medium in
    let size = same_size w p k allocated in
    let bounds = kind_bounds k in
    let low : 0 < n = omega arith in
    let high : n ≤ 64 = omega arith in
    let e₁ : step w (bulk_out p) ≡ out Ack w₁ [] =
    asked w p k allocated a ∙ ap (λ (x : State). out Ack (world (with_state w.dev x) us w.medium) []) (begins c k n w.dev.state u t.inward low (omega (arith, t.room))) in
    let same : as_made us ≡ as_made w.units = subst (λ (o : Out). as_made o.world.units ≡ as_made w.units) e₁ (keeps-parts w (bulk_out p)) in
    let e₂ : step w₁ (bulk_in b) ≡ sends (take n s) (in_state w₁ (handed_state r n n more)) b =
    in_passed w₁ b (fits_after w w₁ [] (bulk_out p) a.fit e₁) (same-medium w w₁ same refl a.medium) h a.due.configured
    ∙ handed w₁ b (reply_of k u) n t.haltin refl low high in
    let is : take n s ≡ first allocated s = ap (λ (j : ℕ). take (min allocated j) s) (sym (whole_length w p k)) in
    subst (λ (o : Out). Sends o (first allocated s) b c.announced) (sym (ap (λ (o : Out). step o.world (bulk_in b)) e₁ ∙ e₂))
    (record {
      answer = ap (λ (x : List ℕ). Data (length x)) is;
      buffer = ap (placed b 0) is;
      residue = residue-left r n more (length (first allocated s)) size;
      over = ends r n more high;
    })

none-sent : (w : World) (p : List ℕ) (k : ReplyKind) → Asks w p k 0
    → (step w (bulk_out p)).world.dev.state.link.task ≡ task (StatusDue Passed) (header_of p).lun (header_of p).tag (header_of p).announced (header_of p).announced
unfolding on_wrapper
none-sent w p k a =
    let z : min 0 (reply_size k) ≡ 0 = omega arith in
    ap (λ (o : Out). o.world.dev.state.link.task) (asked w p k 0 a)
    ∙ ap (λ (n : ℕ). (begun (header_of p) (Reply k n) w.dev.state (unit_at w.units (header_of p).lun)).link.task) z
    ∙ ended (header_of p) k w.dev.state (unit_at w.units (header_of p).lun)

pub cut-replies : CutReplies
cut-replies = record { some = some-sent; none = none-sent }

-- ---- the serial

pub same-serial : SameSerial
same-serial i = ap (λ (s : List ℕ). string_descriptor (drop 4 s)) (sym (page-bytes.page_80 i.number))
