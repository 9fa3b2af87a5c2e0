-- The ledger of every list of events is in balance. Assumes nothing.
use Prim.Native.Nat.{ℕ, ◌+◌, ◌*◌, ◌-◌, ◌≤◌, ◌<◌, min}
use mathlib.Core.Path.{◌≡◌, refl, sym, ap, ◌∙◌, subst}
use mathlib.Core.Bool.{Bool, true, false}
use mathlib.Core.List.{List, [], ◌∷◌, map}
use native.Mathlib.Omega.{arith}
use native.Mathlib.Nat.{sub-zero}
use lib.Dec.{ltb, eqb}
use lib.ListN.{length, take, drop, set, length-append}
use borrow.Author.Tests.{leb-true, eqb-false, ltb-true}
use Rattle.std.specs.declared.option.Option.{Option}
use Rattle.std.specs.declared.option.Option.TheVariants.{None, Some}
use Rattle.wire.specs.Choice.{when◌then◌else◌, ◌and◌}
use Rattle.wire.specs.Slices.{Below}
use Rattle.wire.proofs.Cases.{by-if, if-true, if-false, both, and_false}
use Rattle.wire.proofs.Parts.{length_part}
use Rattle.scsi.specs.Reply.{reply_data}
use Rattle.scsi.specs.declared.reply.Reply as replies
use Rattle.scsi.proofs.Replies.{sizes, reply-short}
use Rattle.bot.specs.Csw.{csw_bytes}
use Rattle.bot.specs.declared.cbw.Header.{Header}
use Rattle.bot.specs.declared.csw.Status as code
use Rattle.bot.specs.declared.csw.Status.TheVariants.{Passed, Failed, PhaseError}
use Rattle.bot.proofs.RoundTrip.{length-csw}
use Rattle.usb.specs.Request.{request_of}
use Rattle.usb.specs.declared.request.Request.{Request}
use Rattle.machine.specs.declared.record.Stage.{Stage}
use Rattle.machine.specs.declared.record.Stage.TheVariants.{Ready, DataOut, DataIn, ReplyIn, StatusDue}
use Rattle.machine.specs.declared.record.Task.{Task}
use Rattle.machine.specs.declared.record.State.{State}
use Rattle.machine.specs.declared.wrapper.Wrapper.{Wrapper}
use Rattle.machine.specs.declared.ask.Source.{Source}
use Rattle.machine.specs.declared.ask.Source.TheVariants as source
use Rattle.machine.specs.declared.ask.Asked.{Asked}
use Rattle.machine.specs.declared.ask.Asked.TheVariants.{Packet}
use Rattle.machine.specs.declared.answer.Answer.{Answer}
use Rattle.machine.specs.declared.answer.Answer.TheVariants.{Data, Ack, Nak, Stall, Silent, Refused}
use Rattle.machine.specs.Answer.{count_of}
use Rattle.machine.specs.Units.{block_size, unit_at, part_of, with_part}
use Rattle.machine.specs.Record.{no_task, fresh, with_halts, dropped_state, with_address, moved}
use Rattle.machine.specs.Fits.{in_fits, stage_fits}
use Rattle.machine.specs.World.{World, world, in_state, dropped, Out, out, sends, UnitOut, in_unit}
use Rattle.machine.specs.Wrapper.{wrapper_of}
use Rattle.machine.specs.Control.{reset}
use Rattle.machine.specs.Begin.{begun_by, begun}
use Rattle.machine.specs.Bulk.{locked_state, on_wrapper, onward, cut_state, cut_short, gathered_state, gathered, next_out, stored_state, stored_block, on_data, out_stage, packet_out, next_in, handed_state, next_packet, after_status, csw_of, ask_stage, ask, bytes_of, deliver, packet_in}
use Rattle.machine.specs.Machine.{Event, bus_reset, control, bulk_out, bulk_in, set_switch, lent, effect, seen, step, run}
use Rattle.machine.specs.Handed.{handed, is_status}
use Rattle.machine.specs.Tally.{Making, Block, Tally, idle, writing, Log, turned, taken, heeded, is_ack, noted, observed}
use Rattle.machine.specs.Claim.{born, lived, is_drop, ends}
use Rattle.machine.specs.Beside.{is_quiet}
use Rattle.machine.specs.Halts.{due}
use Rattle.machine.specs.Ledger.{Command, command_of, status_of, arrived_with, Book, book, counting, took_packet, gave_packet, entered, Account, booked, opened, ledger, Paid, Balanced, IsBytes, AllBytes, Ledger}
use Rattle.machine.proofs.Judge.{Passed as Checked, judge, fit_passed, in-medium, in-room}
use Rattle.machine.proofs.Requests.{Did, stalls, acks, halts, addresses, configures, resets, performs}
use Rattle.machine.proofs.Requests as requests
use Rattle.machine.proofs.Making.{born-fresh}
use Rattle.machine.proofs.Fit.{Fit, fit_of, lun-fits, stage-fits, due-fits}
use Rattle.machine.proofs.Reach.{planned}
use Rattle.machine.proofs.Apart.{length-own}
use Rattle.machine.proofs.Sim.{Gathers, Together, rests, gathers, Sim, fills, taken-short, taken-half, taken-full, at_rest, simulates}
use Rattle.machine.proofs.Demand.{begins}
use Rattle.machine.proofs.Handed.{in_front, whole-packet, reply-packet, status-packet}
use Rattle.machine.proofs.Book.{Open, Keeps, Kept, balanced, counted, counted_none, paid, first-keeps, after_in, after-out, begins_with}

-- ---- one event

-- what comes of it in the book, and what it leaves in hand
record Enters (a : Account) (e : Event) (o : Out) : Type 0 where
  kept : Kept (booked a e (handed (seen o))).book o.world.dev.state.link.task

no_bytes : (a : Answer) → is_quiet a ≡ true → count_of a ≡ 0
unfolding is_quiet
no_bytes (Data n) h = let z : ◌≡◌ {A = ℕ} 0 1 = cc in absurd (omega arith)
no_bytes Ack h = refl
no_bytes Nak h = refl
no_bytes Stall h = refl
no_bytes Silent h = refl
no_bytes (Refused r) h = refl

not_both : (a b : Bool) → a ≡ false → (a and b) ≡ false
unfolding ◌and◌
not_both a b e = ap (λ (x : Bool). x and b) e

module _ (k : Making) (a : Account) (w : World) (s : Sim k a.log w) (h : Kept a.book w.dev.state.link.task) where
  abbrev l : Log
  l = a.log

  abbrev x : Book
  x = a.book

  abbrev t₀ : Task
  t₀ = w.dev.state.link.task

  at : (g : Stage) → t₀.stage ≡ g → Keeps g x.commands x.statuses t₀
  at g e = subst (λ (y : Stage). Keeps y x.commands x.statuses t₀) e h.stage

  -- the book comes to this
  comes_to : (e : Event) (o : Out) (y : Book) → (booked a e (handed (seen o))).book ≡ y → Kept y o.world.dev.state.link.task → Enters a e o
  comes_to e o y n g = record { kept = subst (λ (z : Book). Kept z o.world.dev.state.link.task) (sym n) g }

  -- nothing is entered, and the command stays as it was
  stays : (e : Event) (o : Out) → (booked a e (handed (seen o))).book ≡ x → o.world.dev.state.link.task ≡ t₀ → Enters a e o
  stays e o n q = comes_to e o x n (subst (Kept x) (sym q) h)

  -- an answer that neither acks nor hands out
  quiet-book : (e : Event) (r : Answer) (v : World) (b : List ℕ) → is_ack r ≡ false → count_of r ≡ 0 → (booked a e (handed (seen (out r v b)))).book ≡ x
  unfolding booked ends entered gave_packet is_status ◌and◌ when◌then◌else◌
  quiet-book bus_reset r v b n z = if-false _ _ _ n
  quiet-book (control q c) r v b n z = if-false _ _ _ (not_both _ _ n)
  quiet-book (bulk_out p) r v b n z = if-false _ _ _ n
  quiet-book (bulk_in c) r v b n z = ap (λ (y : ℕ). gave_packet (take y b) x) z ∙ counted_none x.commands x.statuses x.stray
  quiet-book (set_switch y m) r v b n z = refl

  quiet : (e : Event) (r : Answer) (v : World) (b : List ℕ) → is_ack r ≡ false → count_of r ≡ 0 → v.dev.state.link.task ≡ t₀ → Enters a e (out r v b)
  quiet e r v b n z q = stays e _ (quiet-book e r v b n z) q

  -- a drop: the next book is empty, and no command is in hand
  drops : (e : Event) (n : ℕ) (c hi ho : Bool) (b : List ℕ) → ends e Ack ≡ true → Enters a e (out Ack (dropped w n c hi ho) b)
  unfolding dropped dropped_state booked Paid
  drops e n c hi ho b d = comes_to e _ (book [] [] 0) (if-true _ _ _ d) (record { stage = tt; owned = refl })

  -- ---- control requests

  module _ (q b : List ℕ) where
    -- no request but a drop is entered
    minor : (r : Request) (y : Answer) (v : World) (c : List ℕ) → request_of q ≡ r → is_drop r ≡ false → v.dev.state.link.task ≡ t₀ → Enters a (control q b) (out y v c)
    unfolding booked ends entered
    minor r y v c e n g = stays (control q b) _ (if-false _ _ _ (ap (λ (z : Bool). is_ack y and z) (ap is_drop e ∙ n) ∙ and_false (is_ack y))) g

    dropping : (r : Request) → request_of q ≡ r → is_drop r ≡ true → ends (control q b) Ack ≡ true
    unfolding ends is_ack ◌and◌
    dropping r e n = ap is_drop e ∙ n

    hears : (r : Request) (o : Out) → request_of q ≡ r → Did w b r o → Enters a (control q b) o
    unfolding is_drop is_ack with_halts with_address booked ends entered ◌and◌ when◌then◌else◌
    hears r o e stalls = quiet (control q b) Stall w b refl refl refl
    hears r o e (requests.sends y n) = stays (control q b) _ refl refl
    hears r o e (acks m) = minor r Ack w b e m.goes_on_lem refl
    hears r o e (halts hi ho m c y) = minor r Ack _ b e m.goes_on_lem refl
    hears r o e (addresses n c) = minor r Ack _ b e refl refl
    hears r o e (configures v) = drops (control q b) _ _ _ _ b (dropping r e refl)
    hears r o e (resets c) = drops (control q b) _ _ _ _ b (dropping r e refl)

  -- ---- an ask for a bulk-in packet

  module _ (b : List ℕ) (ok : Checked w (bulk_in b)) where
    abbrev Asks : Asked → Type 0
    Asks y = Enters a (bulk_in b) (deliver y w b)

    no-packet : (y : Answer) → is_ack y ≡ false → count_of y ≡ 0 → Enters a (bulk_in b) (out y w b)
    no-packet y n z = quiet (bulk_in b) y w b n z refl

    -- the bytes that are handed out are what the accountant sees
    sees : (y : List ℕ) (v : World) → length y ≤ 64 → Kept (gave_packet y x) v.dev.state.link.task → Enters a (bulk_in b) (sends y v b)
    unfolding booked ends entered when◌then◌else◌
    sees y v n g = comes_to (bulk_in b) _ (gave_packet y x) (ap (λ (z : List ℕ). gave_packet z x) (in_front b y v (let r = in-room b b ok in omega arith))) g

    -- a packet of data
    packet : (y : List ℕ) (left : ℕ) (more : Stage) → length y ≡ min 64 left → is_status y ≡ false → left ≤ t₀.residue → Open x.commands x.statuses t₀
        → ((cs : List Command) (t : Task) → 64 < left → Open cs x.statuses t → Keeps more cs x.statuses t)
        → Enters a (bulk_in b) (sends y (in_state w (handed_state w.dev.state (min 64 left) left more)) b)
    unfolding gave_packet handed_state moved
    packet y left more n z r c f =
        sees y (in_state w (handed_state w.dev.state (min 64 left) left more)) (omega arith)
        (subst (λ (y : Book). Kept y (onward w.dev.state (next_in left more) (t₀.residue - min 64 left))) (sym (if-false _ _ _ z))
        (subst (λ (j : ℕ). Kept (counting j x.commands x.statuses x.stray) (onward w.dev.state (next_in left more) (t₀.residue - min 64 left))) (sym n)
        (counted (min 64 left) x.commands x.statuses x.stray t₀ (next_in left more) h.owned (omega arith) c
        (λ cs g. after_in left more cs x.statuses _ g (λ l. f cs _ l g)))))

    packets : (y : Source) (left : ℕ) (more : Stage) → length (bytes_of y w) ≡ min 64 left → ((left ≡ 0 → ⊥) → is_status (bytes_of y w) ≡ false) → left ≤ t₀.residue → Open x.commands x.statuses t₀
        → ((cs : List Command) (t : Task) → 64 < left → Open cs x.statuses t → Keeps more cs x.statuses t) → Asks (next_packet w.dev.state left y more)
    unfolding next_packet deliver is_ack
    packets y left more n z r c f =
        by-if Asks (eqb left 0) _ _ (λ _. no-packet Nak refl refl) (λ e. packet (bytes_of y w) left more n (z (eqb-false left 0 e)) r c f)

    -- a status wrapper
    settles : (y : code.Status) (v : State) → v.link.task ≡ no_task → Open x.commands x.statuses t₀ → Asks (Packet (source.Status (csw_of t₀ y)) v)
    unfolding deliver bytes_of gave_packet
    settles y v e c =
        sees (csw_bytes (csw_of t₀ y)) (in_state w v) (let n = length-csw (csw_of t₀ y) in omega arith)
        (subst (λ (z : Book). Kept z v.link.task) (sym (if-true _ _ _ (status-packet (csw_of t₀ y))))
        (subst (Kept (book x.commands (status_of (csw_bytes (csw_of t₀ y)) ∷ x.statuses) x.stray)) (sym e)
        (record { stage = paid (csw_of t₀ y) x.commands x.statuses t₀ refl refl c; owned = h.owned })))

    rested : (y : code.Status) → (after_status y w.dev.state).link.task ≡ no_task
    unfolding after_status locked_state with_halts moved
    rested Passed = refl
    rested Failed = refl
    rested PhaseError = refl

    fit : Fit w
    fit = fit_of w (fit_passed (bulk_in b) ok)

    -- a reply is one packet, whoever's it is, and no status wrapper
    module _ (y : replies.Reply) (place left : ℕ) (e : t₀.stage ≡ ReplyIn y place left) where
      reply-room : (number : ℕ) → place + left ≤ length (reply_data number y)
      unfolding stage_fits in_fits
      reply-room number = rw (sizes number y) (leb-true _ _ (both _ _ (stage-fits w.units t₀ fit.task (ReplyIn y place left) e)).0)

      reply-size : (number : ℕ) → length (take (min 64 left) (drop place (reply_data number y))) ≡ min 64 left
      reply-size number = let r = reply-room number in length_part place (min 64 left) (reply_data number y) (omega arith)

      reply-data : (number : ℕ) → is_status (take (min 64 left) (drop place (reply_data number y))) ≡ false
      reply-data number = ap (λ (j : ℕ). is_status (take (min 64 left) (drop j (reply_data number y)))) (at _ e).1 ∙ reply-packet number (min 64 left) y

      one-packet : 64 < left → ⊥
      one-packet m = let r = reply-room 0 in let short = reply-short 0 y in omega arith

    ins : (g : Stage) → t₀.stage ≡ g → Asks (ask_stage g w.dev.state)
    unfolding ask_stage deliver is_ack bytes_of stage_fits in_fits due
    ins Ready e = no-packet Nak refl refl
    ins (DataOut block left held) e = no-packet Nak refl refl
    ins (DataIn place left) e =
        let room : place + left ≤ block_size * (unit_at w.units t₀.lun).blocks = leb-true _ _ (both _ _ (stage-fits w.units t₀ fit.task (DataIn place left) e)).0 in
        let z = length-own w.units w.medium t₀.lun fit.laid (in-medium b b ok) (lun-fits w.units t₀ fit.task) in
        let c = at (DataIn place left) e in
        let whole = c.1 in
        let n : length (take (min 64 left) (drop place (part_of (unit_at w.units t₀.lun) w.medium))) ≡ min 64 left = length_part place (min 64 left) _ (omega arith) in
        packets _ left _ n (λ o. whole-packet _ (n ∙ omega arith)) (due-fits w.units t₀ fit.task (DataIn place left) e) c.0 (λ cs t m g. (g, omega arith))
    ins (ReplyIn y place left) e =
        packets _ left _ (reply-size y place left e _) (λ _. reply-data y place left e _) (due-fits w.units t₀ fit.task (ReplyIn y place left) e) (at _ e).0
        (λ cs t m g. absurd (one-packet y place left e m))
    ins (StatusDue y) e = settles y _ (rested y) (at (StatusDue y) e)

  -- ---- a bulk-out packet

  module _ (p : List ℕ) (ok : Checked w (bulk_out p)) where
    abbrev Takes : Out → Type 0
    Takes o = Enters a (bulk_out p) o

    ignored : (y : Answer) → is_ack y ≡ false → count_of y ≡ 0 → Takes (out y w [])
    ignored y n z = quiet (bulk_out p) y w [] n z refl

    -- an acked packet is a wrapper or data by the tally
    acked : (t : Tally) (v : World) → l.tally ≡ t → Kept (took_packet t p (arrived_with l (bulk_out p) Ack) x) v.dev.state.link.task → Takes (out Ack v [])
    unfolding booked ends entered is_ack when◌then◌else◌
    acked t v e g = comes_to (bulk_out p) _ _ (ap (λ (y : Tally). took_packet y p (arrived_with l (bulk_out p) Ack) x) e) g

    wrappers : Below 256 p → (y : Option Wrapper) → wrapper_of w.units p ≡ y → l.tally ≡ idle → Paid x.commands x.statuses → Takes (on_wrapper y w)
    unfolding on_wrapper locked_state with_halts begun begun_by moved took_packet is_ack
    wrappers z None e i g = quiet (bulk_out p) Stall _ [] refl refl refl
    wrappers z (Some y) e i g =
        let q = (planned w.units p y.header y.plan e).read in
        acked idle _ i
        (record {
          stage = first-keeps _ _ y.plan _ (command_of p ∷ x.commands) x.statuses _ (begins_with p _ z (ap (λ (v : Header). v.tag) q) (ap (λ (v : Header). v.announced) q), g);
          owned = h.owned;
        })

    -- so many blocks arrive with it
    arrives : (t t' : Tally) (bs : List Block) → l.tally ≡ t → taken t p l ≡ turned l t' bs → arrived_with l (bulk_out p) Ack ≡ 512 * length bs
    unfolding arrived_with noted heeded is_ack when◌then◌else◌
    arrives t t' bs e f =
        let n = length-append l.arrived bs in
        ap (λ (y : Log). 512 * (length y.arrived - length l.arrived)) (ap (λ (y : Tally). taken y p l) e ∙ f) ∙ omega arith

    -- data, with which so many bytes are counted
    counts : (v block left n : ℕ) (held : List ℕ) (g : Stage) (w' : World) → l.tally ≡ writing v block left held → arrived_with l (bulk_out p) Ack ≡ n → n ≤ t₀.residue → Open x.commands x.statuses t₀
        → w'.dev.state.link.task ≡ onward w.dev.state g (t₀.residue - n) → ((cs : List Command) (t : Task) → Open cs x.statuses t → Keeps g cs x.statuses t) → Takes (out Ack w' [])
    unfolding took_packet
    counts v block left n held g w' i e r c q f =
        acked (writing v block left held) w' i
        (subst (λ (j : ℕ). Kept (counting j x.commands x.statuses x.stray) w'.dev.state.link.task) (sym e)
        (subst (Kept (counting n x.commands x.statuses x.stray)) (sym q)
        (counted n x.commands x.statuses x.stray t₀ g h.owned r c (λ cs y. f cs _ y))))

    -- the residue stays where none are
    as_before : (g : Stage) → onward w.dev.state g t₀.residue ≡ onward w.dev.state g (t₀.residue - 0)
    as_before g = ap (onward w.dev.state g) (sym (sub-zero t₀.residue))

    module _ {block left held : ℕ} {front : List ℕ} (i : l.tally ≡ writing t₀.lun block left front) (g : Gathers left front held w.dev.part)
        (c : Open x.commands x.statuses t₀) (r : 512 * left ≤ t₀.residue) where
      abbrev Lifted : UnitOut → Type 0
      Lifted o = Takes (out o.answer (world o.dev (set w.units t₀.lun o.unit) (with_part (unit_at w.units t₀.lun) w.medium o.medium)) [])

      data' : Takes (in_unit w t₀.lun (on_data block left held p))
      unfolding in_unit on_data cut_short gathered stored_block cut_state gathered_state stored_state moved
      data' =
          let size = g.size in
          let some = g.some in
          by-if Lifted (eqb (length p) 64) _ _
          (λ e. by-if Lifted (ltb (held + 64) 512) _ _
          (λ n. let n' = ltb-true (held + 64) 512 n in
          counts _ block left 0 front (DataOut block left (held + 64)) _ i (arrives _ _ [] i (taken-half _ _ _ front p l e (omega arith))) (omega arith) c (as_before _) (λ cs t y. y))
          (λ n. let n' = fills g n in
          counts _ block left 512 front (next_out block left) _ i (arrives _ _ (_ ∷ []) i (taken-full _ _ _ front p l e (omega arith))) (omega arith) c refl (λ cs t y. after-out block left cs x.statuses t y)))
          (λ e. counts _ block left 0 front (StatusDue PhaseError) _ i (arrives _ _ [] i (taken-short _ _ _ front p l e)) (omega arith) c (as_before _) (λ cs t y. y))

    datas : (block left held v : ℕ) (t : Tally) → l.tally ≡ t → v ≡ t₀.lun → Together t (DataOut block left held) v w.dev.part → Open x.commands x.statuses t₀ → 512 * left ≤ t₀.residue
        → Takes (in_unit w t₀.lun (on_data block left held p))
    datas block left held v t i e (rests y z) c r = absurd y
    datas block left held v t i e (gathers {held = y} g) c r = data' (i ∙ ap (λ (n : ℕ). writing n block left y) e) g c r

    outs : Below 256 p → (g : Stage) → t₀.stage ≡ g → Takes (out_stage g w p)
    unfolding out_stage is_ack due
    outs z Ready e =
        wrappers z (wrapper_of w.units p) refl (at_rest (subst (λ (y : Stage). Together l.tally y t₀.lun w.dev.part) e s.tally) tt).0
        (at _ e)
    outs z (DataOut block left held) e =
        by-if Takes (eqb left 0) _ _ (λ _. ignored Nak refl refl)
        (λ _. datas block left held t₀.lun l.tally refl refl (subst (λ (y : Stage). Together l.tally y t₀.lun w.dev.part) e s.tally)
        (at _ e) (due-fits w.units t₀ (fit_of w (fit_passed (bulk_out p) ok)).task (DataOut block left held) e))
    outs z (DataIn place left) e = ignored Nak refl refl
    outs z (ReplyIn y place left) e = ignored Nak refl refl
    outs z (StatusDue y) e = ignored Nak refl refl

  -- ---- any event

  effects : (e : Event) → IsBytes e → Checked w e → Enters a e (effect w e)
  unfolding effect reset packet_out packet_in ask deliver booked ends entered is_ack when◌then◌else◌
  effects bus_reset y ok = drops bus_reset 0 false false false [] refl
  effects (control q b) y ok = hears q b (request_of q) _ refl (performs w b (request_of q))
  effects (bulk_out p) y ok = by-if (Enters a (bulk_out p)) w.dev.state.link.haltout _ _ (λ _. ignored p ok Stall refl refl) (λ _. outs p ok y t₀.stage refl)
  effects (bulk_in b) y ok = by-if (λ (z : Asked). Enters a (bulk_in b) (deliver z w b)) w.dev.state.link.haltin _ _ (λ _. no-packet b ok Stall refl refl) (λ _. ins b ok t₀.stage refl)
  effects (set_switch y n) z ok = stays (set_switch y n) _ refl refl

  event : (e : Event) → IsBytes e → Enters a e (step w e)
  event e y = judge (Enters a e) w e (λ r z. quiet e r w (lent e) z.quiet (no_bytes r z.still) refl) (effects e y)

-- ---- every list

on : (k : Making) (es : List Event) (a : Account) (w : World) → AllBytes es → Sim k a.log w → Kept a.book w.dev.state.link.task
    → Balanced (observed booked a es (map handed (run w es).replies)).book
unfolding observed booked run AllBytes
on k [] a w y s h = balanced a.book _ h
on k (e ∷ es) a w y s h = on k es _ (step w e).world y.1 (simulates k a.log w e s) (event k a w s h e y.0).kept

pub keeps-ledger : Ledger
unfolding Ledger ledger lived fresh Paid
keeps-ledger k ok es y =
    on k es (opened k) (born k) y (begins k ok) (subst (λ (w : World). Kept (book [] [] 0) w.dev.state.link.task) (sym (born-fresh k ok)) (record { stage = tt; owned = refl }))
