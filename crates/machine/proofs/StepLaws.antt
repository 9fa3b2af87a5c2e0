-- What any event may do. Proofs for which the event does not matter go by these cases, as do the laws of specs/Beside.antt about one step. Assumes nothing.
use Prim.Native.Nat.{ℕ, ◌≤◌, ◌<◌, min}
use mathlib.Core.Path.{◌≡◌, refl, sym, ap, ◌∙◌, subst}
use mathlib.Core.Bool.{Bool, true}
use mathlib.Core.List.{List, [], ◌++◌}
use native.Mathlib.Omega.{arith}
use native.Mathlib.Nat.{zero-add}
use lib.ListN.{length, take, drop, set, length-take}
use lib.Seq.{set-get_or}
use borrow.Author.Tests.{ltb-true}
use Rattle.std.specs.declared.option.Option.TheVariants.{Some}
use Rattle.wire.specs.Numbers.{low}
use Rattle.wire.proofs.Cases.{by-if, both}
use Rattle.wire.proofs.Lists.{placed_yes}
use Rattle.scsi.specs.Sense.{no_sense, data_phase}
use Rattle.bot.specs.Cbw.{header_of}
use Rattle.bot.specs.Csw.{csw_bytes}
use Rattle.bot.specs.declared.cbw.Header.{Header}
use Rattle.bot.specs.declared.csw.Csw.{Csw}
use Rattle.bot.specs.declared.csw.Status.{Status}
use Rattle.bot.specs.declared.csw.Status.TheVariants as status
use Rattle.scsi.specs.declared.sense.Sense.{Sense}
use Rattle.scsi.specs.declared.reply.Reply.{Reply}
use Rattle.usb.specs.Request.{request_of}
use Rattle.usb.specs.declared.request.Request.{Request}
use Rattle.machine.specs.declared.record.Stage.{Stage}
use Rattle.machine.specs.declared.record.Stage.TheVariants.{Ready, DataOut, DataIn, ReplyIn, StatusDue}
use Rattle.machine.specs.declared.record.Task.{Task}
use Rattle.machine.specs.declared.record.State.{State}
use Rattle.machine.specs.declared.ask.Source.{Source}
use Rattle.machine.specs.declared.ask.Asked.{Asked}
use Rattle.machine.specs.declared.answer.Answer.TheVariants.{Data, Nak}
use Rattle.machine.specs.Units.{Table, unit, unit_at, with_sense, with_part}
use Rattle.machine.specs.Record.{device, task, no_task, with_halts, with_address, moved}
use Rattle.machine.specs.World.{World, world, in_state, dropped, switched, Out, out, sends, UnitOut, in_unit}
use Rattle.machine.specs.Wrapper.{accepted, plan_for, wrapper, wrapper_of}
use Rattle.machine.specs.Control.{reset}
use Rattle.machine.specs.Bulk.{locked_state, on_wrapper, cut_short, gathered_state, gathered, next_out, stored_state, stored_block, on_data, out_stage, packet_out, next_in, handed_state, next_packet, after_status, ask_stage, ask, bytes_of, deliver, packet_in}
use Rattle.machine.specs.Machine.{Event, bus_reset, control, bulk_out, bulk_in, set_switch, lent, effect, step}
use Rattle.machine.specs.Beside.{is_quiet, Lawful, unchanged, stalled, locked, handed, acked, StepLaws}
use Rattle.machine.proofs.Judge.{Passed, judge, in-room, control-room}
use Rattle.machine.proofs.Requests.{Did, performs}
use Rattle.machine.proofs.Requests as did

-- ---- what may be left

-- a stage within a command, and the one after it: no reply but the same
pub data Next (g : Stage) : Stage → Type 0 where
  same : Next g g
  status_next_lem : (x : Status) → Next g (StatusDue x)
  block_next : (block left held : ℕ) → Next g (DataOut block left held)
  byte_next : (place left : ℕ) → Next g (DataIn place left)
  reply_next : (r : Reply) (place left place' left' : ℕ) → g ≡ ReplyIn r place left → Next g (ReplyIn r place' left')

pub data Later (t : Task) : Task → Type 0 where
  on : (g : Stage) (r : ℕ) → Next t.stage g → Later t (task g t.lun t.tag t.announced r)
  over : Later t no_task

-- the table with another sense of one unit
abbrev pub sensed_at : Table → ℕ → Sense → Table
sensed_at us n s = set us n (with_sense (unit_at us n) s)

-- what an event may change; only the event that sets the switch moves it
pub data Changed (w : World) : Event → World → Type 0 where
  moves : {e : Event} (s : State) (p m : List ℕ) → Later w.dev.state.link.task s.link.task → Changed w e (world (device w.dev.identity s p) w.units m)
  drops : {e : Event} (a : ℕ) (c hi ho : Bool) → Changed w e (dropped w a c hi ho)
  begins : {e : Event} (h : Header) (b : List ℕ) → h.lun < length w.units → Changed w e (on_wrapper (Some (wrapper h (plan_for (unit_at w.units h.lun) b))) w).world
  turns : (x n : ℕ) → Changed w (set_switch x n) (switched w x n)
  cuts : {e : Event} (m : List ℕ) → Changed w e (world (cut_short w.dev) (sensed_at w.units w.dev.state.link.task.lun data_phase) m)

-- what an event leaves of the collector w and the buffer b
abbrev Does : World → Event → List ℕ → Out → Type 0
Does w e b o = Lawful w b o × Changed w e o.world

-- ---- how long what is sent can be

at_most : (n : ℕ) (s : List ℕ) → n ≤ 64 → length (take n s) ≤ 64
at_most n s h = let e = length-take n s in omega arith

status-short : (c : Csw) → length (csw_bytes c) ≤ 64
unfolding csw_bytes low
status-short c = omega arith

-- an accepted wrapper is for a unit in the table
pub listed : (us : Table) (p : List ℕ) → accepted (length us) p ≡ true → (header_of p).lun < length us
unfolding accepted
listed us p a = ltb-true _ _ (both _ _ (both _ _ a).1).0

module _ (w : World) where
  abbrev s : State
  s = w.dev.state

  kept : Later s.link.task s.link.task
  kept = on _ _ same

  stays : {e : Event} → Changed w e w
  stays = moves s _ _ kept

  naks : {e : Event} (b : List ℕ) → Does w e b (out Nak w b)
  unfolding is_quiet
  naks b = (unchanged Nak refl, stays)

  -- ---- a control request, an ask for a bulk-in packet

  module _ (e : Event) (b : List ℕ) (h : 64 ≤ length b) where
    -- data is put in front of the buffer, which is long enough
    sent : (x : List ℕ) (y : State) → length x ≤ 64 → Later s.link.task y.link.task → Does w e b (sends x (in_state w y) b)
    sent x y n t =
        let same = placed_yes b 0 x (omega arith) ∙ ap (λ (k : ℕ). x ++ drop k b) (zero-add (length x)) in
        (subst (λ (l : List ℕ). Lawful w b (out (Data (length x)) (in_state w y) l)) (sym same) (handed _ x n h), moves y _ _ t)

    requests : (q : Request) (o : Out) → Did w b q o → Does w e b o
    unfolding with_halts with_address
    requests q o did.stalls = (stalled, stays)
    requests q o (did.sends x n) = sent x s n kept
    requests q o (did.acks m) = (acked _, stays)
    requests q o (did.halts hi ho m c k) = (acked _, moves _ _ _ kept)
    requests q o (did.addresses a c) = (acked _, moves _ _ _ kept)
    requests q o (did.configures v) = (acked _, drops _ _ _ _)
    requests q o (did.resets c) = (acked _, drops _ _ _ _)

    abbrev Hands : Asked → Type 0
    Hands a = Does w e b (deliver a w b)

    packets : (left : ℕ) (x : Source) (more : Stage) → length (bytes_of x w) ≤ 64 → Next s.link.task.stage more → Hands (next_packet s left x more)
    unfolding next_packet deliver handed_state moved next_in
    packets left x more n g = by-if Hands _ _ _ (λ _. naks b) (λ _. sent _ _ n (on _ _ (by-if (Next s.link.task.stage) _ _ _ (λ _. status_next_lem _) (λ _. g))))

    after : (x : Status) → Later s.link.task (after_status x s).link.task
    unfolding after_status locked_state with_halts moved
    after status.Passed = over
    after status.Failed = over
    after status.PhaseError = over

    asks : (g : Stage) → s.link.task.stage ≡ g → Hands (ask_stage g s)
    unfolding ask_stage deliver bytes_of
    asks Ready i = naks b
    asks (DataOut block left held) i = naks b
    asks (DataIn place left) i = packets left _ _ (at_most (min 64 left) _ (omega arith)) (byte_next _ _)
    asks (ReplyIn r place left) i = packets left _ _ (at_most (min 64 left) _ (omega arith)) (reply_next r _ _ _ _ i)
    asks (StatusDue x) i = sent _ _ (status-short _) (after x)

  -- ---- a bulk-out packet

  module _ (p : List ℕ) where
    abbrev Takes : Out → Type 0
    Takes = Does w (bulk_out p) []

    -- a unit that stays
    in-unit : (n : ℕ) (x : State) (b m : List ℕ) → Later s.link.task x.link.task
        → Changed w (bulk_out p) (world (device w.dev.identity x b) (set w.units n (unit_at w.units n)) m)
    in-unit n x b m t =
        subst (λ (us : Table). Changed w (bulk_out p) (world (device w.dev.identity x b) us m)) (sym (set-get_or w.units n (unit 0 0 no_sense 0))) (moves x b m t)

    datas : (block left held : ℕ) → Takes (in_unit w s.link.task.lun (on_data block left held p))
    unfolding in_unit on_data gathered gathered_state stored_block stored_state moved next_out
    datas block left held =
        by-if In _ _ _ (λ _. by-if In _ _ _ (λ _. (acked _, in-unit _ _ _ _ (on _ _ (block_next _ _ _)))) (λ _. (acked _, in-unit _ _ _ _ (on _ _ stored))))
        (λ _. (acked _, cuts _))
      where
        In : UnitOut → Type 0
        In r =
            let n = s.link.task.lun in
            Takes (out r.answer (world r.dev (set w.units n r.unit) (with_part (unit_at w.units n) w.medium r.medium)) [])

        stored : Next s.link.task.stage (next_out block left)
        stored = by-if (Next _) _ _ _ (λ _. status_next_lem _) (λ _. block_next _ _ _)

    outs : (g : Stage) → Takes (out_stage g w p)
    unfolding out_stage on_wrapper wrapper_of locked_state with_halts
    outs Ready = by-if (λ x. Takes (on_wrapper x w)) _ _ _ (λ a. (acked _, begins _ _ (listed w.units p a))) (λ _. (locked, moves _ _ _ kept))
    outs (DataOut block left held) = by-if Takes _ _ _ (λ _. naks []) (λ _. datas block left held)
    outs (DataIn place left) = naks []
    outs (ReplyIn r place left) = naks []
    outs (StatusDue x) = naks []

  passed : (e : Event) → Passed w e → Does w e (lent e) (effect w e)
  unfolding lent effect reset packet_out packet_in ask deliver
  passed bus_reset x = (acked _, drops _ _ _ _)
  passed (control q b) x = requests _ b (control-room q b x) _ _ (performs w b (request_of q))
  passed (bulk_out p) x = by-if (Takes p) s.link.haltout _ _ (λ _. (stalled, stays)) (λ _. outs p s.link.task.stage)
  passed (bulk_in b) x =
      let h = in-room b b x in
      by-if (Hands _ b h) s.link.haltin _ _ (λ _. (stalled, stays)) (λ _. asks _ b h s.link.task.stage refl)
  passed (set_switch y n) x = (acked _, turns y n)

  does : (e : Event) → Does w e (lent e) (step w e)
  does e = judge (Does w e (lent e)) w e (λ a x. (unchanged a x.still, stays)) (passed e)

  pub changes : (e : Event) → Changed w e (step w e).world
  changes e = (does e).1

pub step_laws : StepLaws
step_laws w e = (does w e).0
