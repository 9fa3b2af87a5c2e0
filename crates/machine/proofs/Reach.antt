-- Every record reached from a fresh one fits together with its table. Assumes nothing.
use Prim.Native.Nat.{ℕ, ◌+◌, ◌*◌, ◌-◌, ◌≤◌, ◌<◌, ◌%◌, min}
use mathlib.Core.Path.{◌≡◌, refl, sym, ap, ◌∙◌, subst}
use mathlib.Core.Bool.{Bool, true, false, not, true≢false}
use mathlib.Core.List.{List, []}
use native.Mathlib.Omega.{arith}
use lib.Dec.{leb, ltb, eqb}
use lib.ListN.{length, drop, set}
use lib.Seq.{set-get_or}
use borrow.Author.Tests.{leb-true, leb-false, ltb-true, eqb-true, eqb-false, le-leb, lt-ltb, eq-eqb}
use Rattle.std.specs.declared.option.Option.{Option}
use Rattle.std.specs.declared.option.Option.TheVariants.{None, Some}
use Rattle.wire.specs.Choice.{when◌then◌else◌, ◌and◌}
use Rattle.wire.proofs.Cases.{both, and_true, and_false, by-if, if-true, if-false}
use Rattle.scsi.specs.Reply.{kind_of, reply_size}
use Rattle.scsi.specs.Sense.{is_no_sense}
use Rattle.scsi.specs.declared.command.Plan.{Plan}
use Rattle.scsi.specs.declared.command.Plan.TheVariants.{Failed, Nothing, Reply, Read, Write}
use Rattle.scsi.specs.declared.reply.ReplyKind.{ReplyKind}
use Rattle.scsi.specs.declared.reply.ReplyKind.TheVariants as kind
use Rattle.scsi.proofs.Plans.{PlanFits, plan-fits}
use Rattle.cases.specs.Cases.{case_of}
use Rattle.cases.specs.declared.Transfer.{Transfer}
use Rattle.cases.specs.declared.Case.{Case}
use Rattle.bot.specs.declared.cbw.Header.{Header}
use Rattle.bot.specs.declared.csw.Status.{Status}
use Rattle.bot.specs.declared.csw.Status.TheVariants as status
use Rattle.cases.specs.Claims.{amount, Follows, nothing_moves, no_match, all_in, all_out}
use Rattle.cases.proofs.Moves.{cases_follow}
use Rattle.usb.specs.Request.{request_of}
use Rattle.usb.proofs.Addresses.{address-low}
use Rattle.machine.specs.declared.record.Stage.{Stage}
use Rattle.machine.specs.declared.record.Stage.TheVariants.{Ready, DataOut, DataIn, ReplyIn, StatusDue}
use Rattle.machine.specs.declared.record.Task.{Task}
use Rattle.machine.specs.declared.record.LogicalUnit.{LogicalUnit}
use Rattle.machine.specs.declared.record.Link.{Link}
use Rattle.machine.specs.declared.record.State.{State}
use Rattle.machine.specs.declared.wrapper.Wrapper.{Wrapper}
use Rattle.machine.specs.Wrapper.{accepted, plan_for, wrapper, wrapper_of}
use Rattle.bot.specs.Cbw.{header_of}
use Rattle.usb.specs.declared.request.Request.{Request}
use Rattle.machine.specs.declared.ask.Source.{Source}
use Rattle.machine.specs.declared.ask.Asked.{Asked}
use Rattle.machine.specs.Units.{switch_fits, Table, unit_at, in_table, cleared, switched_to, every, laid_out, with_part}
use Rattle.machine.specs.Record.{device, no_task, with_halts, dropped_state, with_address, moved}
use Rattle.machine.specs.Fits.{address_fits, is_ready, idle_fits, lock_fits, out_fits, in_fits, stage_fits, task_fits}
use Rattle.machine.specs.World.{World, world, in_state, dropped, switched, Out, UnitOut, in_unit}
use Rattle.machine.specs.Control.{reset}
use Rattle.machine.specs.Begin.{host_of, has_of, reply_of, data_stage, first_stage, staged, begun_by, begun, begun_unit}
use Rattle.machine.specs.Bulk.{locked_state, on_wrapper, onward, cut_short, gathered, next_out, stored_block, on_data, out_stage, packet_out, cut_state, gathered_state, stored_state, next_in, handed_state, next_packet, after_status, ask_stage, ask, deliver, packet_in}
use Rattle.machine.specs.Machine.{Event, bus_reset, control, bulk_out, bulk_in, set_switch, effect, step}
use Rattle.machine.proofs.Judge.{Passed, judge, out-configured, in-configured, switch_passed}
use Rattle.machine.proofs.Requests.{Did, stalls, sends, acks, halts, addresses, configures, resets, performs}
use Rattle.machine.proofs.Tables.{cleared_again, cleared-sensed, calm_cleared, same-switches, calm_switched, fits-switched, made-cleared, made-switched, same_parts, laid-some, same-laid}
use Rattle.machine.proofs.Fit.{Fit, lun-fits, stage-fits, same-task}

-- ---- the first stage of a command

-- a reply is of the kind that was asked for, whatever was found
pub same_kind : (k : ReplyKind) (u : LogicalUnit) → kind_of (reply_of k u) ≡ k
unfolding reply_of
same_kind kind.Sense u = refl
same_kind kind.Inquiry u = refl
same_kind (kind.Page p) u = refl
same_kind kind.ModeSense u = refl
same_kind kind.Capacity u = refl

same-le : (n : ℕ) → leb n n ≡ true
same-le n = le-leb n n (omega arith)

data_fits : (n : ℕ) (p : Plan) (u : LogicalUnit) (a : ℕ) → PlanFits n p → amount (has_of p) ≤ a → stage_fits n (data_stage p u) a a ≡ true
unfolding stage_fits data_stage has_of out_fits in_fits
data_fits n (Failed s) u a f h = same-le a
data_fits n Nothing u a f h = same-le a
data_fits n (Reply k size) u a f h =
    let z = ap reply_size (same_kind k u) in
    and_true _ _ (le-leb (0 + size) (reply_size (kind_of (reply_of k u))) (omega arith)) (and_true _ _ (le-leb size a h) (same-le a))
data_fits n (Read block count) u a f h =
    and_true _ _ (le-leb (512 * block + 512 * count) (512 * n) (omega arith)) (and_true _ _ (le-leb (512 * count) a h) (same-le a))
data_fits n (Write block count) u a f h =
    and_true _ _ (le-leb (block + count) n f) (and_true _ _ refl (and_true _ _ refl (and_true _ _ (le-leb (512 * count) a h) (same-le a))))

case_fits : (n : ℕ) (p : Plan) (u : LogicalUnit) (a : ℕ) (c : Case) → PlanFits n p → Follows a (amount (has_of p)) c
    → stage_fits n (staged c.ending c.moves p u) a a ≡ true
unfolding stage_fits staged first_stage out_fits in_fits
case_fits n p u a c f (nothing_moves e) = same-le a
case_fits n p u a c f (no_match e) = same-le a
case_fits n p u a c f (all_in h) = data_fits n p u a f h
case_fits n p u a c f (all_out h) = data_fits n p u a f h

host_amount : (h : Header) → amount (host_of h) ≡ h.announced
unfolding host_of
host_amount h = by-if (λ (t : Transfer). amount t ≡ h.announced) h.inward _ _ (λ _. refl) (λ _. refl)

pub case_follows : (h : Header) (p : Plan) → Follows h.announced (amount (has_of p)) (case_of (host_of h) (has_of p))
case_follows h p = subst (λ (a : ℕ). Follows a (amount (has_of p)) (case_of (host_of h) (has_of p))) (host_amount h) (cases_follow (host_of h) (has_of p))

-- an accepted wrapper has the packet's fields; its plan keeps to its unit, which is in the table
pub record Planned (us : Table) (p : List ℕ) (h : Header) (x : Plan) : Type 0 where
  pub read : header_of p ≡ h
  pub listed : in_table h.lun us ≡ true
  pub fits : PlanFits (unit_at us h.lun).blocks x

pub planned : (us : Table) (p : List ℕ) (h : Header) (x : Plan) → wrapper_of us p ≡ Some (wrapper h x) → Planned us p h x
unfolding wrapper_of accepted
planned us p h x =
    by-if (λ (w : Option Wrapper). w ≡ Some (wrapper h x) → Planned us p h x) (accepted (length us) p) _ _
    (λ a e. subst (λ (y : Plan). Planned us p h y) (plan-same e)
    (subst (λ (y : Header). Planned us p y (plan_for (unit_at us (header_of p).lun) (drop 15 p))) (header-same e)
    (record { read = refl; listed = (both _ _ (both _ _ a).1).0; fits = plan-fits (drop 15 p) (unit_at us (header_of p).lun).blocks _ })))
    (λ _ e. absurd (broken e))
  where
    same : {v w : Wrapper} → Some v ≡ Some w → v ≡ w
    same e = cc

    plan-same : {a b : Header} {y z : Plan} → Some (wrapper a y) ≡ Some (wrapper b z) → y ≡ z
    plan-same e = ap (λ (w : Wrapper). w.plan) (same e)

    header-same : {a b : Header} {y z : Plan} → Some (wrapper a y) ≡ Some (wrapper b z) → a ≡ b
    header-same e = ap (λ (w : Wrapper). w.header) (same e)

    broken : None ≡ Some (wrapper h x) → ⊥
    broken e = let z : ◌≡◌ {A = ℕ} 0 1 = cc in omega arith

-- ---- bounds of a transfer

-- one more packet of 64 bytes
one_more : (n place left a r : ℕ) → 64 < left → place + left ≤ n → left ≤ r → r ≤ a → in_fits n (place + 64) (left - 64) a (r - 64) ≡ true
unfolding in_fits
one_more n place left a r l x y z =
    and_true _ _ (le-leb (place + 64 + (left - 64)) n (omega arith)) (and_true _ _ (le-leb (left - 64) (r - 64) (omega arith)) (le-leb (r - 64) a (omega arith)))

out-task : (n block left held a r : ℕ) → block + left ≤ n → held % 64 ≡ 0 → held < 512 → 512 * left ≤ r → r ≤ a → out_fits n block left held a r ≡ true
unfolding out_fits
out-task n block left held a r x y z u v =
    and_true _ _ (le-leb _ _ x) (and_true _ _ (eq-eqb _ _ y) (and_true _ _ (lt-ltb _ _ z) (and_true _ _ (le-leb _ _ u) (le-leb _ _ v))))

-- the next block is due, or the status, whatever the unit that it is of
next_fits : (n block left a r : ℕ) → block + left ≤ n → 512 * left ≤ r → r ≤ a → (left ≡ 0 → ⊥) → stage_fits n (next_out block left) a (r - 512) ≡ true
unfolding next_out stage_fits
next_fits n block left a r x u v z =
    by-if (λ (g : Stage). stage_fits n g a (r - 512) ≡ true) (leb left 1) _ _
    (λ _. le-leb (r - 512) a (omega arith))
    (λ e. let l = leb-false left 1 e in out-task n (block + 1) (left - 1) 0 a (r - 512) (omega arith) refl (omega arith) (omega arith) (omega arith))

-- no command is in hand: its unit is 0, and a table has one
pub none-fits : (us : Table) → laid_out us ≡ true → task_fits us no_task ≡ true
unfolding task_fits stage_fits
none-fits us h = and_true _ _ (lt-ltb 0 (length us) (laid-some us h)) refl

-- ---- a lock

lock_is : (l : Link) → l.locked ≡ true → lock_fits l ≡ (l.haltin and l.haltout)
unfolding lock_fits
lock_is l k = if-true _ _ _ k

not_both : (b : Bool) → (b ≡ true → ⊥) → b ≡ false
not_both true n = absurd (n refl)
not_both false n = refl

and-left_false : (a b : Bool) → a ≡ false → (a and b) ≡ false
unfolding ◌and◌
and-left_false true b e = absurd (true≢false e)
and-left_false false b e = refl

-- ---- one event

module _ (w : World) (f : Fit w) where
  abbrev s : State
  s = w.dev.state

  abbrev us : Table
  us = w.units

  abbrev t : Task
  t = s.link.task

  abbrev Kept : Out → Type 0
  Kept o = Fit o.world

  locked-halts : s.link.locked ≡ true → (s.link.haltin and s.link.haltout) ≡ true
  locked-halts k = sym (lock_is s.link k) ∙ f.lock

  -- a pipe that is not halted is not locked
  unlocked : (s.link.haltin and s.link.haltout) ≡ false → s.link.locked ≡ false
  unlocked e = not_both s.link.locked (λ k. true≢false (sym (locked-halts k) ∙ e))

  -- ---- what each way of changing the collector keeps

  -- a configured, unlocked device moves on within a command
  moves : s.configured ≡ true → s.link.locked ≡ false → (hi ho : Bool) (g : Task) (b : List ℕ) (vs : Table) (m : List ℕ) → cleared vs ≡ cleared us
      → task_fits us g ≡ true → Fit (world (device w.dev.identity (moved s hi ho g) b) vs m)
  unfolding moved idle_fits lock_fits
  moves c k hi ho g b vs m e h =
      record {
        laid = same-laid vs us (same_parts vs us e) ∙ f.laid;
        switches = same-switches vs us e ∙ f.switches;
        number = f.number;
        address = f.address;
        idle = if-true _ _ _ c;
        lock = if-false _ _ _ k;
        task = same-task vs us (same_parts vs us e) g ∙ h;
      }

  halted : s.configured ≡ true → (hi ho k : Bool) → (k ≡ true → (hi and ho) ≡ true) → Fit (in_state w (with_halts s hi ho k))
  unfolding with_halts idle_fits lock_fits
  halted c hi ho k h =
      record {
        laid = f.laid;
        switches = f.switches;
        number = f.number;
        address = f.address;
        idle = if-true _ _ _ c;
        lock = by-if (λ (b : Bool). b ≡ true) k (hi and ho) true h (λ _. refl);
        task = f.task;
      }

  drops : (a : ℕ) (c hi ho : Bool) → address_fits a ≡ true → (c ≡ false → (not hi and not ho) ≡ true) → Fit (dropped w a c hi ho)
  unfolding dropped dropped_state idle_fits lock_fits is_ready when◌then◌else◌ ◌and◌
  drops a c hi ho l h =
      record {
        laid = same-laid (cleared us) us (made-cleared us) ∙ f.laid;
        switches = same-switches (cleared us) us (cleared_again us) ∙ f.switches;
        number = f.number;
        address = l;
        idle = by-if (λ (b : Bool). b ≡ true) c true (not hi and not ho and every (λ u. is_no_sense u.sense) (cleared us)) (λ _. refl)
            (λ e. let b = both (not hi) (not ho) (h e) in and_true (not hi) _ b.0 (and_true (not ho) _ b.1 (calm_cleared us)));
        lock = refl;
        task = none-fits (cleared us) (same-laid (cleared us) us (made-cleared us) ∙ f.laid);
      }

  pub turns : (x n : ℕ) → switch_fits x ≡ true → Fit (switched w x n)
  unfolding idle_fits
  turns x n h =
      record {
        laid = same-laid (switched_to us x n) us (made-switched us x n) ∙ f.laid;
        switches = fits-switched us x n h f.switches;
        number = f.number;
        address = f.address;
        idle = simp (calm_switched us x n) f.idle;
        lock = f.lock;
        task = same-task (switched_to us x n) us (made-switched us x n) t ∙ f.task;
      }

  -- ---- control requests

  requests : (q b : List ℕ) (r : Request) (o : Out) → request_of q ≡ r → Did w b r o → Kept o
  unfolding with_address address_fits idle_fits ◌and◌
  requests q b r o e stalls = f
  requests q b r o e (sends x n) = f
  requests q b r o e (acks m) = f
  requests q b r o e (halts hi ho m c h) = halted c hi ho _ (λ k. h k (locked-halts k))
  requests q b r o e (addresses a c) =
      record { laid = f.laid; switches = f.switches; number = f.number; address = le-leb a 0x7F (address-low q a e); idle = f.idle; lock = f.lock; task = f.task }
  requests q b r o e (configures v) = drops _ _ _ _ f.address (λ _. refl)
  requests q b r o e (resets c) = drops _ true _ _ f.address (λ x. absurd (true≢false x))

  -- the next stage of the command in hand, of the same unit
  onward-fits : (g : Stage) (r : ℕ) → stage_fits (unit_at us t.lun).blocks g t.announced r ≡ true → task_fits us (onward s g r) ≡ true
  unfolding task_fits
  onward-fits g r x = and_true _ _ (lt-ltb _ _ (lun-fits us t f.task)) x

  -- ---- a bulk-out packet, of a configured device whose bulk-out pipe is not halted

  module _ (c : s.configured ≡ true) (o : s.link.haltout ≡ false) (p : List ℕ) where
    free : s.link.locked ≡ false
    free = unlocked (ap (λ (b : Bool). s.link.haltin and b) o ∙ and_false s.link.haltin)

    wrappers : (x : Option Wrapper) → wrapper_of us p ≡ x → Kept (on_wrapper x w)
    unfolding on_wrapper locked_state begun begun_by begun_unit task_fits ◌and◌
    wrappers None e = halted c true true true (λ _. refl)
    wrappers (Some y) e =
        let h = y.header in
        let x = y.plan in
        let q = planned us p h x e in
        moves c free _ _ _ _ _ _ (cleared-sensed us h.lun _)
        (and_true _ _ q.listed (case_fits _ x _ h.announced _ q.fits (case_follows h x)))

    abbrev Lifted : UnitOut → Type 0
    Lifted r = Fit (world r.dev (set us t.lun r.unit) (with_part (unit_at us t.lun) w.medium r.medium))

    datas : (block left held : ℕ) → t.stage ≡ DataOut block left held → (left ≡ 0 → ⊥) → Kept (in_unit w t.lun (on_data block left held p))
    unfolding in_unit on_data cut_short gathered stored_block cut_state gathered_state stored_state stage_fits out_fits
    datas block left held e n =
        let a = both _ _ (stage-fits us t f.task (DataOut block left held) e) in
        let b = both _ _ a.1 in
        let x = both _ _ b.1 in
        let y = both _ _ x.1 in
        let within = leb-true _ _ a.0 in
        let whole : held % 64 ≡ 0 = eqb-true _ _ b.0 in
        let due = leb-true _ _ y.0 in
        let most = leb-true _ _ y.1 in
        let same = ap cleared (set-get_or us t.lun _) in
        by-if Lifted (eqb (length p) 64) _ _
        (λ _. by-if Lifted (ltb (held + 64) 512) _ _
        (λ z. moves c free _ _ _ _ _ _ same (onward-fits _ _ (out-task _ block left (held + 64) _ _ within (omega arith) (ltb-true _ _ z) due most)))
        (λ _. moves c free _ _ _ _ _ _ same (onward-fits _ _ (next_fits _ block left _ _ within due most n))))
        (λ _. moves c free _ _ _ _ _ _ (cleared-sensed us t.lun _) (onward-fits _ _ (le-leb _ _ most)))

    outs : (g : Stage) → t.stage ≡ g → Kept (out_stage g w p)
    unfolding out_stage
    outs Ready e = wrappers (wrapper_of us p) refl
    outs (DataOut block left held) e = by-if Kept (eqb left 0) _ _ (λ _. f) (λ z. datas block left held e (eqb-false left 0 z))
    outs (DataIn place left) e = f
    outs (ReplyIn reply place left) e = f
    outs (StatusDue x) e = f

  -- ---- an ask for a bulk-in packet, of a configured device whose bulk-in pipe is not halted

  module _ (c : s.configured ≡ true) (o : s.link.haltin ≡ false) (b : List ℕ) where
    abbrev Handed : Asked → Type 0
    Handed a = Kept (deliver a w b)

    open' : s.link.locked ≡ false
    open' = unlocked (and-left_false s.link.haltin s.link.haltout o)

    onwards : (hi ho : Bool) (g : Task) → task_fits us g ≡ true → Fit (in_state w (moved s hi ho g))
    onwards hi ho g h = moves c open' hi ho g _ _ _ refl h

    -- a transfer of bytes to the host, whatever their source: one more packet keeps its bounds
    asks : (x : Source) (place left size : ℕ) (more : Stage) → in_fits size place left t.announced t.residue ≡ true
        → stage_fits (unit_at us t.lun).blocks more t.announced (t.residue - 64) ≡ in_fits size (place + 64) (left - 64) t.announced (t.residue - 64)
        → Handed (next_packet s left x more)
    unfolding next_packet deliver handed_state next_in in_fits stage_fits
    asks x place left size more v g =
        let h = both _ _ v in
        let k = both _ _ h.1 in
        let y : left ≤ t.residue = leb-true _ _ k.0 in
        let z : t.residue ≤ t.announced = leb-true _ _ k.1 in
        let less : t.residue - min 64 left ≤ t.announced = omega arith in
        by-if Handed (eqb left 0) _ _ (λ _. f)
        (λ _. onwards _ _ _
        (by-if (λ (i : Stage). task_fits us (onward s i (t.residue - min 64 left)) ≡ true) (leb left 64) _ _
        (λ _. onward-fits _ _ (le-leb _ _ less))
        (λ e.
        let l = leb-false left 64 e in
        let j : min 64 left ≡ 64 = omega arith in
        subst (λ (n : ℕ). task_fits us (onward s more (t.residue - n)) ≡ true) (sym j) (onward-fits more _ (g ∙ one_more size place left _ _ l (leb-true _ _ h.0) y z)))))

    idles : task_fits us no_task ≡ true
    idles = none-fits us f.laid

    after : (x : Status) → Fit (in_state w (after_status x s))
    unfolding after_status locked_state with_halts moved idle_fits lock_fits when◌then◌else◌ ◌and◌
    after status.Passed = onwards _ _ no_task idles
    after status.Failed = onwards _ _ no_task idles
    after status.PhaseError = let h = onwards true true no_task idles in record { laid = h.laid; switches = h.switches; number = h.number; address = h.address; idle = if-true _ _ _ c; lock = refl; task = idles }

    ins : (g : Stage) → t.stage ≡ g → Handed (ask_stage g s)
    unfolding ask_stage deliver stage_fits
    ins Ready e = f
    ins (DataOut block left held) e = f
    ins (DataIn place left) e = asks _ place left _ _ (stage-fits us t f.task (DataIn place left) e) refl
    ins (ReplyIn reply place left) e = asks _ place left _ _ (stage-fits us t f.task (ReplyIn reply place left) e) refl
    ins (StatusDue x) e = after x

pub stays_fit : (w : World) → Fit w → (e : Event) → Fit (step w e).world
unfolding effect reset packet_out packet_in ask deliver address_fits ◌and◌
stays_fit w f e = judge (λ (o : Out). Fit o.world) w e (λ a x. f) (event e)
  where
    event : (e : Event) → Passed w e → Fit (effect w e).world
    event bus_reset x = drops w f 0 false false false refl (λ _. refl)
    event (control q b) x = requests w f q b (request_of q) _ refl (performs w b (request_of q))
    event (bulk_out p) x =
        by-if (λ (o : Out). Fit o.world) w.dev.state.link.haltout _ _ (λ _. f) (λ o. outs w f (out-configured p [] x) o p w.dev.state.link.task.stage refl)
    event (bulk_in b) x =
        by-if (λ (a : Asked). Fit (deliver a w b).world) w.dev.state.link.haltin _ _ (λ _. f) (λ o. ins w f (in-configured [] b x) o b w.dev.state.link.task.stage refl)
    event (set_switch y n) x = turns w f y n (switch_passed x)
