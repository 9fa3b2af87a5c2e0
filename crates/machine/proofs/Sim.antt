-- One event keeps the history, the record, the table and the medium together. Assumes nothing.
use Prim.Native.Nat.{ℕ, ◌+◌, ◌*◌, ◌-◌, ◌<◌, ◌≤◌, ◌%◌}
use mathlib.Core.Path.{◌≡◌, refl, sym, ap, ◌∙◌, subst}
use mathlib.Core.Bool.{Bool, true, false}
use mathlib.Core.List.{List, [], ◌∷◌, ◌++◌}
use native.Mathlib.Omega.{arith}
use lib.ListN.{length, set, length-append}
use lib.Seq.{set-get_or}
use lib.Dec.{leb, ltb, eqb, lit<}
use borrow.Author.Tests.{eqb-true, eq-eqb, ne_eqb, ltb-true, ltb-false, leb-false}
use Rattle.std.specs.declared.option.Option.{Option}
use Rattle.std.specs.declared.option.Option.TheVariants.{None, Some}
use Rattle.wire.specs.Choice.{when◌then◌else◌}
use Rattle.wire.specs.Slices.{zeros, placed}
use Rattle.wire.proofs.Cases.{by-if, if-true, if-false}
use Rattle.bot.specs.declared.csw.Status.{Status}
use Rattle.bot.specs.declared.csw.Status.TheVariants.{Passed, Failed, PhaseError}
use Rattle.usb.specs.Request.{request_of}
use Rattle.usb.specs.declared.request.Request.{Request}
use Rattle.machine.specs.declared.record.LogicalUnit.{LogicalUnit}
use Rattle.machine.specs.declared.record.Stage.{Stage}
use Rattle.machine.specs.declared.record.Stage.TheVariants.{Ready, DataOut, DataIn, ReplyIn, StatusDue}
use Rattle.machine.specs.declared.record.Task.{Task}
use Rattle.machine.specs.declared.record.Device.{Device}
use Rattle.machine.specs.declared.ask.Source.{Source}
use Rattle.machine.specs.declared.ask.Asked as asking
use Rattle.machine.specs.declared.wrapper.Wrapper.{Wrapper}
use Rattle.machine.specs.declared.answer.Answer.{Answer}
use Rattle.machine.specs.declared.answer.Answer.TheVariants.{Data, Ack, Nak, Stall}
use Rattle.machine.specs.Units.{Table, unit_at, cleared, switched_to, as_made, part_of, with_part}
use Rattle.machine.specs.Record.{device, no_task, with_halts, dropped_state, with_address, moved}
use Rattle.machine.specs.World.{World, world, in_state, dropped, switched, Out, out, UnitOut, in_unit}
use Rattle.machine.specs.Control.{reset}
use Rattle.machine.specs.Wrapper.{wrapper_of}
use Rattle.machine.specs.Begin.{begun_by, begun, begun_unit}
use Rattle.machine.specs.Bulk.{locked_state, on_wrapper, cut_short, gathered, next_out, stored_block, on_data, out_stage, packet_out, cut_state, gathered_state, stored_state, next_in, handed_state, next_packet, after_status, ask_stage, ask, deliver, packet_in}
use Rattle.machine.specs.Machine.{Event, bus_reset, control, bulk_out, bulk_in, set_switch, effect, step}
use Rattle.machine.specs.Tally.{Making, Block, Tally, idle, writing, Log, log, write_of, beginning, following, turned, taken, heard, heeded, is_ack, noted, stored}
use Rattle.machine.proofs.Judge.{Passed as Checked, judge, fit_passed, out-medium}
use Rattle.machine.proofs.Requests.{Minor, Did, stalls, sends, acks, halts, addresses, configures, resets, performs}
use Rattle.machine.proofs.Tables.{cleared-sensed, cleared_again, wrapper_cleared, cleared-switched, made-cleared, made-switched, same_first, in_place, in_place-same}
use Rattle.machine.proofs.Fill.{fill, fill_whole}
use Rattle.machine.proofs.Grant.{Still, Begun, still, begins, grant}
use Rattle.machine.proofs.Fit.{fit_of, Writes, writes}

-- ---- the medium from a list of blocks

stored-append : (us : Table) (m : List ℕ) (xs bs : List Block) → stored us m (xs ++ bs) ≡ stored us (stored us m xs) bs
unfolding stored
stored-append us m [] bs = refl
stored-append us m (x ∷ xs) bs = stored-append us (placed m (512 * ((unit_at us x.lun).first + x.number)) x.bytes) xs bs

-- where a block goes is its unit's part alone
stored_same : (us vs : Table) (m : List ℕ) (bs : List Block) → as_made us ≡ as_made vs → stored us m bs ≡ stored vs m bs
unfolding stored
stored_same us vs m [] e = refl
stored_same us vs m (b ∷ bs) e =
    ap (λ (n : ℕ). stored us (placed m (512 * (n + b.number)) b.bytes) bs) (same_first us vs e b.lun) ∙ stored_same us vs (placed m (512 * ((unit_at vs b.lun).first + b.number)) b.bytes) bs e

-- ---- what the tally makes of a packet of data

module _ (v block left : ℕ) (held p : List ℕ) (l : Log) where
  pub taken-short : eqb (length p) 64 ≡ false → taken (writing v block left held) p l ≡ turned l idle []
  unfolding taken
  taken-short h = if-false _ _ _ h

  pub taken-half : eqb (length p) 64 ≡ true → length held + 64 < 512 → taken (writing v block left held) p l ≡ turned l (writing v block left (held ++ p)) []
  unfolding taken
  taken-half h n =
      let y = length-append held p in
      let e = eqb-true (length p) 64 h in
      if-true _ _ _ h ∙ if-false _ _ _ (ne_eqb (length (held ++ p)) 512 (λ x. omega arith))

  pub taken-full : eqb (length p) 64 ≡ true → length held + 64 ≡ 512
      → taken (writing v block left held) p l ≡ turned l (following v block left) (record { lun = v; number = block; bytes = held ++ p } ∷ [])
  unfolding taken
  taken-full h n =
      let y = length-append held p in
      let e = eqb-true (length p) 64 h in
      if-true _ _ _ h ∙ if-true _ _ _ (eq-eqb (length (held ++ p)) 512 (omega arith))

-- ---- the relation

-- the held bytes of a write are the front of the part block
pub record Gathers (left : ℕ) (held : List ℕ) (n : ℕ) (part : List ℕ) : Type 0 where
  pub some : 1 ≤ left
  pub size : length held ≡ n
  pub below : n < 512
  pub packets : n % 64 ≡ 0
  pub front : part ≡ held ++ zeros (512 - length held)

-- the tally, a task's stage and unit, and the part block
pub data Together : Tally → Stage → ℕ → List ℕ → Type 0 where
  rests : {g : Stage} {v : ℕ} {b : List ℕ} → Still g → b ≡ zeros 512 → Together idle g v b
  gathers : {v block left n : ℕ} {held b : List ℕ} → Gathers left held n b → Together (writing v block left held) (DataOut block left n) v b

-- a packet that does not leave room for another fills the block
pub fills : {left n : ℕ} {held b : List ℕ} → Gathers left held n b → ltb (n + 64) 512 ≡ false → n + 64 ≡ 512
fills {n = n} g h = let a = ltb-false (n + 64) 512 h in let b = g.below in let q = g.packets in omega arith

pub record Sim (k : Making) (l : Log) (w : World) : Type 0 where
  pub identity : w.dev.identity ≡ k.identity
  pub units : cleared w.units ≡ l.units
  pub parts : as_made l.units ≡ as_made k.units
  pub address : w.dev.state.address ≡ l.address
  pub configured : w.dev.state.configured ≡ l.configured
  pub tally : Together l.tally w.dev.state.link.task.stage w.dev.state.link.task.lun w.dev.part
  pub medium : w.medium ≡ stored l.units k.medium l.arrived

-- the table's parts are the making's
pub parts_of : (k : Making) (l : Log) (w : World) → Sim k l w → as_made w.units ≡ as_made k.units
parts_of k l w s = sym (made-cleared w.units) ∙ ap as_made s.units ∙ s.parts

-- the history reads a wrapper as the machine does
pub same_wrapper : (k : Making) (l : Log) (w : World) → Sim k l w → (p : List ℕ) → wrapper_of l.units p ≡ wrapper_of w.units p
same_wrapper k l w s p = ap (λ (t : Table). wrapper_of t p) (sym s.units) ∙ wrapper_cleared w.units p

-- what an event with this answer leaves is again together
abbrev Kept : Making → Log → Event → Out → Type 0
Kept k l e o = Sim k (noted l e o.answer) o.world

-- where no block is due the tally is idle and the part block zeros
pub at_rest : {t : Tally} {g : Stage} {v : ℕ} {b : List ℕ} → Together t g v b → Still g → (t ≡ idle) × (b ≡ zeros 512)
at_rest (rests h z) f = (refl, z)
at_rest (gathers x) f = absurd f

empty : {left : ℕ} {b : List ℕ} → 1 ≤ left → b ≡ zeros 512 → Gathers left [] 0 b
empty h e = record { some = h; size = refl; below = lit< tt; packets = refl; front = e }

begun_together : {v : ℕ} {t : Tally} {g : Stage} (b : List ℕ) → Begun v t g → b ≡ zeros 512 → Together t g v b
begun_together b (still h) e = rests h e
begun_together b (begins h) e = gathers (empty h e)

-- after a whole block
follows : (v block left : ℕ) → Together (following v block left) (next_out block left) v (zeros 512)
unfolding following next_out when◌then◌else◌
follows v block left = go (leb left 1) refl
  where
    go : (c : Bool) → leb left 1 ≡ c → Together (when c then idle else writing v (block + 1) (left - 1) []) (when c then StatusDue Passed else DataOut (block + 1) (left - 1) 0) v (zeros 512)
    go true e = rests tt refl
    go false e = let n : 1 ≤ left - 1 = omega (arith, leb-false left 1 e) in gathers (empty n refl)

module _ (k : Making) (l : Log) (w : World) (s : Sim k l w) where
  abbrev d : Device
  d = w.dev

  abbrev us : Table
  us = w.units

  abbrev t₀ : Task
  t₀ = d.state.link.task

  -- ---- what each way of changing the collector keeps

  quiet : (e : Event) (a : Answer) (w' : World) → is_ack a ≡ false → Sim k l w' → Sim k (noted l e a) w'
  unfolding noted
  quiet e a w' h i = subst (λ (x : Log). Sim k x w') (sym (if-false _ _ _ h)) i

  ignored : (e : Event) (a : Answer) → is_ack a ≡ false → Sim k (noted l e a) w
  ignored e a h = quiet e a w h s

  loud : (e : Event) (w' : World) → Sim k (heeded l e) w' → Sim k (noted l e Ack) w'
  unfolding noted is_ack when◌then◌else◌
  loud e w' i = i

  halted : (hi ho x : Bool) → Sim k l (in_state w (with_halts d.state hi ho x))
  unfolding with_halts
  halted hi ho x = record { identity = s.identity; units = s.units; parts = s.parts; address = s.address; configured = s.configured; tally = s.tally; medium = s.medium }

  drops : {a a' : ℕ} {c c' : Bool} (hi ho : Bool) → a ≡ a' → c ≡ c' → Sim k (log idle a' c' l.units l.arrived) (dropped w a c hi ho)
  unfolding dropped dropped_state
  drops hi ho e f =
      record { identity = s.identity; units = cleared_again us ∙ s.units; parts = s.parts; address = e; configured = f; tally = rests tt refl; medium = s.medium }

  -- the switch is set: the history has it too, and parts and blocks stay
  turns : (x n : ℕ) → Sim k (log l.tally l.address l.configured (switched_to l.units x n) l.arrived) (switched w x n)
  turns x n =
      record {
        identity = s.identity;
        units = cleared-switched us x n ∙ ap (λ (t : Table). switched_to t x n) s.units;
        parts = made-switched l.units x n ∙ s.parts;
        address = s.address;
        configured = s.configured;
        tally = s.tally;
        medium = s.medium ∙ sym (stored_same (switched_to l.units x n) l.units k.medium l.arrived (made-switched l.units x n));
      }

  -- a command moves on: tally, blocks that arrived, task, part block, table, medium
  moves : (t : Tally) (bs : List Block) (hi ho : Bool) (g : Task) (b : List ℕ) (us' : Table) (m' : List ℕ)
      → Together t g.stage g.lun b → cleared us' ≡ cleared us → m' ≡ stored l.units w.medium bs
      → Sim k (turned l t bs) (world (device d.identity (moved d.state hi ho g) b) us' m')
  unfolding moved
  moves t bs hi ho g b us' m' f u e =
      record {
        identity = s.identity;
        units = u ∙ s.units;
        parts = s.parts;
        address = s.address;
        configured = s.configured;
        tally = f;
        medium = e ∙ ap (λ (x : List ℕ). stored l.units x bs) s.medium ∙ sym (stored-append l.units k.medium l.arrived bs);
      }

  -- nothing is written, and the history does not hear of it
  stays : l.tally ≡ idle → d.part ≡ zeros 512 → (hi ho : Bool) (g : Task) → Still g.stage → Sim k l (in_state w (moved d.state hi ho g))
  unfolding moved
  stays i z hi ho g f =
      record {
        identity = s.identity;
        units = s.units;
        parts = s.parts;
        address = s.address;
        configured = s.configured;
        tally = subst (λ (t : Tally). Together t g.stage g.lun d.part) (sym i) (rests f z);
        medium = s.medium;
      }

  resting : (g : Stage) → t₀.stage ≡ g → Still g → (l.tally ≡ idle) × (d.part ≡ zeros 512)
  resting g e f = at_rest (subst (λ (x : Stage). Together l.tally x t₀.lun d.part) e s.tally) f

  -- ---- control requests

  module _ (q b : List ℕ) where
    acks-as : (r : Request) (w' : World) → request_of q ≡ r → Sim k (heard r l) w' → Sim k (noted l (control q b) Ack) w'
    unfolding heeded
    acks-as r w' e f = loud (control q b) w' (subst (λ (x : Request). Sim k (heard x l) w') (sym e) f)

    minor : {r : Request} {w' : World} → Minor r → Sim k l w' → Sim k (heard r l) w'
    minor {r} {w'} m i = subst (λ (x : Log). Sim k x w') (sym (m.unheard l)) i

    requests : (r : Request) (o : Out) → request_of q ≡ r → Did w b r o → Kept k l (control q b) o
    unfolding heard with_address is_ack
    requests r o e stalls = ignored _ Stall refl
    requests r o e (sends x n) = ignored _ (Data (length x)) refl
    requests r o e (acks m) = acks-as r w e (minor m s)
    requests r o e (halts hi ho m c h) = acks-as r _ e (minor m (halted hi ho d.state.link.locked))
    requests r o e (addresses a c) =
        acks-as r _ e (record { identity = s.identity; units = s.units; parts = s.parts; address = refl; configured = s.configured; tally = s.tally; medium = s.medium })
    requests r o e (configures v) = acks-as r _ e (drops false false s.address refl)
    requests r o e (resets c) = acks-as r _ e (drops _ _ s.address (sym c ∙ s.configured))

  -- ---- an ask for a bulk-in packet

  module _ (b : List ℕ) where
    abbrev Answers : asking.Asked → Type 0
    Answers a = Kept k l (bulk_in b) (deliver a w b)

    -- the next stage of a transfer to the host
    asks : (g : Stage) → t₀.stage ≡ g → Still g → (x : Source) (left : ℕ) (more : Stage) → Still more → Answers (next_packet d.state left x more)
    unfolding next_packet deliver handed_state next_in is_ack
    asks g e f x left more h =
        let r = resting g e f in
        by-if Answers (eqb left 0) _ _ (λ _. ignored _ Nak refl)
        (λ _. quiet (bulk_in b) _ _ refl (stays r.0 r.1 _ _ _ (by-if Still (leb left 64) (StatusDue Passed) more (λ _. tt) (λ _. h))))

    after : (x : Status) → l.tally ≡ idle → d.part ≡ zeros 512 → Sim k l (in_state w (after_status x d.state))
    unfolding after_status locked_state with_halts moved
    after Passed i z = stays i z _ _ no_task tt
    after Failed i z = stays i z _ _ no_task tt
    after PhaseError i z = let h = stays i z true true no_task tt in
        record { identity = h.identity; units = h.units; parts = h.parts; address = h.address; configured = h.configured; tally = h.tally; medium = h.medium }

    ins : (g : Stage) → t₀.stage ≡ g → Answers (ask_stage g d.state)
    unfolding ask_stage deliver is_ack
    ins Ready e = ignored _ Nak refl
    ins (DataOut block left held) e = ignored _ Nak refl
    ins (DataIn place left) e = asks (DataIn place left) e tt _ left _ tt
    ins (ReplyIn reply place left) e = asks (ReplyIn reply place left) e tt _ left _ tt
    ins (StatusDue status) e = let r = resting (StatusDue status) e tt in quiet (bulk_in b) _ _ refl (after status r.0 r.1)

  -- ---- a bulk-out packet

  module _ (p : List ℕ) where
    abbrev Taken : Out → Type 0
    Taken o = Kept k l (bulk_out p) o

    -- an acked packet: what the tally makes of it, and what the collector becomes
    packet : (t : Tally) (l' : Log) (w' : World) → l.tally ≡ t → taken t p l ≡ l' → Sim k l' w' → Taken (out Ack w' [])
    unfolding heeded
    packet t l' w' e f a =
        let f' : taken l.tally p l ≡ l' = ap (λ (t : Tally). taken t p l) e ∙ f in
        loud (bulk_out p) w' (subst (λ (x : Log). Sim k x w') (sym f') a)

    -- the packet is a wrapper
    wrappers : (x : Option Wrapper) → wrapper_of l.units p ≡ x → l.tally ≡ idle → d.part ≡ zeros 512 → Taken (on_wrapper x w)
    unfolding on_wrapper locked_state begun begun_by begun_unit taken beginning stored is_ack
    wrappers None e i z = quiet (bulk_out p) Stall _ refl (halted true true true)
    wrappers (Some x) e i z =
        let h = x.header in
        let c = x.plan in
        packet idle (turned l (write_of h c) []) _ i (ap (λ (x : Option Wrapper). turned l (beginning x) []) e)
        (moves (write_of h c) [] _ _ _ d.part _ w.medium (begun_together d.part (grant h c _) z) (cleared-sensed us h.lun _) refl)

    -- the packet is data: it goes behind what is held
    module _ {block left held : ℕ} {bytes : List ℕ} (i : l.tally ≡ writing t₀.lun block left bytes) (g : Gathers left bytes held d.part) (f : Writes w block left) where
      abbrev u : LogicalUnit
      u = unit_at us t₀.lun

      placed-held : placed d.part held p ≡ placed (bytes ++ zeros (512 - length bytes)) (length bytes) p
      placed-held = ap (λ (x : List ℕ). placed x held p) g.front ∙ ap (λ (j : ℕ). placed (bytes ++ zeros (512 - length bytes)) j p) (sym g.size)

      first_of : u.first ≡ (unit_at l.units t₀.lun).first
      first_of = same_first us l.units (sym (made-cleared us) ∙ ap as_made s.units) t₀.lun

      whole : length p ≡ 64 → held + 64 ≡ 512
          → with_part u w.medium (placed (part_of u w.medium) (512 * block) (placed d.part held p)) ≡ placed w.medium (512 * ((unit_at l.units t₀.lun).first + block)) (bytes ++ p)
      whole e h =
          let z = g.size in
          let y = length-append bytes p in
          let a = g.some in
          let c = f.blocks in
          ap (λ (x : List ℕ). with_part u w.medium (placed (part_of u w.medium) (512 * block) x)) (placed-held ∙ fill_whole bytes p 512 (omega arith))
          ∙ in_place u (unit_at l.units t₀.lun).first block w.medium (bytes ++ p) first_of f.room (omega arith) (omega arith)

      more : length p ≡ 64 → held + 64 < 512 → Gathers left (bytes ++ p) (held + 64) (placed d.part held p)
      more e h =
          let z = g.size in
          let y = length-append bytes p in
          let q = g.packets in
          record {
            some = g.some;
            size = omega arith;
            below = h;
            packets = omega arith;
            front = placed-held ∙ fill bytes p 512 (omega arith) ∙ ap (λ (j : ℕ). (bytes ++ p) ++ zeros (512 - j)) (sym y);
          }

      filled : ltb (held + 64) 512 ≡ false → held + 64 ≡ 512
      filled h = fills g h

      same-unit : cleared (set us t₀.lun u) ≡ cleared us
      same-unit = ap cleared (set-get_or us t₀.lun _)

      abbrev Lifted : UnitOut → Type 0
      Lifted r = Taken (out r.answer (world r.dev (set us t₀.lun r.unit) (with_part u w.medium r.medium)) [])

      data' : Taken (in_unit w t₀.lun (on_data block left held p))
      unfolding in_unit on_data cut_short gathered stored_block stored cut_state gathered_state stored_state
      data' =
          by-if Lifted (eqb (length p) 64) _ _
          (λ h. by-if Lifted (ltb (held + 64) 512) _ _
          (λ n. let n' = ltb-true (held + 64) 512 n in
          packet _ _ _ i (taken-half _ _ _ bytes p l h (let z = g.size in omega arith)) (moves (writing t₀.lun block left (bytes ++ p)) [] _ _ _ _ _ _ (gathers (more (eqb-true _ _ h) n')) same-unit (in_place-same u w.medium f.room)))
          (λ n. packet _ _ _ i (taken-full _ _ _ bytes p l h (let z = g.size in let y = filled n in omega arith)) (moves (following t₀.lun block left) _ _ _ _ (zeros 512) _ _ (follows t₀.lun block left) same-unit (whole (eqb-true _ _ h) (filled n)))))
          (λ h. packet _ _ _ i (taken-short _ _ _ bytes p l h) (moves idle [] _ _ _ (zeros 512) _ _ (rests tt refl) (cleared-sensed us t₀.lun _) (in_place-same u w.medium f.room)))

    datas : (block left held v : ℕ) (t : Tally) → l.tally ≡ t → v ≡ t₀.lun → Together t (DataOut block left held) v d.part → Writes w block left
        → Taken (in_unit w t₀.lun (on_data block left held p))
    datas block left held v t i e (rests h z) f = absurd h
    datas block left held v t i e (gathers {held = bytes} g) f = data' (i ∙ ap (λ (x : ℕ). writing x block left bytes) e) g f

    outs : (g : Stage) → t₀.stage ≡ g → Checked w (bulk_out p) → Taken (out_stage g w p)
    unfolding out_stage is_ack
    outs Ready e x =
        let r = resting Ready e tt in
        wrappers (wrapper_of us p) (same_wrapper k l w s p) r.0 r.1
    outs (DataOut block left held) e x =
        by-if Taken (eqb left 0) _ _ (λ _. ignored _ Nak refl)
        (λ _. datas block left held t₀.lun l.tally refl refl (subst (λ (y : Stage). Together l.tally y t₀.lun d.part) e s.tally)
        (writes w block left held (fit_of w (fit_passed (bulk_out p) x)) (out-medium p [] x) e))
    outs (DataIn place left) e x = ignored _ Nak refl
    outs (ReplyIn reply place left) e x = ignored _ Nak refl
    outs (StatusDue status) e x = ignored _ Nak refl

pub simulates : (k : Making) (l : Log) (w : World) (e : Event) → Sim k l w → Sim k (noted l e (step w e).answer) (step w e).world
unfolding effect reset packet_out packet_in ask deliver heeded is_ack
simulates k l w e s = judge (Kept k l e) w e (λ a x. ignored k l w s e a x.quiet) (event e)
  where
    event : (e : Event) → Checked w e → Kept k l e (effect w e)
    event bus_reset x = loud k l w s bus_reset _ (drops k l w s false false refl refl)
    event (control q b) x = requests k l w s q b (request_of q) _ refl (performs w b (request_of q))
    event (bulk_out p) x =
        by-if (Kept k l (bulk_out p)) w.dev.state.link.haltout _ _ (λ _. ignored k l w s _ Stall refl) (λ _. outs k l w s p w.dev.state.link.task.stage refl x)
    event (bulk_in b) x =
        by-if (λ (a : asking.Asked). Kept k l (bulk_in b) (deliver a w b)) w.dev.state.link.haltin _ _ (λ _. ignored k l w s _ Stall refl) (λ _. ins k l w s b w.dev.state.link.task.stage refl)
    event (set_switch y n) x = loud k l w s (set_switch y n) _ (turns k l w s y n)
