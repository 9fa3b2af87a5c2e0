-- One event of two collectors whose media, and the packets of whose writes, differ in one unit alone. Assumes nothing.
use Prim.Native.Nat.{ℕ, ◌+◌, ◌*◌, ◌%◌, ◌≤◌, ◌<◌, min}
use mathlib.Core.Path.{◌≡◌, refl, sym, ap, ◌∙◌, subst}
use mathlib.Core.Bool.{Bool, true, false, true≢false}
use mathlib.Core.List.{List, []}
use native.Mathlib.Omega.{arith}
use lib.Dec.{leb, ltb, eqb}
use lib.ListN.{length, take, drop, set}
use borrow.Author.Tests.{leb-true, leb-false, eqb-true, eqb-false}
use Rattle.std.specs.declared.option.Option.{Option}
use Rattle.std.specs.declared.option.Option.TheVariants.{None, Some}
use Rattle.wire.specs.Choice.{when◌then◌else◌}
use Rattle.wire.specs.Slices.{placed}
use Rattle.wire.proofs.Cases.{by-if, if-false, both}
use Rattle.wire.proofs.Lists.{length-placed}
use Rattle.wire.proofs.Parts.{length_part}
use Rattle.scsi.specs.declared.command.Plan.{Plan}
use Rattle.scsi.specs.declared.command.Plan.TheVariants as plan
use Rattle.cases.specs.Cases.{case_of}
use Rattle.cases.specs.declared.Transfer.{Transfer}
use Rattle.cases.specs.declared.Transfer.TheVariants as transfer
use Rattle.cases.specs.declared.Ending.{Ending}
use Rattle.cases.specs.declared.Ending.TheVariants as ending
use Rattle.bot.specs.declared.cbw.Header.{Header}
use Rattle.bot.specs.declared.csw.Status.{Status}
use Rattle.bot.specs.declared.csw.Status.TheVariants.{Passed, Failed, PhaseError}
use Rattle.usb.specs.Request.{request_of}
use Rattle.usb.specs.declared.descriptor.Identity.{Identity}
use Rattle.machine.specs.declared.record.LogicalUnit.{LogicalUnit}
use Rattle.machine.specs.declared.record.Stage.{Stage}
use Rattle.machine.specs.declared.record.Stage.TheVariants.{Ready, DataOut, DataIn, ReplyIn, StatusDue}
use Rattle.machine.specs.declared.record.Task.{Task}
use Rattle.machine.specs.declared.record.State.{State}
use Rattle.machine.specs.declared.wrapper.Wrapper.{Wrapper}
use Rattle.machine.specs.declared.ask.Source as asking
use Rattle.machine.specs.declared.ask.Source.TheVariants as bytes
use Rattle.machine.specs.declared.ask.Asked.{Asked}
use Rattle.machine.specs.declared.ask.Asked.TheVariants.{Packet}
use Rattle.machine.specs.declared.answer.Answer.{Answer}
use Rattle.machine.specs.declared.answer.Answer.TheVariants.{Data, Ack, Nak, Stall}
use Rattle.machine.specs.Units.{block_size, Table, unit_at, as_made, total, laid_out, medium_fits, part_of, with_part}
use Rattle.machine.specs.Record.{device, with_halts, dropped_state, moved}
use Rattle.machine.specs.Fits.{in_fits, stage_fits}
use Rattle.machine.specs.World.{World, world, in_state, dropped, Out, out, sends, UnitOut, in_unit}
use Rattle.machine.specs.Wrapper.{wrapper, wrapper_of}
use Rattle.machine.specs.Control.{reset}
use Rattle.machine.specs.Begin.{host_of, has_of, data_stage, first_stage, staged, begun_by, begun}
use Rattle.machine.specs.Bulk.{locked_state, on_wrapper, cut_state, cut_short, gathered_state, gathered, next_out, stored_state, stored_block, on_data, out_stage, packet_out, next_in, handed_state, next_packet, after_status, csw_of, ask_stage, ask, bytes_of, deliver, packet_in}
use Rattle.machine.specs.Machine.{Event, bus_reset, control, bulk_out, bulk_in, set_switch, lent, checks, effect, seen, step}
use Rattle.machine.specs.Tally.{Making, Tally, idle, Log, is_ack}
use Rattle.machine.specs.Handed.{handed, is_status}
use Rattle.machine.specs.Isolation.{Apart, IsWriting, Alike, same, data_to, Source, from, read_of, source_of, source_after, reads, ReadsFrom}
use Rattle.machine.proofs.Judge.{Passed as Checked, fit_passed, out-medium, in-medium, in-room}
use Rattle.machine.proofs.Pairs.{pair_if, pair_judge, pair-perform}
use Rattle.machine.proofs.Tables.{same-part}
use Rattle.machine.proofs.Fit.{fit_of, lun-fits, stage-fits, writes}
use Rattle.machine.proofs.Sim.{Together, rests, gathers, Sim, parts_of, same_wrapper, at_rest}
use Rattle.machine.proofs.Handed.{in_front, whole-packet}
use Rattle.machine.proofs.Apart.{length-own, own, others}

-- ---- the relation

-- a stage in which no packet is data for the unit b
abbrev NotTo : ℕ → Stage → ℕ → Type 0
NotTo b Ready v = Unit {0}
NotTo b (DataOut block left held) v = v ≡ b → ⊥
NotTo b (DataIn place left) v = Unit {0}
NotTo b (ReplyIn reply place left) v = Unit {0}
NotTo b (StatusDue status) v = Unit {0}

-- reads go by whole packets, and their unit is that of the last accepted wrapper, which is a Read
abbrev Shape : Stage → ℕ → Source → Type 0
Shape Ready v x = Unit {0}
Shape (DataOut block left held) v x = Unit {0}
Shape (DataIn place left) v x = (left % 64 ≡ 0) × (x ≡ from v)
Shape (ReplyIn reply place left) v x = Unit {0}
Shape (StatusDue status) v x = Unit {0}

pub record Twin (us : Table) (b : ℕ) (x : Source) (w w' : World) : Type 0 where
  pub identity : w.dev.identity ≡ w'.dev.identity
  pub state : w.dev.state ≡ w'.dev.state
  pub units : w.units ≡ w'.units
  pub part : NotTo b w.dev.state.link.task.stage w.dev.state.link.task.lun → w.dev.part ≡ w'.dev.part
  pub media : Apart us b w.medium w'.medium
  pub shape : Shape w.dev.state.link.task.stage w.dev.state.link.task.lun x

-- what one event leaves of both
pub record Matches (us : Table) (b : ℕ) (x : Source) (l : Log) (e : Event) (o o' : Out) : Type 0 where
  pub answers : o.answer ≡ o'.answer
  pub buffers : (ReadsFrom b x e → ⊥) → o.buffer ≡ o'.buffer
  pub statuses : is_status (handed (seen o)).bytes ≡ true → o.buffer ≡ o'.buffer
  pub next : Twin us b (reads l e o.answer x) o.world o'.world

-- a write to b under way is a stage with data for b
to_b : (b : ℕ) {t : Tally} {g : Stage} {v : ℕ} {p : List ℕ} → IsWriting b t → Together t g v p → NotTo b g v → ⊥
to_b b w (rests h z) k = w
to_b b w (gathers h) k = k w

-- media apart over one table are apart over another of the same parts
apart-over : (us vs : Table) → as_made us ≡ as_made vs → (b : ℕ) (m m' : List ℕ) → Apart us b m m' → Apart vs b m m'
apart-over us vs e b m m' a = record { size = a.size; others = λ n h. sym (same-part us vs e n m) ∙ a.others n h ∙ same-part us vs e n m' }

-- ---- a first stage, and what its wrapper reads from

data_shape : (p : Plan) (h : Header) (u : LogicalUnit) → Shape (data_stage p u) h.lun (read_of h p)
unfolding data_stage read_of
data_shape (plan.Failed s) h u = tt
data_shape plan.Nothing h u = tt
data_shape (plan.Reply k n) h u = tt
data_shape (plan.Read block count) h u = (omega arith, refl)
data_shape (plan.Write block count) h u = tt

first_shape : (e : Ending) (t : Transfer) (p : Plan) (h : Header) (u : LogicalUnit) → Shape (staged e t p u) h.lun (read_of h p)
unfolding staged first_stage
first_shape ending.Command transfer.None p h u = tt
first_shape ending.Command (transfer.In n) p h u = data_shape p h u
first_shape ending.Command (transfer.Out n) p h u = data_shape p h u
first_shape ending.PhaseError t p h u = tt

-- ---- one event

module _ (k : Making) (b : ℕ) (x : Source) (l : Log) (i : Identity) (s : State) (us : Table) (p p' m m' : List ℕ)
    (sim : Sim k l (world (device i s p) us m))
    (same-p : NotTo b s.link.task.stage s.link.task.lun → p ≡ p')
    (apart : Apart k.units b m m')
    (shape : Shape s.link.task.stage s.link.task.lun x) where
  abbrev w : World
  w = world (device i s p) us m

  abbrev w' : World
  w' = world (device i s p') us m'

  abbrev t₀ : Task
  t₀ = s.link.task

  abbrev Match : Event → Out → Out → Type 0
  Match e o o' = Matches k.units b x l e o o'

  same-table : as_made us ≡ as_made k.units
  same-table = parts_of k l w sim

  near : Apart us b m m'
  near = apart-over k.units us (sym same-table) b m m' apart

  whole' : medium_fits us m ≡ true → medium_fits us m' ≡ true
  unfolding medium_fits
  whole' h = ap (λ (n : ℕ). eqb n (block_size * total us)) (sym apart.size) ∙ h

  at_stage : {g : Stage} → t₀.stage ≡ g → NotTo b g t₀.lun → NotTo b t₀.stage t₀.lun
  at_stage e h = subst (λ (g : Stage). NotTo b g t₀.lun) (sym e) h

  -- ---- the same answer, buffer, state and table

  goes : (e : Event) (a : Answer) (z : State) (ts : Table) (y y' n n' c : List ℕ) → (NotTo b z.link.task.stage z.link.task.lun → y ≡ y') → Apart k.units b n n'
      → Shape z.link.task.stage z.link.task.lun (reads l e a x) → Match e (out a (world (device i z y) ts n) c) (out a (world (device i z y') ts n') c)
  goes e a z ts y y' n n' c f g h =
      record { answers = refl; buffers = λ _. refl; statuses = λ _. refl; next = record { identity = refl; state = refl; units = refl; part = f; media = g; shape = h } }

  -- the command in hand stays, and so do part blocks and media
  even : (e : Event) (a : Answer) (z : State) (ts : Table) (c : List ℕ) → z.link.task ≡ t₀ → reads l e a x ≡ x
      → Match e (out a (world (device i z p) ts m) c) (out a (world (device i z p') ts m') c)
  even e a z ts c q r =
      goes e a z ts p p' m m' c (λ h. same-p (subst (λ (t : Task). NotTo b t.stage t.lun) q h)) apart
      (subst (Shape z.link.task.stage z.link.task.lun) (sym r) (subst (λ (t : Task). Shape t.stage t.lun x) (sym q) shape))

  drops : (e : Event) (a : ℕ) (c hi ho : Bool) (y : List ℕ) → Match e (out Ack (dropped w a c hi ho) y) (out Ack (dropped w' a c hi ho) y)
  unfolding dropped dropped_state
  drops e a c hi ho y = goes e Ack _ _ _ _ m m' y (λ _. refl) apart tt

  -- ---- an ask for a bulk-in packet

  module _ (c : List ℕ) (ok : Checked w (bulk_in c)) where
    abbrev Asks : Asked → Type 0
    Asks a = Match (bulk_in c) (deliver a w c) (deliver a w' c)

    stays : (a : Answer) → Match (bulk_in c) (out a w c) (out a w' c)
    unfolding reads
    stays a = even (bulk_in c) a s us c refl refl

    -- the same bytes; or b's, as many, which make no status wrapper
    data Bytes (y : asking.Source) : Type 0 where
      alike : bytes_of y w ≡ bytes_of y w' → Bytes y
      of-b : x ≡ from b → length (bytes_of y w) ≡ 64 → length (bytes_of y w') ≡ 64 → Bytes y

    hands : (y : asking.Source) (z : State) → p ≡ p' → Bytes y → Shape z.link.task.stage z.link.task.lun x → Match (bulk_in c) (sends (bytes_of y w) (in_state w z) c) (sends (bytes_of y w') (in_state w' z) c)
    unfolding reads
    hands y z e (alike q) h =
        subst (λ (n : List ℕ). Match (bulk_in c) (sends (bytes_of y w) (in_state w z) c) (sends n (in_state w' z) c)) q (goes (bulk_in c) _ z us p p' m m' _ (λ _. e) apart h)
    hands y z e (of-b f n n') h =
        record {
          answers = ap Data (n ∙ sym n');
          buffers = λ q. absurd (q f);
          statuses = λ q. absurd (true≢false (sym q ∙ ap is_status (in_front c (bytes_of y w) (in_state w z) (let r = in-room c c ok in omega arith)) ∙ whole-packet (bytes_of y w) n));
          next = record { identity = refl; state = refl; units = refl; part = λ _. e; media = apart; shape = h };
        }

    next-shape : (left : ℕ) (more : Stage) → (64 < left → Shape more t₀.lun x) → Shape (next_in left more) t₀.lun x
    unfolding next_in
    next-shape left more f = by-if (λ (g : Stage). Shape g t₀.lun x) (leb left 64) _ _ (λ _. tt) (λ e. f (leb-false left 64 e))

    packets : (y : asking.Source) (left : ℕ) (more : Stage) → p ≡ p' → ((left ≡ 0 → ⊥) → Bytes y) → (64 < left → Shape more t₀.lun x) → Asks (next_packet s left y more)
    unfolding next_packet deliver handed_state moved
    packets y left more e f h = by-if Asks (eqb left 0) _ _ (λ _. stays Nak) (λ z. hands y _ e (f (eqb-false left 0 z)) (next-shape left more h))

    after : (y : Status) → p ≡ p' → Asks (Packet (bytes.Status (csw_of t₀ y)) (after_status y s))
    unfolding deliver after_status locked_state with_halts moved bytes_of
    after Passed e = hands (bytes.Status (csw_of t₀ Passed)) _ e (alike refl) tt
    after Failed e = hands (bytes.Status (csw_of t₀ Failed)) _ e (alike refl) tt
    after PhaseError e = hands (bytes.Status (csw_of t₀ PhaseError)) _ e (alike refl) tt

    -- a read's bytes are its unit's
    read-bytes : (place left : ℕ) → t₀.stage ≡ DataIn place left → left % 64 ≡ 0 → x ≡ from t₀.lun → (left ≡ 0 → ⊥) → Bytes (bytes.Medium place (min 64 left))
    unfolding bytes_of stage_fits in_fits
    read-bytes place left e whole f n = go (eqb t₀.lun b) refl
      where
        go : (c : Bool) → eqb t₀.lun b ≡ c → Bytes (bytes.Medium place (min 64 left))
        go true h =
            let fit = fit_of w (fit_passed (bulk_in c) ok) in
            let listed = lun-fits us t₀ fit.task in
            let r : place + left ≤ block_size * (unit_at us t₀.lun).blocks = leb-true _ _ (both _ _ (stage-fits us t₀ fit.task (DataIn place left) e)).0 in
            let z = length-own us m t₀.lun fit.laid (in-medium c c ok) listed in
            let z' = length-own us m' t₀.lun fit.laid (whole' (in-medium c c ok)) listed in
            let n : min 64 left ≡ 64 = omega arith in
            of-b (f ∙ ap from (eqb-true _ _ h))
            (length_part place (min 64 left) (part_of (unit_at us t₀.lun) m) (omega arith) ∙ n)
            (length_part place (min 64 left) (part_of (unit_at us t₀.lun) m') (omega arith) ∙ n)
        go false h = alike (ap (λ (y : List ℕ). take (min 64 left) (drop place y)) (near.others t₀.lun (eqb-false _ _ h)))

    ins : (g : Stage) → t₀.stage ≡ g → Asks (ask_stage g s)
    unfolding ask_stage deliver bytes_of
    ins Ready e = stays Nak
    ins (DataOut block left held) e = stays Nak
    ins (DataIn place left) e =
        let r : Shape (DataIn place left) t₀.lun x = subst (λ (g : Stage). Shape g t₀.lun x) e shape in
        let z = r.0 in
        packets _ left _ (same-p (at_stage e tt)) (read-bytes place left e z r.1) (λ h. (omega arith, r.1))
    ins (ReplyIn reply place left) e = packets _ left _ (same-p (at_stage e tt)) (λ _. alike refl) (λ _. tt)
    ins (StatusDue y) e = after y (same-p (at_stage e tt))

  -- ---- a bulk-out packet

  module _ (q q' : List ℕ) (long : length q ≡ length q') (same-q : NotTo b t₀.stage t₀.lun → q ≡ q') (ok : Checked w (bulk_out q)) where
    abbrev Takes : Out → Out → Type 0
    Takes o o' = Match (bulk_out q) o o'

    ignored : (a : Answer) → is_ack a ≡ false → Takes (out a w []) (out a w' [])
    unfolding reads
    ignored a h = even (bulk_out q) a s us [] refl (if-false _ _ _ h)

    -- a wrapper, where no write is under way
    source-of : (h : Header) (y : Plan) → wrapper_of us q ≡ Some (wrapper h y) → l.tally ≡ idle → reads l (bulk_out q) Ack x ≡ read_of h y
    unfolding reads is_ack when◌then◌else◌ source_after source_of
    source-of h y e i = ap (λ (t : Tally). source_after t l.units q x) i ∙ ap source_of (same_wrapper k l w sim q ∙ e)

    wrappers : (v : Option Wrapper) → wrapper_of us q ≡ v → l.tally ≡ idle → p ≡ p' → Takes (on_wrapper v w) (on_wrapper v w')
    unfolding on_wrapper locked_state with_halts begun begun_by moved reads is_ack when◌then◌else◌
    wrappers None e i f = even (bulk_out q) Stall _ us [] refl refl
    wrappers (Some v) e i f =
        let h = v.header in
        let y = v.plan in
        goes (bulk_out q) Ack _ _ p p' m m' [] (λ _. f) apart
        (subst (Shape (staged (case_of (host_of h) (has_of y)).ending (case_of (host_of h) (has_of y)).moves y (unit_at us h.lun)) h.lun) (sym (source-of h y e i))
        (first_shape (case_of (host_of h) (has_of y)).ending (case_of (host_of h) (has_of y)).moves y h (unit_at us h.lun)))

    -- data
    module _ (block left held : ℕ) (e : t₀.stage ≡ DataOut block left held) where
      abbrev u : LogicalUnit
      u = unit_at us t₀.lun

      -- the same bytes in the unit, unless it is b
      unit-apart : (y y' : List ℕ) → length y ≡ length (part_of u m) → length y' ≡ length (part_of u m') → ((t₀.lun ≡ b → ⊥) → y ≡ y') → Apart k.units b (with_part u m y) (with_part u m' y')
      unfolding with_part
      unit-apart y y' n n' f =
          apart-over us k.units same-table b _ _
          (record { size = length-placed m (block_size * u.first) y ∙ apart.size ∙ sym (length-placed m' (block_size * u.first) y'); others = λ j h. go j h (eqb j t₀.lun) refl })
        where
          laid : laid_out us ≡ true
          laid = (fit_of w (fit_passed (bulk_out q) ok)).laid

          whole : medium_fits us m ≡ true
          whole = out-medium q [] ok

          listed : t₀.lun < length us
          listed = (writes w block left held (fit_of w (fit_passed (bulk_out q) ok)) whole e).listed

          z : length y ≡ block_size * u.blocks
          z = n ∙ length-own us m t₀.lun laid whole listed

          z' : length y' ≡ block_size * u.blocks
          z' = n' ∙ length-own us m' t₀.lun laid (whole' whole) listed

          go : (j : ℕ) → (j ≡ b → ⊥) → (c : Bool) → eqb j t₀.lun ≡ c → part_of (unit_at us j) (with_part u m y) ≡ part_of (unit_at us j) (with_part u m' y')
          go j h true r =
              let r' = eqb-true _ _ r in
              subst (λ (v : ℕ). part_of (unit_at us v) (with_part u m y) ≡ part_of (unit_at us v) (with_part u m' y')) (sym r')
              (own us m t₀.lun laid whole listed y z ∙ f (λ o. h (r' ∙ o)) ∙ sym (own us m' t₀.lun laid (whole' whole) listed y' z'))
          go j h false r =
              others us m t₀.lun laid whole listed y z j (eqb-false _ _ r) ∙ near.others j h ∙ sym (others us m' t₀.lun laid (whole' whole) listed y' z' j (eqb-false _ _ r))

      part_apart : Apart k.units b (with_part u m (part_of u m)) (with_part u m' (part_of u m'))
      part_apart = unit-apart _ _ refl refl (near.others t₀.lun)

      same-held : (t₀.lun ≡ b → ⊥) → placed p held q ≡ placed p' held q'
      same-held h = λ j. placed (same-p (at_stage e h) j) held (same-q (at_stage e h) j)

      block_apart : Apart k.units b (with_part u m (placed (part_of u m) (block_size * block) (placed p held q))) (with_part u m' (placed (part_of u m') (block_size * block) (placed p' held q')))
      block_apart =
          unit-apart _ _ (length-placed (part_of u m) _ (placed p held q)) (length-placed (part_of u m') _ (placed p' held q'))
          (λ h j. placed (near.others t₀.lun h j) (block_size * block) (same-held h j))

      next-shape-out : (v : ℕ) (y : Source) → Shape (next_out block left) v y
      unfolding next_out
      next-shape-out v y = by-if (λ (g : Stage). Shape g v y) (leb left 1) _ _ (λ _. tt) (λ _. tt)

      datas : Takes (in_unit w t₀.lun (on_data block left held q)) (in_unit w' t₀.lun (on_data block left held q'))
      unfolding in_unit on_data cut_short gathered stored_block cut_state gathered_state stored_state moved
      datas =
          pair_if In (eqb (length q) 64) (eqb (length q') 64) _ _ _ _ (ap (λ (n : ℕ). eqb n 64) long)
          (λ _. pair_if In (ltb (held + 64) 512) _ _ _ _ _ refl
          (λ _. goes (bulk_out q) Ack _ _ _ _ _ _ [] same-held part_apart tt)
          (λ _. goes (bulk_out q) Ack _ _ _ _ _ _ [] (λ _. refl) block_apart (next-shape-out _ _)))
          (λ _. goes (bulk_out q) Ack _ _ _ _ _ _ [] (λ _. refl) part_apart tt)
        where
          In : UnitOut → UnitOut → Type 0
          In r r' =
              Takes (out r.answer (world r.dev (set us t₀.lun r.unit) (with_part u m r.medium)) [])
              (out r'.answer (world r'.dev (set us t₀.lun r'.unit) (with_part u m' r'.medium)) [])

    outs : (g : Stage) → t₀.stage ≡ g → Takes (out_stage g w q) (out_stage g w' q')
    unfolding out_stage is_ack
    outs Ready e =
        let rest = at_rest (subst (λ (g : Stage). Together l.tally g t₀.lun p) e sim.tally) tt in
        let quiet = at_stage e tt in
        subst (λ (y : List ℕ). Takes (on_wrapper (wrapper_of us q) w) (on_wrapper (wrapper_of us y) w')) (same-q quiet) (wrappers (wrapper_of us q) refl rest.0 (same-p quiet))
    outs (DataOut block left held) e = pair_if Takes (eqb left 0) _ _ _ _ _ refl (λ _. ignored Nak refl) (λ _. datas block left held e)
    outs (DataIn place left) e = ignored Nak refl
    outs (ReplyIn reply place left) e = ignored Nak refl
    outs (StatusDue status) e = ignored Nak refl

  -- ---- the event

  same-checks : (e e' : Event) → Alike b l.tally e e' → checks w e ≡ checks w' e'
  unfolding checks medium_fits
  same-checks bus_reset e' (same e) = refl
  same-checks (control y c) e' (same e) = refl
  same-checks (bulk_out q) e' (same e) = let n = apart.size in cc
  same-checks (bulk_in c) e' (same e) = let n = apart.size in cc
  same-checks (set_switch y j) e' (same e) = refl
  same-checks (bulk_out q) (bulk_out q') (data_to n h) = let z = apart.size in cc

  -- a check's answer is no ack
  barred : (e : Event) (a : Answer) → is_ack a ≡ false → reads l e a x ≡ x
  unfolding reads
  barred bus_reset a h = refl
  barred (control y c) a h = refl
  barred (bulk_out q) a h = if-false _ _ _ h
  barred (bulk_in c) a h = refl
  barred (set_switch y j) a h = refl

  effects : (e e' : Event) → Alike b l.tally e e' → Checked w e → Match e (effect w e) (effect w' e')
  unfolding effect reset packet_out packet_in ask deliver reads is_ack
  effects bus_reset e' (same e) ok = drops bus_reset 0 false false false []
  effects (control y c) e' (same e) ok =
      pair-perform (Match (control y c)) i s p p' us us m m' c refl (λ a z n h. even (control y c) a z us n h refl) (λ a d hi ho. drops (control y c) a d hi ho c) (request_of y)
  effects (bulk_out q) e' (same e) ok =
      pair_if (Match (bulk_out q)) s.link.haltout _ _ _ _ _ refl (λ _. ignored q q refl (λ _. refl) ok Stall refl) (λ _. outs q q refl (λ _. refl) ok t₀.stage refl)
  effects (bulk_out q) (bulk_out q') (data_to n h) ok =
      let same-q : NotTo b t₀.stage t₀.lun → q ≡ q' = λ f. absurd (to_b b h sim.tally f) in
      pair_if (Match (bulk_out q)) s.link.haltout _ _ _ _ _ refl (λ _. ignored q q' n same-q ok Stall refl) (λ _. outs q q' n same-q ok t₀.stage refl)
  effects (bulk_in c) e' (same e) ok =
      by-if (λ (a : Asked). Match (bulk_in c) (deliver a w c) (deliver a w' c)) s.link.haltin _ _ (λ _. stays c ok Stall) (λ _. ins c ok t₀.stage refl)
  effects (set_switch y j) e' (same e) ok = even (set_switch y j) Ack s _ [] refl refl

  refused : (e e' : Event) → Alike b l.tally e e' → (a : Answer) → is_ack a ≡ false → Match e (out a w (lent e)) (out a w' (lent e'))
  unfolding lent
  refused e e' (same y) a h = even y a s us (lent y) refl (barred y a h)
  refused e e' (data_to n f) a h = even e a s us [] refl (barred e a h)

  pub event : (e e' : Event) → Alike b l.tally e e' → Matches k.units b x l e (step w e) (step w' e')
  event e e' h = pair_judge (Match e) w w' e e' (same-checks e e' h) (λ a y. refused e e' h a y.quiet) (effects e e' h)
