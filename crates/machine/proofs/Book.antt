-- The book of a history and the command in hand: what an entry in the one and a step of the other keep. Assumes nothing.
use Prim.Native.Nat.{ℕ, ◌+◌, ◌-◌, ◌%◌, ◌^◌, ◌≤◌, ◌<◌}
use mathlib.Core.Path.{◌≡◌, refl, sym, ap, ◌∙◌, subst}
use mathlib.Core.List.{List, [], ◌∷◌}
use native.Mathlib.Omega.{arith}
use native.Mathlib.Nat.{add-zero}
use lib.Dec.{leb, lit<}
use borrow.Author.Tests.{leb-false}
use Rattle.wire.specs.Numbers.{value}
use Rattle.wire.specs.Slices.{Below, bytes_at}
use Rattle.wire.proofs.Cases.{by-if}
use Rattle.wire.proofs.Lists.{every-at}
use Rattle.scsi.specs.declared.command.Plan.{Plan}
use Rattle.scsi.specs.declared.command.Plan.TheVariants as plan
use Rattle.cases.specs.declared.Transfer.{Transfer}
use Rattle.cases.specs.declared.Transfer.TheVariants as transfer
use Rattle.cases.specs.declared.Ending.{Ending}
use Rattle.cases.specs.declared.Ending.TheVariants as ending
use Rattle.bot.specs.Cbw.{header_of}
use Rattle.bot.specs.Csw.{csw_bytes}
use Rattle.bot.specs.declared.csw.Csw.{Csw}
use Rattle.machine.specs.declared.record.LogicalUnit.{LogicalUnit}
use Rattle.machine.specs.declared.record.Stage.{Stage}
use Rattle.machine.specs.declared.record.Stage.TheVariants.{Ready, DataOut, DataIn, ReplyIn, StatusDue}
use Rattle.machine.specs.declared.record.Task.{Task}
use Rattle.machine.specs.Record.{task}
use Rattle.machine.specs.Begin.{data_stage, first_stage, staged}
use Rattle.machine.specs.Bulk.{next_out, next_in}
use Rattle.machine.specs.Ledger.{Command, Status, command_of, status_of, Book, book, counting, Paid, Settled, as_many, one_fewer, Balanced}
use Rattle.machine.proofs.Handed.{status-read}

-- ---- the book and the command in hand

-- the latest command is the one in hand: its tag, and what is not counted of its announced length is left
pub record Current (c : Command) (t : Task) : Type 0 where
  pub tag : c.tag ≡ t.tag
  pub left : c.announced ≡ t.residue + c.counted
  pub tagged : c.tag < 2 ^ 32
  pub small : c.announced < 2 ^ 32

abbrev pub Open : List Command → List Status → Task → Type 0
Open [] ss t = ⊥
Open (c ∷ cs) ss t = Current c t × Paid cs ss

-- by the stage; and what keeps its packets from being read as a status wrapper
abbrev pub Keeps : Stage → List Command → List Status → Task → Type 0
Keeps Ready cs ss t = Paid cs ss
Keeps (DataOut block left held) cs ss t = Open cs ss t
Keeps (DataIn place left) cs ss t = Open cs ss t × (left % 64 ≡ 0)
Keeps (ReplyIn r place left) cs ss t = Open cs ss t × (place ≡ 0)
Keeps (StatusDue x) cs ss t = Open cs ss t

pub record Kept (b : Book) (t : Task) : Type 0 where
  pub stage : Keeps t.stage b.commands b.statuses t
  pub owned : b.stray ≡ 0

open_settled : (cs : List Command) (ss : List Status) (t : Task) → Open cs ss t → Settled cs ss
open_settled [] ss t h = absurd h
open_settled (c ∷ cs) ss t h = one_fewer h.1

settled_at : (g : Stage) (cs : List Command) (ss : List Status) (t : Task) → Keeps g cs ss t → Settled cs ss
settled_at Ready cs ss t h = as_many h
settled_at (DataOut block left held) cs ss t h = open_settled cs ss t h
settled_at (DataIn place left) cs ss t h = open_settled cs ss t h.0
settled_at (ReplyIn r place left) cs ss t h = open_settled cs ss t h.0
settled_at (StatusDue x) cs ss t h = open_settled cs ss t h

pub balanced : (b : Book) (t : Task) → Kept b t → Balanced b
balanced b t h = record { settled = settled_at t.stage b.commands b.statuses t h.stage; owned = h.owned }

-- n bytes are counted, and the residue falls by n
pub counted : (n : ℕ) (cs : List Command) (ss : List Status) (k : ℕ) (t : Task) (g : Stage) → k ≡ 0 → n ≤ t.residue → Open cs ss t
    → ((cs' : List Command) → Open cs' ss (task g t.lun t.tag t.announced (t.residue - n)) → Keeps g cs' ss (task g t.lun t.tag t.announced (t.residue - n)))
    → Kept (counting n cs ss k) (task g t.lun t.tag t.announced (t.residue - n))
unfolding counting
counted n [] ss k t g z l h f = absurd h
counted n (c ∷ cs) ss k t g z l h f =
    let e = h.0.left in
    record { stage = f _ (record { tag = h.0.tag; left = omega arith; tagged = h.0.tagged; small = h.0.small }, h.1); owned = z }

-- none are counted
pub counted_none : (cs : List Command) (ss : List Status) (k : ℕ) → counting 0 cs ss k ≡ book cs ss k
unfolding counting
counted_none [] ss k = ap (book [] ss) (add-zero k)
counted_none (c ∷ cs) ss k = ap (λ (n : ℕ). book (record { tag = c.tag; announced = c.announced; counted = n } ∷ cs) ss k) (add-zero c.counted)

-- the status settles the command in hand
pub paid : (c : Csw) (cs : List Command) (ss : List Status) (t : Task) → c.tag ≡ t.tag → c.residue ≡ t.residue → Open cs ss t → Paid cs (status_of (csw_bytes c) ∷ ss)
unfolding Paid
paid c [] ss t e f h = absurd h
paid c (x ∷ cs) ss t e f h =
    let a = h.0.tagged in
    let b = h.0.small in
    let d = h.0.left in
    let y = h.0.tag in
    let r = status-read c (subst (λ (n : ℕ). n < 2 ^ 32) (y ∙ sym e) a) (subst (λ (n : ℕ). n < 2 ^ 32) (sym f) (omega arith)) in
    (ap (λ (s : Status). s.tag) r ∙ e ∙ sym y, d ∙ ap (λ (n : ℕ). n + x.counted) (sym f ∙ sym (ap (λ (s : Status). s.residue) r)), h.1)

-- ---- a command's stages

data_keeps : (p : Plan) (u : LogicalUnit) (cs : List Command) (ss : List Status) (t : Task) → Open cs ss t → Keeps (data_stage p u) cs ss t
unfolding data_stage
data_keeps (plan.Failed x) u cs ss t h = h
data_keeps plan.Nothing u cs ss t h = h
data_keeps (plan.Reply k n) u cs ss t h = (h, refl)
data_keeps (plan.Read block count) u cs ss t h = (h, omega arith)
data_keeps (plan.Write block count) u cs ss t h = h

pub first-keeps : (e : Ending) (x : Transfer) (p : Plan) (u : LogicalUnit) (cs : List Command) (ss : List Status) (t : Task) → Open cs ss t → Keeps (staged e x p u) cs ss t
unfolding staged first_stage
first-keeps ending.Command transfer.None p u cs ss t h = h
first-keeps ending.Command (transfer.In n) p u cs ss t h = data_keeps p u cs ss t h
first-keeps ending.Command (transfer.Out n) p u cs ss t h = data_keeps p u cs ss t h
first-keeps ending.PhaseError x p u cs ss t h = h

pub after_in : (left : ℕ) (more : Stage) (cs : List Command) (ss : List Status) (t : Task) → Open cs ss t → (64 < left → Keeps more cs ss t) → Keeps (next_in left more) cs ss t
unfolding next_in
after_in left more cs ss t h f = by-if (λ (g : Stage). Keeps g cs ss t) (leb left 64) _ _ (λ _. h) (λ e. f (leb-false left 64 e))

pub after-out : (block left : ℕ) (cs : List Command) (ss : List Status) (t : Task) → Open cs ss t → Keeps (next_out block left) cs ss t
unfolding next_out
after-out block left cs ss t h = by-if (λ (g : Stage). Keeps g cs ss t) (leb left 1) _ _ (λ _. h) (λ _. h)

-- ---- a wrapper's numbers

four_bytes : (p : List ℕ) (at : ℕ) → Below 256 p → value 256 (bytes_at 4 at p) < 2 ^ 32
unfolding value bytes_at
four_bytes p at h =
    let a = every-at (λ (x : ℕ). x < 256) p at (lit< tt) h in
    let b = every-at (λ (x : ℕ). x < 256) p (at + 1) (lit< tt) h in
    let c = every-at (λ (x : ℕ). x < 256) p (at + 1 + 1) (lit< tt) h in
    let d = every-at (λ (x : ℕ). x < 256) p (at + 1 + 1 + 1) (lit< tt) h in
    omega arith

pub begins_with : (p : List ℕ) (t : Task) → Below 256 p → (header_of p).tag ≡ t.tag → (header_of p).announced ≡ t.residue → Current (command_of p) t
unfolding header_of
begins_with p t b e f = record { tag = e; left = f ∙ sym (add-zero t.residue); tagged = four_bytes p 4 b; small = four_bytes p 8 b }
