-- Which senses a command may fail with, and that each is of bytes. Assumes nothing.
use Prim.Native.Nat.{ℕ, ◌≤◌}
use mathlib.Core.Bool.{Bool}
use mathlib.Core.List.{List}
use native.Mathlib.Omega.{arith}
use Rattle.std.specs.Prelude.{Option, Some, None}
use Rattle.wire.specs.Slices.{byte_at}
use Rattle.wire.proofs.Cases.{by-if, look-all}
use Rattle.scsi.specs.declared.page.Page.{Page}
use Rattle.scsi.specs.declared.sense.Sense.{Sense}
use Rattle.scsi.specs.declared.command.Plan.{Plan}
use Rattle.scsi.specs.declared.command.Plan.TheVariants.{Failed, Nothing, Reply, Read, Write}
use Rattle.scsi.specs.declared.reply.ReplyKind.{ReplyKind}
use Rattle.scsi.specs.Page.{page_of}
use Rattle.scsi.specs.Sense.{IsSense, no_sense, invalid_code, invalid_field, out_of_range, write_protected, data_phase}
use Rattle.scsi.specs.Command.{Command, inquiry_allocation, cut, paged, inquired, within, unless_protected, address, count, commands, unknown, command_of, plan_by, control_clear, plan_of}
use Rattle.scsi.proofs.Plans.{first-outside}

-- What holds of a plan's sense, if it fails.
abbrev pub PlanSense : (Sense → Type 0) → Plan → Type 0
PlanSense P (Failed s) = P s
PlanSense P Nothing = Unit {0}
PlanSense P (Reply k n) = Unit {0}
PlanSense P (Read block count) = Unit {0}
PlanSense P (Write block count) = Unit {0}

-- ---- what holds of the four senses holds of every plan's

-- of the range failures that a unit of so many blocks can have
pub record Failing (P : Sense → Type 0) (blocks : ℕ) : Type 0 where
  pub code : P invalid_code
  pub field : P invalid_field
  pub protected : P write_protected
  pub range : (block : ℕ) → blocks ≤ block → P (out_of_range block)

module _ (P : Sense → Type 0) where
  abbrev Fitting : Command → Type 0
  Fitting c = (blocks : ℕ) → Failing P blocks → (p : Bool) (b : List ℕ) → PlanSense P (c.has blocks p b)

  none : (n : ℕ) → Failing P n → (p : Bool) (b : List ℕ) → Unit {0}
  none n f p b = tt

  cuts : (k : ReplyKind) (allocated : List ℕ → ℕ) (n : ℕ) → Failing P n → (p : Bool) (b : List ℕ) → PlanSense P (cut k (allocated b))
  unfolding cut
  cuts k allocated n f p b = tt

  pages : (p : Option Page) (allocated : ℕ) → P invalid_field → PlanSense P (paged p allocated)
  unfolding paged cut
  pages None allocated h = h
  pages (Some p) allocated h = tt

  inquiries : (n : ℕ) → Failing P n → (p : Bool) (b : List ℕ) → PlanSense P (inquired b)
  unfolding inquired cut
  inquiries n f p b =
      by-if (PlanSense P) _ _ _ (λ _. by-if (PlanSense P) _ _ _ (λ _. tt) (λ _. f.field))
      (λ _. pages (page_of (byte_at b 2)) (inquiry_allocation b) f.field)

  ranges : (x : Bool → List ℕ → Plan) (n : ℕ) → Failing P n → ((p : Bool) (b : List ℕ) → PlanSense P (x p b)) → (p : Bool) (b : List ℕ) → PlanSense P (within n b (x p b))
  unfolding within
  ranges x n f h p b = by-if (PlanSense P) _ (x p b) _ (λ _. h p b) (λ _. f.range _ (first-outside.outside _ n))

  writes : {n : ℕ} → Failing P n → (p : Bool) (b : List ℕ) → PlanSense P (unless_protected p (Write (address b) (count b)))
  unfolding unless_protected
  writes f p b = by-if (PlanSense P) p _ _ (λ _. f.protected) (λ _. tt)

  every-row : (code : ℕ) → Fitting (command_of code)
  unfolding command_of commands
  every-row code =
      look-all Fitting _ code unknown
      (none, (cuts _ _, (inquiries, (cuts _ _, (none, (none, ((λ n f. ranges _ n f (λ _ _. tt)), ((λ n f. ranges _ n f (writes f)), ((λ n f. ranges _ n f (λ _ _. tt)), tt)))))))))
      (λ n f p b. f.code)

  pub plan-sense : (b : List ℕ) (blocks : ℕ) (p : Bool) → Failing P blocks → PlanSense P (plan_of b blocks p)
  unfolding plan_of plan_by
  plan-sense b blocks p f =
      by-if (PlanSense P) (control_clear b) _ _
      (λ _. by-if (PlanSense P) _ _ _ (λ _. every-row (byte_at b 0) blocks f p b) (λ _. f.field))
      (λ _. f.field)

-- ---- of bytes

pub no_sense_lem : IsSense no_sense
no_sense_lem = record { key = omega arith; asc = omega arith; ascq = omega arith }

pub data_phase_lem : IsSense data_phase
data_phase_lem = record { key = omega arith; asc = omega arith; ascq = omega arith }

pub failing_bytes : (blocks : ℕ) → Failing IsSense blocks
failing_bytes blocks = record {
  code = record { key = omega arith; asc = omega arith; ascq = omega arith };
  field = record { key = omega arith; asc = omega arith; ascq = omega arith };
  protected = record { key = omega arith; asc = omega arith; ascq = omega arith };
  range = λ block h. record { key = omega arith; asc = omega arith; ascq = omega arith };
}
