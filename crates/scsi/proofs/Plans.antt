-- What a plan goes by and what it never passes: the block's first ten bytes; the unit's blocks and the reply's length. And the plans of a
-- block of zeros, of Inquiry with EVPD set, of blocks outside the unit and of a unit that is write protected. Assumes nothing.
use Prim.Native.Nat.{ℕ, ◌+◌, ◌≤◌, ◌<◌}
use mathlib.Core.Path.{◌≡◌, refl, sym, ap, ◌∙◌}
use mathlib.Core.Bool.{Bool, true, false}
use mathlib.Core.List.{List, [], ◌∷◌}
use native.Mathlib.Omega.{arith}
use borrow.Author.Tests.{leb-true, le-leb, lt-leb}
use Rattle.std.specs.Prelude.{Option, Some, None}
use Rattle.wire.specs.Choice.{when◌then◌else◌, look}
use Rattle.wire.specs.Bits.{bits, clear}
use Rattle.wire.specs.Numbers.{big}
use Rattle.wire.specs.Slices.{byte_at, bytes_at, zeros}
use Rattle.wire.proofs.Cases.{by-if, if-true, if-false, look-all, look_keyed}
use Rattle.wire.proofs.Lists.{bytes_same}
use Rattle.scsi.specs.declared.page.Page.{Page}
use Rattle.scsi.specs.declared.command.Plan.{Plan}
use Rattle.scsi.specs.declared.command.Plan.TheVariants.{Failed, Nothing, Reply, Read, Write}
use Rattle.scsi.specs.declared.reply.ReplyKind.{ReplyKind}
use Rattle.scsi.specs.declared.reply.ReplyKind.TheVariants as kind
use Rattle.scsi.specs.Sense.{invalid_field, out_of_range}
use Rattle.scsi.specs.Page.{page_code, page_of}
use Rattle.scsi.specs.Claims.{PagesServed, FirstOutside, RangesRefused, WritesProtected}
use Rattle.scsi.specs.Reply.{reply_size}
use Rattle.scsi.specs.Command.{Command, inquiry_allocation, cut, paged, inquired, first_outside, within, unless_protected, address, count, commands, unknown, command_of, plan_by, control_clear, plan_of}
use Rattle.scsi.proofs.Compute.{scsi_computes}
use Rattle.scsi.proofs.Pages.{code-found}

abbrev pub PlanFits : ℕ → Plan → Type 0
PlanFits blocks (Failed s) = Unit {0}
PlanFits blocks Nothing = Unit {0}
PlanFits blocks (Reply k n) = n ≤ reply_size k
PlanFits blocks (Read block count) = block + count ≤ blocks
PlanFits blocks (Write block count) = block + count ≤ blocks

cut_fits : (blocks : ℕ) (k : ReplyKind) (allocated : ℕ) → PlanFits blocks (cut k allocated)
unfolding cut
cut_fits blocks k allocated = omega arith

paged-fits : (blocks : ℕ) (p : Option Page) (allocated : ℕ) → PlanFits blocks (paged p allocated)
unfolding paged
paged-fits blocks None allocated = tt
paged-fits blocks (Some p) allocated = cut_fits blocks (kind.Page p) allocated

inquired-fits : (blocks : ℕ) (b : List ℕ) → PlanFits blocks (inquired b)
unfolding inquired
inquired-fits blocks b =
    by-if (PlanFits blocks) _ _ _ (λ _. by-if (PlanFits blocks) _ _ _ (λ _. cut_fits blocks kind.Inquiry _) (λ _. tt))
    (λ _. paged-fits blocks (page_of (byte_at b 2)) (inquiry_allocation b))

within-fits : (blocks : ℕ) (b : List ℕ) (p : Plan) → (address b + count b ≤ blocks → PlanFits blocks p) → PlanFits blocks (within blocks b p)
unfolding within
within-fits blocks b p f = by-if (PlanFits blocks) _ p _ (λ e. f (leb-true _ _ e)) (λ _. tt)

abbrev Fitting : Command → Type 0
Fitting c = (blocks : ℕ) (p : Bool) (b : List ℕ) → PlanFits blocks (c.has blocks p b)

protected_fits : (blocks : ℕ) (protected : Bool) (p : Plan) → PlanFits blocks p → PlanFits blocks (unless_protected protected p)
unfolding unless_protected
protected_fits blocks protected p f = by-if (PlanFits blocks) protected _ p (λ _. tt) (λ _. f)

every-row : (code : ℕ) → Fitting (command_of code)
unfolding command_of commands
every-row code =
    look-all Fitting _ code unknown (
      (λ n p b. tt),
      (
        (λ n p b. cut_fits n kind.Sense _),
        (
          (λ n p b. inquired-fits n b),
          (
            (λ n p b. cut_fits n kind.ModeSense _),
            (
              (λ n p b. tt),
              (
                (λ n p b. omega arith),
                (
                  (λ n p b. within-fits n b _ (λ h. h)),
                  (
                    (λ n p b. within-fits n b _ (λ h. protected_fits n p _ h)),
                    ((λ n p b. within-fits n b _ (λ _. tt)), tt),
                  ),
                ),
              ),
            ),
          ),
        ),
      ),
    )
    (λ n p b. tt)

pub plan-fits : (b : List ℕ) (blocks : ℕ) (p : Bool) → PlanFits blocks (plan_of b blocks p)
unfolding plan_of plan_by
plan-fits b blocks p =
    by-if (PlanFits blocks) (control_clear b) _ _ (λ _. by-if (PlanFits blocks) _ _ _ (λ _. every-row (byte_at b 0) blocks p b) (λ _. tt)) (λ _. tt)

-- ---- a plan goes by the block's first ten bytes

-- `plan_of` of a given command
abbrev checked : Command → ℕ → Bool → List ℕ → Plan
checked c n p b = when c.control b then plan_by c n p b else Failed invalid_field

abbrev Fronted : Command → Type 0
Fronted c = (n : ℕ) (p : Bool) (b : List ℕ) → checked c n p b ≡ checked c n p (bytes_at 10 0 b)

by_front : (code : ℕ) → Fronted (command_of code)
unfolding command_of commands plan_by bytes_at cut inquired within
by_front code =
    look-all Fronted _ code unknown (
      (λ n p b. refl),
      (
        (λ n p b. refl),
        ((λ n p b. refl), ((λ n p b. refl), ((λ n p b. refl), ((λ n p b. refl), ((λ n p b. refl), ((λ n p b. refl), ((λ n p b. refl), tt))))))),
      ),
    )
    (λ n p b. refl)

plan_front : (b : List ℕ) (n : ℕ) (p : Bool) → plan_of b n p ≡ plan_of (bytes_at 10 0 b) n p
unfolding plan_of control_clear bytes_at
plan_front b n p = by_front (byte_at b 0) n p b

pub plan-bytes : (b b' : List ℕ) (n : ℕ) (p : Bool) → ((i : ℕ) → i < 10 → byte_at b i ≡ byte_at b' i) → plan_of b n p ≡ plan_of b' n p
plan-bytes b b' n p h = plan_front b n p ∙ ap (λ (s : List ℕ). plan_of s n p) (bytes_same 10 0 b b' h) ∙ sym (plan_front b' n p)

-- ---- a block of zeros is Test Unit Ready, which has nothing

pub test-has-nothing : (blocks : ℕ) (p : Bool) → plan_of (zeros 16) blocks p ≡ Nothing
unfolding scsi_computes
test-has-nothing blocks p = refl

-- ---- Inquiry with EVPD set

asked : (code hi lo blocks : ℕ) (protected : Bool) → plan_of (0x12 ∷ 0x01 ∷ code ∷ hi ∷ lo ∷ 0x00 ∷ []) blocks protected ≡ paged (page_of code) (big (hi ∷ lo ∷ []))
unfolding plan_of control_clear plan_by command_of commands look inquired bytes_at clear bits when◌then◌else◌
asked code hi lo blocks protected = refl

pub pages-served : PagesServed
unfolding paged
pages-served = record {
  page = λ p hi lo blocks protected. asked (page_code p) hi lo blocks protected ∙ ap (λ (l : Option Page). paged l (big (hi ∷ lo ∷ []))) (code-found p);
  other = λ code hi lo blocks protected e. asked code hi lo blocks protected ∙ ap (λ (l : Option Page). paged l (big (hi ∷ lo ∷ []))) e;
}

-- ---- blocks outside the unit

pub first-outside : FirstOutside
unfolding first_outside
first-outside = record {
  outside = λ a blocks. omega arith;
  first = λ a blocks i from before. omega arith;
  named = λ a count blocks some past. (omega arith, omega arith);
}

-- a known command whose control byte and fields pass has what its row has
passed : (code : ℕ) (b : List ℕ) (blocks : ℕ) (p : Bool) → byte_at b 0 ≡ code → control_clear b ≡ true → (command_of code).fields b ≡ true → plan_of b blocks p ≡ (command_of code).has blocks p b
unfolding plan_of plan_by
passed code b blocks p e c f = if-true _ _ _ c ∙ ap (λ (k : ℕ). plan_by (command_of k) blocks p b) e ∙ if-true _ _ _ f

outside : (b : List ℕ) (blocks : ℕ) (p : Plan) → blocks < address b + count b → within blocks b p ≡ Failed (out_of_range (first_outside (address b) blocks))
unfolding within
outside b blocks p h = if-false _ _ _ (lt-leb _ _ h)

pub ranges_refused : RangesRefused
unfolding command_of commands look when◌then◌else◌
ranges_refused = record {
  read = λ b blocks p e c f h. passed 0x28 b blocks p e c f ∙ outside b blocks _ h;
  write = λ b blocks p e c f h. passed 0x2A b blocks p e c f ∙ outside b blocks _ h;
  verify = λ b blocks p e c f h. passed 0x2F b blocks p e c f ∙ outside b blocks _ h;
}

-- ---- a unit that is write protected

inside : (b : List ℕ) (blocks : ℕ) (p : Plan) → address b + count b ≤ blocks → within blocks b p ≡ p
unfolding within
inside b blocks p h = if-true _ _ _ (le-leb _ _ h)

abbrev Unswitched : Command → Type 0
Unswitched c = (n : ℕ) (b : List ℕ) → plan_by c n true b ≡ plan_by c n false b

not-write : (code : ℕ) → (code ≡ 0x2A → ⊥) → Unswitched (command_of code)
unfolding command_of commands plan_by
not-write code h =
    look_keyed Unswitched _ code unknown (
      (λ _ n b. refl),
      (
        (λ _ n b. refl),
        ((λ _ n b. refl), ((λ _ n b. refl), ((λ _ n b. refl), ((λ _ n b. refl), ((λ _ n b. refl), ((λ e n b. absurd (h e)), ((λ _ n b. refl), tt))))))),
      ),
    )
    (λ n b. refl)

pub writes_protected : WritesProtected
unfolding plan_of command_of commands look unless_protected when◌then◌else◌
writes_protected = record {
  fails = λ b blocks e c f h. passed 0x2A b blocks true e c f ∙ inside b blocks _ h;
  others = λ b blocks h. ap (λ (p : Plan). when control_clear b then p else Failed invalid_field) (not-write (byte_at b 0) h blocks b);
}
