-- Which accepted wrapper leads to data-out: the thirteen cases and the tally's own words say the same. Assumes nothing.
use Prim.Native.Nat.{ℕ, ◌*◌, ◌≤◌, ◌<◌}
use mathlib.Core.Path.{◌≡◌}
use mathlib.Core.Bool.{true, false, not}
use mathlib.Core.List.{[]}
use native.Mathlib.Omega.{arith}
use lib.Dec.{leb, ltb, eqb}
use borrow.Author.Tests.{eqb-true, eqb-false, ltb-true, ltb-false, le-leb, lt-leb, lt-ltb, le-ltb}
use Rattle.wire.specs.Choice.{when◌then◌else◌, ◌and◌}
use Rattle.wire.proofs.Cases.{by-if}
use Rattle.scsi.specs.declared.command.Plan.{Plan}
use Rattle.scsi.specs.declared.command.Plan.TheVariants.{Failed, Nothing, Reply, Read, Write}
use Rattle.cases.specs.Cases.{counted, meeting, same_way, case_of}
use Rattle.cases.specs.declared.Transfer.{Transfer}
use Rattle.cases.specs.declared.Transfer.TheVariants.{None, In, Out}
use Rattle.cases.specs.declared.Ending.{Ending}
use Rattle.cases.specs.declared.Ending.TheVariants as ending
use Rattle.cases.specs.declared.Case.{Case}
use Rattle.bot.specs.declared.cbw.Header.{Header}
use Rattle.machine.specs.declared.record.Stage.{Stage}
use Rattle.machine.specs.declared.record.Stage.TheVariants.{Ready, DataOut, DataIn, ReplyIn, StatusDue}
use Rattle.machine.specs.declared.record.LogicalUnit.{LogicalUnit}
use Rattle.machine.specs.Units.{block_size}
use Rattle.machine.specs.Begin.{host_of, has_of, first_stage, data_stage, staged}
use Rattle.machine.specs.Tally.{Tally, idle, writing, write_of}

-- a stage in which no block is due
abbrev pub Still : Stage → Type 0
Still Ready = Unit {0}
Still (DataOut block left held) = ⊥
Still (DataIn place left) = Unit {0}
Still (ReplyIn reply place left) = Unit {0}
Still (StatusDue status) = Unit {0}

-- the tally and the first stage of a command for a unit
pub data Begun (lun : ℕ) : Tally → Stage → Type 0 where
  still : {g : Stage} → Still g → Begun lun idle g
  begins : {block count : ℕ} → 1 ≤ count → Begun lun (writing lun block count []) (DataOut block count 0)

abbrev first_of : Case → Plan → LogicalUnit → Stage
first_of c p u = staged c.ending c.moves p u

NotWrite : Plan → Type 0
NotWrite (Failed s) = Unit {0}
NotWrite Nothing = Unit {0}
NotWrite (Reply k n) = Unit {0}
NotWrite (Read block count) = Unit {0}
NotWrite (Write block count) = ⊥

-- a command that is no Write never has blocks due
data_still : (p : Plan) (u : LogicalUnit) → NotWrite p → Still (data_stage p u)
unfolding NotWrite data_stage
data_still (Failed s) u n = tt
data_still Nothing u n = tt
data_still (Reply k x) u n = tt
data_still (Read block count) u n = tt
data_still (Write block count) u n = absurd n

staged_still : (e : Ending) (t : Transfer) (p : Plan) (u : LogicalUnit) → NotWrite p → Still (staged e t p u)
unfolding staged first_stage
staged_still ending.Command None p u n = tt
staged_still ending.Command (In x) p u n = data_still p u n
staged_still ending.Command (Out x) p u n = data_still p u n
staged_still ending.PhaseError t p u n = tt

-- a Write: by what is announced, and how much
module _ (h : Header) (block count : ℕ) (u : LogicalUnit) where
  abbrev write : Plan
  write = Write block count

  abbrev size : ℕ
  size = block_size * count

  idle-when : (ltb 0 count and not h.inward and leb size h.announced) ≡ false → {g : Stage} → Still g → Begun h.lun (write_of h write) g
  unfolding write_of when◌then◌else◌
  idle-when e s = rw e (still s)

  due-when : (ltb 0 count and not h.inward and leb size h.announced) ≡ true → 1 ≤ count → Begun h.lun (write_of h write) (DataOut block count 0)
  unfolding write_of when◌then◌else◌
  due-when e n = rw e (begins n)

  abbrev Agrees : Transfer → Transfer → Type 0
  Agrees host has = Begun h.lun (write_of h write) (first_of (meeting host has) write u)

  -- nothing to write
  none_has : (t : Transfer) → eqb size 0 ≡ true → Agrees t None
  unfolding meeting staged first_stage ◌and◌
  none_has t z = go t
    where
      off : (ltb 0 count and not h.inward and leb size h.announced) ≡ false
      off = let e : size ≡ 0 = eqb-true _ _ z in simp (le-ltb 0 count (omega arith))

      go : (t : Transfer) → Agrees t None
      go None = idle-when off tt
      go (In a) = idle-when off tt
      go (Out a) = idle-when off tt

  some-has : (size ≡ 0 → ⊥) → Agrees (counted (host_of h)) (Out size)
  unfolding host_of counted meeting same_way staged first_stage data_stage ◌and◌
  some-has n =
      let pos : 1 ≤ count = omega arith in
      by-if (λ (t : Transfer). Agrees (counted t) (Out size)) h.inward (In h.announced) (Out h.announced)
      (λ i.
      let off : (ltb 0 count and not h.inward and leb size h.announced) ≡ false = simp (lt-ltb 0 count pos, i) in
      by-if (λ (t : Transfer). Agrees t (Out size)) (eqb h.announced 0) None (In h.announced) (λ _. idle-when off tt) (λ _. idle-when off tt))
      (λ o.
      by-if (λ (t : Transfer). Agrees t (Out size)) (eqb h.announced 0) None (Out h.announced)
      (λ z. idle-when (let e : h.announced ≡ 0 = eqb-true _ _ z in simp (lt-ltb 0 count pos, o, lt-leb size h.announced (omega arith))) tt)
      (λ _. by-if (λ (c : Case). Begun h.lun (write_of h write) (first_of c write u)) (ltb size h.announced) _ _
      (λ l. due-when (simp (lt-ltb 0 count pos, o, le-leb size h.announced (omega (arith, ltb-true size h.announced l)))) pos)
      (λ l. by-if (λ (c : Case). Begun h.lun (write_of h write) (first_of c write u)) (eqb size h.announced) _ _
      (λ q. due-when (simp (lt-ltb 0 count pos, o, le-leb size h.announced (omega (arith, eqb-true size h.announced q)))) pos)
      (λ q. idle-when (simp (lt-ltb 0 count pos, o, lt-leb size h.announced (above l q))) tt))))
    where
      above : ltb size h.announced ≡ false → eqb size h.announced ≡ false → h.announced < size
      above l q = let a = ltb-false size h.announced l in let b = eqb-false size h.announced q in omega arith

  write-grant : Begun h.lun (write_of h write) (first_of (case_of (host_of h) (has_of write)) write u)
  unfolding case_of has_of counted
  write-grant =
      by-if (λ (t : Transfer). Agrees (counted (host_of h)) t) (eqb size 0) None (Out size) (none_has (counted (host_of h))) (λ z. some-has (eqb-false size 0 z))

pub grant : (h : Header) (p : Plan) (u : LogicalUnit) → Begun h.lun (write_of h p) (first_of (case_of (host_of h) (has_of p)) p u)
unfolding write_of NotWrite
grant h (Failed s) u = still (staged_still _ _ (Failed s) u tt)
grant h Nothing u = still (staged_still _ _ Nothing u tt)
grant h (Reply k n) u = still (staged_still _ _ (Reply k n) u tt)
grant h (Read block count) u = still (staged_still _ _ (Read block count) u tt)
grant h (Write block count) u = write-grant h block count u
