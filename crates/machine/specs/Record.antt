-- The records that events leave. Each literal of a record stands here and nowhere else.
use Rattle.std.specs.Prelude.{ℕ, Bool, false, List}
use Rattle.wire.specs.Slices.{zeros}
use Rattle.usb.specs.declared.descriptor.Identity.{Identity}
use Rattle.machine.specs.declared.record.Stage.{Stage}
use Rattle.machine.specs.declared.record.Stage.TheVariants.{Ready}
use Rattle.machine.specs.declared.record.Task.{Task}
use Rattle.machine.specs.declared.record.Link.{Link}
use Rattle.machine.specs.declared.record.State.{State}
use Rattle.machine.specs.declared.record.Device.{Device}
use Rattle.machine.specs.Units.{block_size}

abbrev pub task : Stage → ℕ → ℕ → ℕ → ℕ → Task
task s n t a r = record { stage = s; lun = n; tag = t; announced = a; residue = r }

-- No command in hand: a wrapper is due, and no number is left over.
abbrev pub no_task : Task
no_task = task Ready 0 0 0 0

abbrev pub link : Bool → Bool → Bool → Task → Link
link hi ho k t = record { haltin = hi; haltout = ho; locked = k; task = t }

abbrev pub state : ℕ → Bool → Link → State
state a c l = record { address = a; configured = c; link = l }

abbrev pub device : Identity → State → List ℕ → Device
device i s p = record { identity = i; state = s; part = p }

-- A collector as made.
unfoldable pub fresh : Identity → Device
fresh i = device i (state 0 false (link false false false no_task)) (zeros block_size)

-- No device: "all numbers zero".
unfoldable pub no_device : Device
no_device = fresh (record { number = 0; vendor = 0; product = 0; release = 0 })

-- Only the halts and the lock change.
unfoldable pub with_halts : State → Bool → Bool → Bool → State
with_halts s hi ho k = state s.address s.configured (link hi ho k s.link.task)

-- "Dropping the command": ready for a wrapper, lock ended; with the four that a request may set beside it. The senses are in the table.
unfoldable pub dropped_state : ℕ → Bool → Bool → Bool → State
dropped_state a c hi ho = state a c (link hi ho false no_task)

unfoldable pub with_address : State → ℕ → State
with_address s a = state a s.configured s.link

-- Within a command: halts and task change.
unfoldable pub moved : State → Bool → Bool → Task → State
moved s hi ho t = state s.address s.configured (link hi ho s.link.locked t)

abbrev pub with_state : Device → State → Device
with_state d s = device d.identity s d.part
