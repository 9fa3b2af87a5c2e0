-- Demand 3, as one statement about whole lists of events.
use Rattle.std.specs.Prelude.{ℕ, suc, ◌≤◌, ◌≡◌, Bool, true, false, ◌||◌, List, [], ◌∷◌, ◌++◌, leb, eqb, length, replicate}
use Rattle.wire.specs.Choice.{◌and◌}
use Rattle.wire.specs.Slices.{byte_at}
use Rattle.bot.specs.Cbw.{header_of}
use Rattle.usb.specs.Request.{request_of}
use Rattle.usb.specs.declared.request.Request.{Request}
use Rattle.usb.specs.declared.request.Request.TheVariants.{SetAddress, SetConfiguration, GetConfiguration, GetDeviceStatus, GetInterfaceStatus, GetEndpointStatus, ClearHalt, SetHalt, MassStorageReset, GetMaxLun, GetDescriptor}
use Rattle.usb.specs.declared.request.Request.TheVariants as request
use Rattle.machine.specs.declared.answer.Answer.{Answer}
use Rattle.machine.specs.declared.answer.Answer.TheVariants.{Ack, Nak, Stall}
use Rattle.machine.specs.Answer.{number_of}
use Rattle.machine.specs.Units.{Table}
use Rattle.machine.specs.Making.{make}
use Rattle.machine.specs.Wrapper.{accepted}
use Rattle.machine.specs.World.{World, world}
use Rattle.machine.specs.Machine.{Event, bus_reset, control, bulk_out, bulk_in, set_switch, Seen, Run, step, run}
use Rattle.machine.specs.Tally.{Making, Log, start, is_ack, noted, observed, stored}

-- ---- a collector's life

unfoldable pub answers : List Seen → List Answer
answers [] = []
answers (r ∷ rs) = r.answer ∷ answers rs

-- What a making leaves, and what its collector has come to after the events.
unfoldable pub born : Making → World
born k = let r = make k.identity k.units k.medium in world r.dev r.units k.medium

abbrev pub Makes : Making → Type 0
Makes k = (make k.identity k.units k.medium).answer ≡ Ack

unfoldable pub lived : Making → List Event → Run
lived k es = run (born k) es

-- What the history of that says.
unfoldable pub history : Making → List Event → Log
history k es = observed noted (start k) es (answers (lived k es).replies)

-- ---- the requests that the demand names, as setup bytes (document 01, "Control requests")

abbrev pub setup : ℕ → ℕ → ℕ → ℕ → List ℕ
setup type request value index = type ∷ request ∷ value ∷ 0 ∷ index ∷ 0 ∷ 0 ∷ 0 ∷ []

-- Mass Storage Reset and both halt clearings, in either order, with the buffers that they are lent.
unfoldable pub recovery : Bool → List ℕ → List ℕ → List ℕ → List Event
recovery true x y z = control (setup 0x21 0xFF 0 0) x ∷ control (setup 0x02 0x01 0 0x81) y ∷ control (setup 0x02 0x01 0 0x02) z ∷ []
recovery false x y z = control (setup 0x21 0xFF 0 0) x ∷ control (setup 0x02 0x01 0 0x02) y ∷ control (setup 0x02 0x01 0 0x81) z ∷ []

-- Set Address and Set Configuration 1.
unfoldable pub setting_up : ℕ → List ℕ → List ℕ → List Event
setting_up a x y = control (setup 0x00 0x05 a 0) x ∷ control (setup 0x00 0x09 1 0) y ∷ []

-- Every switch set where a table has it, its units counted from n on.
unfoldable pub switching : ℕ → Table → List Event
switching n [] = []
switching n (u ∷ us) = set_switch u.switch n ∷ switching (suc n) us

-- "the fresh collector has the switch as the history left it" (document 02, A4), of every unit: it is made, and then set
unfoldable pub settings : Log → List ℕ → List ℕ → List Event
settings l x y = setting_up l.address x y ++ switching 0 l.units

-- ---- a wrapper is due on an unhalted pipe

-- A good Test Unit Ready wrapper announcing 0, for one of so many units.
unfoldable pub good_test : ℕ → List ℕ → Bool
good_test count p = accepted count p and eqb (byte_at p 15) 0x00 and eqb (header_of p).announced 0

-- "exactly where a good Test Unit Ready wrapper announcing 0, sent twice there, is answered ack, then nak": some such wrapper.
unfoldable pub WrapperDue : World → Type 0
WrapperDue w =
    (p : List ℕ) × (good_test (length w.units) p ≡ true) × (answers (run w (bulk_out p ∷ bulk_out p ∷ [])).replies ≡ (Ack ∷ Nak ∷ []))

-- ---- the first half: recovery

-- A fresh collector of the making's identity, over the medium that is left: "the fresh collector has the same parts" (document 02, A7).
abbrev pub anew : Making → Run → Making
anew k r = record { identity = k.identity; units = k.units; medium = r.world.medium }

-- A collector that came to the run r is as that one, given the history's address, configured, and with the history's switches.
pub record AsFresh (k : Making) (l : Log) (r : Run) (x y : List ℕ) : Type 0 where
  pub makes : Makes (anew k r)
  pub sets_up : answers (lived (anew k r) (settings l x y)).replies ≡ (Ack ∷ Ack ∷ replicate (length l.units) Ack)
  pub keeps : (lived (anew k r) (settings l x y)).world.medium ≡ r.world.medium
  pub further : (fs : List Event) → run r.world fs ≡ run (lived (anew k r) (settings l x y)).world fs

-- "the medium is the starting one changed by exactly the blocks whose 512 bytes all arrived", each in its wrapper's unit
unfoldable pub MediumFromHistory : Making → List Event → Type 0
MediumFromHistory k es = (lived k es).world.medium ≡ stored (history k es).units k.medium (history k es).arrived

unfoldable pub Recovers : Making → List Event → Type 0
Recovers k es =
    (history k es).configured ≡ true
    → (order : Bool) (x y z : List ℕ)
    → answers (run (lived k es).world (recovery order x y z)).replies ≡ (Ack ∷ Ack ∷ Ack ∷ [])
    → MediumFromHistory k (es ++ recovery order x y z)
    × ((x' y' : List ℕ) → 64 ≤ length x' → 64 ≤ length y' → AsFresh k (history k es) (lived k (es ++ recovery order x y z)) x' y')

-- ---- the second half: the lock

unfoldable pub is_drop : Request → Bool
is_drop (SetAddress a) = false
is_drop (SetConfiguration v) = true
is_drop GetConfiguration = false
is_drop GetDeviceStatus = false
is_drop GetInterfaceStatus = false
is_drop (GetEndpointStatus e) = false
is_drop (ClearHalt e) = false
is_drop (SetHalt e) = false
is_drop MassStorageReset = true
is_drop GetMaxLun = false
is_drop (GetDescriptor which n) = false
is_drop request.Stall = false

-- "an acked Mass Storage Reset, bus reset or Set Configuration"
unfoldable pub ends : Event → Answer → Bool
ends bus_reset a = is_ack a
ends (control s b) a = is_ack a and is_drop (request_of s)
ends (bulk_out p) a = false
ends (bulk_in b) a = false
ends (set_switch x n) a = false

-- one of 10 to 14; exactly 3, or one of these
unfoldable pub is_refusal : Answer → Bool
is_refusal a = leb 10 (number_of a) and leb (number_of a) 14

unfoldable pub is_shut : Answer → Bool
is_shut a = eqb (number_of a) 3 || is_refusal a

unfoldable pub shut_at : Event → Answer → Bool
shut_at bus_reset a = true
shut_at (control s b) a = true
shut_at (bulk_out p) a = is_shut a
shut_at (bulk_in b) a = is_shut a
shut_at (set_switch x n) a = true

-- Whether an acked drop has come, and whether each bulk event was answered so.
pub record Watch : Type 0 where
  pub ended : Bool
  pub shut : Bool

unfoldable pub watch : Watch → Event → Answer → Watch
watch w e a = record { ended = w.ended || ends e a; shut = w.shut and shut_at e a }

unfoldable pub watched : List Event → List Answer → Watch
watched es said = observed watch (record { ended = false; shut = true }) es said

-- After the packet p, with no acked drop among the events gs.
pub record StaysShut (w : World) (p : List ℕ) (gs : List Event) : Type 0 where
  pub stalls : (step w (bulk_out p)).answer ≡ Stall
  pub pipes : (watched gs (answers (run (step w (bulk_out p)).world gs).replies)).shut ≡ true
  pub medium : (run w (bulk_out p ∷ gs)).world.medium ≡ w.medium

unfoldable pub Locks : World → Type 0
Locks w =
    (p : List ℕ)
    → accepted (length w.units) p ≡ false
    → is_refusal (step w (bulk_out p)).answer ≡ false
    → WrapperDue w
    → (gs : List Event)
    → (watched gs (answers (run (step w (bulk_out p)).world gs).replies)).ended ≡ false
    → StaysShut w p gs

-- ---- demand 3

unfoldable pub Demand3 : Type 0
Demand3 = (k : Making) → Makes k → (es : List Event) → Recovers k es × Locks (lived k es).world
