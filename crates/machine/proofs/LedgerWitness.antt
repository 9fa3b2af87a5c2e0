-- The closed history of specs/LedgerWitness.antt, computed by the checker. Assumes nothing.
use Prim.Native.Nat.{ℕ}
use mathlib.Core.Path.{◌≡◌, refl}
use mathlib.Core.Bool.{Bool, true}
use mathlib.Core.List.{List, [], ◌∷◌}
use lib.Dec.{ltb}
use borrow.Author.Tests.{ltb-true}
use Rattle.wire.specs.Choice.{◌and◌}
use Rattle.wire.specs.Slices.{Every, Below}
use Rattle.wire.proofs.Cases.{both}
use Rattle.machine.specs.Machine.{Event, bus_reset, control, bulk_out, bulk_in, set_switch}
use Rattle.machine.specs.Handed.{is_status}
use Rattle.machine.specs.Sheet.{parts, cbw, test_unit_ready, on_blocks, configure, cleared, sent, hands, stalls, events, due, told}
use Rattle.machine.specs.Ledger.{counting, arrived_with, took_packet, gave_packet, entered, booked, ledger, AllBytes}
use Rattle.machine.specs.LedgerWitness.{settles, reset, short_read, cut_write, phase_error, cut_read, afterwards, story, LedgerKept}
use Rattle.machine.proofs.Compute.{computes}

-- ---- a closed list is of bytes

below : List ℕ → Bool
below [] = true
below (x ∷ s) = ltb x 256 and below s

all_below : List Event → Bool
all_below [] = true
all_below (bus_reset ∷ es) = all_below es
all_below (control s b ∷ es) = all_below es
all_below (bulk_out p ∷ es) = below p and all_below es
all_below (bulk_in b ∷ es) = all_below es
all_below (set_switch x n ∷ es) = all_below es

of_bytes : (s : List ℕ) → below s ≡ true → Below 256 s
unfolding below Every
of_bytes [] h = tt
of_bytes (x ∷ s) h = (ltb-true x 256 (both _ _ h).0, of_bytes s (both _ _ h).1)

all-bytes : (es : List Event) → all_below es ≡ true → AllBytes es
unfolding all_below AllBytes
all-bytes [] h = tt
all-bytes (bus_reset ∷ es) h = (tt, all-bytes es h)
all-bytes (control s b ∷ es) h = (tt, all-bytes es h)
all-bytes (bulk_out p ∷ es) h = (of_bytes p (both _ _ h).0, all-bytes es (both _ _ h).1)
all-bytes (bulk_in b ∷ es) h = (tt, all-bytes es h)
all-bytes (set_switch x n ∷ es) h = (tt, all-bytes es h)

-- ---- the history

pub ledger-kept : LedgerKept
unfolding computes parts cbw test_unit_ready on_blocks configure cleared sent hands stalls events due told is_status counting arrived_with took_packet gave_packet entered booked ledger settles reset short_read cut_write phase_error cut_read afterwards story below all_below
ledger-kept = record { makes = refl; bytes = all-bytes _ refl; replies = refl; first = refl; second = refl; third = refl; last = refl }
