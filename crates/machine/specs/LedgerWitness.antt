-- A closed history and its ledger (document 02, A13): a short read, a cut Write, a phase error and a drop. Proved in proofs/LedgerWitness.antt.
use Rattle.std.specs.Prelude.{ℕ, ◌≡◌, List, [], ◌∷◌, ◌++◌, replicate}
use Rattle.wire.specs.Numbers.{little_bytes}
use Rattle.wire.specs.Slices.{zeros}
use Rattle.machine.specs.Machine.{control}
use Rattle.machine.specs.Claim.{Makes, lived, setup}
use Rattle.machine.specs.Sheet.{Exchange, cbw, test_unit_ready, on_blocks, answered, buffer, configure, cleared, sent, hands, stalls, events, due, told}
use Rattle.machine.specs.Witness.{two}
use Rattle.machine.specs.Ledger.{Command, Status, book, ledger, AllBytes}

-- An ask that must hand out the status wrapper of a tag.
unfoldable pub settles : ℕ → ℕ → ℕ → Exchange
settles tag residue code = hands (0x55 ∷ 0x53 ∷ 0x42 ∷ 0x53 ∷ little_bytes 4 tag ++ little_bytes 4 residue ++ code ∷ [])

unfoldable pub reset : Exchange
reset = answered (control (setup 0x21 0xFF 0 0) buffer) 1 []

-- The two blocks hold zeros. 1,024 bytes are announced in for a Read of one block: 512 come, bulk-in is halted until it is cleared.
unfoldable pub short_read : List Exchange
short_read = sent (cbw 1 1024 0x80 0 (on_blocks 0x28 0 1)) 1 ∷ replicate 8 (hands (zeros 64)) ++ stalls ∷ cleared 0x81 ∷ settles 1 512 0 ∷ []

-- A Write of both blocks: the first arrives, 64 bytes of the second are dropped by a packet of 10, "status 2".
unfoldable pub cut_write : List Exchange
cut_write = sent (cbw 2 1024 0x00 0 (on_blocks 0x2A 0 2)) 1 ∷ replicate 9 (sent (replicate 64 7) 1) ++ sent (replicate 10 7) 1 ∷ settles 2 512 2 ∷ []

-- Reset recovery, the first event of which is the drop. Then 100 bytes are announced for a block: "no data, bulk-in halted, status 2".
unfoldable pub phase_error : List Exchange
phase_error = reset ∷ cleared 0x81 ∷ cleared 0x02 ∷ sent (cbw 3 100 0x80 0 (on_blocks 0x28 0 1)) 1 ∷ stalls ∷ cleared 0x81 ∷ settles 3 100 2 ∷ []

-- Recovered again; three packets of a Read are handed out.
unfoldable pub cut_read : List Exchange
cut_read = reset ∷ cleared 0x81 ∷ cleared 0x02 ∷ sent (cbw 4 512 0x80 0 (on_blocks 0x28 0 1)) 1 ∷ replicate 3 (hands (replicate 64 7))

-- The drop: the Read has no status, and the next command has its own.
unfoldable pub afterwards : List Exchange
afterwards = reset ∷ sent (cbw 5 0 0x00 0 test_unit_ready) 1 ∷ settles 5 0 0 ∷ []

unfoldable pub story : List Exchange
story = configure ∷ short_read ++ cut_write ++ phase_error ++ cut_read ++ afterwards

abbrev pub command : ℕ → ℕ → ℕ → Command
command tag announced counted = record { tag = tag; announced = announced; counted = counted }

abbrev pub status : ℕ → ℕ → ℕ → Status
status tag residue code = record { tag = tag; residue = residue; code = code }

pub record LedgerKept : Type 0 where
  pub makes : Makes two
  pub bytes : AllBytes (events story)
  pub replies : told (lived two (events story)).replies ≡ due story
  -- the book before each drop, the latest command first
  pub first : ledger two (events (configure ∷ short_read ++ cut_write)) ≡ book (command 2 1024 512 ∷ command 1 1024 512 ∷ []) (status 2 512 2 ∷ status 1 512 0 ∷ []) 0
  pub second : ledger two (events (configure ∷ short_read ++ cut_write ++ phase_error)) ≡ book (command 3 100 0 ∷ []) (status 3 100 2 ∷ []) 0
  pub third : ledger two (events (configure ∷ short_read ++ cut_write ++ phase_error ++ cut_read)) ≡ book (command 4 512 192 ∷ []) [] 0
  pub last : ledger two (events story) ≡ book (command 5 0 0 ∷ []) (status 5 0 0 ∷ []) 0
