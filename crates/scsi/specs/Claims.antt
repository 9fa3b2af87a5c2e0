-- What is claimed of replies, pages, refused blocks and refused Writes. Proved in proofs/Replies.antt, proofs/Pages.antt and proofs/Plans.antt.
use Rattle.std.specs.Prelude.{ℕ, ◌+◌, ◌≤◌, ◌<◌, ◌^◌, ◌≡◌, Bool, true, false, List, [], ◌∷◌, ◌++◌, length, None}
use Rattle.wire.specs.Numbers.{big, big_bytes}
use Rattle.wire.specs.Slices.{byte_at, zeros}
use Rattle.wire.specs.Texts.{ascii, serial_text}
use Rattle.scsi.specs.declared.command.Plan.TheVariants.{Failed}
use Rattle.scsi.specs.declared.page.Page.{Page}
use Rattle.scsi.specs.declared.page.Page.TheVariants.{Supported, Serial, Identification}
use Rattle.scsi.specs.declared.reply.ReplyKind.TheVariants as kind
use Rattle.scsi.specs.declared.reply.Reply.{Reply}
use Rattle.scsi.specs.declared.sense.Sense.{Sense}
use Rattle.scsi.specs.Sense.{invalid_field, out_of_range, is_out_of_range, write_protected}
use Rattle.scsi.specs.Page.{page_code, page_of, page_data}
use Rattle.scsi.specs.Command.{cut, address, count, first_outside, command_of, control_clear, plan_of}
use Rattle.scsi.specs.Reply.{sense_data, reply_data, kind_of, reply_size}

-- The whole of a reply is as long as its size says, whatever its values and the collector number.
abbrev pub Sizes : Type 0
Sizes = (number : ℕ) (r : Reply) → length (reply_data number r) ≡ reply_size (kind_of r)

-- With EVPD set: a page that is served is cut to the allocation length, "other pages fail 05/24/00" whatever that is.
pub record PagesServed : Type 0 where
  pub page : (p : Page) (hi lo blocks : ℕ) (protected : Bool) → plan_of (0x12 ∷ 0x01 ∷ page_code p ∷ hi ∷ lo ∷ 0x00 ∷ []) blocks protected ≡ cut (kind.Page p) (big (hi ∷ lo ∷ []))
  pub other : (code hi lo blocks : ℕ) (protected : Bool) → page_of code ≡ None → plan_of (0x12 ∷ 0x01 ∷ code ∷ hi ∷ lo ∷ 0x00 ∷ []) blocks protected ≡ Failed invalid_field

-- The three pages' bytes, in full.
pub record PageBytes : Type 0 where
  pub page_00 : (number : ℕ) → page_data number Supported ≡ (0x00 ∷ 0x00 ∷ 0x00 ∷ 0x03 ∷ 0x00 ∷ 0x80 ∷ 0x83 ∷ [])
  pub page_80 : (number : ℕ) → page_data number Serial ≡ (0x00 ∷ 0x80 ∷ 0x00 ∷ 0x0C ∷ serial_text number)
  pub page_83 : (number : ℕ) → page_data number Identification ≡ (0x00 ∷ 0x83 ∷ 0x00 ∷ 0x18 ∷ 0x02 ∷ 0x01 ∷ 0x00 ∷ 0x14 ∷ ascii "COLLECT " ++ serial_text number)

-- "two collector numbers give the same page 80 only if they are equal" (document 02, A2), and page 83 too
pub record Serials : Type 0 where
  pub page_80 : (x y : ℕ) → x < 10 ^ 12 → y < 10 ^ 12 → page_data x Serial ≡ page_data y Serial → x ≡ y
  pub page_83 : (x y : ℕ) → x < 10 ^ 12 → y < 10 ^ 12 → page_data x Identification ≡ page_data y Identification → x ≡ y

-- "the first block outside the unit" (document 02, A8): it lies outside, the blocks from the address up to it do not, and the command names it if it
-- names any.
pub record FirstOutside : Type 0 where
  pub outside : (a blocks : ℕ) → blocks ≤ first_outside a blocks
  pub first : (a blocks i : ℕ) → a ≤ i → i < first_outside a blocks → i < blocks
  pub named : (a count blocks : ℕ) → 0 < count → blocks < a + count → (a ≤ first_outside a blocks) × (first_outside a blocks < a + count)

-- A command that passes its other checks, on blocks that do not all lie in the unit, count 0 included; the switch is checked later.
abbrev pub Refuses : ℕ → Type 0
Refuses code =
    (b : List ℕ) (blocks : ℕ) (protected : Bool) → byte_at b 0 ≡ code → control_clear b ≡ true → (command_of code).fields b ≡ true → blocks < address b + count b
    → plan_of b blocks protected ≡ Failed (out_of_range (first_outside (address b) blocks))

pub record RangesRefused : Type 0 where
  pub read : Refuses 0x28
  pub write : Refuses 0x2A
  pub verify : Refuses 0x2F

-- "A Write with the switch closed fails 07/27/00, checked after the range" (document 02, A4): one that passes its other checks, count 0 included. No
-- other command goes by the switch.
pub record WritesProtected : Type 0 where
  pub fails : (b : List ℕ) (blocks : ℕ) → byte_at b 0 ≡ 0x2A → control_clear b ≡ true → (command_of 0x2A).fields b ≡ true → address b + count b ≤ blocks
      → plan_of b blocks true ≡ Failed write_protected
  pub others : (b : List ℕ) (blocks : ℕ) → (byte_at b 0 ≡ 0x2A → ⊥) → plan_of b blocks true ≡ plan_of b blocks false

-- The sense's bytes, in full: a range failure's, and any other's, whatever its information.
pub record SenseBytes : Type 0 where
  pub range : (block : ℕ) → sense_data (out_of_range block) ≡ (0xF0 ∷ 0x00 ∷ 0x05 ∷ big_bytes 4 block ++ 0x0A ∷ zeros 4 ++ 0x21 ∷ 0x00 ∷ zeros 4)
  pub other : (s : Sense) → is_out_of_range s ≡ false → sense_data s ≡ (0x70 ∷ 0x00 ∷ s.key ∷ zeros 4 ++ 0x0A ∷ zeros 4 ++ s.asc ∷ s.ascq ∷ zeros 4)
