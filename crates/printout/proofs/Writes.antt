-- Laws of writing into a lent buffer, and of the pieces that are printed. Assumes nothing.
use Prim.Native.Nat.{ℕ, zero, suc, ◌+◌, ◌*◌, ◌-◌, ◌/◌, ◌%◌, ◌≤◌, ◌<◌, min}
use mathlib.Core.Path.{◌≡◌, refl, sym, ap, ap₂, subst, ◌∙◌}
use mathlib.Core.Bool.{Bool, true, false}
use mathlib.Core.List.{List, [], ◌∷◌, ◌++◌}
use native.Mathlib.Omega.{arith}
use native.Mathlib.Nat.{add-zero}
use native.Mathlib.Numerals.{add-one}
use lib.Dec.{ltb, leb}
use lib.ListN.{get_or, length, take, drop, length-append, length-drop}
use lib.Seq.{take_all, take-suc}
use Rattle.wire.specs.Slices.{placed, fits}
use Rattle.wire.specs.Numbers.{decimal}
use Rattle.wire.proofs.Lists.{length-placed, placed_more, placed-none}
use Rattle.wire.proofs.Positional.{digits, last_digits}
use Rattle.wire.proofs.Cases.{if-true, if-false, by-if}
use borrow.Author.Tests.{le-leb, leb-true, leb-false}
use Rattle.wire.specs.Texts.{ascii}
use Rattle.machine.specs.declared.answer.Answer.{Answer}
use Rattle.machine.specs.declared.answer.Answer.TheVariants.{Data, Ack, Nak, Stall, Silent, Refused}
use Rattle.machine.specs.Answer.{refusal_number}
use Rattle.printout.specs.Writing.{Wrote}
use Rattle.printout.specs.Print.{width_of, numeral, hex_digit, hexes, data_text, refused_text, refused_line, answer_text, newline, most_line, has_room, fitting}

-- ---- one piece after the other

pub wrote_length : (t : List ℕ) (at : ℕ) (s t' : List ℕ) (e : ℕ) → Wrote t at s t' e → length t' ≡ length t
wrote_length t at s t' e w = ap length w.text ∙ length-placed t at s

pub wrote_more : (t : List ℕ) (at : ℕ) (s t' : List ℕ) (e : ℕ) (u t'' : List ℕ) (e' : ℕ)
    → Wrote t at s t' e → Wrote t' e u t'' e' → e + length u ≤ length t → Wrote t at (s ++ u) t'' e'
wrote_more t at s t' e u t'' e' w x h =
    let n = length-append s u in record {
      text = x.text ∙ ap₂ (λ (l : List ℕ) (k : ℕ). placed l k u) w.text w.place ∙ placed_more t at s u (let p = w.place in omega arith);
      place = let p = w.place in let q = x.place in omega arith;
    }

pub wrote_as : (t : List ℕ) (at : ℕ) (s t' : List ℕ) (e : ℕ) (u : List ℕ) → s ≡ u → Wrote t at s t' e → Wrote t at u t' e
wrote_as t at s t' e u q w = subst (λ (v : List ℕ). Wrote t at v t' e) q w

pub wrote_none : (t : List ℕ) (at : ℕ) → Wrote t at [] t at
wrote_none t at = record { text = sym (placed-none t at); place = sym (add-zero at) }

-- ---- numerals

pub width_most : (n : ℕ) → width_of n ≤ 4
unfolding width_of
width_most n =
    by-if (λ (w : ℕ). w ≤ 4) (ltb n 10) 1 _ (λ _. omega arith)
    (λ _. by-if (λ (w : ℕ). w ≤ 4) (ltb n 100) 2 _ (λ _. omega arith) (λ _. by-if (λ (w : ℕ). w ≤ 4) (ltb n 1000) 3 4 (λ _. omega arith) (λ _. omega arith)))

-- a numeral is the end of the twelve digits
pub numeral-part : (all : List ℕ) (w n k : ℕ) → all ≡ decimal 12 n → w ≡ width_of n → w ≤ 4 → k ≡ 12 - (12 - w) → take k (drop (12 - w) all) ≡ numeral n
unfolding numeral
numeral-part all w n k a e h q =
    let l = digits.count 12 n in
    let m = length-drop (12 - w) (decimal 12 n) in
    let d : 12 ≡ 12 - w + w = omega arith in
    ap (λ (s : List ℕ). take k (drop (12 - w) s)) a
    ∙ take_all k (drop (12 - w) (decimal 12 n)) (omega arith)
    ∙ ap (λ (j : ℕ). drop (12 - w) (decimal j n)) d
    ∙ last_digits (12 - w) w n
    ∙ ap (λ (j : ℕ). decimal j n) e

pub numeral-length : (n : ℕ) → length (numeral n) ≤ 4
unfolding numeral
numeral-length n = let l = digits.count (width_of n) n in let m = width_most n in omega arith

-- ---- hex

pub hexes-length : (s : List ℕ) → length (hexes s) ≡ 3 * length s
unfolding hexes
hexes-length [] = refl
hexes-length (x ∷ s) = let h = hexes-length s in omega arith

pub hexes_more : (s : List ℕ) (x : ℕ) → hexes (s ++ (x ∷ [])) ≡ hexes s ++ (32 ∷ hex_digit (x / 16) ∷ hex_digit (x % 16) ∷ [])
unfolding hexes
hexes_more [] x = refl
hexes_more (y ∷ s) x = ap (λ (l : List ℕ). 32 ∷ hex_digit (y / 16) ∷ hex_digit (y % 16) ∷ l) (hexes_more s x)

pub hexes-step : (s : List ℕ) (i a b : ℕ) → i < length s → a ≡ hex_digit (get_or s i 0 / 16) → b ≡ hex_digit (get_or s i 0 % 16)
    → hexes (take i s) ++ (32 ∷ a ∷ b ∷ []) ≡ hexes (take (i + 1) s)
hexes-step s i a b h p q =
    (λ j. hexes (take i s) ++ (32 ∷ p j ∷ q j ∷ []))
    ∙ sym (ap hexes (ap (λ (k : ℕ). take k s) (add-one i) ∙ take-suc s i 0 h) ∙ hexes_more (take i s) (get_or s i 0))

-- ---- room

take_most : (n : ℕ) (s : List ℕ) → length (take n s) ≤ length s
take_most zero s = omega arith
take_most (suc n) [] = omega arith
take_most (suc n) (x ∷ s) = let h = take_most n s in omega arith

-- the first n elements, where there may be fewer
pub take_least : (n r : ℕ) (s : List ℕ) → r ≡ min n (length s) → take r s ≡ take n s
take_least n r s e = either (leb n (length s)) refl
  where
    either : (t : Bool) → leb n (length s) ≡ t → take r s ≡ take n s
    either true f = let h = leb-true n (length s) f in let q : r ≡ n = omega arith in ap (λ (k : ℕ). take k s) q
    either false f = let h = leb-false n (length s) f in take_all r s (omega arith) ∙ sym (take_all n s (omega arith))

pub answer-length : (a : Answer) (b : List ℕ) → length b ≤ 64 → length (answer_text a b) ≤ 201
unfolding answer_text data_text refused_text
answer-length (Data n) b h =
    let p = length-append (ascii "data " ++ numeral n) (hexes (take n b)) in
    let q = length-append (ascii "data ") (numeral n) in
    let r = numeral-length n in
    let t = hexes-length (take n b) in
    let u = take_most n b in
    omega arith
answer-length Ack b h = omega arith
answer-length Nak b h = omega arith
answer-length Stall b h = omega arith
answer-length Silent b h = omega arith
answer-length (Refused r) b h =
    let q = length-append (ascii "refused ") (numeral (refusal_number r)) in
    let l = numeral-length (refusal_number r) in
    omega arith

pub refused-length : (n : ℕ) → length (refused_text n) ≤ 12
unfolding refused_text
refused-length n = let a = length-append (ascii "refused ") (numeral n) in let l = numeral-length n in omega arith

pub refused-line-length : (n : ℕ) → length (refused_line n) ≤ 13
unfolding refused_line
refused-line-length n = let a = length-append (refused_text n) newline in let l = refused-length n in omega arith

-- ---- what is looked at first

pub fits-text : (fits : Bool) (s : List ℕ) → fits ≡ true → fitting fits s ≡ s
unfolding fitting
fits-text fits s e = if-true _ _ _ e

pub room_there : (t : List ℕ) (at : ℕ) → at + most_line ≤ length t → has_room t at ≡ true
unfolding has_room
room_there t at h = le-leb _ _ h

pub room-said : (t : List ℕ) (at : ℕ) → has_room t at ≡ true → at + most_line ≤ length t
unfolding has_room
room-said t at e = leb-true _ _ e

pub wrote_kept : (t : List ℕ) (at : ℕ) (fits : Bool) (s : List ℕ) → fits ≡ false → Wrote t at (fitting fits s) t at
unfolding fitting
wrote_kept t at fits s e = wrote_as t at [] t at (fitting fits s) (sym (if-false _ _ _ e)) (wrote_none t at)

pub wrote_fitting : (t : List ℕ) (at : ℕ) (fits : Bool) (s t' : List ℕ) (r : ℕ) → fits ≡ true → Wrote t at s t' r → Wrote t at (fitting fits s) t' r
wrote_fitting t at fits s t' r e w = wrote_as t at s t' r (fitting fits s) (sym (fits-text fits s e)) w

pub wrote_fits : (t : List ℕ) (at : ℕ) (fits : Bool) (s t' : List ℕ) (r : ℕ) → fits ≡ true → Wrote t at (fitting fits s) t' r → Wrote t at s t' r
wrote_fits t at fits s t' r e w = wrote_as t at (fitting fits s) t' r s (fits-text fits s e) w
