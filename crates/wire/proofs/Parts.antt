-- A part of a slice: what is put into it is put into the whole, and what lies before and behind it stays. Assumes nothing.
use Prim.Native.Nat.{ℕ, zero, suc, ◌+◌, ◌-◌, ◌≤◌}
use mathlib.Core.Path.{◌≡◌, sym, ap, ◌∙◌}
use mathlib.Core.List.{List, [], ◌∷◌, ◌++◌, append_assoc}
use native.Mathlib.Omega.{arith}
use lib.ListN.{length, take, drop, length-append, length-drop, take-append-drop}
use lib.Seq.{take-append-le, drop-append-add, drop-append-le, take-take, drop-drop, take-add, take-nil, take_at, drop_at, length-take-le}
use borrow.Rule.Slice.PartMut.{put_mid}
use Rattle.wire.specs.Slices.{placed}
use Rattle.wire.proofs.Lists.{placed_yes, length-placed}

-- the part of n bytes from a on
pub length_part : (a n : ℕ) (m : List ℕ) → a + n ≤ length m → length (take n (drop a m)) ≡ n
length_part a n m h = let d = length-drop a m in length-take-le n (drop a m) (omega arith)

-- a part lent and given back at other bytes, as the borrow checker states it, is the whole with those put there
pub part_back : (a n : ℕ) (m y : List ℕ) → a + n ≤ length m → length y ≡ n → put_mid a n m y ≡ placed m a y
part_back a n m y h e =
    ap (λ (x : List ℕ). take a m ++ (y ++ x)) (drop-drop n a m ∙ ap (λ (k : ℕ). drop (a + k) m) (sym e))
    ∙ sym (append_assoc (take a m) y (drop (a + length y) m))
    ∙ sym (placed_yes m a y (omega arith))

-- a part put back where it was
pub put_back_lem : (a n : ℕ) (m : List ℕ) → a + n ≤ length m → placed m a (take n (drop a m)) ≡ m
put_back_lem a n m h =
    let t = length_part a n m h in
    placed_yes m a (take n (drop a m)) (omega arith)
    ∙ ap (λ (j : ℕ). (take a m ++ take n (drop a m)) ++ drop (a + j) m) t
    ∙ ap (λ (x : List ℕ). (take a m ++ take n (drop a m)) ++ x) (sym (drop-drop n a m))
    ∙ append_assoc (take a m) (take n (drop a m)) (drop n (drop a m))
    ∙ ap (λ (x : List ℕ). take a m ++ x) (take-append-drop n (drop a m))
    ∙ take-append-drop a m

-- ---- what is put into a part

-- a list cut at n, joined again behind c
rejoin : (c n : ℕ) (x : List ℕ) → c ≤ n → n ≤ length x → drop c (take n x) ++ drop n x ≡ drop c x
rejoin c n x h l =
    let t = length-take-le n x l in
    sym (drop-append-le c (take n x) (drop n x) (omega arith)) ∙ ap (drop c) (take-append-drop n x)

regroup : (a b s c d : List ℕ) → (a ++ ((b ++ s) ++ c)) ++ d ≡ ((a ++ b) ++ s) ++ (c ++ d)
regroup a b s c d = simp (append_assoc)

-- is put into the whole
pub placed-part : (a n b : ℕ) (m s : List ℕ) → a + n ≤ length m → b + length s ≤ n → placed m a (placed (take n (drop a m)) b s) ≡ placed m (a + b) s
placed-part a n b m s h l =
    let d = length-drop a m in
    let t = length_part a n m h in
    let z = length-placed (take n (drop a m)) b s in
    placed_yes m a (placed (take n (drop a m)) b s) (omega arith)
    ∙ ap (λ (j : ℕ). (take a m ++ placed (take n (drop a m)) b s) ++ drop (a + j) m) (z ∙ t)
    ∙ ap (λ (x : List ℕ). (take a m ++ x) ++ drop (a + n) m) (placed_yes (take n (drop a m)) b s (omega arith))
    ∙ regroup (take a m) (take b (take n (drop a m))) s (drop (b + length s) (take n (drop a m))) (drop (a + n) m)
    ∙ ap (λ (x : List ℕ). (x ++ s) ++ (drop (b + length s) (take n (drop a m)) ++ drop (a + n) m))
    (ap (λ (x : List ℕ). take a m ++ x) (take-take b n (drop a m) (omega arith)) ∙ sym (take-add a b m))
    ∙ ap (λ (x : List ℕ). (take (a + b) m ++ s) ++ x)
    (ap (λ (x : List ℕ). drop (b + length s) (take n (drop a m)) ++ x) (sym (drop-drop n a m))
    ∙ rejoin (b + length s) n (drop a m) (omega arith) (omega arith)
    ∙ drop-drop (b + length s) a m
    ∙ ap (λ (j : ℕ). drop j m) same)
    ∙ sym (placed_yes m (a + b) s (omega arith))
  where
    same : a + (b + length s) ≡ a + b + length s
    same = omega arith

-- stands there, where it fills the part
pub whole_part : (a n : ℕ) (m s : List ℕ) → a + n ≤ length m → length s ≡ n → take n (drop a (placed m a s)) ≡ s
whole_part a n m s h e =
    let t = length-take-le a m (omega arith) in
    ap (λ (x : List ℕ). take n (drop a x)) (placed_yes m a s (omega arith) ∙ append_assoc (take a m) s (drop (a + length s) m))
    ∙ ap (take n) (drop_at (take a m) (s ++ drop (a + length s) m) a t)
    ∙ take_at s (drop (a + length s) m) n e

-- or stands in front of the part
pub front_part : (a n : ℕ) (m s : List ℕ) → a + n ≤ length m → length s ≤ n → take n (drop a (placed m a s)) ≡ placed (take n (drop a m)) 0 s
front_part a n m s h l =
    let t = length_part a n m h in
    let z = length-placed (take n (drop a m)) 0 s in
    let e : a + 0 ≡ a = omega arith in
    ap (λ (x : List ℕ). take n (drop a x)) (ap (λ (k : ℕ). placed m k s) (sym e) ∙ sym (placed-part a n 0 m s h (omega arith)))
    ∙ whole_part a n m (placed (take n (drop a m)) 0 s) h (z ∙ t)

-- ---- what lies before a part and behind it stays

drop-take : (a n : ℕ) (l : List ℕ) → drop a (take (a + n) l) ≡ take n (drop a l)
drop-take zero n l = ap (λ (k : ℕ). take k l) (let e : zero + n ≡ n = omega arith in e)
drop-take (suc a) n [] = ap (drop (suc a)) (take-nil (suc a + n)) ∙ sym (take-nil n)
drop-take (suc a) n (x ∷ l) = ap (λ (k : ℕ). drop (suc a) (take k (x ∷ l))) (let e : suc a + n ≡ suc (a + n) = omega arith in e) ∙ drop-take a n l

pub before : (a n b : ℕ) (m s : List ℕ) → a + n ≤ b → b + length s ≤ length m → take n (drop a (placed m b s)) ≡ take n (drop a m)
before a n b m s h l =
    let t = length-take-le b m (omega arith) in
    let z = length-append (take b m) s in
    sym (drop-take a n (placed m b s))
    ∙ ap (drop a)
    (ap (take (a + n)) (placed_yes m b s l)
    ∙ take-append-le (a + n) (take b m ++ s) (drop (b + length s) m) (omega arith)
    ∙ take-append-le (a + n) (take b m) s (omega arith)
    ∙ take-take (a + n) b m h)
    ∙ drop-take a n m

pub behind : (a b : ℕ) (m s : List ℕ) → b + length s ≤ a → b + length s ≤ length m → drop a (placed m b s) ≡ drop a m
behind a b m s h l =
    let t = length-take-le b m (omega arith) in
    let z = length-append (take b m) s in
    let c = a - (b + length s) in
    let e : a ≡ length (take b m ++ s) + c = omega arith in
    let f : a ≡ b + length s + c = omega arith in
    ap (drop a) (placed_yes m b s l)
    ∙ ap (λ (k : ℕ). drop k ((take b m ++ s) ++ drop (b + length s) m)) e
    ∙ drop-append-add (take b m ++ s) (drop (b + length s) m) c
    ∙ drop-drop c (b + length s) m
    ∙ ap (λ (k : ℕ). drop k m) (sym f)

-- ---- a part of a part

pub part_of_part : (f k a n : ℕ) (m : List ℕ) → a + n ≤ k → take n (drop a (take k (drop f m))) ≡ take n (drop (f + a) m)
part_of_part f k a n m h =
    sym (drop-take a n (take k (drop f m)))
    ∙ ap (drop a) (take-take (a + n) k (drop f m) h)
    ∙ drop-take a n (drop f m)
    ∙ ap (take n) (drop-drop a f m)
