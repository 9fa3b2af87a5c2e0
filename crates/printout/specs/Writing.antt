-- Writing into a lent buffer: s was written from a place on, the rest kept, and `end` is the place behind it.
use Rattle.std.specs.Prelude.{ℕ, ◌+◌, ◌≡◌, List, length}
use Rattle.wire.specs.Slices.{placed}

pub record Wrote (before : List ℕ) (at : ℕ) (s after : List ℕ) (end : ℕ) : Type 0 where
  pub text : after ≡ placed before at s
  pub place : end ≡ at + length s
