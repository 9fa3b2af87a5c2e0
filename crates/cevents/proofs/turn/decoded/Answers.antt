-- `decoded` meets its contract. Assumes nothing.
use Rattle.std.proofs.Common.{rules, refl}
use Rattle.cevents.proofs.Options.{was-none, was-some}
use Rattle.cevents.proofs.turn.decoded.Goals as goal

pub returns-in_default-clause-ran : goal.returns-in_default-clause-ran
returns-in_default-clause-ran g c =
    λ d. let n = was-none _ _ _ c.decode.ensures c.in_default.is in search (d, n, rules)

pub returns-clause-refused : goal.returns-clause-refused
returns-clause-refused g c =
    λ d. let s = was-some _ _ _ c.decode.ensures _ c.in-Some.is in let k = s.0 in search (d, k, rules)

pub returns-clause-ran : goal.returns-clause-ran
returns-clause-ran g c =
    λ d.
    let s = was-some _ _ _ c.decode.ensures _ c.in-Some.is in
    record {
      identity = _;
      state = _;
      part = _;
      answered = _;
      state' = _;
      part' = _;
      ran = c.event-answer.ensures;
      of_given = c.from-identity.ensures;
      of_flat = s.1;
      of_part = refl;
      told = c.from.ensures;
      left = simp c.from-held.ensures refl;
    }
