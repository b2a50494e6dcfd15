use Rattle.std.proofs.Common.{◌≡◌, ◌<◌, true, length}
use Rattle.keys.specs.Keys.{found, rising}
use Rattle.keys.proofs.list.find_by_halves.Given as goal

abbrev pub invariant-loop-rest : goal.invariant-loop-rest
invariant-loop-rest g l = record {
  some : 8 < length l.rest → 0 < l.cut;
  within : 8 < length l.rest → l.cut < length l.rest;
  rises : rising g.T.Keyed.key l.rest ≡ true;
  same : found g.T.Keyed.key l.rest l.key ≡ found g.T.Keyed.key l.items l.key;
}

abbrev pub decreases-loop-rest : goal.decreases-loop-rest
decreases-loop-rest g l = length l.rest
