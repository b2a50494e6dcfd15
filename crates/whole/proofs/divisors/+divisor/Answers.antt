use Rattle.std.proofs.Common.{arith}
use Rattle.whole.proofs.Euclid.{divisor_turn, turn_greatest}
use Rattle.whole.proofs.divisors.+divisor.Goals as goal

pub returns-else-b-eq0-clause-value : goal.returns-else-b-eq0-clause-value
returns-else-b-eq0-clause-value t c = grind (arith, divisor_turn)

pub returns-else-b-eq0-clause-greatest : goal.returns-else-b-eq0-clause-greatest
returns-else-b-eq0-clause-greatest t c = turn_greatest _ _ _ c.divisor.ensures.greatest
