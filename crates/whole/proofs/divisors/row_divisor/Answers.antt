use Rattle.std.proofs.Common.{◌≡◌, sym, subst, rules}
use Rattle.whole.specs.Divisors.{row_divisor, GreatestOfRow}
use Rattle.whole.proofs.Euclid.{row_greatest}
use Rattle.whole.proofs.divisors.row_divisor.Goals as goal

pub returns-clause-greatest : goal.returns-clause-greatest
returns-clause-greatest c =
    let row = c.args.row.now in
    let value : c.fold.result ≡ row_divisor row = search rules in
    subst (GreatestOfRow row) (sym value) (row_greatest row)
