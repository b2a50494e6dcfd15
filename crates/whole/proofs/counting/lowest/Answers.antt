use Rattle.std.proofs.Common.{rules, ℕ, Bool, true, false}
use Rattle.std.proofs.lemmas.Iterator.{first_from_Range}
use Rattle.whole.proofs.Searches.{found_lowest}
use Rattle.whole.proofs.counting.lowest.Goals as goal

pub returns : goal.returns
returns g c = λ f a.
    let post : ℕ → Bool → Type 0 = λ i. g.F.Fn.post c.args.passes (i, tt) in
    found_lowest c.args.n f post c.find.result a
    (first_from_Range _ _ _ c.find.result (λ i. post i true) (λ i. post i false) c.find.ensures.ran (λ x q k. search rules) (λ x q k. search rules))
