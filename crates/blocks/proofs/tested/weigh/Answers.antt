use Rattle.std.proofs.Common.{◌∙◌, ◌≤◌, ◌*◌, length, rules, arith}
use Rattle.std.specs.List.{enumerate_from}
use Rattle.std.proofs.lemmas.Iterator.{YieldsList-from_map, YieldsList-from_slice}
use Rattle.std.proofs.lemmas.Iterator.Consumers.{YieldsList-from_enumerate, sum_by_from_yields_List, fits_by_from_yields_list}
use Rattle.blocks.specs.Layout.{sum_at}
use Rattle.blocks.proofs.Bytes.{weighted_most, weighted_sum, worth}
use Rattle.blocks.proofs.tested.weigh.Goals as goal

pub sum-requires-clause-fits : goal.sum-requires-clause-fits
sum-requires-clause-fits c =
    let bs = c.args.bytes.now in
    let all = weighted_sum 0 bs in
    let most = weighted_most 0 sum_at bs (omega arith) (λ k. omega (arith, c.type_inv.bytes k)) in
    let few : length bs * (sum_at * 255) ≤ sum_at * (sum_at * 255) = omega arith in
    fits_by_from_yields_list worth (enumerate_from 0 bs) c.map.result _
    (YieldsList-from_map _ worth (YieldsList-from_enumerate (YieldsList-from_slice bs cc) cc) c.map.ensures.closure (λ x r q k. search rules))
    (omega (arith, all, most))

pub returns : goal.returns
returns c =
    let bs = c.args.bytes.now in
    sum_by_from_yields_List worth (enumerate_from 0 bs) c.map.result _ c.sum.ensures.ran
    (YieldsList-from_map _ worth (YieldsList-from_enumerate (YieldsList-from_slice bs cc) cc) c.map.ensures.closure (λ x r q k. search rules))
    ∙ weighted_sum 0 bs
