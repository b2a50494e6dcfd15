use Rattle.std.proofs.Common.{◌∙◌, sym, leb, rules, tests}
use Rattle.std.proofs.lemmas.Iterator.{YieldsList-from_map}
use Rattle.std.proofs.lemmas.Iterator.Adapters.{option_map_id}
use Rattle.std.proofs.lemmas.Iterator.Consumers.{YieldsList-from_first}
use Rattle.std.proofs.lemmas.Iterator.Search.{find_from_yields_List}
use Rattle.bodies.specs.Views.{listed}
use Rattle.bodies.proofs.Searching.{missing_found}
use Rattle.bodies.proofs.Entries.missing.Goals as goal

pub returns : goal.returns
returns c =
    let es = listed c.args.self in
    sym (option_map_id c.find.result)
    ∙ find_from_yields_List (λ k. leb c.args.end k) c.find.new.self _ c.find.result c.find.ensures.ran
    (YieldsList-from_map _ (λ e. e.name) (YieldsList-from_first (λ e. e) listed es cc) c.map.ensures.closure (λ x r q k. search rules)) (λ x b q k. search (rules, tests))
    ∙ missing_found c.args.end es
