use Rattle.std.proofs.Common.{◌≡◌, ◌∙◌, ◌<◌, List, Bor, ap, take, drop, true, false, length, rules, tests, arith}
use Rattle.std.proofs.lemmas.List.{take_rest}
use Rattle.keys.specs.Keys.{before, found, rising}
use Rattle.keys.proofs.Searching.{rising_drop, rising_take, found_drop, found_take}
use Rattle.keys.proofs.list.find_by_halves.Goals as goal
use Rattle.keys.proofs.list.find_by_halves.Goals.{then-upper, else-upper}

pub loop-rest-preserved : goal.loop-rest-preserved
loop-rest-preserved g c =
    let key = g.T.Keyed.key in
    let k = c.args.key in
    let rest = c.loop-rest.rest.now in
    let cut = c.loop-rest.cut in
    let stays = c.loop-rest.invariant in
    let item = c.index-rest-cut in
    let inside : cut < length rest = omega arith in
    let list = λ (b : Bor (List g.row.T.Denot)). b.now in
    let kept : (rising key c.if-upper.rest.now ≡ true) × (found key c.if-upper.rest.now k ≡ found key rest k) = elim c.if-upper.branch [
      | then-upper w ↦
          let test : before k (key item.result) ≡ false = search (rules, tests) in
          let part : c.if-upper.rest.now ≡ drop cut rest = ap list w.rest-is ∙ take_rest rest cut in
          rw part (rising_drop key rest cut stays.rises, found_drop key rest cut item.result k stays.rises inside item.is test)
      | else-upper w ↦
          let test : before k (key item.result) ≡ true = search (rules, tests) in
          let part : c.if-upper.rest.now ≡ take cut rest = ap list w.rest-is in
          rw part (rising_take key rest cut stays.rises, found_take key rest cut item.result k stays.rises inside item.is test)
    ] in
    record {
      some = λ h. omega arith;
      within = λ h. omega arith;
      rises = kept.0;
      same = kept.1 ∙ stays.same;
    }
