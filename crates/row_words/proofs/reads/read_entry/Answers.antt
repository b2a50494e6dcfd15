use Rattle.std.proofs.Common.{◌≡◌, Some, rules}
use Rattle.std.proofs.lemmas.List.{take_rest}
use Rattle.row_words.specs.RowWords.{one_byte, two_byte, two_bytes, wrapped}
use Rattle.row_words.proofs.Colons.{entry_read}
use Rattle.row_words.proofs.reads.read_entry.Goals as goal

pub returns : goal.returns
returns c =
    let place : Some c.in_ok-place.place ≡ one_byte c.in_ok-number.field-0 = search rules in
    let weight : Some c.in_ok-weight.weight ≡ two_byte c.in_ok-signed.field-0 = search rules in
    let bytes : c.to_le_bytes.result ≡ two_bytes (wrapped 65536 c.in_ok-weight.weight) = search rules in
    rw bytes (entry_read _ _ _ _ _ _ _ c.in_ok-colon.ensures c.in_ok-number.ensures place (take_rest c.args.word.now _) c.in_ok-signed.ensures weight)
