use Rattle.std.proofs.Common.{ap, ◌∙◌}
use Rattle.blocks.proofs.Cover.{covered}
use Rattle.blocks.proofs.Chunks.{file_records}
use Rattle.blocks.proofs.Passing.{used_within}
use Rattle.blocks.specs.Views.{records_at}
use Rattle.blocks.proofs.reader.Reader.open.Goals as goal

pub returns : goal.returns
returns c =
    let f = c.args.file.now in
    let within = used_within f c.in_ok-test_blocks.ensures in
    record {
      answer = c.in_ok-test_blocks.ensures;
      stands = ap (records_at 0 0) c.blocks_of.ensures.value ∙ file_records f within;
      covered = covered f within;
    }
