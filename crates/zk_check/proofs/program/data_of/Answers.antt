use Rattle.std.proofs.Common.{map, ap, ◌∙◌}
use Rattle.zk_typed.specs.View as view
use Rattle.zk_check.proofs.program.data_of.Goals as goal

pub returns : goal.returns
returns c = record {
  files = c.data_with.ensures.files ∙ c.in_ok-files.ensures;
  records = ap (map view.record_of) c.data_with.ensures.records ∙ c.in_ok-records.ensures;
  logs = c.data_with.ensures.logs ∙ c.in_ok-logs.ensures;
  globals = ap (map view.global_of) c.data_with.ensures.globals ∙ c.in_ok-globals.ensures;
}
