use Rattle.zk_sound.proofs.Variables.{tables_stay_of_files}
use Rattle.zk_sound.proofs.laws.typed_tables_stay.Goals as goal

pub returns : goal.returns
returns c = record {
  tables = tables_stay_of_files c.sparing_tables_stay.ensures;
  times = λ files program budget items last typed goes order within.
      c.time_rises.ensures program budget items last goes (tables_stay_of_files c.sparing_tables_stay.ensures files program typed) order within;
}
