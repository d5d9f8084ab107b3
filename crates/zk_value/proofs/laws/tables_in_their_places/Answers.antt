use Rattle.std.proofs.Common.{◌+◌, sym, ◌∙◌, ap, Some, zero-add, arith}
use Rattle.zk_value.proofs.TableLemmas.{length-with_tables, object-with_tables, changed-with_tables, added-with_tables, place_from-within, table-with_tables, table_changed-with_tables, table_added-with_tables, tables_in-object, tables_in-change}
use Rattle.zk_value.proofs.laws.tables_in_their_places.Goals as goal

pub returns : goal.returns
returns c = record {
  lengths = length-with_tables;
  object = object-with_tables;
  changed = changed-with_tables;
  added = added-with_tables;
  placed = λ objects number place there. let within = place_from-within 0 objects number place there in omega arith;
  table = λ objects tables number place one there. table-with_tables 0 objects tables number place one (there ∙ ap Some (sym (zero-add place)));
  table_changed = λ objects tables number place one there. table_changed-with_tables 0 objects tables number place one (there ∙ ap Some (sym (zero-add place)));
  table_added = table_added-with_tables;
  tables_of_object = tables_in-object;
  tables_of_change = tables_in-change;
}
