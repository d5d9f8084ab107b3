use Rattle.zk_sound.proofs.Runs.{run_keeps}
use Rattle.zk_sound.proofs.Shown.{cells_shown, same_cells}
use Rattle.zk_sound.proofs.laws.rows_fit_their_columns.Goals as goal

pub returns : goal.returns
returns c = record {
  runs = λ program budget items last fits all. (run_keeps program budget items last fits all).1.rows;
  shown = λ row fits small. cells_shown row.columns row.cells fits small;
  texts = same_cells c.equal_texts.ensures;
}
