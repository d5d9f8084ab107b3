-- The row of the log `reporter` that tells of a body, part by part.
use Rattle.std.specs.Prelude.{ℕ, List, [], ◌∷◌, codes}
use Rattle.zk_base.specs.declared.time.Moment.{Moment}
use Rattle.zk_text.specs.Span.{span_decimal}
use Rattle.zk_tree.specs.declared.place.Place.{Place}
use Rattle.zk_typed.specs.Dispatch.{place_text, reporter_columns}
use Rattle.zk_typed.specs.Log.{Cell, One, Text, Plain, Row}
use Rattle.zk_typed.specs.Program.{Program}

abbrev pub report_values : Program → List ℕ → Place → Moment → List Cell
report_values program message place time =
    One (Plain (span_decimal time.0)) ∷ One (Plain (codes "Reporter::ERROR")) ∷
    One (Text message) ∷ One (Text (place_text program place)) ∷ []

abbrev pub report_meant : Program → List ℕ → Place → Moment → Row
report_meant program message place time = record {
  path = codes "reporter";
  columns = reporter_columns;
  cells = report_values program message place time;
  at = time;
}
