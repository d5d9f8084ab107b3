use Rattle.std.proofs.Common.{◌++◌, ℕ, List, map, take}
use Rattle.zk_scope.specs.declared.field_places.FieldPlace.{FieldPlace}
use Rattle.zk_scope.specs.FieldPlaces.{HasPlaces, field_name, places_from}
use Rattle.zk_scope.proofs.field_places.RecordFields.add_written.Given as goal

abbrev pub invariant-loop-at : goal.invariant-loop-at
invariant-loop-at l = (places : List FieldPlace) (names : List (List ℕ)) → HasPlaces l.fn.self places names → HasPlaces l.self (places ++ places_from l.added 0 (take l.at l.fields)) (names ++ map field_name (take l.at l.fields))
