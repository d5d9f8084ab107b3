use Rattle.std.proofs.Common.{◌++◌, ℕ, List, None, map, take}
use Rattle.zk_scope.specs.declared.field_places.FieldPlace.{FieldPlace}
use Rattle.zk_scope.specs.FieldPlaces.{HasPlaces, known_name, places_from}
use Rattle.zk_scope.proofs.field_places.RecordFields.add_known.Given as goal

abbrev pub invariant-loop-at : goal.invariant-loop-at
invariant-loop-at l = (places : List FieldPlace) (names : List (List ℕ)) → HasPlaces l.fn.self places names → HasPlaces l.self (places ++ places_from None 0 (take l.at l.fields)) (names ++ map known_name (take l.at l.fields))
