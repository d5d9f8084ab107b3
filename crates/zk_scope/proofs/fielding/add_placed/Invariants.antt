use Rattle.std.proofs.Common.{◌≡◌, ◌++◌, flat_map, take}
use Rattle.zk_typed.specs.Within.{maybe_one}
use Rattle.zk_scope.specs.FieldPlaces.{field_at}
use Rattle.zk_scope.specs.Fields.{fields_lent}
use Rattle.zk_scope.specs.Scripted.{scripts_in}
use Rattle.zk_scope.proofs.fielding.add_placed.Given as goal

abbrev pub invariant-loop-place : goal.invariant-loop-place
invariant-loop-place l = fields_lent l.all.items ≡ fields_lent l.fn.all.items ++ flat_map (λ one. maybe_one (field_at (scripts_in l.names) l.number one)) (take l.place-index l.places)
