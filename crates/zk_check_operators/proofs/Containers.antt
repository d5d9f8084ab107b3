-- The value of `&default` that is an empty container.
use Rattle.std.proofs.Common.{◌≡◌, refl}
use Rattle.zk_tree.specs.declared.operator.Container.{Container}
use Rattle.zk_tree.specs.declared.operator.Container.TheVariants as container
use Rattle.zk_tree.specs.declared.place.Place.{Place}
use Rattle.zk_typed.specs.declared.rule.Rule.TheVariants as rule
use Rattle.zk_typed.specs.Checked.{or_broken}
use Rattle.zk_typed.specs.Declarations.{container_default}
use Rattle.zk_typed.specs.Types.{ValueType, Simple, Record, Table, Set, Vector}
use Rattle.zk_check_operators.specs.Literals.{empty_where}

pub container_is : (place : Place) (wanted : ValueType) (made : Container) → container_default place wanted made ≡ or_broken (empty_where wanted made) rule.WrongType place
container_is place (Table keys value) container.Table = refl
container_is place (Table keys value) container.Set = refl
container_is place (Table keys value) container.Vector = refl
container_is place (Set keys) container.Table = refl
container_is place (Set keys) container.Set = refl
container_is place (Set keys) container.Vector = refl
container_is place (Vector item) container.Table = refl
container_is place (Vector item) container.Set = refl
container_is place (Vector item) container.Vector = refl
container_is place (Simple one) made = refl
container_is place (Record number) made = refl
