-- The values of a key, wherever they lie.
use Rattle.std.specs.Prelude.{List, [], ◌∷◌}
use Rattle.std.specs.Rc.{rc_slice_items}
use Rattle.zk_value.specs.declared.key.Values.{Values}
use Rattle.zk_value.specs.declared.key.Values.TheVariants.{One, Many}
use Rattle.zk_value.specs.declared.value.Value.{Value}

abbrev pub values_in : Values → List Value
values_in (One value) = value ∷ []
values_in (Many values) = rc_slice_items values
