-- A search for a key, in two parts: what is found, and what stands for it where it is not there.
use Rattle.std.specs.Prelude.{List, Option, Some, None}
use Rattle.zk_tree.specs.declared.place.Place.{Place}
use Rattle.zk_tree.specs.Table.{entry_at}
use Rattle.zk_tree.specs.Value.{Value}
use Rattle.zk_typed.specs.Does.{Does, ◌>>=◌, ◌>>◌, pure, read}
use Rattle.zk_typed.specs.Objects.{now, table, set_table, found, default_of, absent}
use Rattle.zk_machine.specs.Found.{value_in}

-- the value of a key, which `&read_expire` renews where it is found
abbrev pub find : Place → Value → List Value → Does (Option Value)
find place value key = do
  table ← table place value
  moment ← now
  set_table value (found moment key table)
  pure (value_in (entry_at key table.entries))

-- the value that was found, or the default
abbrev pub or_default : Place → Value → Option Value → Does Value
or_default place value (Some one) = pure one
or_default place value None = read (default_of value) >>= absent place
