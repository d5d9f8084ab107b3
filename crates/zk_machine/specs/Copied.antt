-- Copies of what an object holds.
use Rattle.std.specs.Prelude.{◌≡◌, List, [], ◌∷◌, map, None, Result, Ok, Err}
use Rattle.zk_base.specs.declared.numbers.ObjectNo.{ObjectNo}
use Rattle.zk_tree.specs.declared.place.Place.{Place}
use Rattle.zk_tree.specs.Store as object
use Rattle.zk_tree.specs.Table.{Table, insert}
use Rattle.zk_tree.specs.Value as plain
use Rattle.zk_tree.specs.Value.{Value}
use Rattle.zk_typed.specs.Does.{Does, Ran, Faults, Spent, ◌>>=◌, pure, read, object, new_object}
use Rattle.zk_typed.specs.Objects.{now, default_of, each_copied, fields_copied, object_copied, empty_table, keep_default}
use Rattle.zk_typed.specs.State.{State}
use Rattle.zk_value.specs.Plain.{key_of, field_of}
use Rattle.zk_table.specs.Pairs.{pair_of}
use Rattle.zk_machine.specs.declared.copies.Parts.{Parts}
use Rattle.zk_machine.specs.declared.copies.Parts.TheVariants as parts
use Rattle.zk_machine.specs.declared.halt.Halt.{Halt}
use Rattle.zk_machine.specs.declared.halt.Halt.TheVariants as halt

-- keys with copies of their values, one after another
abbrev pub pairs_copied : (Value → Does Value) → Table → List (List Value × Value) → Does Table
pairs_copied copied table [] = pure table
pairs_copied copied table (pair ∷ pairs) = do
  value ← copied pair.1
  moment ← now
  pairs_copied copied (insert moment pair.0 value table) pairs

-- a new object of copies of parts
abbrev pub parts_copied : (Value → Does Value) → Parts → Does Value
parts_copied copied (parts.Record of fields) = fields_copied copied (map field_of fields.items) >>= (λ values. new_object (object.Record of values))
parts_copied copied (parts.Vector items) = each_copied copied (key_of items.items) >>= (λ values. new_object (object.Vector values))
parts_copied copied (parts.Table pairs default) =
    pairs_copied copied (empty_table None) (map pair_of pairs.items) >>= (λ one. new_object (object.Table one) >>= keep_default default)

-- a copy of an object
abbrev pub read_copied : (Value → Does Value) → Place → ObjectNo → Does Value
read_copied copied place number = do
  one ← object place (plain.Object number)
  default ← read (default_of (plain.Object number))
  object_copied copied default one

-- The computation is one of copies of these parts, or it is at fault as the call says. Want of memory alone is free.
abbrev pub Splits : (Value → Does Value) → Place → Result Parts Halt → Ran Value → State → Type 0
Splits copied place (Ok parts) ran state = ran ≡ parts_copied copied parts state
Splits copied place (Err (halt.Fault kind)) ran state = ran ≡ Faults kind place state.world state.units
Splits copied place (Err halt.Spent) ran state = ran ≡ Spent place state.world
Splits copied place (Err halt.NoMemory) ran state = Unit {0}
