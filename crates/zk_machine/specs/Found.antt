-- The next key of a loop whose entry is there, and what a turn does with it.
use Rattle.std.specs.Prelude.{◌≡◌, List, Option, Some, None, Result, Ok, Err}
use Rattle.std.specs.Option.{option_map}
use Rattle.zk_tree.specs.declared.place.Place.{Place}
use Rattle.zk_tree.specs.Table.{Entry}
use Rattle.zk_tree.specs.Value.{Value}
use Rattle.zk_typed.specs.declared.script.stmt.Names.{Names}
use Rattle.zk_typed.specs.Does.{Does, Ran, Gives, Faults, Spent, ◌>>◌, pure, tick}
use Rattle.zk_typed.specs.Meaning.{set_names}
use Rattle.zk_typed.specs.State.{State}
use Rattle.zk_value.specs.Plain.{value_of, key_of}
use Rattle.zk_machine.specs.declared.halt.Halt.{Halt}
use Rattle.zk_machine.specs.declared.halt.Halt.TheVariants as halt
use Rattle.zk_machine.specs.declared.loops.Turn.{Turn}

abbrev pub value_in : Option Entry → Option Value
value_in entry = option_map (λ one. one.value) entry

-- a turn with a key and its value, behind which these keys are left
abbrev pub turn_with : Place → Names → List Value → Value → List (List Value) → Does (Option (List (List Value)))
turn_with place names key value left = tick place >> (set_names names key value >> pure (Some left))

-- what the loop comes to: no key, or this key's turn with these left
abbrev pub Found : Place → Names → Result (Option Turn) Halt → Ran (Option (List (List Value))) → List (List Value) → State → Type 0
Found place names (Ok None) ran left state = ran ≡ Gives None state
Found place names (Ok (Some turn)) ran left state = ran ≡ turn_with place names (key_of turn.key) (value_of turn.value) left state
Found place names (Err (halt.Fault kind)) ran left state = ran ≡ Faults kind place state.world state.units
Found place names (Err halt.Spent) ran left state = ran ≡ Spent place state.world
Found place names (Err halt.NoMemory) ran left state = Unit {0}
