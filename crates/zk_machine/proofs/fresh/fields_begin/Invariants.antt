use Rattle.std.proofs.Common.{◌≡◌, map, drop}
use Rattle.zk_typed.specs.State.{World, with_store}
use Rattle.zk_typed.specs.View.{field_of}
use Rattle.zk_value.specs.Plain as value
use Rattle.zk_machine.specs.Made.{fields_begin, given_of}
use Rattle.zk_machine.proofs.MadeLemmas.{behind_values}
use Rattle.zk_machine.proofs.fresh.fields_begin.Given as goal

abbrev pub invariant-loop-number : goal.invariant-loop-number
invariant-loop-number l = ((world : World) → world.store ≡ l.initial.heap.objects
    → behind_values (map value.field_of l.values.items) (fields_begin (given_of l.given) l.number (map field_of (drop l.number l.fields)) (with_store l.heap.objects world)) ≡ fields_begin (given_of l.given) 0 (map field_of l.fields) world)
    × (l.heap.unwatched ≡ l.initial.heap.unwatched)
