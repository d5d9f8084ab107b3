use Rattle.std.proofs.Common.{◌≡◌, ◌-◌, length}
use Rattle.zk_parse_core.specs.Reading.{with_front, repeated}
use Rattle.zk_parse_core.proofs.lists.repeat.Given as goal

abbrev pub invariant-loop-turn : goal.invariant-loop-turn
invariant-loop-turn g l =
    with_front l.fn.found (repeated (g.N.Turns.goes l.turns) (g.N.Turns.at l.turns) (length l.fn.tokens) l.fn.tokens)
    ≡ with_front l.found (repeated (g.N.Turns.goes l.turns) (g.N.Turns.at l.turns) (l._turn-end - l._turn) l.tokens)
