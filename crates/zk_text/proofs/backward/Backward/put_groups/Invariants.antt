use Rattle.std.proofs.Common.{◌≡◌, ◌+◌, ◌*◌, ◌-◌, ◌≤◌, ◌++◌, length, drop, flat_map, codes}
use Rattle.std.specs.Net.Text.{hex}
use Rattle.zk_text.specs.Backward.{room, written}
use Rattle.zk_text.proofs.backward.Backward.put_groups.Given as goal

-- the groups from this one on are written, each behind its colon
abbrev pub invariant-loop-i : goal.invariant-loop-i
invariant-loop-i l = record {
  within : l.i ≤ length l.rest;
  text : written l.self ≡ flat_map (λ group. codes ":" ++ hex group) (drop l.i l.rest) ++ written l.fn.self;
  space : room l.fn.self ≤ room l.self + 5 * (length l.rest - l.i);
}
