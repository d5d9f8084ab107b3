use Rattle.std.proofs.Common.{◌≡◌, map, drop}
use Rattle.zk_load.specs.Loading.{scripts_in}
use Rattle.zk_load.proofs.TextLaws.{behind}
use Rattle.zk_load.proofs.texts.read_texts.Given as goal

-- what was read, and then what the other texts come to, is what all come to
abbrev pub invariant-texts : goal.invariant-texts
invariant-texts l = scripts_in (map (λ one. (one.0.now, one.1.now)) l.fn.texts) ≡ behind l.scripts.items (scripts_in (map (λ one. (one.0.now, one.1.now)) (drop l.name-index l.texts)))
