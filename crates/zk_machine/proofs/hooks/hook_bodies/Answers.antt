use Rattle.std.proofs.Common.{rules, ◌≡◌, map, reverse, ap, ◌∙◌}
use Rattle.std.proofs.lemmas.List.{reverse-reverse}
use Rattle.zk_lower.specs.View.{body_of}
use Rattle.zk_machine.proofs.hooks.hook_bodies.Goals as goal

pub returns : goal.returns
returns c =
    let items : c.reverse.new.self.items ≡ reverse c.lent_bodies-bodies.result.now = search rules in
    ap (λ l. map body_of (reverse l)) items ∙ (ap (map body_of) (reverse-reverse c.lent_bodies-bodies.result.now) ∙ c.lent_bodies-bodies.ensures)
