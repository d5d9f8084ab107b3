use Rattle.std.proofs.Common.{rules, sym, ◌∙◌}
use Rattle.std.specs.HashMap.{get}
use Rattle.zk_scope.proofs.PlaceLaws.{with_new, with_old}
use Rattle.zk_scope.proofs.first_places.FirstPlaces.add.Goals as goal

pub returns-then-contains_key-clause-ok : goal.returns-then-contains_key-clause-ok
returns-then-contains_key-clause-ok g c = λ keys stands.
    with_old g.K.PartialEq.eq g.met.K.Eq.laws keys c.args.key (get g.K.PartialEq.eq c.args.self.now.places) c.args.self.now.count c.in_ok-count.count
    stands (sym c.contains_key.ensures ∙ c.if-contains_key.true) (search rules)

pub returns-clause-ok : goal.returns-clause-ok
returns-clause-ok g c = λ keys stands.
    with_new g.K.PartialEq.eq g.met.K.Eq.laws keys c.args.key (get g.K.PartialEq.eq c.args.self.now.places) (get g.K.PartialEq.eq c.insert.new.self) c.args.self.now.count c.in_ok-count.count
    stands (sym c.contains_key.ensures ∙ c.if-contains_key.false) (search rules) c.in_ok-insert.ensures.updates.0
