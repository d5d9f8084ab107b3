use Rattle.std.proofs.Common.{◌≡◌, List, [], ◌∷◌, Option, Some, subst}
use Rattle.zk_events.specs.Sealed.{StandsFor}
use Rattle.zk_tree.specs.Value as plain
use Rattle.zk_tree.specs.Value.{Value}
use Rattle.zk_value.specs.Plain.{value_of}
use Rattle.zk_events.specs.Facts.{id_fields}
use Rattle.zk_events.specs.Raising.{with_fields}
use Rattle.zk_events.proofs.facts.renew_id.Goals as goal

pub returns-clause-ok : goal.returns-clause-ok
returns-clause-ok c = λ program given world stands.
    let facts = c.args.facts.now in
    let written : List (Option Value) =
    Some (value_of c.in_ok-orig_h.orig_h) ∷
    Some (plain.Port facts.orig_p facts.proto) ∷
    Some (value_of c.in_ok-resp_h.resp_h) ∷
    Some (plain.Port facts.resp_p facts.proto) ∷
    [] in
    let same : written ≡ id_fields facts = cc (c.in_ok-orig_h.ensures, c.in_ok-resp_h.ensures) in
    subst (λ (values : List (Option Value)). StandsFor c.renew_object-4.new.self program given (with_fields c.args.id 0 values world)) same
    (c.renew_object-4.ensures program given _
    (c.renew_object-3.ensures program given _
    (c.renew_object-2.ensures program given _ (c.renew_object.ensures program given world stands))))
