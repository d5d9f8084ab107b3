use Rattle.std.proofs.Common.{◌≡◌, List, [], ◌∷◌, Option, Some, subst}
use Rattle.zk_events.specs.Sealed.{StandsFor}
use Rattle.zk_tree.specs.Value as plain
use Rattle.zk_tree.specs.Value.{Value}
use Rattle.zk_value.specs.Plain.{value_of}
use Rattle.zk_events.specs.Facts.{connection_fields}
use Rattle.zk_events.specs.Raising.{with_fields}
use Rattle.zk_events.proofs.facts.renew_connection.Goals as goal

pub returns : goal.returns
returns c = λ conn texts program given world stands.
    let objects = c.args.objects.now in
    let facts = c.args.facts.now in
    let written : List (Option Value) =
    Some (plain.Object objects.id) ∷
    Some (plain.Object objects.orig) ∷
    Some (plain.Object objects.resp) ∷
    Some (plain.Time facts.start) ∷
    Some (plain.Interval c.duration.result) ∷
    Some (value_of c.args.texts.proto) ∷
    Some (value_of c.args.texts.uid) ∷
    Some (value_of c.args.texts.state) ∷
    Some (value_of c.args.texts.history) ∷
    [] in
    let same : written ≡ connection_fields conn objects facts = cc (texts.proto, texts.uid_is, texts.state, texts.history, c.duration.ensures) in
    subst (λ (values : List (Option Value)). StandsFor c.renew_object-9.new.self program given (with_fields objects.connection 0 values world)) same
    (c.renew_object-9.ensures program given _
    (c.renew_object-8.ensures program given _
    (c.renew_object-7.ensures program given _
    (c.renew_object-6.ensures program given _
    (c.renew_object-5.ensures program given _
    (c.renew_object-4.ensures program given _
    (c.renew_object-3.ensures program given _
    (c.renew_object-2.ensures program given _ (c.renew_object.ensures program given world stands)))))))))
