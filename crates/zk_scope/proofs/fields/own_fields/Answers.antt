use Rattle.std.proofs.Common.{List, [], ◌++◌, None, map, subst}
use Rattle.std.specs.Option.{option_map}
use Rattle.zk_tree.specs.declared.types.Field.{Field}
use Rattle.zk_scope.specs.FieldPlaces.{HasPlaces, field_name, places_from}
use Rattle.zk_scope.specs.Lent.{node_of}
use Rattle.zk_scope.specs.Scripted.{scripts_in}
use Rattle.zk_scope.proofs.FieldPlaceLaws.{own_known, own_written}
use Rattle.zk_scope.proofs.fields.own_fields.Goals as goal

pub returns-in_ok-add_known-in-Some : goal.returns-in_ok-add_known-in-Some
returns-in_ok-add_known-in-Some c =
    own_known (scripts_in c.args.names.now) c.args.number c.add_known.new.self c.in-Some.fields.now c.in-Some.ensures (c.in_ok-add_known-in-Some.ensures [] [] c.new-all.ensures)

pub returns-in_ok-add_written-in-None : goal.returns-in_ok-add_written-in-None
returns-in_ok-add_written-in-None c =
    let node = option_map node_of c.record_node-node.result in
    own_written (scripts_in c.args.names.now) c.args.number c.saturating_sub.result c.add_written.new.self node c.in-None.ensures c.saturating_sub.ensures c.record_node-node.ensures
    (subst (λ (texts : List Field). HasPlaces c.add_written.new.self ([] ++ places_from None 0 texts) ([] ++ map field_name texts)) c.texts_of.ensures
    (c.in_ok-add_written-in-None.ensures [] [] c.new-all.ensures))
