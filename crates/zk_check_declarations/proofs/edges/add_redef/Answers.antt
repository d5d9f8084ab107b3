use Rattle.std.proofs.Common.{Some, None, ◌++◌, map, ap, sym, ◌∙◌, append-nil}
use Rattle.zk_typed.specs.Resolving.{is_that, type_named, written_field}
use Rattle.zk_scope.specs.Lent.{home_of}
use Rattle.zk_scope.specs.Scripted.{scripts_in}
use Rattle.zk_scope.specs.FieldPlaces.{is_among}
use Rattle.zk_check_declarations.specs.Edges.{edges_at}
use Rattle.zk_check_declarations.proofs.EdgeLaws.{added_by}
use Rattle.zk_check_declarations.proofs.edges.add_redef.Goals as goal

pub returns-in_ok-add_fields-in-Some : goal.returns-in_ok-add_fields-in-Some
returns-in_ok-add_fields-in-Some c = λ number.
    let scripts = scripts_in c.args.names.now in
    let home = home_of c.args.home in
    let fields = map (written_field scripts home) c.args.fields.now in
    c.in_ok-add_fields-in-Some.ensures number ∙
    ap (λ more. edges_at number c.args.edges.now.items ++ more) (sym (added_by number (is_that number (type_named scripts home c.args.name.now)) (Some c.in-Some.owner) fields (c.in_ok-owner.ensures number ∙ ap (is_among number) c.in-Some.is)))

pub returns-in-None : goal.returns-in-None
returns-in-None c = λ number.
    let scripts = scripts_in c.args.names.now in
    let home = home_of c.args.home in
    let fields = map (written_field scripts home) c.args.fields.now in
    sym (append-nil (edges_at number c.args.edges.now.items)) ∙
    ap (λ more. edges_at number c.args.edges.now.items ++ more) (sym (added_by number (is_that number (type_named scripts home c.args.name.now)) None fields (c.in_ok-owner.ensures number ∙ ap (is_among number) c.in-None.is)))
