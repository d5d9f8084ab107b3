use Rattle.std.proofs.Common.{ℕ, [], ◌++◌, map, Option, Some, subst, sym, if◌then◌else◌}
use Rattle.zk_typed.specs.Resolving.{is_that, type_named}
use Rattle.zk_scope.specs.FieldPlaces.{Hold, field_name, is_among, places_from}
use Rattle.zk_scope.specs.Lent.{home_of}
use Rattle.zk_scope.specs.Scripted.{scripts_in}
use Rattle.zk_scope.proofs.FieldPlaceLaws.{hold_none, hold_stated}
use Rattle.zk_scope.proofs.fields.add_named.Goals as goal

pub returns-in_ok-add_at-in-Some : goal.returns-in_ok-add_at-in-Some
returns-in_ok-add_at-in-Some c = λ places texts held.
    let scripts = scripts_in c.args.names.now in
    let home = home_of c.args.home in
    let checked = type_named scripts home c.args.name.now in
    hold_stated scripts home c.args.place c.args.fields.now c.add_at.new.all.items places texts (λ number. is_that number checked) c.in_ok-found.found
    c.in_ok-found.ensures
    (subst (λ (found : Option ℕ). Hold c.add_at.new.all.items (λ other. places other ++ places_from (Some c.args.place) 0 (if is_among other found then c.args.fields.now else []))
    (λ other. texts other ++ map field_name (if is_among other found then c.args.fields.now else []))) (sym c.in-Some.is) (c.in_ok-add_at-in-Some.ensures places texts held))

pub returns-in-None : goal.returns-in-None
returns-in-None c = λ places texts held.
    let scripts = scripts_in c.args.names.now in
    let home = home_of c.args.home in
    let checked = type_named scripts home c.args.name.now in
    hold_stated scripts home c.args.place c.args.fields.now c.args.all.now.items places texts (λ number. is_that number checked) c.in_ok-found.found
    c.in_ok-found.ensures
    (subst (λ (found : Option ℕ). Hold c.args.all.now.items (λ other. places other ++ places_from (Some c.args.place) 0 (if is_among other found then c.args.fields.now else []))
    (λ other. texts other ++ map field_name (if is_among other found then c.args.fields.now else []))) (sym c.in-None.is) (hold_none c.args.all.now.items places texts held))
