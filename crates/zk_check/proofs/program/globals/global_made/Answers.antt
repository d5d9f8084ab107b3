use Rattle.std.proofs.Common.{◌≡◌, List, [], ℕ, IfOk, sym, ap, subst, ◌∙◌}
use Rattle.zk_scope.specs.Lent.{home_of}
use Rattle.zk_tree.specs.declared.place.Place.{Place}
use Rattle.zk_typed.specs.Declarations.{ValueGiven, values_of}
use Rattle.zk_typed.specs.Program as program
use Rattle.zk_typed.specs.Programs.{first_or, place_of_variable, since_set}
use Rattle.zk_typed.specs.View as view
use Rattle.zk_check.specs.Globals.{global_by, no_place}
use Rattle.zk_check_declarations.specs.Sources.{scripts_from}
use Rattle.zk_check_declarations.specs.Valuing.{given_lent}
use Rattle.zk_check.proofs.GivenLaws.{to_end}
use Rattle.zk_check.proofs.ProgramLaws.{place_first}
use Rattle.zk_check.proofs.program.globals.global_made.Goals as goal

pub returns : goal.returns
returns c =
    let scripts = scripts_from c.args.source.now in
    let home = home_of c.args.home in
    let attrs = c.args.attrs.now in
    let lent = c.as_slice-name.result.now in
    let given = ap given_lent (to_end c.in_ok-all.all.now c.last_set.result) ∙ c.last_set.ensures.since ∙ ap (since_set []) (c.in_ok-all.ensures ∙ c.requires.values.told lent ∙ ap (values_of scripts) c.as_slice-name.ensures.value) in
    let place = c.in_ok-place.ensures ∙ ap (first_or no_place) (c.requires.places.told lent) ∙ sym (place_first lent scripts.stated)
    ∙ ap (λ (whole : List ℕ). place_of_variable whole scripts.stated) c.as_slice-name.ensures.value in
    subst (λ (made : program.Global). IfOk c.global_by.result (λ one. view.global_of one ≡ made))
    (ap (global_by scripts c.args.number c.in_ok-place.place home attrs) given
    ∙ ap (λ (place : Place). global_by scripts c.args.number place home attrs (since_set [] (values_of scripts c.args.one.now.name.items))) place)
    c.global_by.ensures
