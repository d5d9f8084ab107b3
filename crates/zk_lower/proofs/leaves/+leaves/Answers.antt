use Rattle.std.proofs.Common.{◌≡◌, ◌≤◌, ◌++◌, suc, List, length, map, sym, ap, ◌∙◌, arith, append-nil}
use Rattle.std.proofs.lemmas.List.{drop_all}
use Rattle.zk_typed.specs.Columns.{leaves_from, leaves_to}
use Rattle.zk_typed.specs.View.{field_of, record_of}
use Rattle.zk_typed.specs.declared.script.program.Field.{Field}
use Rattle.zk_lower.specs.Leaves.{leaf_of, with_records}
use Rattle.zk_lower.proofs.leaves.+leaves.Goals as goal

pub leaves_to-returns : goal.leaves_to-returns
leaves_to-returns t c =
    let types = with_records (map record_of c.args.records.now) in
    let within = c.in-Some.within in
    let fields = c.fields_in-field-items.result.now in
    let place = c.loop-place.place in
    let found = map leaf_of c.loop-place.leaves.items in
    let all : length fields ≤ place = omega (arith, c.loop-place-test.false) in
    let depth : suc within ≡ c.args.depth = omega (arith, c.in-Some.ensures) in
    sym (append-nil found)
    ∙ (ap (λ (fs : List Field). found ++ leaves_from (leaves_to within types) place (map field_of fs)) (sym (drop_all place fields all))
    ∙ (c.loop-place.invariant
    ∙ (ap (leaves_from (leaves_to within types) 0) c.fields_in-field-items.ensures ∙ ap (λ d. leaves_to d types c.args.number) depth)))
