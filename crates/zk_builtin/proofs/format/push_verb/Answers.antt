use Rattle.std.proofs.Common.{◌≡◌, ◌==◌, ◌++◌, ◌+◌, Some, false, map, slice_get, drop, sym, ap, ◌∙◌, append_assoc, rules}
use Rattle.std.proofs.lemmas.Option.{slice_get-get_or}
use Rattle.zk_typed.specs.BuiltIns.{by_verb, formatted}
use Rattle.zk_value.specs.Plain.{value_of}
use Rattle.zk_builtin.proofs.FormatLemmas.{slice_get-map, with_verb-value}
use Rattle.zk_builtin.proofs.format.push_verb.Goals as goal

pub returns-in_ok-push_by_verb-in-Some : goal.returns-in_ok-push_by_verb-in-Some
returns-in_ok-push_by_verb-in-Some c = λ bytes.
    let values = c.args.args.now in
    let place = c.args.place in
    let value = c.in-Some.value.now in
    let found = c.in-Some.ensures.lookup in
    let there : slice_get values place ≡ Some value = slice_get-get_or values place value found.3.0 ∙ ap (λ v. Some v) (sym found.1) in
    let other : (c.args.verb == 37) ≡ false = search rules in
    ap (λ text. text ++ formatted bytes (drop (place + 1) (map value_of values))) c.in_ok-push_by_verb-in-Some.ensures
    ∙ append_assoc c.args.out.now.items (by_verb c.args.verb (value_of value)) (formatted bytes (drop (place + 1) (map value_of values)))
    ∙ ap (λ text. c.args.out.now.items ++ text)
    (sym (with_verb-value c.args.verb bytes (map value_of values) place (value_of value) other (slice_get-map value_of values place value there)))
