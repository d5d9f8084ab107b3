use Rattle.std.proofs.Common.{◌≡◌, ◌++◌, ◌∷◌, [], ◌<◌, suc, map, take, drop, length, sym, ap, subst, ◌∙◌, arith, ltb, length-append}
use Rattle.std.proofs.lemmas.Bool.Decides.{Decides-ltb}
use Rattle.std.proofs.lemmas.Grind.{common_steps}
use Rattle.zk_typed.specs.BuiltIns.{formatted}
use Rattle.zk_value.specs.Plain.{value_of}
use Rattle.zk_builtin.specs.Given.{GivesText, longest}
use Rattle.zk_builtin.proofs.FormatLemmas.{formatted-rest, formatted-step}
use Rattle.zk_builtin.proofs.format.fmt.Goals as goal

pub returns-in_default-split_first : goal.returns-in_default-split_first
returns-in_default-split_first c =
    let rest = c.loop-at.rest.now in
    let values = map value_of c.args.args.now in
    let ahead : c.extend_from_slice.new.self.items ≡ c.loop-at.out.items ++ take c.in-Some.at rest = grind (arith, common_steps, c.in_ok-extend_from_slice.ensures.items) in
    let behind : drop (suc c.in-Some.at) rest ≡ [] = grind (arith, common_steps, c.in_default-split_first.ensures.cases) in
    let whole = formatted-step c.loop-at.out.items rest (formatted c.args.text.now values) c.extend_from_slice.new.self.items [] (drop c.loop-at.place values) c.in-Some.at
    c.in-Some.ensures ahead behind c.loop-at.invariant in
    subst (GivesText c.string_of.result) (c.in_ok-push.ensures.items ∙ whole) c.string_of.ensures

pub returns-then-is_too_long : goal.returns-then-is_too_long
returns-then-is_too_long c =
    let rest = c.loop-at.rest.now in
    let values = map value_of c.args.args.now in
    let verb = c.in-Some-split_first.verb.now in
    let others = c.in-Some-split_first.others.now in
    let ahead : c.extend_from_slice.new.self.items ≡ c.loop-at.out.items ++ take c.in-Some.at rest = grind (arith, common_steps, c.in_ok-extend_from_slice.ensures.items) in
    let behind : drop (suc c.in-Some.at) rest ≡ verb ∷ others = grind (arith, common_steps, c.in-Some-split_first.ensures.cases) in
    let whole = c.in_ok-place.ensures others
    ∙ formatted-step c.loop-at.out.items rest (formatted c.args.text.now values) c.extend_from_slice.new.self.items (verb ∷ others) (drop c.loop-at.place values) c.in-Some.at
    c.in-Some.ensures ahead behind c.loop-at.invariant in
    let long : longest < length c.push_verb.new.out.items =
    (Decides-ltb longest (length c.push_verb.new.out.items)).0
    (ap (λ bytes. ltb longest (length bytes)) (sym c.deref.ensures.value) ∙ sym c.is_too_long.ensures ∙ c.if-is_too_long.true) in
    let parts = ap length whole in
    let sum = length-append c.push_verb.new.out.items (formatted others (drop c.in_ok-place.place values)) in
    omega (arith, long, parts, sum)

pub loop-at-preserved : goal.loop-at-preserved
loop-at-preserved c =
    let rest = c.loop-at.rest.now in
    let values = map value_of c.args.args.now in
    let verb = c.in-Some-split_first.verb.now in
    let others = c.in-Some-split_first.others.now in
    let ahead : c.extend_from_slice.new.self.items ≡ c.loop-at.out.items ++ take c.in-Some.at rest = grind (arith, common_steps, c.in_ok-extend_from_slice.ensures.items) in
    let behind : drop (suc c.in-Some.at) rest ≡ verb ∷ others = grind (arith, common_steps, c.in-Some-split_first.ensures.cases) in
    c.in_ok-place.ensures others
    ∙ formatted-step c.loop-at.out.items rest (formatted c.args.text.now values) c.extend_from_slice.new.self.items (verb ∷ others) (drop c.loop-at.place values) c.in-Some.at
    c.in-Some.ensures ahead behind c.loop-at.invariant

pub returns : goal.returns
returns c =
    let rest = c.loop-at.rest.now in
    let values = map value_of c.args.args.now in
    let whole = formatted-rest c.loop-at.out.items rest (formatted c.args.text.now values) (drop c.loop-at.place values) c.in_default.ensures c.loop-at.invariant in
    subst (GivesText c.string_of-2.result) (c.in_ok-extend_from_slice-2.ensures.items ∙ whole) c.string_of-2.ensures
