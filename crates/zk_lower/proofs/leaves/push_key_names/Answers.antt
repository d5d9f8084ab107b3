use Rattle.std.proofs.Common.{◌++◌, ◌+◌, ◌<◌, codes, length, map, take, get_or, sym, ap, ◌∙◌, append_assoc, arith}
use Rattle.std.proofs.lemmas.List.{get_or-map, length-map}
use Rattle.zk_tree.specs.Lists.{joined_by}
use Rattle.zk_typed.specs.Columns.{simple_name}
use Rattle.zk_typed.specs.declared.script.types.SimpleType.TheVariants as simple
use Rattle.zk_tree.proofs.JoinLaws.{joined_by-more, separated}
use Rattle.zk_lower.proofs.leaves.push_key_names.Goals as goal

pub loop-number-preserved : goal.loop-number-preserved
loop-number-preserved c =
    let keys = c.args.keys.now in
    let i = c.loop-number.number in
    let part = simple_name (get_or keys i simple.Bool) in
    let start = c.args.out.now.items in
    let inside : i < length (map simple_name keys) = let same = length-map keys simple_name in omega (arith, same, c.loop-number-test.true) in
    c.in_ok-push_key_name.ensures
    ∙ (ap (λ text. text ++ separated i (codes ",") part) c.loop-number.invariant
    ∙ (append_assoc start (joined_by (codes ",") (map simple_name (take i keys))) (separated i (codes ",") part)
    ∙ ap (λ text. start ++ text) (ap (λ names. joined_by (codes ",") names ++ separated i (codes ",") part) (sym (Rattle.std.proofs.lemmas.List.take-map simple_name i keys))
    ∙ (sym (joined_by-more (codes ",") (map simple_name keys) i part inside (sym (get_or-map simple_name keys i simple.Bool part c.loop-number-test.true)))
    ∙ ap (joined_by (codes ",")) (Rattle.std.proofs.lemmas.List.take-map simple_name (i + 1) keys)))))
