use Rattle.std.proofs.Common.{◌≡◌, ◌∷◌, ◌++◌, ap, ◌∙◌}
use Rattle.zk_scope.proofs.TypeNameLaws.{all_joined}
use Rattle.zk_scope.proofs.type_names.add_keys.Goals as goal

pub returns : goal.returns
returns c =
    let is : c.args.keys.now ≡ c.in-Some.first.now ∷ c.in-Some.others.now = search (c.in-Some.ensures, c.in-Some.is, c.split_first.ensures) in
    all_joined c.args.keys.now c.in-Some.first.now c.in-Some.others.now c.args.text.now.items c.add_text.new.text.items c.add_further_keys.new.text.items
    is (c.in_ok-add_text.ensures ∙ ap (λ x. c.args.text.now.items ++ x) c.simple_name.ensures) c.in_ok-add_further_keys.ensures
