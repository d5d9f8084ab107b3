use Rattle.std.proofs.Common.{[], ◌∷◌, ◌++◌, sym, ap, subst, ◌∙◌}
use Rattle.std.proofs.lemmas.Result.{err_from_is_err_and}
use Rattle.zk_frag.specs.Fragment.{shown}
use Rattle.zk_frag.specs.Histories.{added_of, without_tag}
use Rattle.zk_frag.specs.Ip4Fragments.{same_key}
use Rattle.zk_frag.specs.Standing.{StandsFor}
use Rattle.zk_frag.proofs.KeyLemmas.{key_eq_is}
use Rattle.zk_frag.proofs.frags.Frags.take.Goals as goal

pub returns-clause-answer : goal.returns-clause-answer
returns-clause-answer c = λ given stands.
    let by_eq = subst (λ same. StandsFor same c.args.self.now.groups given) (sym key_eq_is) stands in
    c.without_tag.ensures
    ∙ ap without_tag (c.in_ok-add.ensures.answer given by_eq
    ∙ ap (λ same. added_of same given (shown c.fragment_of.result)) key_eq_is ∙ ap (added_of same_key given) c.fragment_of.ensures)

pub returns-clause-taken : goal.returns-clause-taken
returns-clause-taken c = λ given stands.
    let by_eq = subst (λ same. StandsFor same c.args.self.now.groups given) (sym key_eq_is) stands in
    subst (λ fragment. StandsFor same_key c.add.new.self (given ++ fragment ∷ [])) c.fragment_of.ensures
    (subst (λ same. StandsFor same c.add.new.self (given ++ shown c.fragment_of.result ∷ [])) key_eq_is (c.in_ok-add.ensures.taken given by_eq))

pub returns-clause-stays : goal.returns-clause-stays
returns-clause-stays c = λ given stands other.
    let by_eq = subst (λ same. StandsFor same c.args.self.now.groups given) (sym key_eq_is) stands in
    c.in_ok-add.ensures.stays given by_eq (λ whole. other (c.without_tag.ensures ∙ whole))

pub returns-in_err-add-clause-memory : goal.returns-in_err-add-clause-memory
returns-in_err-add-clause-memory c =
    let p = err_from_is_err_and c.from_residual.result c.from_residual.ensures.1 in
    rw p.1 (λ given stands.
    let by_eq = subst (λ same. StandsFor same c.args.self.now.groups given) (sym key_eq_is) stands in
    subst (λ same. StandsFor same c.add.new.self given) key_eq_is (c.in_err-add.ensures.memory given by_eq))
