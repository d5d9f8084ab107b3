use Rattle.std.proofs.Common.{◌≡◌, true, not, subst, sym, ◌∙◌}
use Rattle.zk_machine.specs.Owners.{is_up_to}
use Rattle.zk_machine.proofs.OwnerLemmas.{still-watched}
use Rattle.zk_machine.proofs.world.add_new.Goals as goal

pub returns-then-is_above-clause-watched : goal.returns-then-is_above-clause-watched
returns-then-is_above-clause-watched c = λ values up_to watched.
    let above : not (is_up_to c.args.last c.len.result) ≡ true = sym c.is_above.ensures ∙ c.if-is_above.true in
    still-watched c.args.heap.now.unwatched c.add_unwatched.new.self.unwatched values c.args.last _ c.add_unwatched.ensures.others (subst (λ n. not (is_up_to c.args.last n) ≡ true) c.len.ensures above)
    up_to watched
