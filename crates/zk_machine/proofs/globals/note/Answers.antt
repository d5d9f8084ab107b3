use Rattle.std.proofs.Common.{sym, subst}
use Rattle.zk_machine.specs.Owners.{IsNoted, Rises, RisesTo}
use Rattle.std.proofs.Common.{◌≡◌, ℕ, Some, slice_get}
use Rattle.zk_machine.specs.declared.globals.Owner.{Owner}
use Rattle.zk_machine.proofs.OwnerLemmas.{kept-push, noted-push, rises-push}
use Rattle.zk_machine.proofs.globals.note.Goals as goal

pub returns-then-is_last-clause-rises : goal.returns-then-is_last-clause-rises
returns-then-is_last-clause-rises c = λ rises.
    let owners = c.args.owners.now.items in
    subst Rises (sym c.push_reserved.ensures.items)
    (rises-push owners c.args.owner rises
    (subst (λ all. Rises all → (place : ℕ) (one : Owner) → slice_get all place ≡ Some one → RisesTo one c.args.owner) c.deref.ensures.value (c.is_last.ensures c.if-is_last.true) rises))

pub returns-then-is_last-clause-kept : goal.returns-then-is_last-clause-kept
returns-then-is_last-clause-kept c = λ rises one is.
    subst (λ all. IsNoted one all) (sym c.push_reserved.ensures.items) (kept-push c.args.owners.now.items c.args.owner one is)

pub returns-then-is_last-clause-noted : goal.returns-then-is_last-clause-noted
returns-then-is_last-clause-noted c = λ under.
    subst (λ all. IsNoted c.args.owner all) (sym c.push_reserved.ensures.items) (noted-push c.args.owners.now.items c.args.owner)
