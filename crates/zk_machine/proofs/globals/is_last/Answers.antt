use Rattle.std.proofs.Common.{◌≡◌, ◌-◌, Some, length, slice_get, sym, ap, ◌∙◌, arith}
use Rattle.std.specs.Option.{option_copied}
use Rattle.std.proofs.lemmas.Bool.Decides.{nat_tests}
use Rattle.zk_machine.specs.Owners.{RisesTo}
use Rattle.zk_machine.proofs.OwnerLemmas.{last-greatest, none-last}
use Rattle.zk_machine.proofs.globals.is_last.Goals as goal

pub returns-then-last-owner : goal.returns-then-last-owner
returns-then-last-owner c = λ global rises place one here.
    let owners = c.args.owners.now in
    let last = c.in-Some.last.now in
    let there : slice_get owners (length owners - 1) ≡ Some last = sym c.last.ensures.value ∙ ap option_copied c.in-Some.is in
    let object = c.if-last-owner.true in
    let above : RisesTo last c.args.owner = (grind (arith, nat_tests, object), grind (arith, nat_tests, global)) in
    last-greatest owners last c.args.owner there above rises place one here

pub returns-in-None : goal.returns-in-None
returns-in-None c = λ both rises place one here.
    absurd (none-last c.args.owners.now (sym c.last.ensures.value ∙ ap option_copied c.in-None.is) place one here)
