use Rattle.std.proofs.Common.{◌≡◌, max, ⊎_elim, arith}
use Rattle.std.proofs.lemmas.Bool.{cases_lt}
use Rattle.zk_reasm.specs.declared.place.TheConstants.{PLACES}
use Rattle.zk_reasm.specs.Held.{byte_kept}
use Rattle.zk_reasm.proofs.FrontLemmas.{one_first_free}
use Rattle.zk_reasm.proofs.PassLemmas.{nothing_held}
use Rattle.zk_reasm.proofs.held.Held.advance.Goals as goal

-- where nothing is held the front itself is the first place without a byte
pub returns-then-reach-self-clause-front : goal.returns-then-reach-self-clause-front
returns-then-reach-self-clause-front c = λ free is.
    let held = c.args.self.now in
    let nothing = c.is_clear.ensures.nothing c.if-is_clear.true in
    let taken = c.is_clear.ensures.taken c.if-is_clear.true in
    ⊎_elim
    (λ low. let e : held.front ≡ free = one_first_free (byte_kept held) (max held.front c.args.reach) held.front free (record {
      least = omega arith;
      before = λ at from to. absurd (omega arith);
      none = nothing_held held nothing held.front (omega arith) low;
    }) is in omega arith)
    (λ high. let least = is.least in omega arith)
    (cases_lt held.front PLACES)
