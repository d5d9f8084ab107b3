use Rattle.std.proofs.Common.{length, refl}
use Rattle.std.proofs.lemmas.Option.{slice_get_read}
use Rattle.zk_machine.proofs.OwnerLemmas.{noted-at}
use Rattle.zk_machine.proofs.globals.noted.Goals as goal

pub returns : goal.returns
returns c =
    let owners = c.args.owners.now in
    let lookup = c.in_ok-owner.ensures.lookup in
    noted-at owners c.in_ok-place.place c.args.object c.in_ok-owner.owner.now c.in_ok-place.ensures
    (slice_get_read owners (length owners) c.in_ok-place.place c.in_ok-owner.owner.now refl lookup.3.0 lookup.1)
