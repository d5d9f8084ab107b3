use Rattle.std.proofs.Common.{subst}
use Rattle.zeekoff.specs.Status.{HasEnded}
use Rattle.zeekoff.proofs.status.Goals as goal

-- what the run promises of its ending
pub returns-in-Ok-clause-ended : goal.returns-in-Ok-clause-ended
returns-in-Ok-clause-ended g c =
    let old = g.S.Shelf.outside c.args.shelf.now in
    let new = g.S.Shelf.outside c.run.new.shelf in
    rw c.in-Ok.is (subst (λ words. HasEnded words old new c.status.result) c.deref.ensures.value (record {
      ending = c.run.result;
      told = c.status.ensures;
      done = c.run.ensures.done;
      within = c.run.ensures.within;
      usage = c.run.ensures.usage;
      complained = c.run.ensures.complains;
      silent = c.run.ensures.silent;
      faults = c.run.ensures.faults;
      read_fault = c.run.ensures.read_fault;
      write_fault = c.run.ensures.write_fault;
      read_last = c.run.ensures.read_last;
      write_last = c.run.ensures.write_last;
      no_memory = c.run.ensures.no_memory;
      absent = c.run.ensures.absent;
      present = c.run.ensures.present;
      inputs = c.run.ensures.inputs;
    }))
