use Rattle.std.proofs.Common.{refl, subst}
use Rattle.std.proofs.lemmas.Result.{err_from_is_err_and}
use Rattle.zk_outcome.specs.declared.found.Found.TheVariants.{Accepted, Refused}
use Rattle.zk_load.specs.Loads.{LoadsAll}
use Rattle.zk_top.specs.Compiling.{IsCodeOf}
use Rattle.zk_top.specs.Script.{program_of}
use Rattle.zk_top.proofs.CompileLaws.{stopped_behind_scripts}
use Rattle.zk_top.proofs.scripts.read_program.Goals as goal

pub returns-in_ok-compile-in-Accepted-clause-found : goal.returns-in_ok-compile-in-Accepted-clause-found
returns-in_ok-compile-in-Accepted-clause-found g c =
    let old = g.S.Shelf.outside c.args.shelf.now in
    let new = g.S.Shelf.outside c.load_scripts.new.shelf in
    record {
      scripts = Accepted c.in-Accepted.read;
      loads = subst (λ found. LoadsAll c.args.before c.args.scripts.now old found new) c.in-Accepted.is c.in_ok-read.ensures.loaded;
      code = subst (λ scripts. IsCodeOf c.in_ok-compile-in-Accepted.field-0 (program_of scripts)) c.as_slice.ensures c.in_ok-compile-in-Accepted.ensures;
    }

pub returns-in_err-compile-in-Accepted-clause-stopped : goal.returns-in_err-compile-in-Accepted-clause-stopped
returns-in_err-compile-in-Accepted-clause-stopped g c =
    let old = g.S.Shelf.outside c.args.shelf.now in
    let new = g.S.Shelf.outside c.load_scripts.new.shelf in
    let exit = c.from_residual-in_err-compile-in-Accepted in
    let p = err_from_is_err_and exit.result exit.ensures.1 in
    rw (p.1, p.2) (stopped_behind_scripts c.args.before c.args.scripts.now old c.in_ok-read.field-0 new c.in_ok-read.ensures.loaded)

pub returns-in-Refused-clause-found : goal.returns-in-Refused-clause-found
returns-in-Refused-clause-found g c =
    let old = g.S.Shelf.outside c.args.shelf.now in
    let new = g.S.Shelf.outside c.load_scripts.new.shelf in
    record {
      scripts = Refused c.in-Refused.ending;
      loads = subst (λ found. LoadsAll c.args.before c.args.scripts.now old found new) c.in-Refused.is c.in_ok-read.ensures.loaded;
      code = refl;
    }
