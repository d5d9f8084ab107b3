use Rattle.std.proofs.Common.{◌≡◌, Some, None, arith, ap, ◌∙◌}
use Rattle.zk_base.specs.Files.{number_of, files_of}
use Rattle.zk_base.proofs.FileLemmas.{first_at, put_found, put_new}
use Rattle.zk_base.proofs.contents.put_file.Goals as goal

pub index_mut-requires : goal.index_mut-requires
index_mut-requires c =
    let at : number_of c.args.files.now.items c.args.name ≡ Some c.in-Some.i = cc in
    omega (arith, (first_at c.args.files.now.items c.args.name c.in-Some.i at).within)

pub returns-in-Some-clause-ok : goal.returns-in-Some-clause-ok
returns-in-Some-clause-ok c =
    let at : number_of c.args.files.now.items c.args.name ≡ Some c.in-Some.i = cc in
    put_found c.args.files.now.items c.args.name c.args.content c.in-Some.i at

pub returns-in_ok-push-in-None-clause-ok : goal.returns-in_ok-push-in-None-clause-ok
returns-in_ok-push-in-None-clause-ok c =
    let at : number_of c.args.files.now.items c.args.name ≡ None = cc in
    ap files_of c.in_ok-push-in-None.ensures.items ∙ put_new c.args.files.now.items c.args.name c.args.content at
