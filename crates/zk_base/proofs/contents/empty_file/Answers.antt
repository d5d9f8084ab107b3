use Rattle.std.proofs.Common.{◌≡◌, Some, None, arith}
use Rattle.zk_base.specs.Files.{number_of}
use Rattle.zk_base.proofs.FileLemmas.{first_at, empty_found, empty_absent}
use Rattle.zk_base.proofs.contents.empty_file.Goals as goal

pub index_mut-requires : goal.index_mut-requires
index_mut-requires c =
    let at : number_of c.args.files.now.items c.args.name.now ≡ Some c.in-Some.i = cc in
    omega (arith, (first_at c.args.files.now.items c.args.name.now c.in-Some.i at).within)

pub returns-in-Some : goal.returns-in-Some
returns-in-Some c =
    let at : number_of c.args.files.now.items c.args.name.now ≡ Some c.in-Some.i = cc in
    empty_found c.args.files.now.items c.args.name.now c.in-Some.i c.index_mut.result.now c.clear.new.self at c.index_mut.ensures.value c.clear.ensures

pub returns-in_default : goal.returns-in_default
returns-in_default c =
    let at : number_of c.args.files.now.items c.args.name.now ≡ None = cc in
    empty_absent c.args.files.now.items c.args.name.now at
