use Rattle.std.proofs.Common.{◌≡◌, Some, None, IsSome, arith, subst}
use Rattle.std.proofs.lemmas.Bool.{false≢true}
use Rattle.zk_base.specs.Files.{number_of}
use Rattle.zk_base.proofs.FileLemmas.{first_at, is_new, add_found}
use Rattle.zk_base.proofs.contents.add_piece.Goals as goal

pub index_mut-requires : goal.index_mut-requires
index_mut-requires c =
    let at : number_of c.args.files.now.items c.args.name.now ≡ Some c.in-Some.i = cc in
    omega (arith, (first_at c.args.files.now.items c.args.name.now c.in-Some.i at).within)

pub unreachable-requires : goal.unreachable-requires
unreachable-requires c =
    let at : number_of c.args.files.now.items c.args.name.now ≡ None = cc in
    false≢true (subst (λ found. IsSome found) (is_new c.args.files.now.items c.args.name.now 0 at).none c.requires)

pub returns-clause-ok : goal.returns-clause-ok
returns-clause-ok c =
    let at : number_of c.args.files.now.items c.args.name.now ≡ Some c.in-Some.i = cc in
    add_found c.args.files.now.items c.args.name.now c.args.piece.now c.in-Some.i c.index_mut.result.now c.append.new.self at c.index_mut.ensures.value c.in_ok-append.ensures.ok
