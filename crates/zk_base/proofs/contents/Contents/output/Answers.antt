use Rattle.std.proofs.Common.{◌≡◌, Some, None, arith, sym, ap, ◌∙◌, List, ℕ}
use Rattle.zk_base.specs.Files.{number_of}
use Rattle.zk_base.proofs.FileLemmas.{first_at, is_new}
use Rattle.zk_base.proofs.contents.Contents.output.Goals as goal

pub index-requires : goal.index-requires
index-requires c =
    let outputs = c.args.self.now.outputs.items in
    let at : number_of outputs c.args.name.now ≡ Some c.in_ok-i.i = cc (c.deref.ensures.value, c.find.ensures, c.in_ok-i.was) in
    omega (arith, (first_at outputs c.args.name.now c.in_ok-i.i at).within)

pub returns-in_err-i : goal.returns-in_err-i
returns-in_err-i c =
    let outputs = c.args.self.now.outputs.items in
    let at : number_of outputs c.args.name.now ≡ None = cc (c.deref.ensures.value, c.find.ensures, c.in_err-i.was) in
    cc (is_new outputs c.args.name.now 0 at).none

pub returns : goal.returns
returns c =
    let outputs = c.args.self.now.outputs.items in
    let at : number_of outputs c.args.name.now ≡ Some c.in_ok-i.i = cc (c.deref.ensures.value, c.find.ensures, c.in_ok-i.was) in
    let file = c.index.result.now in
    ap Some (c.as_slice.ensures ∙ ap (λ (f : List ℕ × List ℕ). f.1) c.index.ensures) ∙ sym ((first_at outputs c.args.name.now c.in_ok-i.i at).holds file)
