use Rattle.std.proofs.Common.{◌≡◌, ◌≢◌, length, None, sym, ◌∙◌, arith}
use Rattle.zk_parse.specs.Trees.{decl_at}
use Rattle.zk_parse.proofs.TreeLaws.{decl_is, decl_at-shorter, read_to_begin, read_to_further, read_to_stuck, read_to_end}
use Rattle.zk_parse.proofs.parsing.declarations.Goals as goal

pub decls-init : goal.decls-init
decls-init c = rw (c.new-decls.ensures, c.new-rest.ensures) (read_to_begin c.args.tokens.now)

pub decls-smaller : goal.decls-smaller
decls-smaller c = decl_at-shorter c.decls.rest (c.in-Ok.decl, c.nested_decl.new.tokens) (decl_is c.decls.rest ∙ c.in-Ok.ensures)

pub decls-preserved : goal.decls-preserved
decls-preserved c =
    rw c.in_ok-push-in-Ok.ensures.ok (read_to_further c.args.tokens.now c.decls.decls c.decls.rest (c.in-Ok.decl, c.nested_decl.new.tokens) c.decls.invariant
    (decl_is c.decls.rest ∙ c.in-Ok.ensures))

pub returns-in-Err-NoForm : goal.returns-in-Err-NoForm
returns-in-Err-NoForm c =
    let none : decl_at c.decls.rest ≡ None = decl_is c.decls.rest ∙ rw c.in-Err-NoForm.field-0-is at c.in-Err-NoForm.ensures in
    let more : length c.decls.rest ≢ 0 = omega (arith, c.left.ensures) in
    rw c.left-left.ensures (sym (read_to_stuck c.args.tokens.now c.decls.decls c.decls.rest c.decls.invariant more none))

pub returns : goal.returns
returns c =
    let empty : length c.decls.rest ≡ 0 = omega (arith, c.left.ensures) in
    sym (read_to_end c.args.tokens.now c.decls.decls c.decls.rest c.decls.invariant empty)
