use Rattle.std.proofs.Common.{◌≡◌, ℕ, length, Option, unwrap_or, ap, sym, ◌∙◌, arith}
use Rattle.zk_scope.specs.Lent.{declared_lent}
use Rattle.zk_scope.proofs.IndexLaws.{named_anywhere}
use Rattle.zk_scope.proofs.LeadLaws.{lent_length}
use Rattle.zk_scope.proofs.table.Table.first_named.Goals as goal

pub returns-in-Some : goal.returns-in-Some
returns-in-Some c =
    let names = declared_lent c.args.self.now.names.items in
    ap (λ (x : Option ℕ). unwrap_or x (length names)) (c.in-Some.ensures names c.args.self.now.indexed ∙ named_anywhere names c.args.whole.now)

pub returns-in-None : goal.returns-in-None
returns-in-None c =
    let names = declared_lent c.args.self.now.names.items in
    let long : c.len.result ≡ length c.args.self.now.names.items = omega (arith, c.len.ensures) in
    long ∙ sym (lent_length c.args.self.now.names.items) ∙ ap (λ (x : Option ℕ). unwrap_or x (length names)) (c.in-None.ensures names c.args.self.now.indexed ∙ named_anywhere names c.args.whole.now)
