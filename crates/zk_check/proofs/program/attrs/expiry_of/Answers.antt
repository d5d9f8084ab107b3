use Rattle.std.proofs.Common.{Option, List, ℕ, codes, ap, ◌∙◌}
use Rattle.zk_base.specs.declared.time.Span.{Span}
use Rattle.zk_scope.specs.Lent.{home_of}
use Rattle.zk_check.specs.Globals.{first_expiry, span_of}
use Rattle.zk_check.proofs.PartLaws.{expiry_is}
use Rattle.zk_check.proofs.program.attrs.expiry_of.Goals as goal

pub returns : goal.returns
returns c = λ scripts.
    let home = home_of c.args.home in
    let attrs = c.args.attrs.now in
    let span : List ℕ → Option Span = span_of scripts home attrs in
    c.first_expiry.ensures ∙ ap (λ (one : Option Span). first_expiry one c.in_ok-read.read c.in_ok-write.write) (c.in_ok-create.ensures scripts)
    ∙ ap (λ (one : Option Span). first_expiry (span (codes "create_expire")) one c.in_ok-write.write) (c.in_ok-read.ensures scripts)
    ∙ ap (λ (one : Option Span). first_expiry (span (codes "create_expire")) (span (codes "read_expire")) one) (c.in_ok-write.ensures scripts) ∙ expiry_is scripts home attrs
