use Rattle.std.proofs.Common.{◌≡◌, IfOk, codes, subst}
use Rattle.zk_scope.specs.Lent.{home_of}
use Rattle.zk_typed.specs.Types.{ValueType}
use Rattle.zk_check.specs.Programming.{value_of}
use Rattle.zk_check.proofs.program.attrs.default_of.Goals as goal

pub returns : goal.returns
returns c = λ scripts.
    subst (λ (wanted : ValueType). IfOk c.value_of.result (λ made. made ≡ value_of scripts (home_of c.args.home) c.args.attrs.now (codes "default") wanted)) c.default_type.ensures (c.value_of.ensures scripts)
