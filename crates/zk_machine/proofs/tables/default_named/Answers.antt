use Rattle.std.proofs.Common.{◌==◌, sym, ap, ◌∙◌}
use Rattle.std.specs.Option.{option_map}
use Rattle.zk_typed.specs.State.{TableDefault}
use Rattle.zk_machine.specs.State.{default_of}
use Rattle.zk_machine.specs.declared.table_defaults.TableDefault as rust
use Rattle.zk_machine.proofs.ListLemmas.{find-made}
use Rattle.zk_machine.proofs.tables.default_named.Goals as goal

pub returns-in-Some : goal.returns-in-Some
returns-in-Some c =
    ap (option_map (λ (one : rust.TableDefault). one.default)) c.in-Some.ensures
    ∙ sym (find-made default_of (λ (one : TableDefault). one.object == c.args.number.0) (λ one. one.default) c.args.defaults.now)

pub returns-in-None : goal.returns-in-None
returns-in-None c =
    ap (option_map (λ (one : rust.TableDefault). one.default)) c.in-None.ensures
    ∙ sym (find-made default_of (λ (one : TableDefault). one.object == c.args.number.0) (λ one. one.default) c.args.defaults.now)
