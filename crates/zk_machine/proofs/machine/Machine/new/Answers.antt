use Rattle.std.proofs.Common.{◌≡◌, None, length, replicate, refl, sym, ap, ◌∙◌}
use Rattle.std.proofs.lemmas.List.{length-map}
use Rattle.zk_lower.specs.View as lower
use Rattle.zk_typed.specs.State.{first_world}
use Rattle.zk_machine.proofs.MachineLemmas.{globals_in}
use Rattle.zk_machine.proofs.machine.Machine.new.Goals as goal

pub returns-clause-stands : goal.returns-clause-stands
returns-clause-stands c = λ program is.
    let code = c.args.code in
    let count : length c.as_slice.result.now ≡ length program.globals = ap length c.as_slice.ensures ∙ (sym (length-map code.globals lower.global_of) ∙ globals_in (lower.code_of code) program is) in
    record {
      code = c.in_ok-indexed.ensures ∙ is;
      comes = ap first_world (ap (λ n. replicate n None) (sym count) ∙ sym c.in_ok-globals.ensures.values) ∙ sym c.new-running.ensures;
      works = refl;
    }
