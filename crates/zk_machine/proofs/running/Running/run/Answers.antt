use Rattle.std.proofs.Common.{rules, ◌≡◌, ◌∙◌, Result, Ok, ap, subst, sym}
use Rattle.zk_base.specs.declared.memory.Mem.{Mem}
use Rattle.zk_lower.specs.View.{code_of}
use Rattle.zk_machine.specs.Leads.{LeadsOn, ran_of}
use Rattle.zk_machine.specs.Running.{machine_of}
use Rattle.zk_machine.specs.State.{state_of}
use Rattle.zk_machine.specs.declared.ends.Next.{Next}
use Rattle.zk_machine.specs.declared.ends.Next.TheVariants as to
use Rattle.zk_machine.proofs.Steps.{went_on, ended, lighter}
use Rattle.zk_machine.proofs.running.Running.run.Goals as goal

pub steps-preserved : goal.steps-preserved
steps-preserved c =
    let goes : c.step.result ≡ Ok to.Goes = cc in
    let P : Result Next Mem → Type 0 = λ result. LeadsOn result (code_of c.args.code.now) (machine_of c.steps.self) c.step.new.self in
    went_on (code_of c.args.code.now) (machine_of c.steps.self) c.step.new.self c.code_ends.ensures.steps (subst P goes c.step.ensures) ∙ c.steps.invariant

pub steps-smaller : goal.steps-smaller
steps-smaller c =
    let goes : c.step.result ≡ Ok to.Goes = cc in
    let P : Result Next Mem → Type 0 = λ result. LeadsOn result (code_of c.args.code.now) (machine_of c.steps.self) c.step.new.self in
    lighter (code_of c.args.code.now) (machine_of c.steps.self) c.step.new.self c.code_ends.ensures.weight (subst P goes c.step.ensures)

pub returns-in-Ends : goal.returns-in-Ends
returns-in-Ends c =
    let ends : c.step.result ≡ Ok to.Ends = cc in
    let P : Result Next Mem → Type 0 = λ result. LeadsOn result (code_of c.args.code.now) (machine_of c.steps.self) c.step.new.self in
    let same : c.replace.result ≡ c.step.new.self.ending = search rules in
    sym c.steps.invariant ∙ (ended (code_of c.args.code.now) (machine_of c.steps.self) c.step.new.self c.code_ends.ensures.steps (subst P ends c.step.ensures) ∙ ap (λ ending. ran_of ending (state_of c.step.new.self.state)) (sym same))
