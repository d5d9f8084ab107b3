use Rattle.std.proofs.Common.{◌≤◌, ◌∙◌, map, arith}
use Rattle.std.proofs.lemmas.Grind.{common_steps}
use Rattle.zk_value.specs.Plain.{field_of}
use Rattle.zk_machine.proofs.OwnerLemmas.{noted-past}
use Rattle.zk_machine.proofs.globals.Owners.note.Goals as goal

-- it is none of these
pub returns-then-not-counts : goal.returns-then-not-counts
returns-then-not-counts c = λ these is noted.
    noted-past these (map field_of c.args.values.now) c.args.self.now.list.items c.args.self.now.limit c.args.global (field_of c.args.value.now) (is ∙ c.if-not-counts.true) noted

pub returns : goal.returns
returns c = λ these is noted.
    let least = c.min-self.ensures in
    let step = c.note_value-below in
    let less : c.min-self.result ≤ c.args.self.now.limit = grind (arith, common_steps, least) in
    let under : c.min-self.result ≤ step.result = grind (arith, common_steps, least) in
    record {
      rises = step.ensures.rises noted.rises;
      noted = step.ensures.noted these c.args.self.now.limit c.min-self.result noted.rises less (λ among. under) noted.noted;
    }
