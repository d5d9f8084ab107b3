use Rattle.std.proofs.Common.{◌<◌, ◌≤◌, length, sym, subst, ◌∙◌, arith}
use Rattle.zk_events.specs.Sealed.{StandsFor}
use Rattle.zk_typed.specs.State.{World}
use Rattle.zk_events.proofs.RunLemmas.{initialised-all, initialised-more}
use Rattle.zk_events.proofs.dispatcher.Dispatcher.initialise.Goals as goal

pub loop-global-preserved : goal.loop-global-preserved
loop-global-preserved c = record {
  initialises = λ program given world stands.
      let far = c.loop-global.invariant.initialises program given world stands in
      let within : c.loop-global.global < length program.globals = omega (arith, c.globals.ensures.program program given world stands, c.in-Ok.ensures, c.loop-global-test.true) in
      let more = initialised-more program c.loop-global.self.budget c.loop-global.global far.world within in
      record { world = _; stands = c.in_ok-initial.ensures.stands program given far.world more.0 far.stands more.1; same = sym more.2 ∙ far.same };
  code = c.initial.ensures.code ∙ c.loop-global.invariant.code;
  budget = c.loop-global.invariant.budget;
  left = c.loop-global.invariant.left;
}

pub returns-clause-stands : goal.returns-clause-stands
returns-clause-stands c = λ program given world stands.
    let far = c.loop-global.invariant.initialises program given world stands in
    let all : length program.globals ≤ c.loop-global.global = omega (arith, c.globals.ensures.program program given world stands, c.in-Ok.ensures, c.loop-global-test.false) in
    subst (λ (w : World). StandsFor c.loop-global.self.machine program given w)
    (initialised-all program c.loop-global.self.budget c.loop-global.global far.world _ all far.same) far.stands
