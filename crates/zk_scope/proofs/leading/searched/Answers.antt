use Rattle.std.proofs.Common.{◌≡◌, ℕ, ◌+◌, ◌≤◌, true, List, [], length, sym, ◌∙◌, subst, arith}
use Rattle.zk_scope.specs.Leading.{is_target, led, steps}
use Rattle.zk_scope.specs.Lent.{declared_lent}
use Rattle.zk_scope.proofs.LeadLaws.{as_long, at_place, laws_of, past_all}
use Rattle.zk_scope.proofs.SearchLaws.{IsClosed, IsReached, closed_none, closed_on, fold_kept, fold_new, mem, reached_first, reached_on, reached_target}
use Rattle.zk_scope.proofs.leading.searched.Goals as goal

pub loop-step-init : goal.loop-step-init
loop-step-init c =
    let names = declared_lent c.args.table.now.names.items in
    let target = c.args.target.now in
    record {
      reached = λ scripts e. subst (λ (keys : List ℕ). IsReached (λ m v. led scripts target m v) c.args.starts.now keys 0) (sym c.in_ok-found.ensures)
          (reached_first (λ m v. led scripts target m v) (is_target names target) (steps names) (laws_of scripts names target e) c.args.starts.now);
      closed = λ i h. absurd (omega arith);
      begun = λ w h. subst (λ (keys : List ℕ). mem w keys ≡ true) (sym c.in_ok-found.ensures) (fold_new [] c.args.starts.now w h);
    }

pub returns-in-None : goal.returns-in-None
returns-in-None c = λ scripts e.
    let names = declared_lent c.args.table.now.names.items in
    let target = c.args.target.now in
    sym (closed_none (λ m v. led scripts target m v) (is_target names target) (steps names) (laws_of scripts names target e) c.args.starts.now c.loop-step.found.keys c.loop-step.step (length scripts.names)
    (past_all c.loop-step.found.keys c.loop-step.step c.in-None.ensures) c.loop-step.invariant.begun c.loop-step.invariant.closed)

pub returns-then-is_at : goal.returns-then-is_at
returns-then-is_at c = λ scripts e.
    let names = declared_lent c.args.table.now.names.items in
    let target = c.args.target.now in
    let here = at_place c.loop-step.found.keys c.loop-step.step c.in-Some.place (sym c.in-Some.ensures) in
    let long : length scripts.names ≡ length c.args.table.now.names.items = as_long scripts c.args.table.now.names.items e in
    let within : c.loop-step.step ≤ length scripts.names = omega arith in
    sym (reached_target (λ m v. led scripts target m v) (is_target names target) (steps names) (laws_of scripts names target e) c.args.starts.now c.loop-step.found.keys c.loop-step.step c.in-Some.place (length scripts.names)
    here.2 (sym c.is_at.ensures ∙ c.if-is_at.true) within (c.loop-step.invariant.reached scripts e))

pub loop-step-preserved : goal.loop-step-preserved
loop-step-preserved c =
    let names = declared_lent c.args.table.now.names.items in
    let target = c.args.target.now in
    let keys = c.loop-step.found.keys in
    let step = c.loop-step.step in
    let place = c.in-Some.place in
    let here = at_place keys step place (sym c.in-Some.ensures) in
    record {
      reached = λ scripts e. subst (λ (more : List ℕ). IsReached (λ m v. led scripts target m v) c.args.starts.now more (step + 1)) (sym (c.in_ok-add_steps-in-Some.ensures names c.requires))
          (reached_on (λ m v. led scripts target m v) (is_target names target) (steps names) (laws_of scripts names target e) c.args.starts.now keys step place here.2 (c.loop-step.invariant.reached scripts e));
      closed = subst (λ (more : List ℕ). IsClosed (is_target names target) (steps names) more (step + 1)) (sym (c.in_ok-add_steps-in-Some.ensures names c.requires))
          (closed_on (is_target names target) (steps names) keys step place here.0 here.1 (sym c.is_at.ensures ∙ c.if-is_at.false) c.loop-step.invariant.closed);
      begun = λ w h. subst (λ (more : List ℕ). mem w more ≡ true) (sym (c.in_ok-add_steps-in-Some.ensures names c.requires)) (fold_kept keys (steps names place) w (c.loop-step.invariant.begun w h));
    }

pub returns-in-None-found_at : goal.returns-in-None-found_at
returns-in-None-found_at c = λ scripts e.
    let names = declared_lent c.args.table.now.names.items in
    let target = c.args.target.now in
    let past = past_all c.loop-step.found.keys c.len-most.result c.in-None-found_at.ensures in
    sym (closed_none (λ m v. led scripts target m v) (is_target names target) (steps names) (laws_of scripts names target e) c.args.starts.now c.loop-step.found.keys c.loop-step.step (length scripts.names)
    (omega (arith, past)) c.loop-step.invariant.begun c.loop-step.invariant.closed)
