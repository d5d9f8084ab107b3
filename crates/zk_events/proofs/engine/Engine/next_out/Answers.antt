use Rattle.std.proofs.Common.{Option, Some, None, refl}
use Rattle.std.specs.Prelude.{IfNone}
use Rattle.std.proofs.lemmas.Option.{IfSome_then}
use Rattle.zk_events.specs.Run.{so_far_at}
use Rattle.zk_events.proofs.EngineLemmas.{all-given, given-more}
use Rattle.zk_events.proofs.engine.Engine.next_out.Goals as goal

none-then : {X P Q : Type 0} (r : Option X) → IfNone r P → (P → Q) → IfNone r Q
none-then None is more = more is
none-then (Some x) is more = tt

pub returns-clause-some : goal.returns-clause-some
returns-clause-some c =
    let new = record c.args.self.now { dispatcher = record c.args.self.now.dispatcher { machine = c.next_out.new.self } } in
    IfSome_then c.next_out.result c.next_out.ensures.some (λ out gives program budget stage given stands. record {
      works = stands.works;
      budget_is = stands.budget_is;
      is_at = given-more c.args.self.now.flood c.args.self.now new program given _ (so_far_at program budget stage) refl refl (λ world at. gives program given world at) stands.is_at;
    })

pub returns-clause-none : goal.returns-clause-none
returns-clause-none c =
    let new = record c.args.self.now { dispatcher = record c.args.self.now.dispatcher { machine = c.next_out.new.self } } in
    none-then c.next_out.result c.next_out.ensures.none (λ gives program budget stage given stands.
    let all = all-given c.args.self.now.flood c.args.self.now new program given (so_far_at program budget stage) (λ world at. gives program given world at) stands.is_at in (
      all.0,
      all.1,
      record {
        works = stands.works;
        budget_is = stands.budget_is;
        is_at = given-more c.args.self.now.flood c.args.self.now new program given given (so_far_at program budget stage) refl refl (λ world at. (gives program given world at).2) stands.is_at;
      },
    ))
