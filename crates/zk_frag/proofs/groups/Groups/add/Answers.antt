use Rattle.std.proofs.Common.{sym, ◌∙◌}
use Rattle.std.specs.Cmp.{eq_by_cmp_equiv}
use Rattle.std.specs.Ordering.{eq_by_cmp}
use Rattle.std.proofs.lemmas.Result.{IfOk-weaker, on_err_weaker}
use Rattle.zk_frag.specs.Fragment.{shown}
use Rattle.zk_frag.specs.Standing.{whole_of}
use Rattle.zk_frag.specs.Table.{group_at}
use Rattle.zk_frag.proofs.HistoryLemmas.{answer_ignored, answer_taken, stands_ignored, stands_on, stands_taken, takes_begun, takes_open, there_from_open, whole_stays, within_from_counted}
use Rattle.zk_frag.proofs.KeyLemmas.{same_test}
use Rattle.zk_frag.proofs.groups.Groups.add.Goals as goal

pub go_on-requires-clause-open : goal.go_on-requires-clause-open
go_on-requires-clause-open g c = there_from_open (group_at (eq_by_cmp g.K.Ord.cmp) c.args.self.now c.args.fragment.key) c.args.fragment.moment (sym c.if-is_open.true ∙ c.is_open.ensures)

pub go_on-requires-clause-bound : goal.go_on-requires-clause-bound
go_on-requires-clause-bound g c = within_from_counted (shown c.args.fragment) (sym c.is_ignored.ensures ∙ c.if-is_ignored.false)

pub begin-requires : goal.begin-requires
begin-requires g c = record { bound = within_from_counted (shown c.args.fragment) (sym c.is_ignored.ensures ∙ c.if-is_ignored.false) }

pub returns-then-is_ignored-clause-answer : goal.returns-then-is_ignored-clause-answer
returns-then-is_ignored-clause-answer g c = λ given stands.
    answer_ignored g.K.PartialEq.eq given (shown c.args.fragment) (sym c.is_ignored.ensures ∙ c.if-is_ignored.true)

pub returns-then-is_ignored-clause-taken : goal.returns-then-is_ignored-clause-taken
returns-then-is_ignored-clause-taken g c = λ given stands.
    stands_ignored g.K.PartialEq.eq c.args.self.now given (shown c.args.fragment) (sym c.is_ignored.ensures ∙ c.if-is_ignored.true) stands

pub returns-then-is_open-clause-answer : goal.returns-then-is_open-clause-answer
returns-then-is_open-clause-answer g c =
    let order = eq_by_cmp g.K.Ord.cmp in
    let fragment = shown c.args.fragment in
    let counted = sym c.is_ignored.ensures ∙ c.if-is_ignored.false in
    let is_open = sym c.if-is_open.true ∙ c.is_open.ensures in
    rw (same_test g.K.PartialEq.eq order g.met.K.Ord.matches_eq)
    (IfOk-weaker c.go_on.result _ _
    (λ added takes given stands. answer_taken order c.args.self.now c.go_on.new.self given fragment added counted
    (takes_open order c.args.self.now c.go_on.new.self given fragment added is_open stands takes))
    c.go_on.ensures.ok)

pub returns-then-is_open-clause-taken : goal.returns-then-is_open-clause-taken
returns-then-is_open-clause-taken g c =
    let order = eq_by_cmp g.K.Ord.cmp in
    let fragment = shown c.args.fragment in
    let counted = sym c.is_ignored.ensures ∙ c.if-is_ignored.false in
    let is_open = sym c.if-is_open.true ∙ c.is_open.ensures in
    rw (same_test g.K.PartialEq.eq order g.met.K.Ord.matches_eq)
    (IfOk-weaker c.go_on.result _ _
    (λ added takes given stands. stands_taken order (eq_by_cmp_equiv g.met.K.Ord.total) c.args.self.now c.go_on.new.self given fragment added counted
    (takes_open order c.args.self.now c.go_on.new.self given fragment added is_open stands takes) stands)
    c.go_on.ensures.ok)

pub returns-then-is_open-clause-stays : goal.returns-then-is_open-clause-stays
returns-then-is_open-clause-stays g c =
    let order = eq_by_cmp g.K.Ord.cmp in
    let fragment = shown c.args.fragment in
    let is_open = sym c.if-is_open.true ∙ c.is_open.ensures in
    rw (same_test g.K.PartialEq.eq order g.met.K.Ord.matches_eq)
    (IfOk-weaker c.go_on.result _ _
    (λ added takes given stands. whole_stays order c.args.self.now c.go_on.new.self given fragment added
    (takes_open order c.args.self.now c.go_on.new.self given fragment added is_open stands takes))
    c.go_on.ensures.ok)

pub returns-then-is_open-clause-unchanged : goal.returns-then-is_open-clause-unchanged
unfolding whole_of
returns-then-is_open-clause-unchanged g c = on_err_weaker c.go_on.result (λ stays. stays.whole) c.go_on.ensures.err

pub returns-then-is_open-clause-memory : goal.returns-then-is_open-clause-memory
returns-then-is_open-clause-memory g c =
    let order = eq_by_cmp g.K.Ord.cmp in
    rw (same_test g.K.PartialEq.eq order g.met.K.Ord.matches_eq)
    (on_err_weaker c.go_on.result
    (λ stays given stands. stands_on order (eq_by_cmp_equiv g.met.K.Ord.total) c.args.self.now c.go_on.new.self c.args.fragment.key given stays stands)
    c.go_on.ensures.err)

pub returns-else-is_open-clause-answer : goal.returns-else-is_open-clause-answer
returns-else-is_open-clause-answer g c =
    let order = eq_by_cmp g.K.Ord.cmp in
    let fragment = shown c.args.fragment in
    let counted = sym c.is_ignored.ensures ∙ c.if-is_ignored.false in
    let is_open = sym c.if-is_open.false ∙ c.is_open.ensures in
    rw (same_test g.K.PartialEq.eq order g.met.K.Ord.matches_eq)
    (IfOk-weaker c.begin.result _ _
    (λ added takes given stands. answer_taken order c.args.self.now c.begin.new.self given fragment added counted
    (takes_begun order c.args.self.now c.begin.new.self given fragment added is_open stands takes))
    c.begin.ensures.ok)

pub returns-else-is_open-clause-taken : goal.returns-else-is_open-clause-taken
returns-else-is_open-clause-taken g c =
    let order = eq_by_cmp g.K.Ord.cmp in
    let fragment = shown c.args.fragment in
    let counted = sym c.is_ignored.ensures ∙ c.if-is_ignored.false in
    let is_open = sym c.if-is_open.false ∙ c.is_open.ensures in
    rw (same_test g.K.PartialEq.eq order g.met.K.Ord.matches_eq)
    (IfOk-weaker c.begin.result _ _
    (λ added takes given stands. stands_taken order (eq_by_cmp_equiv g.met.K.Ord.total) c.args.self.now c.begin.new.self given fragment added counted
    (takes_begun order c.args.self.now c.begin.new.self given fragment added is_open stands takes) stands)
    c.begin.ensures.ok)

pub returns-else-is_open-clause-stays : goal.returns-else-is_open-clause-stays
returns-else-is_open-clause-stays g c =
    let order = eq_by_cmp g.K.Ord.cmp in
    let fragment = shown c.args.fragment in
    let is_open = sym c.if-is_open.false ∙ c.is_open.ensures in
    rw (same_test g.K.PartialEq.eq order g.met.K.Ord.matches_eq)
    (IfOk-weaker c.begin.result _ _
    (λ added takes given stands. whole_stays order c.args.self.now c.begin.new.self given fragment added
    (takes_begun order c.args.self.now c.begin.new.self given fragment added is_open stands takes))
    c.begin.ensures.ok)

pub returns-else-is_open-clause-unchanged : goal.returns-else-is_open-clause-unchanged
unfolding whole_of
returns-else-is_open-clause-unchanged g c = on_err_weaker c.begin.result (λ stays. stays.whole) c.begin.ensures.err

pub returns-else-is_open-clause-memory : goal.returns-else-is_open-clause-memory
returns-else-is_open-clause-memory g c =
    let order = eq_by_cmp g.K.Ord.cmp in
    rw (same_test g.K.PartialEq.eq order g.met.K.Ord.matches_eq)
    (on_err_weaker c.begin.result
    (λ stays given stands. stands_on order (eq_by_cmp_equiv g.met.K.Ord.total) c.args.self.now c.begin.new.self c.args.fragment.key given stays stands)
    c.begin.ensures.err)
