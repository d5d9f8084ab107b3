use Rattle.std.proofs.Common.{◌≡◌, ℕ, true, false, slice_get, ap, sym, ◌∙◌}
use Rattle.zk_scope.specs.Grouping.{are_below, first_or_end}
use Rattle.zk_scope.specs.Lent.{declared_lent}
use Rattle.zk_scope.proofs.GroupLaws.{below_apart, together_led}
use Rattle.zk_scope.proofs.leading.told.Goals as goal

pub returns-then-are_below : goal.returns-then-are_below
returns-then-are_below c = λ leads is scripts e.
    let names = declared_lent c.args.table.now.names.items in
    let groups = c.args.ways.now.groups in
    let none : leads ≡ false = cc in
    none ∙ below_apart scripts names c.args.ways.now c.args.target.now c.args.starts.now e c.requires
    (ap (λ (n : ℕ). are_below groups.ahead.items (slice_get groups.lows.items n) c.args.starts.now) (sym (c.first_named-first.ensures ∙ ap (first_or_end names) c.in_ok-whole.ensures)) ∙ sym c.are_below.ensures ∙
    c.if-are_below.true)

pub returns-then-are_together : goal.returns-then-are_together
returns-then-are_together c = λ leads is scripts e.
    let names = declared_lent c.args.table.now.names.items in
    let there : leads ≡ true = cc in
    there ∙ together_led scripts names c.args.ways.now c.args.target.now c.args.starts.now c.first_named-first.result e c.requires (sym c.is_at.ensures ∙ c.if-is_at.true) (sym c.are_together.ensures ∙ c.if-are_together.true)
