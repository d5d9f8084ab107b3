use Rattle.std.proofs.Common.{◌≡◌, true, false, pos, is_some, sym, ap, ◌∙◌, arith}
use Rattle.std.specs.Prelude.{int_lt}
use Rattle.std.proofs.lemmas.Int.{ints}
use Rattle.std.proofs.lemmas.Bool.Decides.{nat_tests}
use Rattle.zk_tree.specs.Table as plain
use Rattle.zk_tree.specs.Table.{entry_numbered}
use Rattle.zk_table.proofs.TableLemmas.{expired-later, expired-now, numbered-found, numbered-within}
use Rattle.zk_table.proofs.table.Table.expire.Goals as goal

pub invariant_of-self : goal.invariant_of-self
invariant_of-self c =
    let later : int_lt (pos 0) c.args.wait.0 ≡ true = grind (arith, ints, nat_tests) in
    (expired-later c.self.inside.entries c.args.order c.in-Some.place c.args.wait c.self.invariant (c.in-Some.ensures.found c.self.invariant) c.put_off.new.self c.put_off.ensures later).kept

pub remove-requires : goal.remove-requires
remove-requires c =
    let here = c.in-Some.ensures.found c.self.invariant in
    let within = numbered-within c.self.inside.entries c.args.order c.in-Some.place c.args.wait c.self.invariant here in
    omega (arith, within)

pub returns-then-waits-clause-there : goal.returns-then-waits-clause-there
returns-then-waits-clause-there c =
    sym (ap (λ (t : plain.Table). is_some (entry_numbered c.args.order t.entries)) (sym c.self.view_is)
    ∙ ap is_some (numbered-found c.self.inside.entries c.args.order c.in-Some.place c.args.wait c.self.invariant (c.in-Some.ensures.found c.self.invariant)))

pub returns-then-waits-clause-expired : goal.returns-then-waits-clause-expired
returns-then-waits-clause-expired c =
    let later : int_lt (pos 0) c.args.wait.0 ≡ true = grind (arith, ints, nat_tests) in
    (expired-later c.self.inside.entries c.args.order c.in-Some.place c.args.wait c.self.invariant (c.in-Some.ensures.found c.self.invariant) c.put_off.new.self c.put_off.ensures later).is
    ∙ ap (plain.expire c.args.order c.args.wait) c.self.view_is

pub returns-else-waits-clause-there : goal.returns-else-waits-clause-there
returns-else-waits-clause-there c =
    sym (ap (λ (t : plain.Table). is_some (entry_numbered c.args.order t.entries)) (sym c.self.view_is)
    ∙ ap is_some (numbered-found c.self.inside.entries c.args.order c.in-Some.place c.args.wait c.self.invariant (c.in-Some.ensures.found c.self.invariant)))

pub returns-else-waits-clause-expired : goal.returns-else-waits-clause-expired
returns-else-waits-clause-expired c =
    let now : int_lt (pos 0) c.args.wait.0 ≡ false = grind (arith, ints, nat_tests) in
    (expired-now c.self.inside.entries c.args.order c.in-Some.place c.args.wait c.self.invariant (c.in-Some.ensures.found c.self.invariant) c.remove.new.self c.remove.ensures now).is
    ∙ ap (plain.expire c.args.order c.args.wait) c.self.view_is
