use Rattle.std.proofs.Common.{◌≡◌, ℕ, ◌+◌, ◌≤◌, false, not, filter, rules, arith, ap, ◌∙◌}
use Rattle.zk_typed.specs.Names.{count_before, is_at, is_record}
use Rattle.zk_scope.specs.Numbering.{spots}
use Rattle.zk_scope.proofs.PlaceLaws.{enum_count}
use Rattle.zk_scope.proofs.numbers.Numbers.enum_number.Goals as goal

pub returns-in-Some-clause-number : goal.returns-in-Some-clause-number
returns-in-Some-clause-number c = λ nodes names numbered.
    let count = count_before (is_at c.args.file c.args.place) (filter (λ node. not (is_record node)) nodes) in
    let among : c.number-among.result ≡ count = c.number-among.ensures (spots false nodes) (rw (← c.get.ensures) at numbered.2) ∙ enum_count c.args.file c.args.place nodes in
    let raised : c.in-Some.number ≡ c.number-among.result + 3 = search rules in
    let swap : count + 3 ≡ 3 + count = omega arith in
    raised ∙ ap (λ (x : ℕ). x + 3) among ∙ swap

pub returns-in-None-clause-err : goal.returns-in-None-clause-err
returns-in-None-clause-err c = λ nodes names numbered.
    let count = count_before (is_at c.args.file c.args.place) (filter (λ node. not (is_record node)) nodes) in
    let among : c.number-among.result ≡ count = c.number-among.ensures (spots false nodes) (rw (← c.get.ensures) at numbered.2) ∙ enum_count c.args.file c.args.place nodes in
    let past : 4294967296 ≤ c.number-among.result + 3 = search rules in
    let all : 4294967296 ≤ 3 + count = omega (arith, among, past) in
    all
