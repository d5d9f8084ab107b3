use Rattle.std.proofs.Common.{◌≡◌, ℕ, true, List, ◌++◌, rules, subst, sym}
use Rattle.std.specs.Bool.{beq}
use Rattle.zk_typed.specs.Names.{is_record}
use Rattle.zk_scope.specs.Lent.{node_of}
use Rattle.zk_scope.specs.Numbering.{Stands, spot_eq}
use Rattle.zk_scope.proofs.PlaceLaws.{spot_kept}
use Rattle.zk_scope.proofs.numbers.add_spot.Goals as goal

pub returns-then-is_record-records : goal.returns-then-is_record-records
returns-then-is_record-records c = λ places stands.
    let kept : beq (is_record (node_of c.args.node.now)) c.args.records ≡ true = search rules in
    subst (λ (x : List (ℕ × ℕ)). Stands spot_eq c.add.new.self (places ++ x))
    (sym (spot_kept c.args.records (node_of c.args.node.now) c.spot.result kept c.spot.ensures))
    (c.in_ok-add.ensures.ok places stands)
