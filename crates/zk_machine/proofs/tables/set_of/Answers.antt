use Rattle.std.proofs.Common.{◌≡◌, ◌<◌, ◌≤◌, List, true, fold, length, take, sym, ap, ◌∙◌, arith}
use Rattle.std.proofs.lemmas.List.{take-map, drop-map, length-map}
use Rattle.zk_tree.specs.Table.{insert}
use Rattle.zk_tree.specs.Value as plain
use Rattle.zk_typed.specs.Objects.{add_member, groups}
use Rattle.zk_value.specs.Plain.{value_of, key_of}
use Rattle.zk_value.specs.declared.value.Value.{Value}
use Rattle.zk_machine.proofs.TableLemmas.{groups-more, groups-none, groups-nothing}
use Rattle.zk_machine.proofs.tables.set_of.Goals as goal
use Rattle.zk_machine.proofs.tables.set_of.Goals.{then-members-test+else-size-rest, else-members-test}

pub members-preserved : goal.members-preserved
members-preserved c =
    let now = c.args.now in
    let size = c.args.shape.now.keys in
    let rest = c.members.rest.now in
    let set = c.members.set in
    let within : size ≤ length (key_of rest) = let same = length-map rest value_of in omega (arith, same, c.if-size-rest.true) in
    let key : c.in_ok-copy_of.field-0 ≡ take size rest = c.in_ok-copy_of.ensures ∙ c.split_at.ensures.front in
    ap (λ one. fold (add_member now) one (groups size (key_of c.split_at.result.1.now)))
    (c.in_ok-insert.ensures.ok ∙ (ap (λ (k : List Value). insert now (key_of k) (plain.Bool true) set) key ∙ ap (λ (k : List plain.Value). insert now k (plain.Bool true) set) (sym (take-map value_of size rest))))
    ∙ (ap (λ (b : List plain.Value). fold (add_member now) (insert now (take size (key_of rest)) (plain.Bool true) set) (groups size b)) (ap key_of c.split_at.ensures.back ∙ sym (drop-map value_of size rest))
    ∙ (ap (fold (add_member now) set) (sym (groups-more size (key_of rest) c.members-test.true within)) ∙ c.members.invariant))

pub returns : goal.returns
returns c =
    let now = c.args.now in
    let size = c.args.shape.now.keys in
    let rest = c.members.rest.now in
    elim c.members-test.branch [
      | then-members-test+else-size-rest w ↦
          let short : length (key_of rest) < size = let same = length-map rest value_of in omega (arith, same, w.if-size-rest.false) in
          ap (fold (add_member now) c.members.set) (sym (groups-none size (key_of rest) short)) ∙ c.members.invariant
      | else-members-test w ↦
          let none : size ≡ 0 = omega (arith, w.members-test.false) in
          ap (fold (add_member now) c.members.set) (sym (ap (λ n. groups n (key_of rest)) none ∙ groups-nothing (key_of rest))) ∙ c.members.invariant
    ]
