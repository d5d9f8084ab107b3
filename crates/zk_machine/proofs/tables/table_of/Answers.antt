use Rattle.std.proofs.Common.{◌≡◌, ◌+◌, ◌-◌, ◌<◌, ◌≤◌, List, fold, length, take, drop, get_or, sym, ap, ◌∙◌, arith}
use Rattle.std.proofs.lemmas.List.{take-map, drop-map, length-map, take_rest, drop-drop, get_or-map, get_or-drop}
use Rattle.zk_tree.specs.Table.{insert}
use Rattle.zk_tree.specs.Value as plain
use Rattle.zk_typed.specs.Objects.{with_pair, groups}
use Rattle.zk_value.specs.Plain.{value_of, key_of}
use Rattle.zk_value.specs.declared.value.Value.{Value}
use Rattle.zk_machine.proofs.TableLemmas.{groups-more, groups-none, pair-inserted}
use Rattle.zk_machine.proofs.tables.table_of.Goals as goal

pub entries-preserved : goal.entries-preserved
entries-preserved c =
    let now = c.args.now in
    let size = c.args.shape.now.keys in
    let rest = c.entries.rest.now in
    let table = c.entries.table in
    let behind = c.split_at.result.1.now in
    let one = c.index-behind-0.result in
    let same = length-map rest value_of in
    let inside : size < length (key_of rest) = omega (arith, same, c.entries-test.true) in
    let within : size + 1 ≤ length (key_of rest) = omega (arith, same, c.entries-test.true) in
    let some : 0 < size + 1 = omega arith in
    let place : one ≡ get_or rest size one = c.index-behind-0.is ∙ (ap (λ b. get_or b 0 one) c.split_at.ensures.back ∙ (get_or-drop size rest 0 one ∙ ap (λ n. get_or rest n one) (let e : size + 0 ≡ size = omega arith in e))) in
    let at : value_of one ≡ get_or (key_of rest) size (value_of one) = ap value_of place ∙ sym (get_or-map value_of rest size one (value_of one) c.entries-test.true) in
    let left : take (length behind - 1) (drop 1 behind) ≡ drop (size + 1) rest = take_rest behind 1 ∙ (ap (drop 1) c.split_at.ensures.back ∙ drop-drop 1 size rest) in
    ap (λ t. fold (with_pair size now) t (groups (size + 1) (key_of (take (length behind - 1) (drop 1 behind)))))
    (c.in_ok-insert.ensures.ok ∙ (ap (λ (k : List Value). insert now (key_of k) (value_of c.in_ok-value.value) table) (c.in_ok-copy_of.ensures ∙ c.split_at.ensures.front)
    ∙ (ap (λ (v : Value). insert now (key_of (take size rest)) (value_of v) table) c.in_ok-value.ensures.cases
    ∙ (ap (λ (k : List plain.Value). insert now k (value_of one) table) (sym (take-map value_of size rest))
    ∙ sym (pair-inserted size now table (key_of rest) (value_of one) inside at)))))
    ∙ (ap (λ (b : List plain.Value). fold (with_pair size now) (with_pair size now table (take (size + 1) (key_of rest))) (groups (size + 1) b)) (ap key_of left ∙ sym (drop-map value_of (size + 1) rest))
    ∙ (ap (fold (with_pair size now) table) (sym (groups-more (size + 1) (key_of rest) some within)) ∙ c.entries.invariant))

pub returns : goal.returns
returns c =
    let now = c.args.now in
    let size = c.args.shape.now.keys in
    let rest = c.entries.rest.now in
    let short : length (key_of rest) < size + 1 = let same = length-map rest value_of in omega (arith, same, c.entries-test.false) in
    ap (fold (with_pair size now) c.entries.table) (sym (groups-none (size + 1) (key_of rest) short)) ∙ c.entries.invariant
