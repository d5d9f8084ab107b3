use Rattle.std.proofs.Common.{◌≡◌, Bor, map, sym, ap, ◌∙◌}
use Rattle.zk_typed.specs.Columns as columns
use Rattle.zk_typed.specs.Log as log
use Rattle.zk_typed.specs.Logs.{picked}
use Rattle.zk_lower.specs.Leaves.{leaf_of}
use Rattle.zk_lower.specs.declared.leaves.Leaf.{Leaf}
use Rattle.zk_machine.proofs.ListLemmas.{map-made, picked-made}
use Rattle.zk_machine.proofs.rows.kept.Goals as goal

abbrev plain_leaf : Bor Leaf → columns.Leaf
plain_leaf leaf = leaf_of leaf.now

abbrev here : Bor Leaf → Leaf
here leaf = leaf.now

pub returns : goal.returns
returns c =
    let all = c.in_ok-all.all.items in
    let first = c.args.write.now.stream.columns in
    let second = c.args.filter.now.columns in
    let columns : c.as_slice-2.result.now ≡ second = c.as_slice-2.ensures ∙ ap (λ (f : log.Filter). f.columns) c.filter.view_is in
    let of_stream : c.in_ok-of_stream.of_stream.items ≡ picked all first =
    c.in_ok-of_stream.ensures ∙ (ap (λ a. picked a c.as_slice.result.now) c.deref.ensures.value ∙ ap (picked all) c.as_slice.ensures) in
    let kept : c.in_ok-kept.kept.items ≡ picked (picked all first) second =
    c.in_ok-kept.ensures ∙ (ap (λ a. picked a c.as_slice-2.result.now) (c.deref-2.ensures.value ∙ of_stream) ∙ ap (picked (picked all first)) columns) in
    ap (map plain_leaf) kept ∙ (picked-made plain_leaf (picked all first) second
    ∙ ap (λ a. picked a second) (picked-made plain_leaf all first
    ∙ ap (λ a. picked a first) (sym (map-made here leaf_of all) ∙ ap (map leaf_of) c.in_ok-all.ensures)))
