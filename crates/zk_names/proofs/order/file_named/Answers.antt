use Rattle.std.proofs.Common.{◌≡◌, List, ℕ, false, codes, nat_eq, ap, sym, ◌∙◌}
use Rattle.std.specs.List.{starts_with}
use Rattle.zk_names.proofs.LineLaws.{position_of_files}
use Rattle.zk_names.proofs.order.file_named.Goals as goal

pub returns : goal.returns
returns c =
    let plain : starts_with nat_eq c.args.name.now (codes "base/") ≡ false =
    ap (λ (name : List ℕ). starts_with nat_eq name (codes "base/")) (sym c.as_slice.ensures) ∙ sym c.starts_with.ensures.value ∙ c.if-starts_with.false in
    rw plain (c.number_of.ensures ∙ sym (position_of_files c.args.files.now c.args.name.now))
