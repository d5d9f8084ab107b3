use Rattle.std.proofs.Common.{List, ◌++◌, filter, flat_map, ap, sym, ◌∙◌}
use Rattle.zk_typed.specs.Declarations.{adds_well}
use Rattle.zk_typed.specs.LoadOrder.{Stated}
use Rattle.zk_typed.specs.Resolving.{own_fields}
use Rattle.zk_scope.specs.Fields.{stated_fields}
use Rattle.zk_scope.specs.Lent.{stated_lent}
use Rattle.zk_scope.specs.Scripted.{scripts_in}
use Rattle.zk_check_declarations.specs.Edges.{edges_at, kinds}
use Rattle.zk_check_declarations.proofs.StatedLaws.{fields_among, with_stated}
use Rattle.zk_check_declarations.proofs.rising.depths.Goals as goal

pub returns : goal.returns
returns c =
    let scripts = scripts_in c.args.names.now in
    let well = filter (adds_well scripts) scripts.stated in
    let all = c.in_ok-all.ensures scripts (λ number.
    ap (edges_at number) c.deref.ensures.value ∙ c.in_ok-edges.ensures number ∙
    ap (λ (stated : List Stated). kinds (own_fields scripts number ++ flat_map (stated_fields scripts number) stated)) c.stated.ensures) in
    let kept = c.in_ok-kept.ensures all in
    record {
      all = all;
      fitting = c.in_ok-fitting.ensures (with_stated scripts well) (λ number.
          ap (edges_at number) c.deref-3.ensures.value ∙ c.in_ok-edges-2.ensures number ∙
          ap (λ (stated : List Stated). kinds (own_fields scripts number ++ flat_map (stated_fields scripts number) stated))
          (ap stated_lent c.deref-2.ensures.value ∙ kept ∙ ap (filter (adds_well scripts)) c.stated-2.ensures) ∙
          sym (ap kinds (fields_among scripts well number)));
    }
