use Rattle.std.proofs.Common.{ap, sym, ◌∙◌, ◌++◌, flat_map}
use Rattle.zk_load.specs.Loading.{loads_in}
use Rattle.zk_load.proofs.LoadLaws.{export_loads}
use Rattle.zk_load.proofs.loads.+loads.Goals as goal

pub add_loads-returns-in_ok-add_all-in-Export : goal.add_loads-returns-in_ok-add_all-in-Export
add_loads-returns-in_ok-add_all-in-Export t c =
    c.in_ok-add_all-in-Export.ensures
    ∙ ap (λ loads. c.args.names.now.items ++ loads) (ap (flat_map loads_in) c.as_slice.ensures ∙ sym (export_loads c.in-Export.place c.in-Export.decls) ∙ ap loads_in (sym c.in-Export.is))
