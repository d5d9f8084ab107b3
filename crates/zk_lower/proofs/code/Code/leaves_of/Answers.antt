use Rattle.std.proofs.Common.{◌≡◌, [], Some, None, length, map, refl, sym, ap, ◌∙◌}
use Rattle.std.proofs.lemmas.Option.{slice_get_past, slice_get_read}
use Rattle.std.specs.Option.{option_map}
use Rattle.std.specs.Prelude.{slice_get, unwrap_or}
use Rattle.zk_typed.specs.View.{record_of}
use Rattle.zk_lower.specs.Leaves.{leaf_of, leaves_in}
use Rattle.zk_lower.proofs.LeafLemmas.{leaves_are}
use Rattle.zk_lower.proofs.code.Code.leaves_of.Goals as goal

pub returns-in-Some : goal.returns-in-Some
returns-in-Some c =
    let code = c.args.self.now in
    let all = c.deref.result.now in
    let read = c.in-Some.ensures.lookup in
    let found : slice_get code.leaves.items c.args.log.0 ≡ Some c.in-Some.leaves.now =
    ap (λ one. slice_get one c.args.log.0) (sym c.deref.ensures.value) ∙ slice_get_read all (length all) c.args.log.0 c.in-Some.leaves.now refl read.3.0 read.1 in
    ap (map leaf_of) c.deref-in-Some.ensures.value
    ∙ (ap (λ one. unwrap_or (option_map leaves_in one) []) (sym found)
    ∙ leaves_are code.files (map record_of code.records) code.logs code.leaves.items c.args.log code.by_log)

pub returns-in-None : goal.returns-in-None
returns-in-None c =
    let code = c.args.self.now in
    let found : slice_get code.leaves.items c.args.log.0 ≡ None =
    ap (λ one. slice_get one c.args.log.0) (sym c.deref.ensures.value) ∙ slice_get_past c.deref.result.now c.args.log.0 c.in-None.ensures.lookup.3 in
    ap (λ one. unwrap_or (option_map leaves_in one) []) (sym found)
    ∙ leaves_are code.files (map record_of code.records) code.logs code.leaves.items c.args.log code.by_log
