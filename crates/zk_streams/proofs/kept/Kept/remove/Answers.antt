use Rattle.std.proofs.Common.{◌≡◌, Some, None, sym, ap, ◌∙◌}
use Rattle.std.specs.List.{position}
use Rattle.zk_typed.specs.Logs.{is_named, has_filter, without_filter}
use Rattle.zk_streams.specs.Kept.{stream_in}
use Rattle.zk_streams.proofs.FilterLemmas.{taken_away, stream_without, stream_with_all}
use Rattle.zk_streams.proofs.FirstLemmas.{none_passes}
use Rattle.zk_streams.proofs.kept.Kept.remove.Goals as goal

pub invariant_of-self : goal.invariant_of-self
invariant_of-self c =
    let at : position (is_named c.args.name.now) c.self.inside.filters.items ≡ Some c.in-Some.place =
    ap (position (is_named c.args.name.now)) (sym c.deref.ensures.value) ∙ sym c.place_of.ensures ∙ c.in-Some.is in
    rw (c.remove.ensures.items) (taken_away c.self.inside.filters.items c.in-Some.place c.args.name.now c.self.invariant at).2

pub returns-in-Some-clause-there : goal.returns-in-Some-clause-there
returns-in-Some-clause-there c =
    let at : position (is_named c.args.name.now) c.self.inside.filters.items ≡ Some c.in-Some.place =
    ap (position (is_named c.args.name.now)) (sym c.deref.ensures.value) ∙ sym c.place_of.ensures ∙ c.in-Some.is in
    sym (taken_away c.self.inside.filters.items c.in-Some.place c.args.name.now c.self.invariant at).0 ∙ ap (has_filter c.args.name.now) c.self.view_is

pub returns-in-Some-clause-removed : goal.returns-in-Some-clause-removed
returns-in-Some-clause-removed c =
    let at : position (is_named c.args.name.now) c.self.inside.filters.items ≡ Some c.in-Some.place =
    ap (position (is_named c.args.name.now)) (sym c.deref.ensures.value) ∙ sym c.place_of.ensures ∙ c.in-Some.is in
    ap (λ filters. record (stream_in c.self.inside) { filters = filters }) c.remove.ensures.items
    ∙ stream_without (stream_in c.self.inside) c.in-Some.place c.args.name.now c.self.invariant at ∙ ap (without_filter c.args.name.now) c.self.view_is

pub returns-in-None-clause-there : goal.returns-in-None-clause-there
returns-in-None-clause-there c =
    let at : position (is_named c.args.name.now) c.self.inside.filters.items ≡ None =
    ap (position (is_named c.args.name.now)) (sym c.deref.ensures.value) ∙ sym c.place_of.ensures ∙ c.in-None.is in
    sym (none_passes (is_named c.args.name.now) c.self.inside.filters.items at) ∙ ap (has_filter c.args.name.now) c.self.view_is

pub returns-in-None-clause-removed : goal.returns-in-None-clause-removed
returns-in-None-clause-removed c =
    let at : position (is_named c.args.name.now) c.self.inside.filters.items ≡ None =
    ap (position (is_named c.args.name.now)) (sym c.deref.ensures.value) ∙ sym c.place_of.ensures ∙ c.in-None.is in
    sym c.self.view_is ∙ stream_with_all (stream_in c.self.inside) c.args.name.now at ∙ ap (without_filter c.args.name.now) c.self.view_is
