use Rattle.std.proofs.Common.{◌≡◌, Some, None, slice_set, sym, ap, ◌∙◌}
use Rattle.std.specs.List.{position}
use Rattle.zk_typed.specs.Log.{Stream}
use Rattle.zk_typed.specs.Logs.{stream_of, without_filter}
use Rattle.zk_streams.specs.Streams.{is_of, changed, has_at, has_in}
use Rattle.zk_streams.proofs.StreamLemmas.{found_at, not_there, changed_at, changed_none, once-set}
use Rattle.zk_streams.proofs.streams.Streams.remove_filter.Goals as goal

pub invariant_of-self : goal.invariant_of-self
invariant_of-self c =
    let at : position (is_of c.args.id) c.self.inside.kept.items ≡ Some c.in-Some.place =
    ap (position (is_of c.args.id)) (sym c.deref.ensures.value) ∙ sym c.place_of.ensures ∙ c.in-Some.is in
    once-set c.args.id c.self.inside.kept.items c.in-Some.place c.index_mut.result.now c.remove.new.self c.self.invariant at c.index_mut.ensures.value
    (ap (λ (s : Stream). s.id) c.remove.ensures.removed)

pub returns-in-Some-clause-there : goal.returns-in-Some-clause-there
returns-in-Some-clause-there c =
    let at : position (is_of c.args.id) c.self.inside.kept.items ≡ Some c.in-Some.place =
    ap (position (is_of c.args.id)) (sym c.deref.ensures.value) ∙ sym c.place_of.ensures ∙ c.in-Some.is in
    c.remove.ensures.there
    ∙ sym (ap (has_in c.args.name.now) (found_at c.args.id c.self.inside.kept.items c.in-Some.place c.index_mut.result.now at c.index_mut.ensures.value))
    ∙ ap (has_at c.args.id c.args.name.now) c.self.view_is

pub returns-in-Some-clause-removed : goal.returns-in-Some-clause-removed
returns-in-Some-clause-removed c =
    let at : position (is_of c.args.id) c.self.inside.kept.items ≡ Some c.in-Some.place =
    ap (position (is_of c.args.id)) (sym c.deref.ensures.value) ∙ sym c.place_of.ensures ∙ c.in-Some.is in
    ap (slice_set c.self.inside.kept.items c.in-Some.place) c.remove.ensures.removed
    ∙ changed_at c.args.id (without_filter c.args.name.now) c.self.inside.kept.items c.in-Some.place c.index_mut.result.now c.self.invariant at c.index_mut.ensures.value
    ∙ ap (changed c.args.id (without_filter c.args.name.now)) c.self.view_is

pub returns-in-None-clause-there : goal.returns-in-None-clause-there
returns-in-None-clause-there c =
    let at : position (is_of c.args.id) c.self.inside.kept.items ≡ None =
    ap (position (is_of c.args.id)) (sym c.deref.ensures.value) ∙ sym c.place_of.ensures ∙ c.in-None.is in
    sym (ap (has_in c.args.name.now) (not_there c.args.id c.self.inside.kept.items at)) ∙ ap (has_at c.args.id c.args.name.now) c.self.view_is

pub returns-in-None-clause-removed : goal.returns-in-None-clause-removed
returns-in-None-clause-removed c =
    let at : position (is_of c.args.id) c.self.inside.kept.items ≡ None =
    ap (position (is_of c.args.id)) (sym c.deref.ensures.value) ∙ sym c.place_of.ensures ∙ c.in-None.is in
    sym c.self.view_is ∙ changed_none c.args.id (without_filter c.args.name.now) c.self.inside.kept.items at ∙ ap (changed c.args.id (without_filter c.args.name.now)) c.self.view_is
