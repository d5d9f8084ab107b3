use Rattle.std.proofs.Common.{◌≡◌, Some, None, is_some, slice_set, sym, ap, ◌∙◌}
use Rattle.std.specs.List.{position}
use Rattle.zk_typed.specs.Log.{Stream}
use Rattle.zk_typed.specs.Logs.{stream_of, with_filter}
use Rattle.zk_streams.specs.Streams.{is_of, changed}
use Rattle.zk_streams.proofs.StreamLemmas.{found_at, not_there, changed_at, changed_none, once-set}
use Rattle.zk_streams.proofs.streams.Streams.add_filter.Goals as goal

pub invariant_of-self-in-Some : goal.invariant_of-self-in-Some
invariant_of-self-in-Some c =
    let at : position (is_of c.args.id) c.self.inside.kept.items ≡ Some c.in-Some.place =
    ap (position (is_of c.args.id)) (sym c.deref.ensures.value) ∙ sym c.place_of.ensures ∙ c.in-Some.is in
    once-set c.args.id c.self.inside.kept.items c.in-Some.place c.index_mut.result.now c.put.new.self c.self.invariant at c.index_mut.ensures.value
    (ap (λ (s : Stream). s.id) c.in_ok-put-in-Some.ensures.ok)

pub returns-in_ok-put-in-Some-clause-there : goal.returns-in_ok-put-in-Some-clause-there
returns-in_ok-put-in-Some-clause-there c =
    let at : position (is_of c.args.id) c.self.inside.kept.items ≡ Some c.in-Some.place =
    ap (position (is_of c.args.id)) (sym c.deref.ensures.value) ∙ sym c.place_of.ensures ∙ c.in-Some.is in
    sym (ap is_some (found_at c.args.id c.self.inside.kept.items c.in-Some.place c.index_mut.result.now at c.index_mut.ensures.value))
    ∙ ap (λ streams. is_some (stream_of c.args.id streams)) c.self.view_is

pub returns-in_ok-put-in-Some-clause-ok : goal.returns-in_ok-put-in-Some-clause-ok
returns-in_ok-put-in-Some-clause-ok c =
    let at : position (is_of c.args.id) c.self.inside.kept.items ≡ Some c.in-Some.place =
    ap (position (is_of c.args.id)) (sym c.deref.ensures.value) ∙ sym c.place_of.ensures ∙ c.in-Some.is in
    ap (slice_set c.self.inside.kept.items c.in-Some.place) c.in_ok-put-in-Some.ensures.ok
    ∙ changed_at c.args.id (with_filter c.args.filter) c.self.inside.kept.items c.in-Some.place c.index_mut.result.now c.self.invariant at c.index_mut.ensures.value
    ∙ ap (changed c.args.id (with_filter c.args.filter)) c.self.view_is

pub returns-in-None-clause-there : goal.returns-in-None-clause-there
returns-in-None-clause-there c =
    let at : position (is_of c.args.id) c.self.inside.kept.items ≡ None =
    ap (position (is_of c.args.id)) (sym c.deref.ensures.value) ∙ sym c.place_of.ensures ∙ c.in-None.is in
    sym (ap is_some (not_there c.args.id c.self.inside.kept.items at)) ∙ ap (λ streams. is_some (stream_of c.args.id streams)) c.self.view_is

pub returns-in-None-clause-ok : goal.returns-in-None-clause-ok
returns-in-None-clause-ok c =
    let at : position (is_of c.args.id) c.self.inside.kept.items ≡ None =
    ap (position (is_of c.args.id)) (sym c.deref.ensures.value) ∙ sym c.place_of.ensures ∙ c.in-None.is in
    sym c.self.view_is ∙ changed_none c.args.id (with_filter c.args.filter) c.self.inside.kept.items at ∙ ap (changed c.args.id (with_filter c.args.filter)) c.self.view_is
