use Rattle.std.proofs.Common.{◌≡◌, Some, None, sym, ap, ◌∙◌}
use Rattle.std.specs.List.{position}
use Rattle.zk_typed.specs.Log.{Filter}
use Rattle.zk_typed.specs.Logs.{is_named, with_filter}
use Rattle.zk_streams.specs.Kept.{stream_in, HasNamesOnce}
use Rattle.zk_streams.proofs.FilterLemmas.{put_there, put_behind, stream_put, stream_put_behind}
use Rattle.zk_streams.proofs.kept.Kept.put.Goals as goal

pub invariant_of-self : goal.invariant_of-self
invariant_of-self c =
    let name : c.as_slice.result.now ≡ c.args.filter.name = c.as_slice.ensures ∙ ap (λ (f : Filter). f.name) c.filter.view_is in
    let at : position (is_named c.args.filter.name) c.self.inside.filters.items ≡ Some c.in-Some.place =
    ap (λ n. position (is_named n) c.self.inside.filters.items) (sym name) ∙ ap (position (is_named c.as_slice.result.now)) (sym c.deref.ensures.value)
    ∙ sym c.place_of.ensures ∙ c.in-Some.is in
    (put_there c.self.inside.filters.items c.in-Some.place c.args.filter c.self.invariant at).2

pub invariant_of-self-in-None : goal.invariant_of-self-in-None
invariant_of-self-in-None c =
    let name : c.as_slice.result.now ≡ c.args.filter.name = c.as_slice.ensures ∙ ap (λ (f : Filter). f.name) c.filter.view_is in
    let at : position (is_named c.args.filter.name) c.self.inside.filters.items ≡ None =
    ap (λ n. position (is_named n) c.self.inside.filters.items) (sym name) ∙ ap (position (is_named c.as_slice.result.now)) (sym c.deref.ensures.value)
    ∙ sym c.place_of.ensures ∙ c.in-None.is in
    rw (c.in_ok-push-in-None.ensures.items) (put_behind c.self.inside.filters.items c.args.filter c.self.invariant at).1

pub returns-in-Some-clause-ok : goal.returns-in-Some-clause-ok
returns-in-Some-clause-ok c =
    let name : c.as_slice.result.now ≡ c.args.filter.name = c.as_slice.ensures ∙ ap (λ (f : Filter). f.name) c.filter.view_is in
    let at : position (is_named c.args.filter.name) c.self.inside.filters.items ≡ Some c.in-Some.place =
    ap (λ n. position (is_named n) c.self.inside.filters.items) (sym name) ∙ ap (position (is_named c.as_slice.result.now)) (sym c.deref.ensures.value)
    ∙ sym c.place_of.ensures ∙ c.in-Some.is in
    stream_put (stream_in c.self.inside) c.in-Some.place c.args.filter c.self.invariant at ∙ ap (with_filter c.args.filter) c.self.view_is

pub returns-in_ok-push-in-None-clause-ok : goal.returns-in_ok-push-in-None-clause-ok
returns-in_ok-push-in-None-clause-ok c =
    let name : c.as_slice.result.now ≡ c.args.filter.name = c.as_slice.ensures ∙ ap (λ (f : Filter). f.name) c.filter.view_is in
    let at : position (is_named c.args.filter.name) c.self.inside.filters.items ≡ None =
    ap (λ n. position (is_named n) c.self.inside.filters.items) (sym name) ∙ ap (position (is_named c.as_slice.result.now)) (sym c.deref.ensures.value)
    ∙ sym c.place_of.ensures ∙ c.in-None.is in
    ap (λ filters. record (stream_in c.self.inside) { filters = filters }) c.in_ok-push-in-None.ensures.items
    ∙ stream_put_behind (stream_in c.self.inside) c.args.filter c.self.invariant at ∙ ap (with_filter c.args.filter) c.self.view_is
