use Rattle.std.proofs.Common.{◌≡◌, ◌++◌, ◌∷◌, [], true, false, Some, None, is_some, sym, ap, ◌∙◌}
use Rattle.std.specs.Prelude.{is_none}
use Rattle.std.specs.List.{position}
use Rattle.zk_base.specs.declared.numbers.LogId.{LogId}
use Rattle.zk_typed.specs.Log.{Stream}
use Rattle.zk_typed.specs.Logs.{stream_of}
use Rattle.zk_streams.specs.Streams.{is_of, created, created_at}
use Rattle.zk_streams.proofs.StreamLemmas.{is_there, no_place, not_there, once-behind}
use Rattle.zk_streams.proofs.streams.Streams.create.Goals as goal

pub returns-then-is_some-clause-none : goal.returns-then-is_some-clause-none
returns-then-is_some-clause-none c =
    let at : is_some (position (is_of c.args.id) c.self.inside.kept.items) ≡ true =
    ap is_some (ap (position (is_of c.args.id)) (sym c.deref.ensures.value) ∙ sym c.place_of.ensures) ∙ sym c.is_some.ensures ∙ c.if-is_some.true in
    sym (ap is_none (is_there c.args.id c.self.inside.kept.items at).1) ∙ ap (λ streams. is_none (stream_of c.args.id streams)) c.self.view_is

pub returns-then-is_some-clause-ok : goal.returns-then-is_some-clause-ok
returns-then-is_some-clause-ok c =
    let at : is_some (position (is_of c.args.id) c.self.inside.kept.items) ≡ true =
    ap is_some (ap (position (is_of c.args.id)) (sym c.deref.ensures.value) ∙ sym c.place_of.ensures) ∙ sym c.is_some.ensures ∙ c.if-is_some.true in
    sym c.self.view_is ∙ sym (ap (created_at c.args.id c.args.stream c.self.inside.kept.items) (is_there c.args.id c.self.inside.kept.items at).1)
    ∙ ap (created c.args.id c.args.stream) c.self.view_is

pub invariant_of-self-2 : goal.invariant_of-self-2
invariant_of-self-2 c =
    let at : is_some (position (is_of c.args.id) c.self.inside.kept.items) ≡ false =
    ap is_some (ap (position (is_of c.args.id)) (sym c.deref.ensures.value) ∙ sym c.place_of.ensures) ∙ sym c.is_some.ensures ∙ c.if-is_some.false in
    let none : position (is_of c.in_ok-kept.kept.id) c.self.inside.kept.items ≡ None =
    ap (λ (id : LogId). position (is_of id) c.self.inside.kept.items) (ap (λ (s : Stream). s.id) c.in_ok-kept.ensures) ∙ no_place c.args.id c.self.inside.kept.items at in
    rw (c.in_ok-push.ensures.items) (once-behind c.self.inside.kept.items c.in_ok-kept.kept c.self.invariant none)

pub returns-clause-none : goal.returns-clause-none
returns-clause-none c =
    let at : is_some (position (is_of c.args.id) c.self.inside.kept.items) ≡ false =
    ap is_some (ap (position (is_of c.args.id)) (sym c.deref.ensures.value) ∙ sym c.place_of.ensures) ∙ sym c.is_some.ensures ∙ c.if-is_some.false in
    sym (ap is_none (not_there c.args.id c.self.inside.kept.items (no_place c.args.id c.self.inside.kept.items at)))
    ∙ ap (λ streams. is_none (stream_of c.args.id streams)) c.self.view_is

pub returns-clause-ok : goal.returns-clause-ok
returns-clause-ok c =
    let at : is_some (position (is_of c.args.id) c.self.inside.kept.items) ≡ false =
    ap is_some (ap (position (is_of c.args.id)) (sym c.deref.ensures.value) ∙ sym c.place_of.ensures) ∙ sym c.is_some.ensures ∙ c.if-is_some.false in
    c.in_ok-push.ensures.items ∙ ap (λ (kept : Stream). c.self.inside.kept.items ++ kept ∷ []) c.in_ok-kept.ensures
    ∙ sym (ap (created_at c.args.id c.args.stream c.self.inside.kept.items) (not_there c.args.id c.self.inside.kept.items (no_place c.args.id c.self.inside.kept.items at)))
    ∙ ap (created c.args.id c.args.stream) c.self.view_is
