-- The streams that calls of the log framework leave.
use Rattle.std.proofs.Common.{◌≡◌, ◌==◌, ℕ, cond, Bool, true, false, List, [], ◌∷◌, Option, Some, None, is_some, is_none, refl, sym, ap, ◌∙◌, arith, inl, inr}
use Rattle.std.specs.Option.{option_map}
use Rattle.std.proofs.lemmas.Bool.{cases_Bool, cond-true, cond-false}
use Rattle.std.proofs.lemmas.Bool.Decides.{nat_tests}
use Rattle.std.proofs.lemmas.Option.{none-some, same_Some}
use Rattle.zk_base.specs.declared.numbers.LogId.{LogId}
use Rattle.zk_tree.specs.Value as plain
use Rattle.zk_typed.specs.Does.{Gives}
use Rattle.zk_typed.specs.Log.{Stream, Filter}
use Rattle.zk_typed.specs.Logs.{create, add_filter, remove_filter, stream_of, with_filter, without_filter}
use Rattle.zk_typed.specs.State.{State, with_streams}
use Rattle.zk_streams.specs.declared.kept.LogStream.{LogStream}
use Rattle.zk_streams.specs.Streams.{changed, created_at, stream_from, has_in, log_stream_in, filters_in, filters_of}

abbrev pub streaming : List Stream → State → State
streaming streams state = record state { world = with_streams streams state.world }

-- where a log has no stream none is changed
changed-none : (id : LogId) (change : Stream → Stream) (streams : List Stream) → stream_of id streams ≡ None → changed id change streams ≡ streams
changed-none id change [] none = refl
changed-none id change (one ∷ streams) none =
    elim (one.id.0 == id.0) as (λ (test : Bool). cond test (Some one) (stream_of id streams) ≡ None → cond test (change one) one ∷ changed id change streams ≡ one ∷ streams) [
      | true ↦ λ none. absurd (none-some one (sym none))
      | false ↦ λ none. ap (λ others. one ∷ others) (changed-none id change streams none)
    ] none

pub created-gives : (id : LogId) (stream : LogStream) (state : State) (there : Option Stream) (new : List Stream) (made : Bool)
    → made ≡ is_none there → new ≡ created_at id stream state.world.streams there
    → create (stream_from id stream) there state ≡ Gives (plain.Bool made) (streaming new state)
created-gives id stream state (Some one) new made is becomes =
    ap (λ truth. Gives (plain.Bool truth) state) (sym is) ∙ ap (λ streams. Gives (plain.Bool made) (streaming streams state)) (sym becomes)
created-gives id stream state None new made is becomes =
    ap (λ truth. Gives (plain.Bool truth) (streaming (created_at id stream state.world.streams None) state)) (sym is) ∙ ap (λ streams. Gives (plain.Bool made) (streaming streams state)) (sym becomes)

pub added-gives : (id : LogId) (filter : Filter) (state : State) (there : Option Stream) (new : List Stream) (added : Bool) → stream_of id state.world.streams ≡ there
    → added ≡ is_some there → new ≡ changed id (with_filter filter) state.world.streams
    → add_filter id filter there state ≡ Gives (plain.Bool added) (streaming new state)
added-gives id filter state (Some one) new added here is becomes =
    ap (λ truth. Gives (plain.Bool truth) (streaming (changed id (with_filter filter) state.world.streams) state)) (sym is) ∙ ap (λ streams. Gives (plain.Bool added) (streaming streams state)) (sym becomes)
added-gives id filter state None new added here is becomes =
    ap (λ truth. Gives (plain.Bool truth) state) (sym is) ∙ ap (λ streams. Gives (plain.Bool added) (streaming streams state)) (sym (becomes ∙ changed-none id (with_filter filter) state.world.streams here))

pub removed-gives : (id : LogId) (name : List ℕ) (state : State) (there : Option Stream) (new : List Stream) (removed : Bool) → stream_of id state.world.streams ≡ there
    → removed ≡ has_in name there → new ≡ changed id (without_filter name) state.world.streams
    → remove_filter id name there state ≡ Gives (plain.Bool removed) (streaming new state)
removed-gives id name state (Some one) new removed here is becomes =
    ap (λ truth. Gives (plain.Bool truth) (streaming (changed id (without_filter name) state.world.streams) state)) (sym is) ∙ ap (λ streams. Gives (plain.Bool removed) (streaming streams state)) (sym becomes)
removed-gives id name state None new removed here is becomes =
    ap (λ truth. Gives (plain.Bool truth) state) (sym is) ∙ ap (λ streams. Gives (plain.Bool removed) (streaming streams state)) (sym (becomes ∙ changed-none id (without_filter name) state.world.streams here))

-- a stream that is found is that of the log
stream_id : (log : LogId) (streams : List Stream) (one : Stream) → stream_of log streams ≡ Some one → one.id ≡ log
stream_id log [] one there = absurd (none-some one there)
stream_id log (first ∷ streams) one there =
    elim (cases_Bool (first.id.0 == log.0)) [
      | inl met ↦
          let is : first ≡ one = same_Some first one (sym (cond-true (first.id.0 == log.0) (Some first) (stream_of log streams) met) ∙ there) in
          let number : first.id.0 ≡ log.0 = grind (arith, nat_tests) in
          ap (λ (s : Stream). s.id) (sym is) ∙ ap (λ (n : ℕ). record { 0 = n }) number
      | inr not ↦ stream_id log streams one (sym (cond-false (first.id.0 == log.0) (Some first) (stream_of log streams) not) ∙ there)
    ]

whole : (log : LogId) (there : Option Stream) (stream : LogStream) (filters : List Filter) → ((one : Stream) → there ≡ Some one → one.id ≡ log)
    → option_map log_stream_in there ≡ Some stream → filters ≡ filters_in there
    → there ≡ Some (record { id = log; event = stream.event; path = stream.path; policy = stream.policy; columns = stream.columns; filters = filters })
whole log None stream filters named is all = absurd (none-some stream is)
whole log (Some one) stream filters named is all =
    let same : log_stream_in one ≡ stream = same_Some (log_stream_in one) stream is in
    ap (λ (id : LogId). Some (record one { id = id })) (named one refl)
    ∙ (ap (λ (fs : List Filter). Some (record one { id = log; filters = fs })) (sym all)
    ∙ ap (λ (s : LogStream). Some (record { id = log; event = s.event; path = s.path; policy = s.policy; columns = s.columns; filters = filters })) same)

-- a stream with its filters
pub stream_is : (log : LogId) (streams : List Stream) (stream : LogStream) (filters : List Filter)
    → option_map log_stream_in (stream_of log streams) ≡ Some stream → filters ≡ filters_of log streams
    → stream_of log streams ≡ Some (record { id = log; event = stream.event; path = stream.path; policy = stream.policy; columns = stream.columns; filters = filters })
stream_is log streams stream filters is all = whole log (stream_of log streams) stream filters (stream_id log streams) is all
