use Rattle.std.proofs.Common.{◌≡◌, ◌∷◌, ℕ, List, ap, subst, ◌∙◌}
use Rattle.std.specs.HashMap.{get}
use Rattle.std.specs.Str.{bytes_eq}
use Rattle.zk_scope.specs.Streams.{of_log, so_far, with_stream}
use Rattle.zk_scope.proofs.StreamLaws.{types_more}
use Rattle.zk_scope.proofs.log_types.LogTypes.add.Goals as goal

pub returns : goal.returns
returns c = λ created kept.
    subst (λ (key : List ℕ). (word : List ℕ) → get bytes_eq c.insert.new.self word ≡ so_far (of_log word ((key, c.args.one.now.columns) ∷ created))) (c.in_ok-word.ensures ∙ c.deref.ensures.value)
    (types_more created c.in_ok-word.word c.args.one.now.columns c.with_stream-told.result (get bytes_eq c.args.self.now.by_word) (get bytes_eq c.insert.new.self) kept
    (c.with_stream-told.ensures ∙ ap (with_stream c.args.one.now.columns) (c.copied.ensures ∙ c.get.ensures.value)) c.in_ok-insert.ensures.updates.0)
