use Rattle.std.proofs.Common.{ℕ, List, ap, ◌∙◌}
use Rattle.std.specs.HashMap.{get}
use Rattle.std.specs.Str.{bytes_eq}
use Rattle.zk_typed.specs.LogCalls.{one_type}
use Rattle.zk_scope.specs.Streams.{of_log}
use Rattle.zk_scope.proofs.StreamLaws.{type_told}
use Rattle.zk_scope.proofs.log_types.LogTypes.log_type.Goals as goal

pub returns-in-Some : goal.returns-in-Some
returns-in-Some c = λ created kept.
    let word = c.in_ok-word.word in
    type_told (of_log word created) c.in-Some.told.now (get bytes_eq c.args.self.now.by_word word) c.in-Some.ensures.value (kept word) ∙ ap (λ (x : List ℕ). one_type (of_log x created)) c.in_ok-word.ensures
