use Rattle.std.proofs.Common.{Option, ℕ, length, ap, ◌∙◌}
use Rattle.std.specs.Option.{unwrap_or}
use Rattle.zk_scope.proofs.PlaceLaws.{counted}
use Rattle.zk_scope.proofs.first_places.FirstPlaces.number.Goals as goal

pub returns-in-Some : goal.returns-in-Some
returns-in-Some g c = λ keys stands.
    ap (λ (place : Option ℕ). unwrap_or place (length keys)) (c.in-Some.ensures.value ∙ stands.1 c.args.key.now) ∙ counted (λ other. g.K.PartialEq.eq other c.args.key.now) keys

pub returns-in-None : goal.returns-in-None
returns-in-None g c = λ keys stands.
    stands.0 ∙ ap (λ (place : Option ℕ). unwrap_or place (length keys)) (c.in-None.ensures.value ∙ stands.1 c.args.key.now) ∙ counted (λ other. g.K.PartialEq.eq other c.args.key.now) keys
