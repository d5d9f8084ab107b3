use Rattle.std.proofs.Common.{◌≡◌, ◌≤◌, List, [], ◌∷◌, length, drop, refl, sym, ap, ◌∙◌, arith, inl, inr}
use Rattle.std.proofs.lemmas.List.{drop_all}
use Rattle.zk_tree.specs.Value as plain
use Rattle.zk_typed.specs.Does.{Gives}
use Rattle.zk_typed.specs.Meaning.{set_keys}
use Rattle.zk_typed.specs.State.{State}
use Rattle.zk_value.specs.Plain.{key_of}
use Rattle.zk_machine.specs.State.{state_of}
use Rattle.zk_machine.proofs.Stack.{either}
use Rattle.zk_machine.proofs.state.State.set_keys.Goals as goal

no_key : (names : List Rattle.std.proofs.Common.ℕ) (state : State) → set_keys names (let none : List plain.Value = [] in none) state ≡ Gives tt state
no_key [] state = refl
no_key (name ∷ names) state = refl

pub returns : goal.returns
returns c = λ place.
    let names = c.args.names.now in
    let key = c.args.key.now in
    let i = c.loop-place.place in
    let state = state_of c.loop-place.self in
    sym c.loop-place.invariant ∙ elim (either (length names) i) [
      | inl le ↦ ap (λ ns. set_keys ns (key_of (drop i key)) state) (drop_all i names le)
      | inr lt ↦
          let all : length key ≤ i = omega (arith, lt, c.loop-place-test.false, c.min-place-end.ensures) in
          ap (λ ks. set_keys (drop i names) (key_of ks) state) (drop_all i key all) ∙ no_key (drop i names) state
    ]
