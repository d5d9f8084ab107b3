use Rattle.std.proofs.Common.{◌≡◌, false, take, List, [], ◌∷◌, ◌++◌, ℕ, nat_eq, refl, sym, ap, ◌∙◌, arith}
use Rattle.std.specs.List.{list_any}
use Rattle.std.proofs.lemmas.List.{take_more_set}
use Rattle.zk_conn.proofs.HistoryLemmas.{room_left, is_history-push, added_new}
use Rattle.zk_conn.proofs.history.History.add.Goals as goal

-- the letter isn't among those of the bytes
is_new : (letters shown bytes : List ℕ) (letter : ℕ) → bytes ≡ letters → shown ≡ letters → list_any (λ y. nat_eq y letter) shown ≡ false
    → list_any (λ other. nat_eq other letter) bytes ≡ false
is_new letters shown bytes letter view lent is = ap (list_any (λ y. nat_eq y letter)) (view ∙ sym lent) ∙ is

pub bounds-self-inside-self-inside : goal.bounds-self-inside-self-inside
bounds-self-inside-self-inside c =
    let new = is_new c.args.self.now c.as_bytes.result.now (take c.self.inside.len c.self.inside.bytes) c.args.letter c.self.view_is c.as_bytes.ensures
    (sym c.contains.ensures.value ∙ c.if-not-contains.true) in
    room_left c.self.inside.bytes c.self.inside.len c.args.letter (omega arith) c.self.invariant.letters c.requires new

pub invariant_of-self : goal.invariant_of-self
invariant_of-self c =
    let new = is_new c.args.self.now c.as_bytes.result.now (take c.self.inside.len c.self.inside.bytes) c.args.letter c.self.view_is c.as_bytes.ensures
    (sym c.contains.ensures.value ∙ c.if-not-contains.true) in
    let left = room_left c.self.inside.bytes c.self.inside.len c.args.letter (omega arith) c.self.invariant.letters c.requires new in
    is_history-push c.self.inside.bytes c.self.inside.len c.args.letter (omega (arith, left)) (omega arith) c.self.invariant.letters c.requires new

pub returns-then-not-contains : goal.returns-then-not-contains
returns-then-not-contains c =
    let test = sym c.contains.ensures.value ∙ c.if-not-contains.true in
    let new = is_new c.args.self.now c.as_bytes.result.now (take c.self.inside.len c.self.inside.bytes) c.args.letter c.self.view_is c.as_bytes.ensures test in
    let left = room_left c.self.inside.bytes c.self.inside.len c.args.letter (omega arith) c.self.invariant.letters c.requires new in
    take_more_set c.self.inside.bytes c.self.inside.len c.args.letter (omega (arith, left))
    ∙ ap (λ l. l ++ c.args.letter ∷ []) c.self.view_is
    ∙ added_new c.args.self.now c.args.letter (is_new c.args.self.now c.as_bytes.result.now c.args.self.now c.args.letter refl c.as_bytes.ensures test)
