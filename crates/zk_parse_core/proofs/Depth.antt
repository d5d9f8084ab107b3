-- Nodes one level deeper.
use Rattle.std.proofs.Common.{◌≡◌, ℕ, suc, ◌-◌, ◌<◌, List, None, ap, arith}
use Rattle.zk_tree.specs.declared.token.Token.{Token}
use Rattle.zk_tree.specs.Rules.{Nest}
use Rattle.zk_tree.specs.Grammar.{node}
use Rattle.zk_parse_core.specs.Reading.{read, within}

-- nothing is nested so little
pub not_within : {A : Type 0} (nest : Nest A) (n : ℕ) (tokens : List Token) → n ≡ 0 → within n A nest tokens ≡ None
unfolding within
not_within {A} nest n tokens e = ap (λ k. within k A nest tokens) e

-- a node is read as its grammar says, with nodes in it that are nested one less deep
pub within_less : {A : Type 0} (nest : Nest A) (n : ℕ) (tokens : List Token) → 0 < n → within n A nest tokens ≡ read (within (n - 1)) (node nest) tokens
unfolding within
within_less {A} nest n tokens more =
    let same : n ≡ suc (n - 1) = omega arith in ap (λ k. within k A nest tokens) same
