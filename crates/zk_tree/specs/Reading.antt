-- What it is for tokens to read as a tree.
use Rattle.std.specs.Prelude.{ℕ, zero, suc, ◌<◌, List, [], drop, length}
use Rattle.zk_tree.specs.declared.token.Token.{Token}
use Rattle.zk_tree.specs.declared.decl.Decl.{Decl}
use Rattle.zk_tree.specs.declared.decl.Tree.{Tree}
use Rattle.zk_tree.specs.Rules.{Nest, ADecl, Rule, Repeated, Spells}
use Rattle.zk_tree.specs.Grammar.{node}

abbrev pub NoNodes : (A : Type 0) → Nest A → Rule A
NoNodes A nest x tokens rest = ⊥

-- The nodes of a kind that are nested at most so deep, each itself counted: what tokens, up to a rest of them, spell one.
unfoldable pub Within : ℕ → (A : Type 0) → Nest A → Rule A
Within zero = NoNodes
Within (suc n) = λ A nest. Spells (Within n) (node nest)

-- how deep a declaration may be nested
abbrev pub max_nesting : ℕ
max_nesting = 200

-- a declaration, up to a rest of the tokens
abbrev pub IsDecl : Rule Decl
IsDecl = Within max_nesting Decl ADecl

-- the tokens spell this tree
abbrev pub Reads : List Token → Tree → Type 0
Reads tokens tree = Repeated IsDecl tree.decls tokens []

-- The tokens before this one are whole declarations, and none reads from it.
pub record IsRefusedAt (tokens : List Token) (at : ℕ) : Type 0 where
  pub inside : at < length tokens
  pub before : List Decl
  pub read : Repeated IsDecl before tokens (drop at tokens)
  pub none : (decl : Decl) (rest : List Token) → IsDecl decl (drop at tokens) rest → ⊥
