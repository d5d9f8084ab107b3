-- Tokens as a tree: the declarations that are read from the front, one after another.
use Rattle.std.specs.Prelude.{◌≡◌, ℕ, zero, suc, ◌-◌, ◌<◌, List, [], ◌∷◌, length, drop, Option, Some, None, Result, Ok, Err}
use Rattle.zk_tree.specs.declared.token.Token.{Token}
use Rattle.zk_tree.specs.declared.decl.Decl.{Decl}
use Rattle.zk_tree.specs.declared.decl.Tree.{Tree}
use Rattle.zk_tree.specs.Rules.{ADecl, Repeated}
use Rattle.zk_tree.specs.Reading.{max_nesting, IsDecl}
use Rattle.zk_parse_core.specs.Reading.{Reader, within}
use Rattle.zk_parse.specs.declared.fault.ParseFault.{ParseFault}
use Rattle.zk_parse.specs.declared.fault.ParseFault.TheVariants.{NoTree, NoMemory}
use Rattle.zk_parse.specs.declared.parsing.Front.{Front}

-- a declaration
unfoldable pub decl_at : Reader Decl
decl_at tokens = within max_nesting Decl ADecl tokens

abbrev pub with_first : Decl → Front → Front
with_first first others = record { decls = first ∷ others.decls; stop = others.stop }

-- no declaration reads from a token, which is numbered from the front of `all` tokens
abbrev pub stopped : ℕ → List Token → Front
stopped all tokens = record { decls = []; stop = Some (all - length tokens) }

-- n declarations at most, from the front
unfoldable pub front_from : ℕ → ℕ → List Token → Front
front_from n all [] = record { decls = []; stop = None }
front_from zero all (token ∷ tokens) = stopped all (token ∷ tokens)
front_from (suc n) all (token ∷ tokens) = elim (decl_at (token ∷ tokens)) [
  | None ↦ stopped all (token ∷ tokens)
  | Some read ↦ with_first read.0 (front_from n all read.1)
]

-- the declarations from the front, and the number of the token at which one should begin and none reads
unfoldable pub front_of : List Token → Front
front_of tokens = front_from (length tokens) (length tokens) tokens

-- The tokens before one spell these declarations, and none reads from it.
pub record IsStopped (tokens : List Token) (decls : List Decl) (at : ℕ) : Type 0 where
  pub inside : at < length tokens
  pub read : Repeated IsDecl decls tokens (drop at tokens)
  pub none : (decl : Decl) (rest : List Token) → IsDecl decl (drop at tokens) rest → ⊥

abbrev pub whole : List Decl → Option ℕ → Result Tree ℕ
whole decls None = Ok (record { decls = decls })
whole decls (Some at) = Err at

-- the tree of a token list, or the number of the token at which a declaration should begin and none reads
abbrev pub tree_of : List Token → Result Tree ℕ
tree_of tokens = whole (front_of tokens).decls (front_of tokens).stop

-- what was answered is the tree, or the token that is named, unless memory ran out
abbrev pub UnlessNoMemory : Result Tree ParseFault → Result Tree ℕ → Type 0
UnlessNoMemory (Ok tree) wanted = wanted ≡ Ok tree
UnlessNoMemory (Err (NoTree at)) wanted = wanted ≡ Err at
UnlessNoMemory (Err NoMemory) wanted = Unit {0}
