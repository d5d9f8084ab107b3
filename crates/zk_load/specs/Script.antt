-- The tree of a script's text, or why the text is refused.
use Rattle.std.specs.Prelude.{ℕ, nat_lt, if◌then◌else◌, List, length, slice_get, Option, Some, None, Result, Ok, Err}
use Rattle.std.specs.Option.{option_map_or}
use Rattle.zk_base.specs.declared.endings.Ending.TheVariants.{NoInput, ScriptRefused}
use Rattle.zk_base.specs.declared.endings.ScriptKind.{ScriptKind}
use Rattle.zk_base.specs.declared.endings.ScriptKind.TheVariants as kind
use Rattle.zk_tree.specs.declared.decl.Tree.{Tree}
use Rattle.zk_tree.specs.declared.token.Token.{Token}
use Rattle.zk_token.specs.Fault.{Fault}
use Rattle.zk_token.specs.Fault as fault
use Rattle.zk_token.specs.Tokens.{tokens_of}
use Rattle.zk_parse.specs.Trees.{tree_of}
use Rattle.zk_outcome.specs.declared.found.Found.{Found}
use Rattle.zk_outcome.specs.declared.found.Found.TheVariants.{Accepted, Refused}

-- why a text is refused, and at which byte
pub record Refusal : Type 0 where
  pub place : ℕ
  pub kind : ScriptKind

-- the most bytes that a script may have
abbrev pub script_max : ℕ
script_max = 1_048_576

-- a text that has no tokens is refused at its first fault
abbrev pub refusal_of : Fault → Refusal
refusal_of (fault.BadByte place) = record { place = place; kind = kind.BadByte }
refusal_of (fault.OpenString place) = record { place = place; kind = kind.OpenString }
refusal_of (fault.BigNumber place) = record { place = place; kind = kind.BigNumber }

-- the place of a token, by its number
abbrev pub place_of_token : List Token → ℕ → ℕ
place_of_token tokens number = option_map_or (λ token. token.place) (slice_get tokens number) 0

-- the tree of tokens, or the first token from which no declaration reads
abbrev pub tree_by : List Token → Result Tree ℕ → Result Tree Refusal
tree_by tokens (Ok tree) = Ok tree
tree_by tokens (Err at) = Err (record { place = place_of_token tokens at; kind = kind.NoTree })

-- Tokens are judged before the tree.
abbrev pub tree_read : Result (List Token) Fault → Result Tree Refusal
tree_read (Err fault) = Err (refusal_of fault)
tree_read (Ok tokens) = tree_by tokens (tree_of tokens)

abbrev pub script_of : List ℕ → Result Tree Refusal
script_of text =
    if nat_lt script_max (length text)
    then Err (record { place = script_max; kind = kind.TooLarge })
    else tree_read (tokens_of text)

-- the tree that was read from a file, or how a run ends for the refusal of it
abbrev pub accepted : List ℕ → Result Tree Refusal → Found Tree
accepted file (Err refusal) = Refused (ScriptRefused file refusal.place refusal.kind)
accepted file (Ok tree) = Accepted tree

-- the tree of the script in a file with this text, or how a run ends where there is none
abbrev pub script_in : List ℕ → Option (List ℕ) → Found Tree
script_in file None = Refused (NoInput file)
script_in file (Some text) = accepted file (script_of text)
