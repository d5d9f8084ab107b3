-- Reading by a grammar, from the front.
use Rattle.std.specs.Prelude.{◌≡◌, ℕ, zero, suc, ◌==◌, Bool, true, false, not, ◌&&◌, ◌||◌, if◌then◌else◌, List, [], ◌∷◌, ◌++◌, length, Option, Some, None, Result, Ok, Err}
use Rattle.std.specs.Option.{is_some, option_map}
use Rattle.std.specs.Str.{bytes_eq}
use Rattle.zk_tree.specs.declared.token.Token.{Token}
use Rattle.zk_tree.specs.declared.token.TokenKind.{TokenKind}
use Rattle.zk_tree.specs.declared.token.TokenKind.TheVariants as token
use Rattle.zk_tree.specs.declared.token.Sign.{Sign}
use Rattle.zk_tree.specs.declared.token.Sign.TheVariants as sign
use Rattle.zk_tree.specs.declared.keyword.Mark.{Mark}
use Rattle.zk_tree.specs.declared.keyword.Mark.TheVariants as mark
use Rattle.zk_tree.specs.Marks.{text_of, keyword_of}
use Rattle.zk_tree.specs.Classes.{Class, value_in}
use Rattle.zk_tree.specs.Rules.{Grammar, Alone, OneOf, Of, Nested, Placed, After, Before, Then, Made, Either, Optional, Nearest, Many, Listed, Enclosed, Until, Trailing, Nest, place_of}
use Rattle.zk_tree.specs.Grammar.{node}
use Rattle.std.specs.declared.alloc.Global.{Global}
use denote.Ref.{MutBor}
use Rattle.zk_parse_core.specs.declared.fault.FormFault.{FormFault}
use Rattle.zk_parse_core.specs.declared.fault.FormFault.TheVariants as form

-- Reading on behind what was read: where it was not, nothing behind it is.
infixl 10 ◌>>=◌
abbrev pub ◌>>=◌ : {A B : Type 0} → Option A → (A → Option B) → Option B
(Some x) >>= f = f x
None >>= f = None

-- a value and the tokens behind it
abbrev pub Reader : Type 0 → Type 0
Reader A = List Token → Option (A × List Token)

-- what was returned is what reading gives, and leaves these tokens, unless memory ran out
abbrev pub Gives : {A : Type 0} → Option (A × List Token) → Result A FormFault → List Token → Type 0
Gives read (Ok a) rest = read ≡ Some (a, rest)
Gives read (Err form.NoForm) rest = read ≡ None
Gives read (Err form.NoMemory) rest = Unit {0}

-- what was returned is a value, unless memory ran out
abbrev pub IsValue : {A : Type 0} → Option A → Result A FormFault → Type 0
IsValue value (Ok a) = value ≡ Some a
IsValue value (Err form.NoForm) = value ≡ None
IsValue value (Err form.NoMemory) = Unit {0}

-- ---- tokens

-- a number of its own for each sign
abbrev pub number_of : Sign → ℕ
number_of sign.OpenParenthesis = 0
number_of sign.CloseParenthesis = 1
number_of sign.OpenBracket = 2
number_of sign.CloseBracket = 3
number_of sign.OpenBrace = 4
number_of sign.CloseBrace = 5
number_of sign.Comma = 6
number_of sign.Semicolon = 7
number_of sign.Colon = 8
number_of sign.Question = 9
number_of sign.Dollar = 10
number_of sign.QuestionDollar = 11
number_of sign.Equal = 12
number_of sign.EqualEqual = 13
number_of sign.NotEqual = 14
number_of sign.Less = 15
number_of sign.LessEqual = 16
number_of sign.Greater = 17
number_of sign.GreaterEqual = 18
number_of sign.Plus = 19
number_of sign.Minus = 20
number_of sign.Star = 21
number_of sign.Slash = 22
number_of sign.Percent = 23
number_of sign.Not = 24
number_of sign.NotIn = 25
number_of sign.And = 26
number_of sign.Or = 27
number_of sign.PlusEqual = 28
number_of sign.MinusEqual = 29
number_of sign.PlusPlus = 30
number_of sign.MinusMinus = 31
number_of sign.Bar = 32

abbrev pub is_mark : Mark → TokenKind → Bool
is_mark (mark.Sign wanted) (token.Sign found) = number_of found == number_of wanted
is_mark (mark.Word wanted) (token.Name name) = bytes_eq name (text_of wanted)
is_mark m kind = false

-- a mark begins the tokens
abbrev pub begins : Mark → List Token → Bool
begins m [] = false
begins m (first ∷ rest) = is_mark m first.kind

-- the tokens behind the first
abbrev pub behind : List Token → List Token
behind [] = []
behind (first ∷ rest) = rest

-- a mark
unfoldable pub mark_at : Mark → Reader (Unit {0})
mark_at m tokens = if begins m tokens then Some (tt, behind tokens) else None

-- the sign or the reserved word that a token is
abbrev pub mark_in : TokenKind → Option Mark
mark_in (token.Sign found) = Some (mark.Sign found)
mark_in (token.Name name) = option_map (λ found. mark.Word found) (keyword_of name)
mark_in kind = None

-- the sign or the reserved word that begins the tokens
abbrev pub first_mark : List Token → Option Mark
first_mark [] = None
first_mark (first ∷ rest) = mark_in first.kind

-- what the first token stands for
abbrev pub meant_at : {A : Type 0} → (Mark → Option A) → List Token → Option A
meant_at meant tokens = first_mark tokens >>= meant

-- the value of the first token
abbrev pub value_at : {A : Type 0} → Class A → List Token → Option A
value_at class [] = None
value_at class (first ∷ rest) = value_in class first.kind

-- ---- one after another

-- for as long as the tokens go on, n at most
unfoldable pub repeated : {A : Type 0} → (List Token → Bool) → Reader A → ℕ → Reader (List A)
repeated goes_on read zero tokens = if goes_on tokens then None else Some ([], tokens)
repeated goes_on read (suc n) tokens =
    if goes_on tokens then (do
      first ← read tokens
      others ← repeated goes_on read n first.1
      Some (first.0 ∷ others.0, others.1)) else Some ([], tokens)

-- a separator stands there, and not with the end behind it
abbrev pub goes_past : Mark → Mark → List Token → Bool
goes_past separator m tokens = begins separator tokens && not (begins m (behind tokens))

-- behind a separator
abbrev pub separated : {A : Type 0} → Mark → Reader A → Reader A
separated separator read tokens = do
  next ← mark_at separator tokens
  read next.1

-- the end, and whether a separator stands before it
abbrev pub ends_at : Mark → Mark → Reader Bool
ends_at separator m tokens =
    if begins separator tokens then (do
      next ← mark_at separator tokens
      last ← mark_at m next.1
      Some (true, last.1)) else (do
        last ← mark_at m tokens
        Some (false, last.1))

-- what was read before, and what is still read
abbrev pub with_front : {A : Type 0} → List A → Option (List A × List Token) → Option (List A × List Token)
with_front front read = read >>= λ x. Some (front ++ x.0, x.1)

-- one or more, with a separator between each and the next
unfoldable pub listed_at : {A : Type 0} → Mark → Reader A → Reader (List A)
listed_at separator one tokens = do
  first ← one tokens
  with_front (first.0 ∷ []) (repeated (begins separator) (separated separator one) (length first.1) first.1)

-- any number between two marks, with a separator between each and the next
unfoldable pub enclosed_at : {A : Type 0} → Mark → Mark → Mark → Reader A → Reader (List A)
enclosed_at opening separator closing one tokens = do
  next ← mark_at opening tokens
  if begins closing next.1 then (do
    last ← mark_at closing next.1
    Some ([], last.1)) else (do
      all ← listed_at separator one next.1
      last ← mark_at closing all.1
      Some (all.0, last.1))

-- any number up to a mark
unfoldable pub until_at : {A : Type 0} → Mark → Reader A → Reader (List A)
until_at m one tokens = do
  all ← repeated (λ rest. not (begins m rest)) one (length tokens) tokens
  last ← mark_at m all.1
  Some (all.0, last.1)

-- one or more with a separator between each and the next, and maybe one behind the last, up to a mark
unfoldable pub trailing_at : {A : Type 0} → Mark → Mark → Reader A → Reader (List A × Bool)
trailing_at separator m one tokens = do
  first ← one tokens
  all ← with_front (first.0 ∷ []) (repeated (goes_past separator m) (separated separator one) (length first.1) first.1)
  end ← ends_at separator m all.1
  Some ((all.0, end.0), end.1)

-- ---- grammars

-- A value of this grammar begins the tokens, if any does. It is asked only of grammars that begin with tokens of their own.
abbrev pub opens : {A : Type 0} → Grammar A → List Token → Bool
opens (Alone m) tokens = begins m tokens
opens (OneOf meant) tokens = is_some (meant_at meant tokens)
opens (Of class) tokens = is_some (value_at class tokens)
opens (Nested nest) tokens = false
opens (Placed g) tokens = opens g tokens
opens (After m g) tokens = begins m tokens
opens (Before g m) tokens = opens g tokens
opens (Then g h) tokens = opens g tokens
opens (Made make g) tokens = opens g tokens
opens (Either g h) tokens = opens g tokens || opens h tokens
opens (Optional g h) tokens = opens g tokens
opens (Nearest g m h) tokens = opens g tokens
opens (Many g h) tokens = opens g tokens
opens (Listed g separator) tokens = opens g tokens
opens (Enclosed opening g separator closing) tokens = begins opening tokens
opens (Until g m) tokens = false
opens (Trailing g separator m) tokens = opens g tokens

-- reading by a grammar, where the nodes that nest in it are read so
module _ (inner : (A : Type 0) → Nest A → Reader A) where
  abbrev pub read : {A : Type 0} → Grammar A → Reader A
  read (Alone m) tokens = mark_at m tokens
  read (OneOf meant) tokens = do
    a ← meant_at meant tokens
    Some (a, behind tokens)
  read (Of class) tokens = do
    a ← value_at class tokens
    Some (a, behind tokens)
  read (Nested nest) tokens = inner _ nest tokens
  read (Placed g) tokens = do
    a ← read g tokens
    Some ((place_of tokens, a.0), a.1)
  read (After m g) tokens = separated m (read g) tokens
  read (Before g m) tokens = do
    a ← read g tokens
    last ← mark_at m a.1
    Some (a.0, last.1)
  read (Then g h) tokens = do
    a ← read g tokens
    b ← read h a.1
    Some ((a.0, b.0), b.1)
  read (Made make g) tokens = do
    a ← read g tokens
    Some (make a.0, a.1)
  read (Either g h) tokens = if opens g tokens then read g tokens else read h tokens
  read (Optional g h) tokens = do
    a ← read g tokens
    if opens h a.1 then (do
      b ← read h a.1
      Some ((a.0, Some b.0), b.1)) else Some ((a.0, None), a.1)
  read (Nearest g m h) tokens = do
    a ← read g tokens
    if begins m a.1 then (do
      b ← separated m (read h) a.1
      Some ((a.0, Some b.0), b.1)) else Some ((a.0, None), a.1)
  read (Many g h) tokens = do
    a ← read g tokens
    more ← repeated (opens h) (read h) (length a.1) a.1
    Some ((a.0, more.0), more.1)
  read (Listed g separator) tokens = listed_at separator (read g) tokens
  read (Enclosed opening g separator closing) tokens = enclosed_at opening separator closing (read g) tokens
  read (Until g m) tokens = until_at m (read g) tokens
  read (Trailing g separator m) tokens = trailing_at separator m (read g) tokens

abbrev pub unread : (A : Type 0) → Nest A → Reader A
unread A nest tokens = None

-- a node of a kind that is nested at most so deep, itself counted
unfoldable pub within : ℕ → (A : Type 0) → Nest A → Reader A
within zero = unread
within (suc n) = λ A nest. read (within n) (node nest)

-- ---- functions that read

-- a function value reads nodes of a kind that are nested at most so deep
pub record NestsOf {A : Type 0} (nest : Nest A) (depth : ℕ) (pre : Global → MutBor (List Token) → ℕ → Type 0)
    (post : Global → MutBor (List Token) → ℕ → Result A FormFault → MutBor (List Token) → Type 0) : Type 0 where
  pub callable : (alloc : Global) (old : MutBor (List Token)) → pre alloc old depth
  pub gives : (alloc : Global) (old new : MutBor (List Token)) (result : Result A FormFault) → post alloc old depth result new
      → Gives (within depth A nest old.now) result new.now
