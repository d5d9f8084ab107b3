-- Signs at the front of a text (Zeek manual, Operators).
use Rattle.std.specs.Prelude.{ℕ, Bool, false, not, ◌&&◌, ◌==◌, if◌then◌else◌, List, [], ◌∷◌, Option, Some, None, option_map}
use Rattle.std.specs.Option.{option_or}
use Rattle.std.specs.Map.{lookup}
use Rattle.zk_tree.specs.declared.token.TokenKind.{TokenKind}
use Rattle.zk_tree.specs.declared.token.TokenKind.TheVariants as token
use Rattle.zk_tree.specs.declared.token.Sign.{Sign}
use Rattle.zk_tree.specs.declared.token.Sign.TheVariants as sign
use Rattle.zk_token.specs.Words.{goes_on_name}

-- the signs of one byte: ( ) [ ] { } , ; : ? $ = < > + - * / % ! |
abbrev pub single_signs : List (ℕ × Sign)
single_signs =
    (40, sign.OpenParenthesis) ∷ (41, sign.CloseParenthesis) ∷ (91, sign.OpenBracket) ∷ (93, sign.CloseBracket)
    ∷ (123, sign.OpenBrace) ∷ (125, sign.CloseBrace) ∷ (44, sign.Comma) ∷ (59, sign.Semicolon) ∷ (58, sign.Colon)
    ∷ (63, sign.Question) ∷ (36, sign.Dollar) ∷ (61, sign.Equal) ∷ (60, sign.Less) ∷ (62, sign.Greater)
    ∷ (43, sign.Plus) ∷ (45, sign.Minus) ∷ (42, sign.Star) ∷ (47, sign.Slash) ∷ (37, sign.Percent)
    ∷ (33, sign.Not) ∷ (124, sign.Bar) ∷ []

-- the signs of two bytes: ?$ == != <= >= && || += -= ++ --
abbrev pub double_signs : List ((ℕ × ℕ) × Sign)
double_signs =
    ((63, 36), sign.QuestionDollar) ∷ ((61, 61), sign.EqualEqual) ∷ ((33, 61), sign.NotEqual) ∷ ((60, 61), sign.LessEqual)
    ∷ ((62, 61), sign.GreaterEqual) ∷ ((38, 38), sign.And) ∷ ((124, 124), sign.Or) ∷ ((43, 61), sign.PlusEqual)
    ∷ ((45, 61), sign.MinusEqual) ∷ ((43, 43), sign.PlusPlus) ∷ ((45, 45), sign.MinusMinus) ∷ []

abbrev pub single_sign : ℕ → Option Sign
single_sign byte = lookup (λ code. code == byte) single_signs

abbrev pub double_sign : ℕ → ℕ → Option Sign
double_sign first second = lookup (λ codes. codes.0 == first && codes.1 == second) double_signs

-- a letter, a digit or `_` begins the text
abbrev pub goes_on : List ℕ → Bool
goes_on [] = false
goes_on (byte ∷ rest) = goes_on_name byte

-- `!in` (33, 105, 110) begins the text, and no name goes on behind it
abbrev pub is_not_in : List ℕ → Bool
is_not_in [] = false
is_not_in (first ∷ []) = false
is_not_in (first ∷ second ∷ []) = false
is_not_in (first ∷ second ∷ third ∷ rest) = first == 33 && second == 105 && third == 110 && not (goes_on rest)

-- the sign of two bytes at the front of a text, if there is one
abbrev pub double_at : List ℕ → Option Sign
double_at [] = None
double_at (first ∷ []) = None
double_at (first ∷ second ∷ rest) = double_sign first second

-- and of one byte
abbrev pub single_at : List ℕ → Option Sign
single_at [] = None
single_at (byte ∷ rest) = single_sign byte

-- the longest sign at the front of a text, and its length
abbrev pub sign_at : List ℕ → Option (TokenKind × ℕ)
sign_at text =
    if is_not_in text then Some (token.Sign sign.NotIn, 3)
    else option_or (option_map (λ found. (token.Sign found, 2)) (double_at text)) (option_map (λ found. (token.Sign found, 1)) (single_at text))
