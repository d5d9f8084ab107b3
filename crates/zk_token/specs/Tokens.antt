-- The tokens of a script (Zeek manual, Script Reference), each the longest that fits at its place.
use Rattle.std.specs.Prelude.{◌≡◌, ℕ, ◌+◌, ◌&&◌, ◌==◌, nat_lt, if◌then◌else◌, List, [], ◌∷◌, length, drop, Option, Some, None, option_map, Result, Ok, Err}
use Rattle.std.specs.Char.{is_ascii_digit}
use Rattle.zk_tree.specs.declared.token.Token.{Token}
use Rattle.zk_tree.specs.declared.token.TokenKind.{TokenKind}
use Rattle.zk_token.specs.declared.fault.LexFault.{LexFault}
use Rattle.zk_token.specs.declared.fault.LexFault.TheVariants as answer
use Rattle.zk_token.specs.Fault.{Fault, BadByte, OpenString, BigNumber}
use Rattle.zk_token.specs.Numerals.{numeral_at}
use Rattle.zk_token.specs.Signs.{sign_at}
use Rattle.zk_token.specs.Items.{items_from, found_at}
use Rattle.zk_token.specs.Strings.{string_at, string_fault}
use Rattle.zk_token.specs.Words.{separators, begins_name, begins_word, name_at, attribute_at, load_at}

-- The token at the front of a text, and how many bytes it has. A string begins with a quote (34), a load with an
-- `@` (64) and an attribute with an `&` (38) before a name.
abbrev pub token_at : List ℕ → Option (TokenKind × ℕ)
token_at [] = None
token_at (byte ∷ rest) =
    if begins_name byte then name_at (byte ∷ rest)
    else if is_ascii_digit byte then numeral_at (byte ∷ rest)
    else if byte == 34 then string_at rest
    else if byte == 64 then load_at (byte ∷ rest)
    else if byte == 38 && begins_word rest then attribute_at rest
    else sign_at (byte ∷ rest)

-- Why no token stands at the front of a text, which stands at a place. Digits always make a number, but it may be
-- too great.
abbrev pub fault_of : ℕ → List ℕ → Fault
fault_of place [] = BadByte place
fault_of place (byte ∷ rest) =
    if is_ascii_digit byte then BigNumber place
    else if byte == 34 then string_fault place rest
    else BadByte place

-- the place behind the separators that stand from a place on
abbrev pub behind_separators : List ℕ → ℕ → ℕ
behind_separators text place = place + separators (drop place text)

-- the token behind the separators that stand from a place on, and the place behind it
abbrev pub next_token : List ℕ → ℕ → Option (Token × ℕ)
next_token text place =
    let start = behind_separators text place in
    option_map (λ found. (record { kind = found.0; place = start }, found.1)) (found_at token_at text start)

-- what was found, or why nothing was
abbrev pub found_or : {X : Type 0} → Option X → Fault → Result (Option X) Fault
found_or None fault = Err fault
found_or (Some item) fault = Ok (Some item)

-- the token that stands there, why there is none, or nothing where only separators are left
abbrev pub next_or_fault : List ℕ → ℕ → Result (Option (Token × ℕ)) Fault
next_or_fault text place =
    let start = behind_separators text place in
    if nat_lt start (length text) then found_or (next_token text place) (fault_of start (drop start text)) else Ok None

-- these tokens, or why the text goes on at a place where none stands
abbrev pub up_to : List ℕ → List Token → ℕ → Result (List Token) Fault
up_to text tokens place = if nat_lt place (length text) then Err (fault_of place (drop place text)) else Ok tokens

-- the tokens of a text, or the first fault in it
abbrev pub tokens_of : List ℕ → Result (List Token) Fault
tokens_of text =
    let found = items_from (length text) (next_token text) 0 in
    up_to text found.0 (behind_separators text found.1)

-- what was answered is what was wanted, unless memory ran out
abbrev pub UnlessNoMemory : {X : Type 0} → Result X LexFault → Result X Fault → Type 0
UnlessNoMemory (Ok found) wanted = wanted ≡ Ok found
UnlessNoMemory (Err (answer.BadByte place)) wanted = wanted ≡ Err (BadByte place)
UnlessNoMemory (Err (answer.OpenString place)) wanted = wanted ≡ Err (OpenString place)
UnlessNoMemory (Err (answer.BigNumber place)) wanted = wanted ≡ Err (BigNumber place)
UnlessNoMemory (Err answer.NoMemory) wanted = Unit {0}
