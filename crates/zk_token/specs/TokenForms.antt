-- What the tokens of a script are (Zeek manual, Script Reference): the forms of separators and of tokens, which
-- take turns in a text, each the longest that fits at its place.
use Rattle.std.specs.Prelude.{◌≡◌, ◌≢◌, ◌⊎◌, ℕ, ◌+◌, ◌*◌, ◌<◌, ◌≤◌, ◌^◌, ◌==◌, false, List, [], ◌∷◌, ◌++◌, length, drop, map, codes, Some, IsTrue, Result, Ok, Err}
use Rattle.std.specs.List.{All, AllPass, flat_map}
use Rattle.std.specs.Char.{is_ascii_digit, is_digit, digit_value}
use Rattle.std.specs.Map.{lookup}
use Rattle.std.specs.Str.Parse.{digits_value}
use Rattle.zk_base.specs.declared.network.Proto.{Proto}
use Rattle.zk_base.specs.declared.network.Proto.TheVariants.{Tcp, Udp}
use Rattle.zk_tree.specs.declared.token.Token.{Token}
use Rattle.zk_tree.specs.declared.token.TokenKind.{TokenKind}
use Rattle.zk_tree.specs.declared.token.TokenKind.TheVariants as token
use Rattle.zk_tree.specs.declared.token.Sign.{Sign}
use Rattle.zk_tree.specs.declared.token.Sign.TheVariants as sign
use Rattle.zk_token.specs.Fault.{Fault, BadByte, OpenString, BigNumber}
use Rattle.zk_token.specs.Numerals.{address_of, prefix_of}
use Rattle.zk_token.specs.Signs.{single_sign, double_sign, goes_on}
use Rattle.zk_token.specs.Strings.{escapes}
use Rattle.zk_token.specs.Words.{begins_name, goes_on_name, is_blank, separates}

-- Separators ------------------------------------------------------------------------------------------------------

-- what stands between tokens
pub data Separator : Type 0 where
  Blank : Separator
  Tab : Separator
  LineFeed : Separator
  CarriageReturnLineFeed : Separator
  Comment : (text : List ℕ) → Separator

-- its bytes: a blank (32), a tab (9), an LF (10), a CR (13) and an LF, or a `#` (35) and a text
abbrev pub separator_bytes : Separator → List ℕ
separator_bytes Blank = 32 ∷ []
separator_bytes Tab = 9 ∷ []
separator_bytes LineFeed = 10 ∷ []
separator_bytes CarriageReturnLineFeed = 13 ∷ 10 ∷ []
separator_bytes (Comment text) = 35 ∷ text

-- No LF stands in a comment. It goes up to an LF or the end of the text, since the longest fits.
abbrev pub IsSeparator : Separator → Type 0
IsSeparator (Comment text) = All (λ byte. byte ≢ 10) text
IsSeparator separator = Unit {0}

-- the bytes are separators, one behind another
abbrev pub AreSeparators : List ℕ → Type 0
AreSeparators bytes = (separators : List Separator) × All IsSeparator separators × (bytes ≡ flat_map separator_bytes separators)

-- Names and loads -------------------------------------------------------------------------------------------------

-- a letter or `_`, and then letters, digits and `_`
abbrev pub IsWord : List ℕ → Type 0
IsWord [] = ⊥
IsWord (first ∷ others) = IsTrue (begins_name first) × AllPass goes_on_name others

-- two words joined by `::` (58, 58)
pub record AreJoined (text : List ℕ) : Type 0 where
  pub module_name : List ℕ
  pub member : List ℕ
  pub first : IsWord module_name
  pub second : IsWord member
  pub whole : text ≡ module_name ++ 58 ∷ 58 ∷ member

abbrev pub IsName : List ℕ → Type 0
IsName text = IsWord text ⊎ AreJoined text

-- no byte of the part separates, in front of what stands behind it
abbrev pub IsUnseparated : List ℕ → List ℕ → Type 0
IsUnseparated [] rest = Unit {0}
IsUnseparated (byte ∷ part) rest = (separates byte (part ++ rest) ≡ false) × IsUnseparated part rest

-- `@load`, blanks, and the name of a file up to the next blank or line end; neither is empty
pub record IsLoad (file text rest : List ℕ) : Type 0 where
  pub blanks : List ℕ
  pub some_blanks : blanks ≢ []
  pub are_blank : AllPass is_blank blanks
  pub some_file : file ≢ []
  pub unseparated : IsUnseparated file rest
  pub whole : text ≡ codes "@load" ++ (blanks ++ file)

-- Numbers, ports, addresses and subnets ---------------------------------------------------------------------------

-- decimal digits, one at least
abbrev pub AreDigits : List ℕ → Type 0
AreDigits text = (text ≢ []) × AllPass is_ascii_digit text

-- digits that make this number
abbrev pub IsNumber : ℕ → List ℕ → Type 0
IsNumber value text = AreDigits text × (value ≡ digits_value 10 text)

-- and it is at most a bound
abbrev pub IsNumberWithin : ℕ → ℕ → List ℕ → Type 0
IsNumberWithin most value text = IsNumber value text × (value ≤ most)

abbrev pub proto_name : Proto → List ℕ
proto_name Tcp = codes "tcp"
proto_name Udp = codes "udp"

-- a number of at most 65535, a slash (47) and a protocol
pub record IsPort (port : ℕ) (proto : Proto) (text : List ℕ) : Type 0 where
  pub digits : List ℕ
  pub number : IsNumberWithin 65535 port digits
  pub whole : text ≡ digits ++ 47 ∷ proto_name proto

-- a part of an address but the last, and the point (46) behind it
pub record IsBeforePoint (part : ℕ) (text : List ℕ) : Type 0 where
  pub digits : List ℕ
  pub number : IsNumberWithin 255 part digits
  pub whole : text ≡ digits ++ 46 ∷ []

-- four numbers of at most 255, joined by points
pub record IsAddress (address : ℕ) (text : List ℕ) : Type 0 where
  pub first : ℕ
  pub second : ℕ
  pub third : ℕ
  pub fourth : ℕ
  pub first_text : List ℕ
  pub second_text : List ℕ
  pub third_text : List ℕ
  pub fourth_text : List ℕ
  pub first_is : IsBeforePoint first first_text
  pub second_is : IsBeforePoint second second_text
  pub third_is : IsBeforePoint third third_text
  pub fourth_is : IsNumberWithin 255 fourth fourth_text
  pub whole : text ≡ first_text ++ (second_text ++ (third_text ++ fourth_text))
  pub value : address ≡ address_of first second third fourth

-- an address, a slash (47) and a width of at most 32; the bits behind the width are cleared
pub record IsSubnet (cleared width : ℕ) (text : List ℕ) : Type 0 where
  pub address : ℕ
  pub address_text : List ℕ
  pub width_text : List ℕ
  pub address_is : IsAddress address address_text
  pub width_is : IsNumberWithin 32 width width_text
  pub whole : text ≡ address_text ++ 47 ∷ width_text
  pub value : cleared ≡ prefix_of address width

-- Strings ---------------------------------------------------------------------------------------------------------

-- a byte of a string: one that stands for itself, a letter behind a backslash, or two hexadecimal digits
pub data SpelledByte : Type 0 where
  Plain : (byte : ℕ) → SpelledByte
  Escape : (letter byte : ℕ) → SpelledByte
  Hexadecimal : (high low : ℕ) → SpelledByte

-- the bytes that spell it: an escape begins with a backslash (92), hexadecimal digits stand behind an x (120)
abbrev pub spelling_of : SpelledByte → List ℕ
spelling_of (Plain byte) = byte ∷ []
spelling_of (Escape letter byte) = 92 ∷ letter ∷ []
spelling_of (Hexadecimal high low) = 92 ∷ 120 ∷ high ∷ low ∷ []

-- the byte that they spell
abbrev pub byte_of : SpelledByte → ℕ
byte_of (Plain byte) = byte
byte_of (Escape letter byte) = byte
byte_of (Hexadecimal high low) = 16 * digit_value high + digit_value low

-- An LF (10), a quote (34) and a backslash (92) don't stand for themselves.
abbrev pub IsSpelledByte : SpelledByte → Type 0
IsSpelledByte (Plain byte) = (byte ≢ 10) × (byte ≢ 34) × (byte ≢ 92)
IsSpelledByte (Escape letter byte) = lookup (λ name. name == letter) escapes ≡ Some byte
IsSpelledByte (Hexadecimal high low) = IsTrue (is_digit high 16) × IsTrue (is_digit low 16)

-- the spelling of a string's bytes, between two quotes
abbrev pub quoted : List SpelledByte → List ℕ
quoted spelled = 34 ∷ (flat_map spelling_of spelled ++ 34 ∷ [])

-- the text is a string of these bytes
abbrev pub IsString : List ℕ → List ℕ → Type 0
IsString bytes text =
    (spelled : List SpelledByte) × All IsSpelledByte spelled × (bytes ≡ map byte_of spelled) × (text ≡ quoted spelled)

-- a byte of a text that may be a string with wrong escapes: one alone, or a backslash and any byte behind it
pub data StringPiece : Type 0 where
  Alone : (byte : ℕ) → StringPiece
  Escaped : (byte : ℕ) → StringPiece

abbrev pub piece_bytes : StringPiece → List ℕ
piece_bytes (Alone byte) = byte ∷ []
piece_bytes (Escaped byte) = 92 ∷ byte ∷ []

-- it goes over no line end, and a quote or a backslash doesn't stand alone
abbrev pub IsStringPiece : StringPiece → Type 0
IsStringPiece (Alone byte) = (byte ≢ 10) × (byte ≢ 34) × (byte ≢ 92)
IsStringPiece (Escaped byte) = byte ≢ 10

-- a quote closes, on its line, the string whose opening quote stands before the text
pub record IsClosed (text : List ℕ) : Type 0 where
  pub pieces : List StringPiece
  pub others : List ℕ
  pub are : All IsStringPiece pieces
  pub whole : text ≡ flat_map piece_bytes pieces ++ 34 ∷ others

-- The forms of tokens ---------------------------------------------------------------------------------------------

-- a sign of one byte, of two, or `!in` where no letter, digit or `_` follows
abbrev pub IsSign : Sign → List ℕ → List ℕ → Type 0
IsSign found [] rest = ⊥
IsSign found (byte ∷ []) rest = single_sign byte ≡ Some found
IsSign found (first ∷ second ∷ []) rest = double_sign first second ≡ Some found
IsSign found (first ∷ second ∷ third ∷ others) rest = (first ∷ second ∷ third ∷ others ≡ codes "!in") × (found ≡ sign.NotIn) × (goes_on rest ≡ false)

-- A part of a text has the form of a token of this kind, where this rest stands behind it. The digits of a number may
-- have any value.
abbrev pub HasForm : TokenKind → List ℕ → List ℕ → Type 0
HasForm (token.Name name) text rest = IsName text × (name ≡ text)
HasForm (token.Number value) text rest = IsNumber value text
HasForm (token.Port port proto) text rest = IsPort port proto text
HasForm (token.Address address) text rest = IsAddress address text
HasForm (token.Subnet cleared width) text rest = IsSubnet cleared width text
HasForm (token.String bytes) text rest = IsString bytes text
HasForm (token.Attribute name) text rest = IsName name × (text ≡ 38 ∷ name)
HasForm (token.Load file) text rest = IsLoad file text rest
HasForm (token.Sign sign) text rest = IsSign sign text rest

-- the part has the form of some token
abbrev pub HasSomeForm : List ℕ → List ℕ → Type 0
HasSomeForm text rest = (kind : TokenKind) × HasForm kind text rest

-- the value of a number is below 2^64
abbrev pub IsInRange : TokenKind → Type 0
IsInRange (token.Number value) = value < 2 ^ 64
IsInRange kind = Unit {0}

-- The tokens of a text --------------------------------------------------------------------------------------------

-- A text is a part that fits and a rest, and no longer part at its front fits.
pub record IsLongest (Fits : List ℕ → List ℕ → Type 0) (text part rest : List ℕ) : Type 0 where
  pub whole : text ≡ part ++ rest
  pub fits : Fits part rest
  pub longest : (longer others : List ℕ) → text ≡ longer ++ others → Fits longer others → length longer ≤ length part

-- the longest separators
abbrev pub AreLongestSeparators : List ℕ → List ℕ → List ℕ → Type 0
AreLongestSeparators text between rest = IsLongest (λ part behind. AreSeparators part) text between rest

-- A text is a token of this kind and a rest. So digits whose value is too great are no token, nor is a part of them.
pub record IsToken (kind : TokenKind) (text part rest : List ℕ) : Type 0 where
  pub longest : IsLongest HasSomeForm text part rest
  pub form : HasForm kind part rest
  pub range : IsInRange kind

-- something is left, and no token stands at its front
pub record BeginsNoToken (text : List ℕ) : Type 0 where
  pub some : text ≢ []
  pub none : (kind : TokenKind) (part rest : List ℕ) → IsToken kind text part rest → ⊥

-- why no token stands at the front of a text that stands at a place
pub data IsFault : ℕ → List ℕ → Fault → Type 0 where
  -- no form begins here; of a quote more is said below
  bad_byte : {place byte : ℕ} {rest : List ℕ} → byte ≢ 34 → ((part others : List ℕ) → byte ∷ rest ≡ part ++ others → HasSomeForm part others → ⊥)
      → IsFault place (byte ∷ rest) (BadByte place)
  -- a quote closes the string, and this backslash begins no escape
  bad_escape : {place : ℕ} {rest others : List ℕ} (spelled : List SpelledByte) → IsClosed rest → All IsSpelledByte spelled
      → rest ≡ flat_map spelling_of spelled ++ 92 ∷ others
      → ((part : SpelledByte) (behind : List ℕ) → IsSpelledByte part → 92 ∷ others ≡ spelling_of part ++ behind → ⊥)
      → IsFault place (34 ∷ rest) (BadByte (place + 1 + length (flat_map spelling_of spelled)))
  -- no quote closes the string on its line
  open_string : {place : ℕ} {rest : List ℕ} → (IsClosed rest → ⊥) → IsFault place (34 ∷ rest) (OpenString place)
  -- the longest form is digits whose number is too great
  big_number : {place : ℕ} {text digits rest : List ℕ} → IsLongest HasSomeForm text digits rest → AreDigits digits
      → 2 ^ 64 ≤ digits_value 10 digits → IsFault place text (BigNumber place)

-- a token in front of the tokens of the rest, or in front of its first fault
abbrev pub before : Token → Result (List Token) Fault → Result (List Token) Fault
before token (Ok tokens) = Ok (token ∷ tokens)
before token (Err fault) = Err fault

-- A text that begins at a place is read as tokens, or up to its first fault.
pub data IsReadFrom : ℕ → List ℕ → Result (List Token) Fault → Type 0 where
  -- only separators are left
  ended : {place : ℕ} {text : List ℕ} → AreSeparators text → IsReadFrom place text (Ok [])
  -- behind the separators something is left that begins no token
  refused : {place : ℕ} {text between rest : List ℕ} {fault : Fault} → AreLongestSeparators text between rest
      → IsFault (place + length between) rest fault → IsReadFrom place text (Err fault)
  -- behind the separators stands a token, and behind it the text is read on
  more : {place : ℕ} {text between rest part others : List ℕ} {kind : TokenKind} {read : Result (List Token) Fault}
      → AreLongestSeparators text between rest → IsToken kind rest part others
      → IsReadFrom (place + length between + length part) others read
      → IsReadFrom place text (before (record { kind = kind; place = place + length between }) read)

-- the tokens of a whole text
abbrev pub AreTokensOf : List ℕ → List Token → Type 0
AreTokensOf text tokens = IsReadFrom 0 text (Ok tokens)

-- the first fault in a whole text, behind tokens
abbrev pub IsFirstFaultOf : List ℕ → Fault → Type 0
IsFirstFaultOf text fault = IsReadFrom 0 text (Err fault)

-- at the place of a token it stands
abbrev pub StandsInText : List ℕ → Token → Type 0
StandsInText text listed = (part : List ℕ) × (rest : List ℕ) × IsToken listed.kind (drop listed.place text) part rest
