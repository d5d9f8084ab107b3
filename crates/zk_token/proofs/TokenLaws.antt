-- A text is read as its tokens or up to its first fault, and in no other way.
use Rattle.std.proofs.Common.{◌≡◌, ◌≢◌, ◌↔◌, ℕ, ◌+◌, ◌-◌, ◌<◌, ◌≤◌, true, false, nat_lt, cond, List, [], ◌∷◌, length, take, drop, Option, Some, None, Result, Ok, Err, refl, sym, ap, subst, ◌∙◌, arith, length-append, length-drop}
use Rattle.std.specs.List.{All}
use Rattle.std.specs.Option.{option_map, ok_or}
use Rattle.std.proofs.lemmas.Bool.{lt-ltb, ltb-true, ltb-false}
use Rattle.std.proofs.lemmas.List.{append-nil, drop-drop, drop_all, length-take-le, take-append-drop, take_all}
use Rattle.std.proofs.lemmas.List.Elements.{All-nil, All-cons}
use Rattle.std.proofs.Math.Seq.{drop-append_seam}
use Rattle.zk_tree.specs.declared.token.Token.{Token}
use Rattle.zk_tree.specs.declared.token.TokenKind.{TokenKind}
use Rattle.zk_tree.specs.declared.token.TokenKind.TheVariants as token
use Rattle.zk_token.specs.declared.fault.LexFault.{LexFault}
use Rattle.zk_token.specs.declared.fault.LexFault.TheVariants as answer
use Rattle.zk_token.specs.Fault.{Fault, BadByte, OpenString, BigNumber}
use Rattle.zk_token.specs.Numerals.{begins_digit, is_in_range, ranged, numeral_form}
use Rattle.zk_token.specs.Items.{items_from, StandBetween}
use Rattle.zk_token.specs.Tokens.{token_at, fault_of, behind_separators, next_token, found_or, next_or_fault, up_to, tokens_of, UnlessNoMemory}
use Rattle.zk_token.specs.TokenForms.{AreSeparators, HasForm, AreLongestSeparators, IsToken, BeginsNoToken, IsFault, before, IsReadFrom, ended, refused, more, AreTokensOf, StandsInText}
use Rattle.zk_token.specs.Words.{separators}
use Rattle.zk_token.proofs.FaultLaws.{told, one_fault, none_where_fault}
use Rattle.zk_token.proofs.FormLaws.{token_found, token_at-token, begins_none}
use Rattle.zk_token.proofs.FrontLaws.{same_front, same_longest}
use Rattle.zk_token.proofs.ItemLaws.{items_from-stand, items_from-stands, items_from-none, rest_whole}
use Rattle.zk_token.proofs.NumeralLaws.{IsNumeral, a_number, a_port, an_address, a_subnet, numeral_first, numeral_read}
use Rattle.zk_token.proofs.SeparatorLaws.{longest_separators, separators_are, separators-fit}
use Rattle.zk_token.proofs.StringLaws.{past_front}
use Rattle.zk_token.proofs.ByteTests.{pair_parts}
use Rattle.zk_token.proofs.WordLaws.{begins_where_name, load_first}

-- One token -------------------------------------------------------------------------------------------------------

-- the token at a place is one
record IsSameToken (kind other : TokenKind) (one two rest others : List ℕ) : Type 0 where
  kinds : kind ≡ other
  parts : one ≡ two
  rests : rest ≡ others

same_token : (kind other : TokenKind) (text one two rest others : List ℕ) → IsToken kind text one rest → IsToken other text two others → IsSameToken kind other one two rest others
same_token kind other text one two rest others first second =
    let read = pair_parts (kind, length one) (other, length two) (sym (token_at-token kind text one rest first) ∙ token_at-token other text two others second) in
    let same = same_front text one two rest others first.longest.whole second.longest.whole read.1 in
    record { kinds = read.0; parts = same.0; rests = same.1 }

-- No others -------------------------------------------------------------------------------------------------------

nothing_left : (text between rest : List ℕ) → AreSeparators text → AreLongestSeparators text between rest → rest ≡ []
nothing_left text between rest are longest =
    let most : length text ≤ length between = longest.longest text [] (sym (append-nil text)) are in
    (same_front text between text rest [] longest.whole (sym (append-nil text)) (omega (arith, most, ap length longest.whole, length-append between rest))).1

nothing_is_no_token : (kind : TokenKind) (text part rest : List ℕ) → text ≡ [] → IsToken kind text part rest → ⊥
nothing_is_no_token kind text part rest none is =
    let read = token_at-token kind text part rest is in
    let not_read : token_at text ≡ None = ap token_at none in
    let never : ⊥ = cc in never

nothing_is_no_fault : (place : ℕ) (text : List ℕ) (fault : Fault) → text ≡ [] → IsFault place text fault → ⊥
nothing_is_no_fault place text fault none is = (none_where_fault text place fault is).some none

-- where a fault stands, no token does
no_token_at_fault : (place : ℕ) (text other : List ℕ) (fault : Fault) (kind : TokenKind) (part rest : List ℕ) → text ≡ other → IsFault place text fault → IsToken kind other part rest → ⊥
no_token_at_fault place text other fault kind part rest same is token =
    (none_where_fault text place fault is).none kind part rest (subst (λ t. IsToken kind t part rest) (sym same) token)

-- two faults at the front of a text are the same
same_fault : (one two : ℕ) (text other : List ℕ) (fault another : Fault) → one ≡ two → text ≡ other → IsFault one text fault → IsFault two other another → fault ≡ another
same_fault one two text other fault another places texts first second =
    one_fault text one fault first ∙ ap (λ p. fault_of p text) places ∙ ap (fault_of two) texts ∙ sym (one_fault other two another second)

-- a token of this kind behind the separators
abbrev token_from : ℕ → List ℕ → TokenKind → Token
token_from place between kind = record { kind = kind; place = place + length between }

only_reading : {place : ℕ} {text : List ℕ} {one two : Result (List Token) Fault} → IsReadFrom place text one → IsReadFrom place text two → one ≡ two
only_reading (ended are) (ended also) = refl
only_reading (ended {text = text} are) (refused {place = place} {between = between} {rest = rest} {fault = fault} longest is) =
    absurd (nothing_is_no_fault (place + length between) rest fault (nothing_left text between rest are longest) is)
only_reading (ended {text = text} are) (more {between = between} {rest = rest} {part = part} {others = others} {kind = kind} longest is behind) =
    absurd (nothing_is_no_token kind rest part others (nothing_left text between rest are longest) is)
only_reading (refused {place = place} {between = between} {rest = rest} {fault = fault} longest is) (ended {text = text} are) =
    absurd (nothing_is_no_fault (place + length between) rest fault (nothing_left text between rest are longest) is)
only_reading (refused {place = place} {text = text} {between = between} {rest = rest} {fault = fault} longest is) (refused {between = between'} {rest = rest'} {fault = fault'} longest' is') =
    let same = same_longest (λ part behind. AreSeparators part) text between between' rest rest' longest longest' in
    ap (λ f. Err f) (same_fault (place + length between) (place + length between') rest rest' fault fault' (ap (λ b. place + length b) same.0) same.1 is is')
only_reading (refused {place = place} {text = text} {between = between} {rest = rest} {fault = fault} longest is) (more {between = between'} {rest = rest'} {part = part} {others = others} {kind = kind} longest' token behind) =
    let same = same_longest (λ part behind. AreSeparators part) text between between' rest rest' longest longest' in
    absurd (no_token_at_fault (place + length between) rest rest' fault kind part others same.1 is token)
only_reading (more {between = between} {rest = rest} {part = part} {others = others} {kind = kind} longest is behind) (ended {text = text} are) =
    absurd (nothing_is_no_token kind rest part others (nothing_left text between rest are longest) is)
only_reading (more {place = place} {text = text} {between = between} {rest = rest} {part = part} {others = others} {kind = kind} longest is behind) (refused {between = between'} {rest = rest'} {fault = fault} longest' left) =
    let same = same_longest (λ part behind. AreSeparators part) text between between' rest rest' longest longest' in
    absurd (no_token_at_fault (place + length between') rest' rest fault kind part others (sym same.1) left is)
only_reading (more {place = place} {text = text} {between = between} {rest = rest} {part = part} {others = others} {kind = kind} {read = read} longest is behind)
    (more {between = between'} {rest = rest'} {part = part'} {others = others'} {kind = kind'} {read = read'} longest' is' behind') =
    let fronts = same_longest (λ part behind. AreSeparators part) text between between' rest rest' longest longest' in
    let also : IsToken kind' rest part' others' = subst (λ r. IsToken kind' r part' others') (sym fronts.1) is' in
    let same = same_token kind kind' rest part part' others others' is also in
    let next : place + length between' + length part' ≡ place + length between + length part = omega (arith, ap length fronts.0, ap length same.parts) in
    let further = only_reading behind
    (subst (λ p. IsReadFrom p others read') next
    (subst (λ o. IsReadFrom (place + length between' + length part') o read') (sym same.rests) behind')) in
    ap (λ k. before (token_from place between k) read) same.kinds ∙ ap (λ b. before (token_from place b kind') read) fronts.0
    ∙ ap (before (token_from place between' kind')) further

-- What is read ----------------------------------------------------------------------------------------------------

-- the separators at the front of a text are the longest
separators_longest : (text : List ℕ) → AreLongestSeparators text (take (separators text) text) (drop (separators text) text)
separators_longest text = record {
  whole = sym (take-append-drop (separators text) text);
  fits = separators_are text;
  longest = λ longer others whole are.
      let most : length longer ≤ separators text = subst (λ t. length longer ≤ separators t) (sym whole) (longest_separators longer others are) in
      rw (length-take-le (separators text) text (separators-fit text)) most;
}

-- The last tokens -------------------------------------------------------------------------------------------------

-- the rest behind the separators that stand from a place on
behind_rest : (text : List ℕ) (place : ℕ) → drop (behind_separators text place) text ≡ drop (separators (drop place text)) (drop place text)
behind_rest text place = sym (drop-drop (separators (drop place text)) place text)

none_at : (text : List ℕ) (place : ℕ) → next_token text place ≡ None → token_at (drop (behind_separators text place) text) ≡ None
none_at text place none =
    let start : ℕ = behind_separators text place in
    elim (token_at (drop start text)) as (λ (o : Option (TokenKind × ℕ)).
    option_map {T = TokenKind × ℕ} {U = Token × ℕ} (λ found. (record { kind = found.0; place = start }, found.1))
    (option_map {T = TokenKind × ℕ} {U = TokenKind × ℕ} (λ found. (found.0, start + found.1)) o) ≡ None
    → o ≡ None) [
      | None ↦ λ is. refl
      | Some found ↦ λ is. absurd (let never : ⊥ = cc in never)
    ] none

-- what is left behind the last token is nothing, or it begins with a fault
last_read : (text : List ℕ) (to : ℕ) → next_token text to ≡ None → IsReadFrom to (drop to text) (up_to text [] (behind_separators text to))
last_read text to none =
    let rest : List ℕ = drop to text in
    let count : ℕ = separators rest in
    let size : length (take count rest) ≡ count = length-take-le count rest (separators-fit rest) in
    elim (nat_lt (to + count) (length text)) as (λ b. nat_lt (to + count) (length text) ≡ b
    → IsReadFrom to rest (cond b (Err (fault_of (to + count) (drop (to + count) text))) (Ok []))) [
      | true ↦ λ below.
          let inside : to + count < length text = ltb-true (to + count) (length text) below in
          let some : drop count rest ≢ [] = λ empty. omega (arith, ap length empty, length-drop count rest, length-drop to text, inside) in
          let no_token : BeginsNoToken (drop count rest) = begins_none (drop count rest) some (ap token_at (sym (behind_rest text to)) ∙ none_at text to none) in
          let fault : IsFault (to + count) (drop count rest) (fault_of (to + count) (drop count rest)) = told (to + count) (drop count rest) no_token in
          refused (separators_longest rest)
          (subst (λ n. IsFault (to + n) (drop count rest) (fault_of (to + count) (drop (to + count) text))) (sym size)
          (subst (λ t. IsFault (to + count) (drop count rest) (fault_of (to + count) t)) (sym (behind_rest text to)) fault))
      | false ↦ λ past.
          let over : length text ≤ to + count = ltb-false (to + count) (length text) past in
          let all : take count rest ≡ rest = take_all count rest (omega (arith, length-drop to text, over)) in
          ended (subst AreSeparators all (separators_are rest))
    ] refl

-- All tokens ------------------------------------------------------------------------------------------------------

-- the token that is read behind the separators
record IsNextToken (text : List ℕ) (place : ℕ) (read : Token) (next : ℕ) : Type 0 where
  kind : TokenKind
  len : ℕ
  found : token_at (drop (behind_separators text place) text) ≡ Some (kind, len)
  token : record { kind = kind; place = behind_separators text place } ≡ read
  end : behind_separators text place + len ≡ next

next_read : (text : List ℕ) (place : ℕ) (read : Token) (next : ℕ) → next_token text place ≡ Some (read, next) → IsNextToken text place read next
next_read text place read next is =
    let start : ℕ = behind_separators text place in
    elim (token_at (drop start text)) as (λ (o : Option (TokenKind × ℕ)). token_at (drop start text) ≡ o
    → option_map {T = TokenKind × ℕ} {U = Token × ℕ} (λ found. (record { kind = found.0; place = start }, found.1))
    (option_map {T = TokenKind × ℕ} {U = TokenKind × ℕ} (λ found. (found.0, start + found.1)) o) ≡ Some (read, next)
    → IsNextToken text place read next) [
      | None ↦ λ here none. absurd (let never : ⊥ = cc in never)
      | Some found ↦ λ here same.
          let parts = pair_parts (record { kind = found.0; place = start }, start + found.1) (read, next) same in
          record { kind = found.0; len = found.1; found = here; token = parts.0; end = parts.1 }
    ] refl is

-- one more token before what is read
more_at : (text between rest part others : List ℕ) (place start next : ℕ) (kind : TokenKind) (listed : Token) (read : Result (List Token) Fault)
    → AreLongestSeparators text between rest → IsToken kind rest part others → place + length between ≡ start → start + length part ≡ next
    → record { kind = kind; place = start } ≡ listed → IsReadFrom next others read → IsReadFrom place text (before listed read)
more_at text between rest part others place start next kind listed read longest is at end same behind =
    let there : place + length between + length part ≡ next = ap (λ n. n + length part) at ∙ end in
    let front : IsReadFrom place text (before (record { kind = kind; place = place + length between }) read) =
    more longest is (subst (λ n. IsReadFrom n others read) (sym there) behind) in
    subst (λ t. IsReadFrom place text (before t read)) same
    (subst (λ n. IsReadFrom place text (before (record { kind = kind; place = n }) read)) at front)

-- one more token, up to the same place
up_to-more : (text : List ℕ) (listed : Token) (tokens : List Token) (place : ℕ) → before listed (up_to text tokens place) ≡ up_to text (listed ∷ tokens) place
up_to-more text listed tokens place =
    elim (nat_lt place (length text)) as (λ b. before listed (cond b (Err (fault_of place (drop place text))) (Ok tokens)) ≡ cond b (Err (fault_of place (drop place text))) (Ok (listed ∷ tokens))) [
      | true ↦ refl
      | false ↦ refl
    ]

tokens_from : (text : List ℕ) (from : ℕ) (tokens : List Token) (to : ℕ) → StandBetween (next_token text) from tokens to → next_token text to ≡ None
    → IsReadFrom from (drop from text) (up_to text tokens (behind_separators text to))
tokens_from text from [] to stand none =
    subst (λ n. IsReadFrom n (drop n text) (up_to text [] (behind_separators text to))) (sym stand) (last_read text to none)
tokens_from text from (listed ∷ tokens) to stand none =
    let rest : List ℕ = drop from text in
    let count : ℕ = separators rest in
    let start : ℕ = from + count in
    let next = next_read text from listed stand.0 stand.1 in
    let there = token_found (drop count rest) next.kind next.len (ap token_at (sym (behind_rest text from)) ∙ next.found) in
    let end : start + length there.part ≡ stand.0 = ap (λ n. start + n) (sym there.size) ∙ next.end in
    let others : drop stand.0 text ≡ there.rest =
    ap (λ n. drop n text) (sym end) ∙ sym (drop-drop (length there.part) start text)
    ∙ ap (drop (length there.part)) (behind_rest text from ∙ there.is.longest.whole) ∙ drop-append_seam there.part there.rest in
    let size : from + length (take count rest) ≡ start = ap (λ n. from + n) (length-take-le count rest (separators-fit rest)) in
    let behind = tokens_from text stand.0 tokens to stand.2 none in
    let read : Result (List Token) Fault = up_to text tokens (behind_separators text to) in
    subst (IsReadFrom from rest) (up_to-more text listed tokens (behind_separators text to))
    (more_at rest (take count rest) (drop count rest) there.part there.rest from start stand.0 next.kind listed read
    (separators_longest rest) there.is size end next.token (subst (λ o. IsReadFrom stand.0 o read) others behind))

-- Until the end ---------------------------------------------------------------------------------------------------

-- a token has a byte at least
no_numeral_of_nothing : {kind : TokenKind} → IsNumeral kind [] → ⊥
no_numeral_of_nothing is = let none = numeral_first [] is in let never : ⊥ = cc in never

no_form_of_nothing : (kind : TokenKind) (rest : List ℕ) → HasForm kind [] rest → ⊥
no_form_of_nothing (token.Name name) rest form = let none = begins_where_name [] [] form.0 in let never : ⊥ = cc in never
no_form_of_nothing (token.Number value) rest form = no_numeral_of_nothing (a_number form)
no_form_of_nothing (token.Port port proto) rest form = no_numeral_of_nothing (a_port form)
no_form_of_nothing (token.Address address) rest form = no_numeral_of_nothing (an_address form)
no_form_of_nothing (token.Subnet cleared width) rest form = no_numeral_of_nothing (a_subnet form)
no_form_of_nothing (token.String bytes) rest (parts, are, meant, whole) = let never : ⊥ = cc in never
no_form_of_nothing (token.Attribute name) rest (is, whole) = let never : ⊥ = cc in never
no_form_of_nothing (token.Load file) rest form = let first = load_first file [] rest form in let never : ⊥ = (let whole = first.1 in cc) in never
no_form_of_nothing (token.Sign sign) rest form = form

some_bytes : (kind : TokenKind) (part rest : List ℕ) → HasForm kind part rest → 0 < length part
some_bytes kind [] rest form = absurd (no_form_of_nothing kind rest form)
some_bytes kind (byte ∷ part) rest form = omega arith

next_advances : (text : List ℕ) (place : ℕ) (read : Token) (next : ℕ) → next_token text place ≡ Some (read, next) → (place < next) × (next ≤ length text)
next_advances text place read next is =
    let found = next_read text place read next is in
    let start : ℕ = behind_separators text place in
    let there = token_found (drop start text) found.kind found.len found.found in
    let some = some_bytes found.kind there.part there.rest there.is.form in
    let size = ap length there.is.longest.whole in
    let within : length there.part ≤ length text - start = omega (arith, size, length-append there.part there.rest, length-drop start text) in
    (omega (arith, some, there.size, found.end), omega (arith, some, there.size, found.end, within))

tokens_are : (text : List ℕ) → IsReadFrom 0 text (tokens_of text)
tokens_are text =
    let stand = items_from-stands (length text) (next_token text) 0 in
    let none = items_from-none (next_token text) (length text) (next_advances text) (length text) 0 (omega arith) in
    tokens_from text 0 (items_from (length text) (next_token text) 0).0 (items_from (length text) (next_token text) 0).1 stand none

-- a text is read so, and in no other way
pub exact : (text : List ℕ) (read : Result (List Token) Fault) → (tokens_of text ≡ read) ↔ IsReadFrom 0 text read
exact text read = (
  λ same. subst (IsReadFrom 0 text) same (tokens_are text),
  λ is. only_reading (tokens_are text) is,
)

-- Places ----------------------------------------------------------------------------------------------------------

ok_of : List Token → Result (List Token) Fault
ok_of tokens = Ok tokens

ok_same : (one two : List Token) → ok_of one ≡ Ok two → one ≡ two
unfolding ok_of
ok_same one two same = cc

all_stand : (text : List ℕ) {place : ℕ} {from : List ℕ} {read : Result (List Token) Fault} → drop place text ≡ from → IsReadFrom place from read
    → (tokens : List Token) → read ≡ Ok tokens → All (StandsInText text) tokens
unfolding ok_of
all_stand text at (ended are) tokens same = subst (All (StandsInText text)) (ok_same [] tokens same) (All-nil (StandsInText text))
all_stand text at (refused longest is) tokens same = absurd (let never : ⊥ = cc in never)
all_stand text at (more {place = place} {between = between} {rest = rest} {part = part} {others = others} {kind = kind} {read = read} longest is behind) tokens same =
    let there : drop (place + length between) text ≡ rest = past_front between rest text place (at ∙ longest.whole) in
    let next : drop (place + length between + length part) text ≡ others = past_front part others text (place + length between) (there ∙ is.longest.whole) in
    let first : IsToken kind (drop (place + length between) text) part others = subst (λ r. IsToken kind r part others) (sym there) is in
    let all = all_stand text next behind in
    elim read as (λ r. read ≡ r → before (token_from place between kind) r ≡ Ok tokens → All (StandsInText text) tokens) [
      | Ok found ↦ λ is_found so.
          subst (All (StandsInText text)) (ok_same (token_from place between kind ∷ found) tokens so)
          (All-cons (StandsInText text) (token_from place between kind) found (part, others, first) (all found is_found))
      | Err fault ↦ λ is_fault so. absurd (let never : ⊥ = cc in never)
    ] refl same

pub placed : (text : List ℕ) (tokens : List Token) → AreTokensOf text tokens → All (StandsInText text) tokens
placed text tokens are = all_stand text refl are tokens refl

-- As the code reads them ------------------------------------------------------------------------------------------

-- a token has a byte at least, and stands in its text
pub token_size : (text : List ℕ) (kind : TokenKind) (len : ℕ) → token_at text ≡ Some (kind, len) → (0 < len) × (len ≤ length text)
token_size text kind len found =
    let there = token_found text kind len found in
    let some = some_bytes kind there.part there.rest there.is.form in
    (omega (arith, some, there.size), omega (arith, there.size, ap length there.is.longest.whole, length-append there.part there.rest))

unranged : (found : Option (TokenKind × List ℕ)) (read : TokenKind × List ℕ) → ranged found ≡ Some read → found ≡ Some read
unranged None read same = absurd (let never : ⊥ = cc in never)
unranged (Some found) read same =
    elim (is_in_range found.0) as (λ b. cond b (Some found) None ≡ Some read → Some found ≡ Some read) [
      | true ↦ λ is. is
      | false ↦ λ is. absurd (let never : ⊥ = cc in never)
    ] same

-- less is left behind what is read of digits
pub numeral_size : (text : List ℕ) (kind : TokenKind) (rest : List ℕ) → begins_digit text ≡ true → Some (kind, rest) ≡ ranged (numeral_form text) → length rest < length text
numeral_size [] kind rest digit found = absurd (let never : ⊥ = cc in never)
numeral_size (byte ∷ others) kind rest digit found =
    let text : List ℕ = byte ∷ others in
    let read = numeral_read byte others kind rest digit (unranged (numeral_form text) (kind, rest) (sym found)) in
    omega (arith, ap length read.whole, length-append read.part rest, some_bytes kind read.part rest read.fits)

-- a fault that isn't want of memory is handed on
pub handed_on : {X Y : Type 0} (fault : LexFault) (wanted : Result X Fault) (other : Result Y Fault) → UnlessNoMemory (Err fault) wanted
    → ((told : Fault) → wanted ≡ Err told → other ≡ Err told) → UnlessNoMemory (Err fault) other
handed_on (answer.BadByte place) wanted other is hand = hand (BadByte place) is
handed_on (answer.OpenString place) wanted other is hand = hand (OpenString place) is
handed_on (answer.BigNumber place) wanted other is hand = hand (BigNumber place) is
handed_on answer.NoMemory wanted other is hand = tt

-- what a reader gives at a place that separators lead to
abbrev pub token_or_fault : List ℕ → ℕ → Result (TokenKind × ℕ) Fault
token_or_fault text start = ok_or (token_at (take (length text - start) (drop start text))) (fault_of start (take (length text - start) (drop start text)))

behind_skipped : (text : List ℕ) (place skipped : ℕ) → skipped ≡ separators (take (length text - place) (drop place text)) → behind_separators text place ≡ place + skipped
behind_skipped text place skipped is = ap (λ r. place + separators r) (sym (rest_whole place text)) ∙ ap (λ n. place + n) (sym is)

some_of_ok : {X : Type 0} (found : Option X) (fault : Fault) (item : X) → ok_or found fault ≡ Ok item → found ≡ Some item
some_of_ok None fault item is = absurd (let never : ⊥ = cc in never)
some_of_ok (Some found) fault item is = cc

none_of_err : {X : Type 0} (found : Option X) (fault told : Fault) → ok_or found fault ≡ Err told → (found ≡ None) × (fault ≡ told)
none_of_err None fault told is = (refl, cc)
none_of_err (Some found) fault told is = absurd (let never : ⊥ = cc in never)

-- the token that is read there
pub next_read_ok : (text : List ℕ) (place skipped : ℕ) (kind : TokenKind) (len : ℕ) → skipped ≡ separators (take (length text - place) (drop place text)) → place + skipped < length text
    → token_or_fault text (place + skipped) ≡ Ok (kind, len) → next_or_fault text place ≡ Ok (Some (record { kind = kind; place = place + skipped }, place + skipped + len))
next_read_ok text place skipped kind len is inside read =
    let start : ℕ = place + skipped in
    let found : token_at (drop start text) ≡ Some (kind, len) = ap token_at (sym (rest_whole start text)) ∙ some_of_ok _ _ (kind, len) read in
    rw (behind_skipped text place skipped is) (rw (lt-ltb start (length text) inside) (rw found refl))

-- or the fault
pub next_read_err : (text : List ℕ) (place skipped : ℕ) (fault : Fault) → skipped ≡ separators (take (length text - place) (drop place text)) → place + skipped < length text
    → token_or_fault text (place + skipped) ≡ Err fault → next_or_fault text place ≡ Err fault
next_read_err text place skipped fault is inside read =
    let start : ℕ = place + skipped in
    let parts = none_of_err _ _ fault read in
    let found : token_at (drop start text) ≡ None = ap token_at (sym (rest_whole start text)) ∙ parts.0 in
    let told : fault_of start (drop start text) ≡ fault = ap (fault_of start) (sym (rest_whole start text)) ∙ parts.1 in
    rw (behind_skipped text place skipped is) (rw (lt-ltb start (length text) inside) (rw found (ap (λ f. Err f) told)))

-- a token that is read next
pub next_found : (text : List ℕ) (place : ℕ) (found : Token × ℕ) → next_or_fault text place ≡ Ok (Some found) → next_token text place ≡ Some found
next_found text place found is =
    let start : ℕ = behind_separators text place in
    elim (nat_lt start (length text)) as (λ b. cond b (found_or (next_token text place) (fault_of start (drop start text))) (Ok None) ≡ Ok (Some found) → next_token text place ≡ Some found) [
      | true ↦
          elim (next_token text place) as (λ (o : Option (Token × ℕ)). found_or o (fault_of start (drop start text)) ≡ Ok (Some found) → o ≡ Some found) [
            | None ↦ λ same. absurd (let never : ⊥ = cc in never)
            | Some item ↦ λ same. cc
          ]
      | false ↦ λ same. absurd (let never : ⊥ = cc in never)
    ] is

-- the tokens up to there are all, with what the text goes on with
tokens_of-stand : (text : List ℕ) (tokens : List Token) (to : ℕ) → StandBetween (next_token text) 0 tokens to → next_token text to ≡ None
    → length tokens ≤ length text → tokens_of text ≡ up_to text tokens (behind_separators text to)
tokens_of-stand text tokens to stand no_more enough =
    ap (λ (found : List Token × ℕ). up_to text found.0 (behind_separators text found.1))
    (items_from-stand (length text) (next_token text) 0 tokens to stand no_more enough)

-- a fault that is read next is the first
pub fault_next : (text : List ℕ) (tokens : List Token) (to : ℕ) (fault : Fault) → StandBetween (next_token text) 0 tokens to → length tokens ≤ length text
    → next_or_fault text to ≡ Err fault → tokens_of text ≡ Err fault
fault_next text tokens to fault stand enough is =
    let start : ℕ = behind_separators text to in
    elim (nat_lt start (length text)) as (λ b. nat_lt start (length text) ≡ b → cond b (found_or (next_token text to) (fault_of start (drop start text))) (Ok None) ≡ Err fault → tokens_of text ≡ Err fault) [
      | true ↦ λ inside.
          elim (next_token text to) as (λ (o : Option (Token × ℕ)). next_token text to ≡ o → found_or o (fault_of start (drop start text)) ≡ Err fault → tokens_of text ≡ Err fault) [
            | None ↦ λ none same.
                let told : fault_of start (drop start text) ≡ fault = cc in
                tokens_of-stand text tokens to stand none enough ∙ rw inside (ap (λ f. Err f) told)
            | Some item ↦ λ some same. absurd (let never : ⊥ = cc in never)
          ] refl
      | false ↦ λ past same. absurd (let never : ⊥ = cc in never)
    ] refl is

-- where nothing is left, the tokens are all
pub tokens_end : (text : List ℕ) (tokens : List Token) (to : ℕ) → StandBetween (next_token text) 0 tokens to → length tokens ≤ length text
    → next_or_fault text to ≡ Ok None → tokens_of text ≡ Ok tokens
tokens_end text tokens to stand enough is =
    let start : ℕ = behind_separators text to in
    elim (nat_lt start (length text)) as (λ b. nat_lt start (length text) ≡ b → cond b (found_or (next_token text to) (fault_of start (drop start text))) (Ok None) ≡ Ok None → tokens_of text ≡ Ok tokens) [
      | true ↦ λ inside.
          elim (next_token text to) as (λ (o : Option (Token × ℕ)). found_or o (fault_of start (drop start text)) ≡ Ok None → tokens_of text ≡ Ok tokens) [
            | None ↦ λ same. absurd (let never : ⊥ = cc in never)
            | Some item ↦ λ same. absurd (let never : ⊥ = cc in never)
          ]
      | false ↦ λ past same.
          let nothing : drop start text ≡ [] = drop_all start text (ltb-false start (length text) past) in
          let none : next_token text to ≡ None = rw nothing refl in
          tokens_of-stand text tokens to stand none enough ∙ rw past refl
    ] refl is

-- something is left behind the separators
pub left_behind : (text : List ℕ) (place skipped : ℕ) → place ≤ length text → skipped ≤ length (take (length text - place) (drop place text)) → place + skipped ≢ length text
    → place + skipped < length text
left_behind text place skipped within fit other = omega (arith, fit, other, ap length (rest_whole place text), length-drop place text)
