-- Which tokens a value of a grammar begins with, and which may not follow it, as sets of numbers.
use Rattle.std.proofs.Common.{◌≡◌, ℕ, zero, suc, ◌+◌, ◌==◌, Bool, true, false, not, ◌&&◌, ◌||◌, cond, List, [], ◌∷◌, ◌++◌, slice_get, Option, Some, None, refl, sym, ap, ◌∙◌, arith, eq-eqb}
use Rattle.std.specs.Option.{is_some}
use Rattle.std.proofs.lemmas.Bool.{eqb-true, and_parts}
use Rattle.zk_tree.specs.declared.token.Token.{Token}
use Rattle.zk_tree.specs.declared.token.TokenKind.{TokenKind}
use Rattle.zk_tree.specs.declared.token.TokenKind.TheVariants as token
use Rattle.zk_tree.specs.declared.keyword.Keyword.{Keyword}
use Rattle.zk_tree.specs.declared.keyword.Keyword.TheVariants as keyword
use Rattle.zk_tree.specs.declared.keyword.Mark.{Mark}
use Rattle.zk_tree.specs.declared.keyword.Mark.TheVariants as mark
use Rattle.zk_tree.specs.declared.token.Sign.TheVariants as sign
use Rattle.zk_tree.specs.declared.operator.TimeUnit.{TimeUnit}
use Rattle.zk_tree.specs.Marks.{text_of, keyword_of, IsMark}
use Rattle.zk_tree.specs.Classes.{Class, ANAME, ANUMBER, AUNIT, ALITERAL, ANATTRIBUTE, ALOAD, value_in, unit_of, unless_reserved}
use Rattle.zk_tree.specs.Rules.{Grammar, Alone, OneOf, Of, Nested, Placed, After, Before, Then, Made, Either, Optional, Nearest, Many, Listed, Enclosed, Until, Trailing, Nest, AnExpr, ACond, AUnary, AType, AStmt, ADecl, StandsAt}
use Rattle.zk_parse_core.proofs.Codes.{mark_number, every_mark, of_number, keyword_again, no_unit}

-- ---- numbers of tokens

abbrev pub mark_code : Mark → ℕ
mark_code m = mark_number m + 1

abbrev pub unit_code : ℕ
unit_code = 80

abbrev pub name_code : ℕ
name_code = 81

abbrev pub number_code : ℕ
number_code = 82

abbrev pub literal_code : ℕ
literal_code = 83

abbrev pub attribute_code : ℕ
attribute_code = 84

abbrev pub load_code : ℕ
load_code = 85

abbrev pub word_code : Option (TimeUnit × Bool) → Option Keyword → ℕ
word_code (Some unit) found = unit_code
word_code None (Some w) = mark_code (mark.Word w)
word_code None None = name_code

abbrev pub code_of : TokenKind → ℕ
code_of (token.Name name) = word_code (unit_of name) (keyword_of name)
code_of (token.Number number) = number_code
code_of (token.Port port proto) = literal_code
code_of (token.Address address) = literal_code
code_of (token.Subnet prefix width) = literal_code
code_of (token.String bytes) = literal_code
code_of (token.Attribute name) = attribute_code
code_of (token.Load file) = load_code
code_of (token.Sign s) = mark_code (mark.Sign s)

-- the number of the first token, and 0 at the end
abbrev pub code_at : List Token → ℕ
code_at [] = 0
code_at (first ∷ rest) = code_of first.kind

pub mark_coded : (m : Mark) (kind : TokenKind) → IsMark m kind → code_of kind ≡ mark_code m
mark_coded (mark.Sign s) kind is = ap code_of is
mark_coded (mark.Word w) kind is =
    ap code_of is ∙ ap (λ u. word_code u (keyword_of (text_of w))) (no_unit w) ∙ ap (word_code None) (keyword_again w)

pub stands_coded : (m : Mark) (tokens rest : List Token) → StandsAt m tokens rest → code_at tokens ≡ mark_code m
stands_coded m tokens rest at = ap code_at at.all ∙ mark_coded m at.first.kind at.is

-- ---- sets

abbrev pub has : List ℕ → ℕ → Bool
has [] c = false
has (k ∷ set) c = (c == k) || has set c

abbrev pub disjoint : List ℕ → List ℕ → Bool
disjoint [] b = true
disjoint (k ∷ a) b = not (has b k) && disjoint a b

abbrev pub included : List ℕ → List ℕ → Bool
included [] b = true
included (k ∷ a) b = has b k && included a b

pub or_left : (a b : Bool) → a ≡ true → (a || b) ≡ true
or_left true b e = refl
or_left false b e = absurd cc

pub or_right : (a b : Bool) → b ≡ true → (a || b) ≡ true
or_right true b e = refl
or_right false b e = e

pub or_none : (a b : Bool) → (a || b) ≡ false → (a ≡ false) × (b ≡ false)
or_none true b e = absurd cc
or_none false b e = (refl, e)

pub not_false : (a : Bool) → not a ≡ true → a ≡ false
not_false true e = absurd cc
not_false false e = refl

pub has-append : (a b : List ℕ) (c : ℕ) → has (a ++ b) c ≡ has a c || has b c
has-append [] b c = refl
has-append (k ∷ a) b c = elim (c == k) as (λ t. (t || has (a ++ b) c) ≡ ((t || has a c) || has b c)) [ true ↦ refl | false ↦ has-append a b c ]

pub has_left : (a b : List ℕ) (c : ℕ) → has a c ≡ true → has (a ++ b) c ≡ true
has_left a b c e = has-append a b c ∙ or_left (has a c) (has b c) e

pub has_right : (a b : List ℕ) (c : ℕ) → has b c ≡ true → has (a ++ b) c ≡ true
has_right a b c e = has-append a b c ∙ or_right (has a c) (has b c) e

pub has_none : (a b : List ℕ) (c : ℕ) → has (a ++ b) c ≡ false → (has a c ≡ false) × (has b c ≡ false)
has_none a b c e = or_none (has a c) (has b c) (sym (has-append a b c) ∙ e)

pub apart : (a b : List ℕ) (c : ℕ) → disjoint a b ≡ true → has a c ≡ true → has b c ≡ false
apart [] b c d e = absurd cc
apart (k ∷ a) b c d e = elim (c == k) as (λ t. (c == k) ≡ t → (t || has a c) ≡ true → has b c ≡ false) [
  | true ↦ λ is among. ap (has b) (eqb-true c k is) ∙ not_false (has b k) (and_parts (not (has b k)) (disjoint a b) d).0
  | false ↦ λ is among. apart a b c (and_parts (not (has b k)) (disjoint a b) d).1 among
] refl e

pub has_included : (a b : List ℕ) (c : ℕ) → included a b ≡ true → has a c ≡ true → has b c ≡ true
has_included [] b c d e = absurd cc
has_included (k ∷ a) b c d e = elim (c == k) as (λ t. (c == k) ≡ t → (t || has a c) ≡ true → has b c ≡ true) [
  | true ↦ λ is among. ap (has b) (eqb-true c k is) ∙ (and_parts (has b k) (included a b) d).0
  | false ↦ λ is among. has_included a b c (and_parts (has b k) (included a b) d).1 among
] refl e

bool_cases : (a : Bool) → (a ≡ true → false ≡ true) → a ≡ false
bool_cases true h = sym (h refl)
bool_cases false h = refl

pub has_included-false : (a b : List ℕ) (c : ℕ) → included a b ≡ true → has b c ≡ false → has a c ≡ false
has_included-false a b c d e = bool_cases (has a c) (λ is. sym e ∙ has_included a b c d is)

-- the same, the other way round
pub apart-right : (a b : List ℕ) (c : ℕ) → disjoint a b ≡ true → has b c ≡ true → has a c ≡ false
apart-right a b c d e = bool_cases (has a c) (λ is. sym (apart a b c d is) ∙ e)

pub has_one : (k c : ℕ) → c ≡ k → has (k ∷ []) c ≡ true
has_one k c e = or_left (c == k) false (eq-eqb c k e)

-- ---- the marks that stand for something

abbrev pub codes_from : {A : Type 0} → (Mark → Option A) → ℕ → List Mark → List ℕ
codes_from meant n [] = []
codes_from meant n (m ∷ marks) = cond (is_some (meant m)) (n ∷ codes_from meant (n + 1) marks) (codes_from meant (n + 1) marks)

abbrev pub codes_of : {A : Type 0} → (Mark → Option A) → List ℕ
codes_of meant = codes_from meant 1 every_mark

in_codes : {A : Type 0} (meant : Mark → Option A) (n i : ℕ) (marks : List Mark) (m : Mark) → slice_get marks i ≡ Some m → is_some (meant m) ≡ true
    → has (codes_from meant n marks) (i + n) ≡ true
in_codes meant n i [] m at is = absurd cc
in_codes meant n zero (k ∷ marks) m at is =
    let same : k ≡ m = cc in
    let here : is_some (meant k) ≡ true = ap (λ (x : Mark). is_some (meant x)) same ∙ is in
    rw here (or_left (0 + n == n) (has (codes_from meant (n + 1) marks) (0 + n)) (eq-eqb (0 + n) n (omega arith)))
in_codes meant n (suc i) (k ∷ marks) m at is =
    let later = in_codes meant (n + 1) i marks m at is in
    let same : i + (n + 1) ≡ suc i + n = omega arith in
    let there : has (codes_from meant (n + 1) marks) (suc i + n) ≡ true = ap (has (codes_from meant (n + 1) marks)) (sym same) ∙ later in
    elim (is_some (meant k)) as (λ t. has (cond t (n ∷ codes_from meant (n + 1) marks) (codes_from meant (n + 1) marks)) (suc i + n) ≡ true) [
      | true ↦ or_right (suc i + n == n) (has (codes_from meant (n + 1) marks) (suc i + n)) there
      | false ↦ there
    ]

some_is : {A : Type 0} (o : Option A) (a : A) → o ≡ Some a → is_some o ≡ true
some_is (Some b) a e = refl
some_is None a e = absurd cc

pub meant_coded : {A : Type 0} (meant : Mark → Option A) (m : Mark) (a : A) → meant m ≡ Some a → has (codes_of meant) (mark_code m) ≡ true
meant_coded meant m a e = in_codes meant 1 (mark_number m) every_mark m (of_number m) (some_is (meant m) a e)

-- ---- the classes of tokens

abbrev pub class_codes : {A : Type 0} → Class A → List ℕ
class_codes ANAME = name_code ∷ unit_code ∷ []
class_codes ANUMBER = number_code ∷ []
class_codes AUNIT = unit_code ∷ []
class_codes ALITERAL = literal_code ∷ []
class_codes ANATTRIBUTE = attribute_code ∷ []
class_codes ALOAD = load_code ∷ []

named_coded : (name : List ℕ) (unit : Option (TimeUnit × Bool)) (found : Option Keyword) (a : List ℕ) → unless_reserved name found ≡ Some a
    → has (name_code ∷ unit_code ∷ []) (word_code unit found) ≡ true
named_coded name (Some unit) None a e = refl
named_coded name None None a e = refl
named_coded name unit (Some w) a e = absurd cc

unit_coded : (unit : Option (TimeUnit × Bool)) (found : Option Keyword) (a : TimeUnit × Bool) → unit ≡ Some a → has (unit_code ∷ []) (word_code unit found) ≡ true
unit_coded (Some unit) found a e = refl
unit_coded None found a e = absurd cc

pub value_coded : {A : Type 0} (class : Class A) (kind : TokenKind) (a : A) → value_in class kind ≡ Some a → has (class_codes class) (code_of kind) ≡ true
value_coded ANAME (token.Name name) a e = named_coded name (unit_of name) (keyword_of name) a e
value_coded ANAME kind a e = absurd cc
value_coded ANUMBER (token.Number number) a e = refl
value_coded ANUMBER kind a e = absurd cc
value_coded AUNIT (token.Name name) a e = unit_coded (unit_of name) (keyword_of name) a e
value_coded AUNIT kind a e = absurd cc
value_coded ALITERAL (token.String bytes) a e = refl
value_coded ALITERAL (token.Port port proto) a e = refl
value_coded ALITERAL (token.Address address) a e = refl
value_coded ALITERAL (token.Subnet prefix width) a e = refl
value_coded ALITERAL kind a e = absurd cc
value_coded ANATTRIBUTE (token.Attribute name) a e = refl
value_coded ANATTRIBUTE kind a e = absurd cc
value_coded ALOAD (token.Load file) a e = refl
value_coded ALOAD kind a e = absurd cc

-- ---- grammars

abbrev pub sign_code : Mark → ℕ
sign_code m = mark_code m

-- what an operand begins with
abbrev pub operand_first : List ℕ
operand_first =
    mark_code (mark.Sign sign.Not) ∷ mark_code (mark.Sign sign.Minus) ∷ mark_code (mark.Sign sign.PlusPlus) ∷ mark_code (mark.Sign sign.MinusMinus)
    ∷ number_code ∷ literal_code ∷ mark_code (mark.Word keyword.True) ∷ mark_code (mark.Word keyword.False) ∷ name_code ∷ unit_code
    ∷ mark_code (mark.Sign sign.OpenParenthesis) ∷ mark_code (mark.Sign sign.Bar) ∷ mark_code (mark.Sign sign.OpenBracket)
    ∷ mark_code (mark.Word keyword.Table) ∷ mark_code (mark.Word keyword.Set) ∷ mark_code (mark.Word keyword.Vector) ∷ mark_code (mark.Word keyword.Hook) ∷ []

abbrev pub nest_first : {A : Type 0} → Nest A → List ℕ
nest_first AnExpr = operand_first
nest_first ACond = operand_first
nest_first AUnary = operand_first
nest_first AType =
    mark_code (mark.Word keyword.Bool) ∷ mark_code (mark.Word keyword.Count) ∷ mark_code (mark.Word keyword.Int) ∷ mark_code (mark.Word keyword.String)
    ∷ mark_code (mark.Word keyword.Time) ∷ mark_code (mark.Word keyword.Interval) ∷ mark_code (mark.Word keyword.Addr) ∷ mark_code (mark.Word keyword.Port)
    ∷ mark_code (mark.Word keyword.Subnet) ∷ name_code ∷ unit_code ∷ mark_code (mark.Word keyword.Table) ∷ mark_code (mark.Word keyword.Set)
    ∷ mark_code (mark.Word keyword.Vector) ∷ mark_code (mark.Word keyword.Record) ∷ mark_code (mark.Word keyword.Enum) ∷ mark_code (mark.Word keyword.Event)
    ∷ mark_code (mark.Word keyword.Hook) ∷ mark_code (mark.Word keyword.Function) ∷ []
nest_first AStmt =
    mark_code (mark.Sign sign.OpenBrace) ∷ mark_code (mark.Sign sign.Semicolon) ∷ mark_code (mark.Word keyword.If) ∷ mark_code (mark.Word keyword.While)
    ∷ mark_code (mark.Word keyword.For) ∷ mark_code (mark.Word keyword.Local) ∷ mark_code (mark.Word keyword.Print) ∷ mark_code (mark.Word keyword.Event)
    ∷ mark_code (mark.Word keyword.Schedule) ∷ mark_code (mark.Word keyword.Add) ∷ mark_code (mark.Word keyword.Delete) ∷ mark_code (mark.Word keyword.Return)
    ∷ mark_code (mark.Word keyword.Next) ∷ mark_code (mark.Word keyword.Break) ∷ operand_first
nest_first ADecl =
    mark_code (mark.Word keyword.Module) ∷ mark_code (mark.Word keyword.Export) ∷ load_code ∷ mark_code (mark.Word keyword.Global) ∷ mark_code (mark.Word keyword.Const)
    ∷ mark_code (mark.Word keyword.Type) ∷ mark_code (mark.Word keyword.Redef) ∷ mark_code (mark.Word keyword.Event) ∷ mark_code (mark.Word keyword.Hook)
    ∷ mark_code (mark.Word keyword.Function) ∷ []

-- what would go on with an operand
abbrev pub operand_blocked : List ℕ
operand_blocked =
    mark_code (mark.Sign sign.Dollar) ∷ mark_code (mark.Sign sign.QuestionDollar) ∷ mark_code (mark.Sign sign.OpenBracket)
    ∷ mark_code (mark.Sign sign.OpenParenthesis) ∷ unit_code ∷ []

-- and with operands that have operators between them
abbrev pub choice_blocked : List ℕ
choice_blocked =
    mark_code (mark.Sign sign.Star) ∷ mark_code (mark.Sign sign.Slash) ∷ mark_code (mark.Sign sign.Percent) ∷ mark_code (mark.Sign sign.Plus) ∷ mark_code (mark.Sign sign.Minus)
    ∷ mark_code (mark.Sign sign.EqualEqual) ∷ mark_code (mark.Sign sign.NotEqual) ∷ mark_code (mark.Sign sign.Less) ∷ mark_code (mark.Sign sign.LessEqual)
    ∷ mark_code (mark.Sign sign.Greater) ∷ mark_code (mark.Sign sign.GreaterEqual) ∷ mark_code (mark.Word keyword.In) ∷ mark_code (mark.Sign sign.NotIn)
    ∷ mark_code (mark.Sign sign.And) ∷ mark_code (mark.Sign sign.Or) ∷ mark_code (mark.Sign sign.Question) ∷ operand_blocked

abbrev pub nest_blocked : {A : Type 0} → Nest A → List ℕ
nest_blocked AnExpr = mark_code (mark.Sign sign.Equal) ∷ mark_code (mark.Sign sign.PlusEqual) ∷ mark_code (mark.Sign sign.MinusEqual) ∷ choice_blocked
nest_blocked ACond = choice_blocked
nest_blocked AUnary = operand_blocked
nest_blocked AType = mark_code (mark.Sign sign.Colon) ∷ []
nest_blocked AStmt = []
nest_blocked ADecl = []

-- what a value begins with
abbrev pub first : {A : Type 0} → Grammar A → List ℕ
first (Alone m) = mark_code m ∷ []
first (OneOf meant) = codes_of meant
first (Of class) = class_codes class
first (Nested nest) = nest_first nest
first (Placed g) = first g
first (After m g) = mark_code m ∷ []
first (Before g m) = first g
first (Then g h) = first g
first (Made make g) = first g
first (Either g h) = first g ++ first h
first (Optional g h) = first g
first (Nearest g m h) = first g
first (Many g h) = first g
first (Listed g separator) = first g
first (Enclosed opening g separator closing) = mark_code opening ∷ []
first (Until g m) = mark_code m ∷ first g
first (Trailing g separator m) = first g

-- what would go on with a value, where it stood behind it
abbrev pub blocked : {A : Type 0} → Grammar A → List ℕ
blocked (Alone m) = []
blocked (OneOf meant) = []
blocked (Of class) = []
blocked (Nested nest) = nest_blocked nest
blocked (Placed g) = blocked g
blocked (After m g) = blocked g
blocked (Before g m) = []
blocked (Then g h) = blocked h
blocked (Made make g) = blocked g
blocked (Either g h) = blocked g ++ blocked h
blocked (Optional g h) = blocked g ++ (blocked h ++ first h)
blocked (Nearest g m h) = blocked g ++ blocked h
blocked (Many g h) = blocked g ++ (blocked h ++ first h)
blocked (Listed g separator) = mark_code separator ∷ blocked g
blocked (Enclosed opening g separator closing) = []
blocked (Until g m) = []
blocked (Trailing g separator m) = []

-- it begins with tokens of its own
abbrev pub is_told : {A : Type 0} → Grammar A → Bool
is_told (Alone m) = true
is_told (OneOf meant) = true
is_told (Of class) = true
is_told (Nested nest) = false
is_told (Placed g) = is_told g
is_told (After m g) = true
is_told (Before g m) = is_told g
is_told (Then g h) = is_told g
is_told (Made make g) = is_told g
is_told (Either g h) = is_told g && is_told h
is_told (Optional g h) = is_told g
is_told (Nearest g m h) = is_told g
is_told (Many g h) = is_told g
is_told (Listed g separator) = is_told g
is_told (Enclosed opening g separator closing) = true
is_told (Until g m) = false
is_told (Trailing g separator m) = is_told g

-- one token tells what is read next, at each place of the grammar
abbrev pub is_sure : {A : Type 0} → Grammar A → Bool
is_sure (Alone m) = true
is_sure (OneOf meant) = true
is_sure (Of class) = true
is_sure (Nested nest) = true
is_sure (Placed g) = is_sure g
is_sure (After m g) = is_sure g
is_sure (Before g m) = is_sure g && not (has (blocked g) (mark_code m))
is_sure (Then g h) = is_sure g && (is_sure h && disjoint (first h) (blocked g))
is_sure (Made make g) = is_sure g
is_sure (Either g h) = is_sure g && (is_sure h && (is_told g && disjoint (first h) (first g)))
is_sure (Optional g h) = is_sure g && (is_sure h && (is_told h && disjoint (first h) (blocked g)))
is_sure (Nearest g m h) = is_sure g && (is_sure h && not (has (blocked g) (mark_code m)))
is_sure (Many g h) = is_sure g && (is_sure h && (is_told h && (disjoint (first h) (blocked g) && disjoint (first h) (blocked h))))
is_sure (Listed g separator) = is_sure g && not (has (blocked g) (mark_code separator))
is_sure (Enclosed opening g separator closing) =
    is_sure g && (not (has (blocked g) (mark_code separator)) && (not (has (mark_code separator ∷ blocked g) (mark_code closing)) && not (has (first g) (mark_code closing))))
is_sure (Until g m) = is_sure g && (not (has (blocked g) (mark_code m)) && (not (has (first g) (mark_code m)) && disjoint (first g) (blocked g)))
is_sure (Trailing g separator m) =
    is_sure g && (not (has (blocked g) (mark_code separator)) && (not (has (mark_code separator ∷ blocked g) (mark_code m)) && not (has (first g) (mark_code m))))
