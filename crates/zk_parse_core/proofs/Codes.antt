-- A number for each kind of token, and sets of such numbers: which tokens a value of a grammar begins with.
use Rattle.std.proofs.Common.{◌≡◌, ℕ, Bool, true, false, cond, List, [], ◌∷◌, slice_get, Option, Some, None, refl, sym, ap, subst, ◌∙◌, eq-eqb}
use Rattle.std.specs.Option.{option_map}
use Rattle.std.specs.List.{find}
use Rattle.std.specs.Str.{bytes_eq}
use Rattle.std.proofs.lemmas.Bool.{eqb-true}
use Rattle.std.proofs.lemmas.Slice.Eq.{bytes_eq-Decides}
use Rattle.zk_tree.specs.declared.token.TokenKind.{TokenKind}
use Rattle.zk_tree.specs.declared.token.TokenKind.TheVariants as token
use Rattle.zk_tree.specs.declared.token.Sign.TheVariants as sign
use Rattle.zk_tree.specs.declared.keyword.Keyword.{Keyword}
use Rattle.zk_tree.specs.declared.keyword.Keyword.TheVariants as keyword
use Rattle.zk_tree.specs.declared.keyword.Mark.{Mark}
use Rattle.zk_tree.specs.declared.keyword.Mark.TheVariants as mark
use Rattle.zk_tree.specs.Marks.{text_of, every_keyword, keyword_of, IsMark}
use Rattle.zk_tree.specs.Classes.{unit_of}
use Rattle.zk_parse_core.specs.Reading.{number_of, is_mark, mark_in}

-- ---- marks and their numbers

abbrev pub word_number : Keyword → ℕ
word_number keyword.Module = 33
word_number keyword.Export = 34
word_number keyword.Global = 35
word_number keyword.Const = 36
word_number keyword.Redef = 37
word_number keyword.Type = 38
word_number keyword.Enum = 39
word_number keyword.Record = 40
word_number keyword.Event = 41
word_number keyword.Hook = 42
word_number keyword.Function = 43
word_number keyword.Bool = 44
word_number keyword.Count = 45
word_number keyword.Int = 46
word_number keyword.String = 47
word_number keyword.Time = 48
word_number keyword.Interval = 49
word_number keyword.Addr = 50
word_number keyword.Port = 51
word_number keyword.Subnet = 52
word_number keyword.Table = 53
word_number keyword.Of = 54
word_number keyword.Set = 55
word_number keyword.Vector = 56
word_number keyword.If = 57
word_number keyword.Else = 58
word_number keyword.While = 59
word_number keyword.For = 60
word_number keyword.In = 61
word_number keyword.Local = 62
word_number keyword.Print = 63
word_number keyword.Schedule = 64
word_number keyword.Add = 65
word_number keyword.Delete = 66
word_number keyword.Return = 67
word_number keyword.Next = 68
word_number keyword.Break = 69
word_number keyword.True = 70
word_number keyword.False = 71

abbrev pub mark_number : Mark → ℕ
mark_number (mark.Sign s) = number_of s
mark_number (mark.Word w) = word_number w

abbrev pub every_mark : List Mark
every_mark =
    mark.Sign sign.OpenParenthesis ∷ mark.Sign sign.CloseParenthesis ∷ mark.Sign sign.OpenBracket ∷ mark.Sign sign.CloseBracket ∷ mark.Sign sign.OpenBrace ∷ mark.Sign sign.CloseBrace ∷ mark.Sign sign.Comma ∷ mark.Sign sign.Semicolon ∷ mark.Sign sign.Colon ∷ mark.Sign sign.Question ∷ mark.Sign sign.Dollar ∷ mark.Sign sign.QuestionDollar ∷ mark.Sign sign.Equal ∷ mark.Sign sign.EqualEqual ∷ mark.Sign sign.NotEqual ∷ mark.Sign sign.Less ∷ mark.Sign sign.LessEqual ∷ mark.Sign sign.Greater ∷ mark.Sign sign.GreaterEqual ∷ mark.Sign sign.Plus ∷ mark.Sign sign.Minus ∷ mark.Sign sign.Star ∷ mark.Sign sign.Slash ∷ mark.Sign sign.Percent ∷ mark.Sign sign.Not ∷ mark.Sign sign.NotIn ∷ mark.Sign sign.And ∷ mark.Sign sign.Or ∷ mark.Sign sign.PlusEqual ∷ mark.Sign sign.MinusEqual ∷ mark.Sign sign.PlusPlus ∷ mark.Sign sign.MinusMinus ∷ mark.Sign sign.Bar ∷ mark.Word keyword.Module ∷ mark.Word keyword.Export ∷ mark.Word keyword.Global ∷ mark.Word keyword.Const ∷ mark.Word keyword.Redef ∷ mark.Word keyword.Type ∷ mark.Word keyword.Enum ∷ mark.Word keyword.Record ∷ mark.Word keyword.Event ∷ mark.Word keyword.Hook ∷ mark.Word keyword.Function ∷ mark.Word keyword.Bool ∷ mark.Word keyword.Count ∷ mark.Word keyword.Int ∷ mark.Word keyword.String ∷ mark.Word keyword.Time ∷ mark.Word keyword.Interval ∷ mark.Word keyword.Addr ∷ mark.Word keyword.Port ∷ mark.Word keyword.Subnet ∷ mark.Word keyword.Table ∷ mark.Word keyword.Of ∷ mark.Word keyword.Set ∷ mark.Word keyword.Vector ∷ mark.Word keyword.If ∷ mark.Word keyword.Else ∷ mark.Word keyword.While ∷ mark.Word keyword.For ∷ mark.Word keyword.In ∷ mark.Word keyword.Local ∷ mark.Word keyword.Print ∷ mark.Word keyword.Schedule ∷ mark.Word keyword.Add ∷ mark.Word keyword.Delete ∷ mark.Word keyword.Return ∷ mark.Word keyword.Next ∷ mark.Word keyword.Break ∷ mark.Word keyword.True ∷ mark.Word keyword.False ∷ []

pub of_number : (m : Mark) → slice_get every_mark (mark_number m) ≡ Some m
of_number (mark.Sign sign.OpenParenthesis) = refl
of_number (mark.Sign s) = refl
of_number (mark.Word keyword.Module) = refl
of_number (mark.Word w) = refl

-- a mark is known by its number
pub number_tells : (a b : Mark) → mark_number a ≡ mark_number b → a ≡ b
number_tells a b e =
    let same : ◌≡◌ {A = Option Mark} (Some a) (Some b) = sym (of_number a) ∙ ap (slice_get every_mark) e ∙ of_number b in
    cc

-- each reserved word is found by its bytes
pub keyword_again : (w : Keyword) → keyword_of (text_of w) ≡ Some w
unfolding keyword_of
keyword_again keyword.Module = refl
keyword_again w = refl

find_tells : {A : Type 0} (test : A → Bool) (list : List A) (a : A) → find test list ≡ Some a → test a ≡ true
find_tells test [] a e = absurd cc
find_tells test (b ∷ list) a e = elim (test b) as (λ t. test b ≡ t → cond t (Some b) (find test list) ≡ Some a → test a ≡ true) [
  | true ↦ λ is found. let same : b ≡ a = cc in ap test (sym same) ∙ is
  | false ↦ λ is found. find_tells test list a found
] refl e

-- and has those bytes
pub keyword_tells : (name : List ℕ) (w : Keyword) → keyword_of name ≡ Some w → name ≡ text_of w
unfolding keyword_of
keyword_tells name w e = (bytes_eq-Decides name (text_of w)).0 (find_tells (λ word. bytes_eq name (text_of word)) every_keyword w e)

pub no_unit : (w : Keyword) → unit_of (text_of w) ≡ None
unfolding unit_of
no_unit keyword.Module = refl
no_unit w = refl

-- ---- what a token is

pub is_mark-true : (m : Mark) (kind : TokenKind) → is_mark m kind ≡ true → IsMark m kind
is_mark-true (mark.Sign s) (token.Sign found) e = let same = number_tells (mark.Sign found) (mark.Sign s) (eqb-true (number_of found) (number_of s) e) in cc
is_mark-true (mark.Word w) (token.Name name) e = ap (λ (n : List ℕ). token.Name n) ((bytes_eq-Decides name (text_of w)).0 e)
is_mark-true m kind e = absurd cc

pub true-is_mark : (m : Mark) (kind : TokenKind) → IsMark m kind → is_mark m kind ≡ true
true-is_mark (mark.Sign s) kind is = ap (is_mark (mark.Sign s)) is ∙ eq-eqb (number_of s) (number_of s) refl
true-is_mark (mark.Word w) kind is = ap (is_mark (mark.Word w)) is ∙ (bytes_eq-Decides (text_of w) (text_of w)).1 refl

pub mark_in-again : (m : Mark) (kind : TokenKind) → IsMark m kind → mark_in kind ≡ Some m
mark_in-again (mark.Sign s) kind is = ap mark_in is
mark_in-again (mark.Word w) kind is = ap mark_in is ∙ ap (option_map (λ found. mark.Word found)) (keyword_again w)

mapped_word : (name : List ℕ) (found : Option Keyword) (m : Mark) → keyword_of name ≡ found → option_map (λ found. mark.Word found) found ≡ Some m → IsMark m (token.Name name)
mapped_word name (Some w) m is e =
    let same : mark.Word w ≡ m = cc in
    subst (λ (k : Mark). IsMark k (token.Name name)) same (ap (λ (n : List ℕ). token.Name n) (keyword_tells name w is))
mapped_word name None m is e = absurd cc

pub mark_in-tells : (m : Mark) (kind : TokenKind) → mark_in kind ≡ Some m → IsMark m kind
mark_in-tells m (token.Sign s) e = let same : mark.Sign s ≡ m = cc in subst (λ (k : Mark). IsMark k (token.Sign s)) same refl
mark_in-tells m (token.Name name) e = mapped_word name (keyword_of name) m refl e
mark_in-tells m kind e = absurd cc
