-- Reserved words and signs: the tokens that have no value of their own (Zeek manual, Script Reference).
use Rattle.std.specs.Prelude.{◌≡◌, ℕ, List, [], ◌∷◌, codes, Option}
use Rattle.std.specs.List.{find}
use Rattle.std.specs.Str.{bytes_eq}
use Rattle.zk_tree.specs.declared.token.TokenKind.{TokenKind}
use Rattle.zk_tree.specs.declared.token.TokenKind.TheVariants as token
use Rattle.zk_tree.specs.declared.keyword.Keyword.{Keyword}
use Rattle.zk_tree.specs.declared.keyword.Keyword.TheVariants as keyword
use Rattle.zk_tree.specs.declared.keyword.Mark.{Mark}
use Rattle.zk_tree.specs.declared.keyword.Mark.TheVariants as mark

abbrev pub text_of : Keyword → List ℕ
text_of keyword.Module = codes "module"
text_of keyword.Export = codes "export"
text_of keyword.Global = codes "global"
text_of keyword.Const = codes "const"
text_of keyword.Redef = codes "redef"
text_of keyword.Type = codes "type"
text_of keyword.Enum = codes "enum"
text_of keyword.Record = codes "record"
text_of keyword.Event = codes "event"
text_of keyword.Hook = codes "hook"
text_of keyword.Function = codes "function"
text_of keyword.Bool = codes "bool"
text_of keyword.Count = codes "count"
text_of keyword.Int = codes "int"
text_of keyword.String = codes "string"
text_of keyword.Time = codes "time"
text_of keyword.Interval = codes "interval"
text_of keyword.Addr = codes "addr"
text_of keyword.Port = codes "port"
text_of keyword.Subnet = codes "subnet"
text_of keyword.Table = codes "table"
text_of keyword.Of = codes "of"
text_of keyword.Set = codes "set"
text_of keyword.Vector = codes "vector"
text_of keyword.If = codes "if"
text_of keyword.Else = codes "else"
text_of keyword.While = codes "while"
text_of keyword.For = codes "for"
text_of keyword.In = codes "in"
text_of keyword.Local = codes "local"
text_of keyword.Print = codes "print"
text_of keyword.Schedule = codes "schedule"
text_of keyword.Add = codes "add"
text_of keyword.Delete = codes "delete"
text_of keyword.Return = codes "return"
text_of keyword.Next = codes "next"
text_of keyword.Break = codes "break"
text_of keyword.True = codes "T"
text_of keyword.False = codes "F"

abbrev pub every_keyword : List Keyword
every_keyword =
    keyword.Module ∷ keyword.Export ∷ keyword.Global ∷ keyword.Const ∷ keyword.Redef ∷ keyword.Type ∷ keyword.Enum ∷ keyword.Record ∷ keyword.Event ∷ keyword.Hook ∷ keyword.Function ∷ keyword.Bool ∷ keyword.Count ∷ keyword.Int ∷ keyword.String ∷ keyword.Time ∷ keyword.Interval ∷ keyword.Addr ∷ keyword.Port ∷ keyword.Subnet ∷ keyword.Table ∷ keyword.Of ∷ keyword.Set ∷ keyword.Vector ∷ keyword.If ∷ keyword.Else ∷ keyword.While ∷ keyword.For ∷ keyword.In ∷ keyword.Local ∷ keyword.Print ∷ keyword.Schedule ∷ keyword.Add ∷ keyword.Delete ∷ keyword.Return ∷ keyword.Next ∷ keyword.Break ∷ keyword.True ∷ keyword.False ∷ []

-- the reserved word of these bytes
unfoldable pub keyword_of : List ℕ → Option Keyword
keyword_of name = find (λ word. bytes_eq name (text_of word)) every_keyword

-- a token is that sign, or that word
abbrev pub IsMark : Mark → TokenKind → Type 0
IsMark (mark.Sign sign) kind = kind ≡ token.Sign sign
IsMark (mark.Word word) kind = kind ≡ token.Name (text_of word)
