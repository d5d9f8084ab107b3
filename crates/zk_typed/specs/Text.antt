-- The text of a value as `print` writes it (Zeek manual, Statements, print). That times and intervals are written in
-- seconds with six decimals is this project's own form.
use Rattle.std.specs.Prelude.{ℕ, List, [], map, codes, decimal, if◌then◌else◌}
use Rattle.std.specs.Fmt.{signed_decimal}
use Rattle.zk_tree.specs.Value.{Value, Bool, Count, Int, String, Time, Interval, Addr, Port, Subnet, Enum, Object}
use Rattle.zk_tree.specs.Lists.{joined_by}
use Rattle.zk_base.specs.declared.network.Addr.TheVariants.{V4}
use Rattle.zk_text.specs.Address.{addr_text, subnet_text}
use Rattle.zk_text.specs.Port.{port_text}
use Rattle.zk_text.specs.Span.{span_decimal}

abbrev pub text_of : Value → List ℕ
text_of (Bool truth) = if truth then codes "T" else codes "F"
text_of (Count count) = decimal count
text_of (Int int) = signed_decimal int
text_of (String bytes) = bytes
text_of (Time moment) = span_decimal moment.0
text_of (Interval span) = span_decimal span.0
text_of (Addr address) = addr_text address
text_of (Port port proto) = port_text port proto
text_of (Subnet prefix width) = subnet_text (V4 prefix) width
text_of (Enum word) = word
-- no typed program asks for it
text_of (Object number) = []

-- texts with a comma and a blank between each and the next
abbrev pub with_commas : List (List ℕ) → List ℕ
with_commas texts = joined_by (codes ", ") texts

-- the line of values that are printed together, without its end
abbrev pub line_of : List Value → List ℕ
line_of values = with_commas (map text_of values)
