-- What the program complains on standard error, by how it ends.
use Rattle.std.specs.Prelude.{ℕ, List, [], ◌++◌, codes, decimal}
use Rattle.zk_base.specs.declared.endings.Ending.{Ending}
use Rattle.zk_base.specs.declared.endings.Ending.TheVariants.{Done, Usage, ScriptRefused, NoInput, CaptureRefused, CutShort, ReadFault, WriteFault, NoMemory, Flood}
use Rattle.zk_base.specs.Ending.{kind_name}
use Rattle.zk_text.specs.Span.{span_decimal}

-- a line of the program's own
abbrev pub line : List ℕ → List ℕ
line text = codes "zeekoff: " ++ text ++ codes "\n"

-- the complaint of an ending: a line, or nothing
abbrev pub complaint_of : Ending → List ℕ
complaint_of Done = []
complaint_of (Usage word) = line (codes "word " ++ decimal word ++ codes " is not understood")
complaint_of (ScriptRefused file place kind) = line (file ++ codes ", byte " ++ decimal place ++ codes ": " ++ kind_name kind)
complaint_of (NoInput name) = line (codes "no file " ++ name)
complaint_of (CaptureRefused name place) = line (name ++ codes " refused at byte " ++ decimal place)
complaint_of (CutShort name place) = line (name ++ codes " cut at byte " ++ decimal place)
complaint_of ReadFault = []
complaint_of WriteFault = []
complaint_of NoMemory = []
complaint_of (Flood moment) = line (codes "flood at " ++ span_decimal moment.0)
