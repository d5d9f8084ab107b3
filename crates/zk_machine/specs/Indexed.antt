-- The code that an index stands for.
use Rattle.zk_lower.specs.Code.{Code}
use Rattle.zk_lower.specs.View.{code_of}
use Rattle.zk_machine.specs.declared.indexed.IndexedCode.{IndexedCode}

abbrev pub code_in : IndexedCode → Code
code_in indexed = code_of indexed.code
