use Rattle.zk_check_expressions.proofs.judge.Judge.declared_call.Goals as goal

pub returns-in-WrittenType : goal.returns-in-WrittenType
returns-in-WrittenType g c = rw c.in-WrittenType.is (rw c.at-place.ensures at c.made_of_written.ensures)
