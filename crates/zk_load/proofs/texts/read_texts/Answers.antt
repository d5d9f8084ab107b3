use Rattle.zk_load.proofs.TextLaws.{all_read, one_more, one_refused}
use Rattle.zk_load.proofs.texts.read_texts.Goals as goal

pub texts-preserved : goal.texts-preserved
texts-preserved c =
    one_more c.args.texts.now c.texts.name-index _ c.texts.scripts.items c.push.new.self.items _ c.in_ok-file.file c.in_ok-copy_of.field-0 c.in_ok-tree.field-0 c.in-Accepted.tree
    c.texts-test.true c.texts.invariant c.in_ok-file.ensures c.in_ok-copy_of.ensures c.in_ok-tree.ensures c.in-Accepted.is c.in_ok-push-in-Accepted.ensures.items

pub returns-in-Refused : goal.returns-in-Refused
returns-in-Refused c =
    one_refused c.args.texts.now c.texts.name-index _ c.texts.scripts.items _ c.in_ok-copy_of.field-0 c.in_ok-tree.field-0 c.in-Refused.ending
    c.texts-test.true c.texts.invariant c.in_ok-copy_of.ensures c.in_ok-tree.ensures c.in-Refused.is

pub returns : goal.returns
returns c = all_read c.args.texts.now c.texts.name-index c.texts.scripts.items c.from.result _ c.texts-test.false c.texts.invariant c.from.ensures
