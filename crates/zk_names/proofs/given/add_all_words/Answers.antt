use Rattle.zk_names.proofs.given.add_all_words.Goals as goal

pub returns : goal.returns
returns c = c.in_ok-add_words.ensures
