use Rattle.zk_names.proofs.given.add_type_names.Goals as goal

pub returns : goal.returns
returns c = c.in_ok-add_types.ensures
