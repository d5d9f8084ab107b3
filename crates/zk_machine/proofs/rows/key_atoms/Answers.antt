use Rattle.std.proofs.Common.{◌++◌, ◌∷◌, [], map, take, sym, ap, ◌∙◌}
use Rattle.zk_typed.specs.Columns.{first_atoms}
use Rattle.zk_value.specs.Plain.{key_of}
use Rattle.zk_machine.proofs.ListLemmas.{mapped-more, first_atoms-append}
use Rattle.zk_machine.proofs.rows.key_atoms.Goals as goal

pub loop-key-preserved : goal.loop-key-preserved
loop-key-preserved c =
    let keys = c.args.keys.now in
    let i = c.loop-key.key-index in
    c.in_ok-push_first.ensures
    ∙ (ap (λ l. l ++ first_atoms (key_of c.as_slice.result.now ∷ [])) c.loop-key.invariant
    ∙ (ap (λ key. first_atoms (map key_of (take i keys)) ++ first_atoms (key_of key ∷ [])) c.as_slice.ensures
    ∙ (sym (first_atoms-append (map key_of (take i keys)) (key_of c.key-item.result ∷ []))
    ∙ ap first_atoms (sym (mapped-more key_of keys i c.key-item.result c.loop-key-test.true c.key-item.is)))))
