use Rattle.std.proofs.Common.{◌++◌, ◌∷◌, [], None, map, replicate, ap, ◌∙◌, append_assoc}
use Rattle.std.proofs.lemmas.List.{map-append, replicate-append-replicate}
use Rattle.zk_value.specs.Plain.{field_of}
use Rattle.zk_machine.proofs.calls.add_locals.Goals as goal

pub loop-preserved : goal.loop-preserved
loop-preserved c =
    ap (map field_of) c.in_ok-push.ensures.items ∙ (map-append field_of c.loop.names.items (None ∷ []) ∙ (ap (λ l. l ++ None ∷ []) c.loop.invariant ∙
    (append_assoc (map field_of c.args.names.now.items) (replicate c.loop.counter None) (None ∷ []) ∙ ap (λ l. map field_of c.args.names.now.items ++ l) (replicate-append-replicate c.loop.counter 1 None))))
