use Rattle.std.proofs.Common.{◌≡◌, List, [], ◌∷◌, ◌++◌, Bor, flat_map, ap, sym, refl, ◌∙◌, append_assoc}
use Rattle.std.proofs.lemmas.List.{map-append}
use Rattle.zk_tree.specs.declared.types.Field.{out-Field}
use Rattle.zk_tree.specs.declared.types.Param.{out-Param}
use Rattle.zk_tree.specs.declared.types.Type.{«Type»}
use Rattle.zk_typed.specs.Within.{within}
use Rattle.zk_scope.specs.Lent.{types_lent}
use Rattle.zk_scope.proofs.WithinLaws.{within_set, within_vector, within_table, within_record, within_event, within_hook, within_procedure, within_function}
use Rattle.zk_scope.proofs.inner.+within.Goals as goal

-- a type is added, and then what stands within it
joined : (old pushed new : List (Bor «Type»)) (one : Bor «Type») (tree : «Type») (more parts : List «Type») →
    pushed ≡ old ++ one ∷ [] → types_lent new ≡ types_lent pushed ++ more → one.now ≡ tree → within tree ≡ tree ∷ parts → more ≡ parts →
    types_lent new ≡ types_lent old ++ within one.now
joined old pushed new one tree more parts p n i w m =
    n ∙ ap (λ x. types_lent x ++ more) p ∙ ap (λ x. x ++ more) (map-append (λ (x : Bor «Type»). x.now) old (one ∷ [])) ∙
    append_assoc (types_lent old) (one.now ∷ []) more ∙
    ap (λ x. types_lent old ++ x) (ap (λ x. one.now ∷ x) m ∙ ap (λ x. x ∷ parts) i ∙ sym w ∙ ap within (sym i))

-- two runs are one
twice : (old between new : List (Bor «Type»)) (a b c d : List «Type») →
    types_lent between ≡ types_lent old ++ a → types_lent new ≡ types_lent between ++ b → a ≡ c → b ≡ d → types_lent new ≡ types_lent old ++ (c ++ d)
twice old between new a b c d p q e f = q ∙ ap (λ x. x ++ b) p ∙ append_assoc (types_lent old) a b ∙ ap (λ x. types_lent old ++ (x ++ b)) e ∙ ap (λ x. types_lent old ++ (c ++ x)) f

pub within-returns-in_ok-within_types-in-Set : goal.within-returns-in_ok-within_types-in-Set
within-returns-in_ok-within_types-in-Set t c =
    joined _ _ _ c.args.tree _ _ _ c.in_ok-push.ensures.items (c.in_ok-within_types-in-Set.ensures) c.in-Set.is (within_set _ _) (ap (flat_map within) c.as_slice-in-Set.ensures)

pub within-returns-in_ok-within-in-Vector : goal.within-returns-in_ok-within-in-Vector
within-returns-in_ok-within-in-Vector t c =
    joined _ _ _ c.args.tree _ _ _ c.in_ok-push.ensures.items (c.in_ok-within-in-Vector.ensures) c.in-Vector.is (within_vector _ _) (ap within c.get-in-Vector.ensures)

pub within-returns-in_ok-within_fields-in-Record : goal.within-returns-in_ok-within_fields-in-Record
within-returns-in_ok-within_fields-in-Record t c =
    joined _ _ _ c.args.tree _ _ _ c.in_ok-push.ensures.items (c.in_ok-within_fields-in-Record.ensures) c.in-Record.is (within_record _ _) (ap (flat_map (λ field. within (out-Field field).field_type)) c.as_slice-in-Record.ensures)

pub within-returns-in_ok-within_params-in-Event : goal.within-returns-in_ok-within_params-in-Event
within-returns-in_ok-within_params-in-Event t c =
    joined _ _ _ c.args.tree _ _ _ c.in_ok-push.ensures.items (c.in_ok-within_params-in-Event.ensures) c.in-Event.is (within_event _ _) (ap (flat_map (λ param. within (out-Param param).param_type)) c.as_slice-in-Event.ensures)

pub within-returns-in_ok-within_params-in-Hook : goal.within-returns-in_ok-within_params-in-Hook
within-returns-in_ok-within_params-in-Hook t c =
    joined _ _ _ c.args.tree _ _ _ c.in_ok-push.ensures.items (c.in_ok-within_params-in-Hook.ensures) c.in-Hook.is (within_hook _ _) (ap (flat_map (λ param. within (out-Param param).param_type)) c.as_slice-in-Hook.ensures)

pub within-returns-in_ok-within_params-in-Procedure : goal.within-returns-in_ok-within_params-in-Procedure
within-returns-in_ok-within_params-in-Procedure t c =
    joined _ _ _ c.args.tree _ _ _ c.in_ok-push.ensures.items (c.in_ok-within_params-in-Procedure.ensures) c.in-Procedure.is (within_procedure _ _) (ap (flat_map (λ param. within (out-Param param).param_type)) c.as_slice-in-Procedure.ensures)

pub within-returns-in_ok-within-in-Table : goal.within-returns-in_ok-within-in-Table
within-returns-in_ok-within-in-Table t c =
    joined _ _ _ c.args.tree _ _ _ c.in_ok-push.ensures.items
    (twice _ _ _ _ _ _ _ (c.in_ok-within_types-in-Table.ensures) (c.in_ok-within-in-Table.ensures) (ap (flat_map within) c.as_slice.ensures) (ap within c.get.ensures))
    c.in-Table.is (within_table _ _ _) refl

pub within-returns-in_ok-within-in-Function : goal.within-returns-in_ok-within-in-Function
within-returns-in_ok-within-in-Function t c =
    joined _ _ _ c.args.tree _ _ _ c.in_ok-push.ensures.items
    (twice _ _ _ _ _ _ _ (c.in_ok-within_params-in-Function.ensures) (c.in_ok-within-in-Function.ensures)
    (ap (flat_map (λ param. within (out-Param param).param_type)) c.as_slice-in-Function.ensures) (ap within c.get-in-Function.ensures))
    c.in-Function.is (within_function _ _ _) refl
