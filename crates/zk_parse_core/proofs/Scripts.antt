-- The grammar of scripts: one token tells what is read next at each of its places, so nodes are read just where they are spelled.
use Rattle.std.proofs.Common.{◌≡◌, ℕ, zero, suc, true, refl}
use Rattle.zk_tree.specs.Rules.{Nest, AnExpr, ACond, AUnary, AType, AStmt, ADecl}
use Rattle.zk_tree.specs.Grammar.{node, an_expr, a_type, a_stmt, a_decl, named_item, an_item, args, index, a_part, parenthesis, size, list, make, hook_call, prim, post, prefixed, unary, an_operand, term, sum, compare, conjunction, disjunction, arms, choice, assignment, attr, typed, param, params, field, fields, key_types, table_type, set_type, vector_type, record_type, enum_type, event_type, hook_type, signature, function_type, other_type, type_node, brace_values, braces, initial, perhaps_typed, variable, block, block_stmt, guarded, perhaps_else, if_stmt, while_stmt, for_keys, for_names, for_head, for_stmt, local_stmt, some_exprs, print_stmt, named_args, event_stmt, scheduled, schedule_stmt, add_stmt, delete_stmt, returned, return_stmt, expr_stmt, short_stmt, plain_stmt, statement, export_decl, declared, variable_decl, type_decl, redef_enum, redef_record, redef_value, redefined, redef_decl, handled, body_decl, function_decl, common_decl, declaration}
use Rattle.zk_tree.specs.Reading.{Within}
use Rattle.zk_parse_core.specs.Reading.{within}
use Rattle.zk_parse_core.proofs.FirstTokens.{code_at, included, has_included, has_included-false, nest_first, nest_blocked, first, blocked, is_sure}
use Rattle.zk_parse_core.proofs.Theorem.{IsExact, short, ends, begun, taken, again}

-- at each place of the grammar
sure : {A : Type 0} (nest : Nest A) → is_sure (node nest) ≡ true
unfolding an_expr a_type a_stmt a_decl named_item an_item args index a_part parenthesis size list make hook_call prim post prefixed unary an_operand term sum compare conjunction disjunction arms choice assignment attr typed param params field fields key_types table_type set_type vector_type record_type enum_type event_type hook_type signature function_type other_type type_node brace_values braces initial perhaps_typed variable block block_stmt guarded perhaps_else if_stmt while_stmt for_keys for_names for_head for_stmt local_stmt some_exprs print_stmt named_args event_stmt scheduled schedule_stmt add_stmt delete_stmt returned return_stmt expr_stmt short_stmt plain_stmt statement export_decl declared variable_decl type_decl redef_enum redef_record redef_value redefined redef_decl handled body_decl function_decl common_decl declaration
sure AnExpr = refl
sure ACond = refl
sure AUnary = refl
sure AType = refl
sure AStmt = refl
sure ADecl = refl

-- what the nodes of a kind begin with
begins_within : {A : Type 0} (nest : Nest A) → included (first (node nest)) (nest_first nest) ≡ true
unfolding an_expr a_type a_stmt a_decl named_item an_item args index a_part parenthesis size list make hook_call prim post prefixed unary an_operand term sum compare conjunction disjunction arms choice assignment attr typed param params field fields key_types table_type set_type vector_type record_type enum_type event_type hook_type signature function_type other_type type_node brace_values braces initial perhaps_typed variable block block_stmt guarded perhaps_else if_stmt while_stmt for_keys for_names for_head for_stmt local_stmt some_exprs print_stmt named_args event_stmt scheduled schedule_stmt add_stmt delete_stmt returned return_stmt expr_stmt short_stmt plain_stmt statement export_decl declared variable_decl type_decl redef_enum redef_record redef_value redefined redef_decl handled body_decl function_decl common_decl declaration
begins_within AnExpr = refl
begins_within ACond = refl
begins_within AUnary = refl
begins_within AType = refl
begins_within AStmt = refl
begins_within ADecl = refl

-- what may not follow them
blocked_within : {A : Type 0} (nest : Nest A) → included (blocked (node nest)) (nest_blocked nest) ≡ true
unfolding an_expr a_type a_stmt a_decl named_item an_item args index a_part parenthesis size list make hook_call prim post prefixed unary an_operand term sum compare conjunction disjunction arms choice assignment attr typed param params field fields key_types table_type set_type vector_type record_type enum_type event_type hook_type signature function_type other_type type_node brace_values braces initial perhaps_typed variable block block_stmt guarded perhaps_else if_stmt while_stmt for_keys for_names for_head for_stmt local_stmt some_exprs print_stmt named_args event_stmt scheduled schedule_stmt add_stmt delete_stmt returned return_stmt expr_stmt short_stmt plain_stmt statement export_decl declared variable_decl type_decl redef_enum redef_record redef_value redefined redef_decl handled body_decl function_decl common_decl declaration
blocked_within AnExpr = refl
blocked_within ACond = refl
blocked_within AUnary = refl
blocked_within AType = refl
blocked_within AStmt = refl
blocked_within ADecl = refl

-- nodes that are nested at most so deep are read just where they are spelled
pub exact : (n : ℕ) → IsExact (Within n) (within n)
unfolding Within within
exact zero = record {
  taken = λ A nest tokens x e. absurd cc;
  again = λ A nest a tokens rest p calm. absurd p;
  begun = λ A nest a tokens rest p. absurd p;
  short = λ A nest a tokens rest p. absurd p;
  ends = λ A nest a tokens rest p. absurd p;
}
exact (suc n) = record {
  taken = λ A nest tokens x e. taken (Within n) (within n) (exact n) (node nest) tokens x e;
  again = λ A nest a tokens rest p calm.
      again (Within n) (within n) (exact n) (node nest) (sure nest) a tokens rest p
      (has_included-false (blocked (node nest)) (nest_blocked nest) (code_at rest) (blocked_within nest) calm);
  begun = λ A nest a tokens rest p.
      has_included (first (node nest)) (nest_first nest) (code_at tokens) (begins_within nest) (begun (Within n) (within n) (exact n) (node nest) a tokens rest p);
  short = λ A nest a tokens rest p. short (Within n) (within n) (exact n) (node nest) a tokens rest p;
  ends = λ A nest a tokens rest p. ends (Within n) (within n) (exact n) (node nest) a tokens rest p;
}
