-- All that unfolds when the definition of reading goes over tokens that are written out.
use Rattle.zk_tree.specs.Marks.{keyword_of}
use Rattle.zk_tree.specs.Classes.{unit_of}
use Rattle.zk_tree.specs.Grammar.{an_expr, a_type, a_stmt, a_decl, named_item, an_item, args, index, a_part, parenthesis, size, list, make, hook_call, prim, post, prefixed, unary, an_operand, term, sum, compare, conjunction, disjunction, arms, choice, assignment, attr, typed, param, params, field, fields, key_types, table_type, set_type, vector_type, record_type, enum_type, event_type, hook_type, signature, function_type, other_type, type_node, brace_values, braces, initial, perhaps_typed, variable, block, block_stmt, guarded, perhaps_else, if_stmt, while_stmt, for_keys, for_names, for_head, for_stmt, local_stmt, some_exprs, print_stmt, named_args, event_stmt, scheduled, schedule_stmt, add_stmt, delete_stmt, returned, return_stmt, expr_stmt, short_stmt, plain_stmt, statement, export_decl, declared, variable_decl, type_decl, redef_enum, redef_record, redef_value, redefined, redef_decl, handled, body_decl, function_decl, common_decl, declaration}
use Rattle.zk_parse_core.specs.Reading.{mark_at, repeated, listed_at, enclosed_at, until_at, trailing_at, within}
use Rattle.zk_parse.specs.Trees.{decl_at, front_from, front_of}

unfoldable pub reading : Unit {0}
unfolding
    an_expr a_type a_stmt a_decl named_item an_item args index a_part parenthesis size list make hook_call prim post prefixed unary an_operand term sum compare conjunction disjunction arms choice assignment attr typed param params field fields key_types table_type set_type vector_type record_type enum_type event_type hook_type signature function_type other_type type_node brace_values braces initial perhaps_typed variable block block_stmt guarded perhaps_else if_stmt while_stmt for_keys for_names for_head for_stmt local_stmt some_exprs print_stmt named_args event_stmt scheduled schedule_stmt add_stmt delete_stmt returned return_stmt expr_stmt short_stmt plain_stmt statement export_decl declared variable_decl type_decl redef_enum redef_record redef_value redefined redef_decl handled body_decl function_decl common_decl declaration
    keyword_of unit_of mark_at repeated listed_at enclosed_at until_at trailing_at within decl_at front_from front_of
reading = tt
