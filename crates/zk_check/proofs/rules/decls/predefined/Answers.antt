use Rattle.std.proofs.Common.{◌||◌, List, ℕ, [], map, ap, sym, ◌∙◌, append-nil}
use Rattle.zk_typed.specs.Declarations.{is_one_of}
use Rattle.zk_typed.specs.Declaring.{predefined_names}
use Rattle.zk_typed.specs.Names.{Declared}
use Rattle.zk_typed.specs.Resolving.{Scripts}
use Rattle.zk_scope.specs.Lent.{declared_lent}
use Rattle.zk_check.proofs.rules.decls.predefined.Goals as goal

pub returns : goal.returns
returns c =
    let named : List Declared → List (List ℕ) = λ declared. map (λ one. one.name) declared in
    record {
      told = λ name.
          c.in_ok-meet_all.ensures name ∙
          ap (λ b. b || is_one_of (named (declared_lent c.declared.result.now)) name) (c.new-seen.ensures.told name) ∙
          ap (λ declared. is_one_of (named declared) name) (c.declared.ensures ∙ ap (λ (scripts : Scripts). scripts.names) c.in_ok-none.ensures ∙ append-nil predefined_names) ∙
          ap (λ names. is_one_of names name) (sym (append-nil (named predefined_names)));
    }
