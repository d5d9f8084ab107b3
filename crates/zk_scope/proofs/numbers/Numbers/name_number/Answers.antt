use Rattle.std.proofs.Common.{ℕ, List, ap, subst, sym, ◌∙◌}
use Rattle.std.specs.Str.{bytes_eq}
use Rattle.zk_typed.specs.Names.{count_before}
use Rattle.zk_scope.specs.declared.first_places.FirstPlaces.{FirstPlaces}
use Rattle.zk_scope.specs.Numbering.{Stands, names_of}
use Rattle.zk_scope.proofs.PlaceLaws.{name_count}
use Rattle.zk_scope.proofs.numbers.Numbers.name_number.Goals as goal

pub returns : goal.returns
returns c = λ nodes names numbered.
    c.number.ensures (names_of c.args.kind names) (subst (λ (x : FirstPlaces (List ℕ)). Stands bytes_eq x (names_of c.args.kind names)) (sym c.of_kind.ensures) (numbered.0 c.args.kind)) ∙
    ap (λ (x : List ℕ). count_before (λ other. bytes_eq other x) (names_of c.args.kind names)) c.in_ok-name.ensures ∙ name_count c.args.kind c.args.name.now names
