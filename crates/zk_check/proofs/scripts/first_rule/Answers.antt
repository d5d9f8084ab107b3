use Rattle.std.proofs.Common.{◌≡◌, List, [], Option, refl, ap, sym, ◌∙◌}
use Rattle.zk_typed.specs.LoadOrder.{Stated}
use Rattle.zk_typed.specs.declared.refusal.Broken.{Broken}
use Rattle.zk_typed.specs.Errors.{errors_from}
use Rattle.zk_check.specs.Earlier.{IsEarlier}
use Rattle.zk_check.specs.Faults.{head_of}
use Rattle.zk_check_declarations.specs.Sources.{scripts_from}
use Rattle.zk_check_declarations.specs.Uses.{streams_lent}
use Rattle.zk_check_declarations.proofs.RoundLaws.{ok_map}
use Rattle.zk_check.proofs.scripts.first_rule.Goals as goal

pub first_broken-requires : goal.first_broken-requires
first_broken-requires c = record {
  valued = record {
    ground = record { source = c.requires.source; same = refl; depths = c.in_ok-depths.ensures; values = c.requires.values };
    same = refl;
    told = c.requires.told;
    known = c.requires.source.known;
  };
  source = c.requires.source;
  same = refl;
  logs = c.deref.ensures.value ∙ c.in_ok-logs.ensures;
  streams = ap streams_lent c.deref-2.ensures.value ∙ c.in_ok-streams.ensures;
}

pub returns : goal.returns
returns c =
    let scripts = scripts_from c.args.source.now in
    ok_map
    (λ (first : Option Broken). IsEarlier c.in_ok-earlier.earlier scripts [] → first ≡ head_of (errors_from scripts [] _))
    (λ (first : Option Broken). first ≡ head_of (errors_from scripts [] scripts.stated))
    c.first_broken.result
    (λ first told. told c.in_ok-earlier.ensures ∙ ap (λ (stated : List Stated). head_of (errors_from scripts [] stated)) c.stated.ensures)
    c.first_broken.ensures
