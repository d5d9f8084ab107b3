use Rattle.std.proofs.Common.{arith, sym, subst}
use Rattle.zk_http.specs.HeadTurns.{HeadShows}
use Rattle.zk_http.specs.Turns.{places_of}
use Rattle.zk_http.specs.declared.units.Reason.TheVariants.{HeadTooLong}
use Rattle.zk_http.specs.declared.units.UnitKind.TheVariants.{Violation}
use Rattle.zk_http.proofs.HeadTurnLaws.{counts_found, head_shows, head_waits, long_head_shows}
use Rattle.zk_http.proofs.head.read_head.Goals as goal

pub returns-in_ok-what-in-Ends-clause-told : goal.returns-in_ok-what-in-Ends-clause-told
returns-in_ok-what-in-Ends-clause-told c knows =
    let bytes = c.args.bytes.now in
    let finds = c.in-Ends.ensures.found knows in
    let counts = counts_found c.in-Ends.search bytes c.in-Ends.len finds in
    let is = c.in_ok-what-in-Ends.ensures counts.lines in (
      subst (λ kind. HeadShows c.args.side c.in-Ends.len kind (places_of bytes)) (sym is) (head_shows c.args.side c.in-Ends.search bytes c.in-Ends.len finds),
      λ head same. counts.text,
    )

pub returns-in-TooLong-clause-told : goal.returns-in-TooLong-clause-told
returns-in-TooLong-clause-told c knows =
    let within = c.in-TooLong.ensures.within in (
      subst (λ n. HeadShows c.args.side n (Violation HeadTooLong) (places_of c.args.bytes.now)) (sym within.0)
          (long_head_shows c.args.side c.args.bytes.now (c.in-TooLong.ensures.found knows) (omega arith)),
      λ head same. absurd cc,
    )

pub returns-in-Waits-clause-told : goal.returns-in-Waits-clause-told
returns-in-Waits-clause-told c knows =
    let within = c.in-Waits.ensures.within in
    head_waits c.args.side c.in-Waits.search c.args.bytes.now (c.in-Waits.ensures.found knows) (omega arith)
