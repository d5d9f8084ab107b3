use Rattle.std.proofs.Common.{◌≡◌, false, sym, ap, ◌∙◌, arith}
use Rattle.zk_http.specs.BodyBytes.{data_by}
use Rattle.zk_http.specs.HalfStanding.{waits_in}
use Rattle.zk_http.specs.Heads.{head_limit}
use Rattle.zk_http.specs.Reading.{bound_at, phase_of, seen_at}
use Rattle.zk_http.proofs.HalfLaws.{between_none, goes_on_head, no_bytes_same, nowhere_known, over_is}
use Rattle.zk_http.proofs.half.Half.gap.Goals as goal

pub returns-in-Head-clause-moves : goal.returns-in-Head-clause-moves
returns-in-Head-clause-moves c side stream case units stands has is =
    let half = c.args.self in
    let both = goes_on_head side half c.in-Head.field-0 stream case units c.in-Head.is stands in
    let free : waits_in (phase_of half.state) c.args.between ≡ false = ap (λ now. waits_in (phase_of now) c.args.between) c.in-Head.is in
    let seen : c.in-Head.field-0.seen ≡ c.args.unused = sym (ap seen_at c.in-Head.is) ∙ c.requires.read free in
    let bound : bound_at half.state ≡ head_limit = ap bound_at c.in-Head.is in
    let seen_is : seen_at half.state ≡ c.args.unused = c.requires.read free in
    c.head_in_gap.ensures.moves side stream case units c.args.after both.0
    (nowhere_known c.in-Head.field-0 half stream c.args.unused c.args.places c.args.after has both.1 seen) (omega (arith, half.few_seen)) has

pub returns-in-Body-clause-moves : goal.returns-in-Body-clause-moves
returns-in-Body-clause-moves c side stream case units stands has is = c.body_in_gap.ensures.moves side stream case units c.args.after stands has

pub returns-in-Head-clause-none : goal.returns-in-Head-clause-none
returns-in-Head-clause-none c side stream case units stands has is =
    let both = goes_on_head side c.args.self c.in-Head.field-0 stream case units c.in-Head.is stands in
    no_bytes_same case stream units c.head_in_gap.result.0.used c.args.self.used both.0.nothing

pub returns-in-Body-clause-none : goal.returns-in-Body-clause-none
returns-in-Body-clause-none c side stream case units stands has is = c.body_in_gap.ensures.none side stream case units c.args.after stands has

pub returns-in-Between-clause-none : goal.returns-in-Between-clause-none
returns-in-Between-clause-none c side stream case units stands has is =
    no_bytes_same case stream units c.begin_in_gap.result.0.used c.args.self.used (between_none case c.args.between (is (ap phase_of c.in-Between.is)))

pub returns-in-Over-clause-none : goal.returns-in-Over-clause-none
returns-in-Over-clause-none c side stream case units stands has is =
    let over = over_is side c.args.self stream case units c.in-Over.is stands in
    no_bytes_same case stream units c.on.result.0.used c.args.self.used (λ places. ap (λ case. data_by case places) over)
