use Rattle.std.proofs.Common.{◌≡◌, ℕ, ◌+◌, List, length, refl, sym, ap, subst, ◌∙◌, arith}
use Rattle.std.specs.Prelude.{Bool, ◌==◌, slice_range}
use Rattle.zk_http.specs.declared.search.Ending.{Ending}
use Rattle.zk_http.specs.Search.{PassesLine, is_end}
use Rattle.zk_http.specs.Lines.{is_empty, line_of}
use Rattle.zk_http.proofs.SearchLaws.{feed_ahead, knows_all, goes_on, finds, line_passed, empty_length}
use Rattle.std.proofs.lemmas.Grind.{common_steps}
use Rattle.zk_http.proofs.search.Search.find.Goals as goal

-- what the code's test of the end says
tested : (ending : Ending) (lines : ℕ) (answer empty : Bool) (line raw : List ℕ) → answer ≡ is_end ending lines empty → empty ≡ (length line == 0)
    → line ≡ line_of raw → is_end ending lines (is_empty (line_of raw)) ≡ answer
tested ending lines answer empty line raw is empty_is line_is =
    ap (λ line. is_end ending lines (is_empty line)) (sym line_is) ∙ ap (is_end ending lines) (sym (empty_is ∙ empty_length line)) ∙ sym is

pub returns-then-is_end-clause-found : goal.returns-then-is_end-clause-found
returns-then-is_end-clause-found c knows =
    let search = c.loop-ahead.search in
    let passed = c.behind_line-search.result in
    let bytes = c.args.bytes.now in
    let end = c.loop-ahead.search.seen + c.in-Some.ahead in
    let raw = slice_range bytes c.loop-ahead.search.line end in
    let up = feed_ahead search c.args.ending bytes c.in-Some.ahead (c.loop-ahead.invariant.knows knows) c.in-Some.ensures.0 c.in-Some.ensures.1 in
    let passes = subst (λ line. PassesLine search passed (length line) (end + 1)) c.line_of-line.ensures c.behind_line-search.ensures in
    let is = line_passed search passed c.args.ending bytes end up.0 up.1 up.2 passes in
    finds passed c.args.ending bytes raw end is up.1
    (tested c.args.ending c.behind_line-search.result.lines c.is_end.result c.is_empty.result c.line_of-line.result.now raw c.is_end.ensures c.is_empty.ensures c.line_of-line.ensures
    ∙ c.if-is_end.true)

pub loop-ahead-preserved : goal.loop-ahead-preserved
loop-ahead-preserved c = record {
  seen = grind (arith, common_steps);
  line = omega arith;
  lines = c.behind_line-search.result.few_lines;
  text = c.behind_line-search.result.short;
  knows = λ knows.
      let search = c.loop-ahead.search in
      let passed = c.behind_line-search.result in
      let bytes = c.args.bytes.now in
      let end = c.loop-ahead.search.seen + c.in-Some.ahead in
      let raw = slice_range bytes c.loop-ahead.search.line end in
      let up = feed_ahead search c.args.ending bytes c.in-Some.ahead (c.loop-ahead.invariant.knows knows) c.in-Some.ensures.0 c.in-Some.ensures.1 in
      let passes = subst (λ line. PassesLine search passed (length line) (end + 1)) c.line_of-line.ensures c.behind_line-search.ensures in
      let is = line_passed search passed c.args.ending bytes end up.0 up.1 up.2 passes in
      goes_on passed c.args.ending bytes raw end is up.1 c.behind_line-search.ensures.0 c.behind_line-search.ensures.1
      (tested c.args.ending c.behind_line-search.result.lines c.is_end.result c.is_empty.result c.line_of-line.result.now raw c.is_end.ensures c.is_empty.ensures c.line_of-line.ensures
      ∙ c.if-is_end.false);
}

pub returns-clause-found : goal.returns-clause-found
returns-clause-found c knows =
    (refl, knows_all c.loop-ahead.search _ c.args.ending c.args.bytes.now (c.loop-ahead.invariant.knows knows) c.in_default.ensures refl refl refl refl)
