use Rattle.std.proofs.Common.{[], ◌∷◌, ◌++◌, cond, length, map, ◌≡◌, sym, ap, ◌∙◌, arith}
use Rattle.zk_traffic.specs.Fresh.{FreshRun}
use Rattle.zk_traffic.specs.News.{run_in, runs_of}
use Rattle.zk_traffic.proofs.NewsLemmas.{run_added}
use Rattle.zk_traffic.proofs.news.News.add_run.Goals as goal

pub returns-clause-runs : goal.returns-clause-runs
unfolding runs_of
returns-clause-runs c =
    let one : FreshRun = record { conn = c.args.conn; side = c.args.side; from = c.args.from; bytes = c.args.bytes.now } in
    let old = c.args.self.now in
    let old_len : old.bytes.len ≡ length old.bytes.items = omega arith in
    let new_len : c.extend_from_slice.new.self.len ≡ length c.extend_from_slice.new.self.items = omega arith in
    ap (λ b. map (run_in b) c.push.new.self.items) c.in_ok-extend_from_slice.ensures.items
    ∙ ap (map (run_in (old.bytes.items ++ c.args.bytes.now))) c.in_ok-push.ensures.items
    ∙ run_added old.bytes.items c.args.bytes.now old.runs.items _ old.bytes.len old_len old.within (c.len-start.ensures ∙ old_len)
    (c.len-end.ensures ∙ new_len ∙ ap length c.in_ok-extend_from_slice.ensures.items)
    ∙ sym (ap (λ b. map (run_in old.bytes.items) old.runs.items ++ cond b [] (one ∷ [])) (sym c.is_empty.ensures ∙ c.if-is_empty.false))
