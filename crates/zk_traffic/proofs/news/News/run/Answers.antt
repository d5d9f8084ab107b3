use Rattle.std.proofs.Common.{subst, ap, ◌<◌, ◌≤◌, ◌≡◌, get_or, length, List}
use Rattle.std.specs.Prelude.{slice_range}
use Rattle.zk_traffic.specs.declared.news.Run.{Run}
use Rattle.zk_traffic.specs.News.{runs_of}
use Rattle.zk_traffic.proofs.NewsLemmas.{none_lent, run_lent}
use Rattle.zk_traffic.proofs.news.News.run.Goals as goal

pub returns-in-Some : goal.returns-in-Some
unfolding runs_of
returns-in-Some c =
    let run = c.in-Some.run'.now in
    run_lent c.args.self.now.bytes.items _ c.args.self.now.runs.items c.args.k run
    (subst (λ (l : List Run). c.args.k < length l) c.deref.ensures.value c.in-Some.ensures.lookup.3.0)
    (subst (λ (l : List Run). run ≡ get_or l c.args.k run) c.deref.ensures.value c.in-Some.ensures.lookup.1)
    (ap (λ b. slice_range b run.start run.end) c.deref-in-Some.ensures.value)

pub returns-in-None : goal.returns-in-None
unfolding runs_of
returns-in-None c =
    none_lent c.args.self.now.bytes.items c.args.self.now.runs.items c.args.k
    (subst (λ (l : List Run). length l ≤ c.args.k) c.deref.ensures.value c.in-None.ensures.lookup.3)
