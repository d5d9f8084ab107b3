-- A value before the first packet, and behind the end.
use Rattle.std.proofs.Common.{◌≡◌, ℕ, true, false, [], ◌++◌, map, OnOk, Result, Ok, Err, refl, sym, ap, subst, ◌∙◌, append_assoc}
use Rattle.zk_frag.specs.Ip4Fragments as frags
use Rattle.zk_base.specs.NetworkTime.{now}
use Rattle.zk_traffic.specs.declared.options.Options.{Options}
use Rattle.zk_traffic.specs.declared.traffic.Traffic.{Traffic}
use Rattle.zk_traffic.specs.Datagram.{fragments}
use Rattle.zk_traffic.specs.History.{History, at_start}
use Rattle.zk_traffic.specs.Instances.{live_at}
use Rattle.zk_traffic.specs.Items.{items_at_end, items_of, items_so_far, removed_at}
use Rattle.zk_traffic.specs.News.{runs_of}
use Rattle.zk_traffic.specs.Segments.{segments}
use Rattle.zk_traffic.specs.Standing.{StandsFor}
use Rattle.zk_traffic.specs.Table.{IsCurrent}
use Rattle.zk_traffic.specs.Waiting.{items_in}
use Rattle.zk_traffic.proofs.RecordLemmas.{items_ended, not_nil}

pub on_ok_is : {A E : Type 0} {P Q : Type 0} (r : Result A E) → OnOk r P → ((a : A) → r ≡ Ok a → P → Q) → OnOk r Q
on_ok_is (Ok a) p then = then a refl p
on_ok_is (Err e) p then = tt

pub stands_new : (new : Traffic) (options : Options) (link : ℕ) → new.has_failed ≡ false → new.options ≡ options → new.link ≡ link → new.time ≡ now [] → frags.StandsFor new.frags []
    → IsCurrent new.connections.table options.buffer [] (now []) → items_in new.connections.items ≡ [] → runs_of new.connections.news ≡ [] → StandsFor new (at_start options link)
unfolding items_of items_so_far segments fragments
stands_new new options link works options_are link_is time_is frags_are table_is items_are no_runs = record {
  works = works;
  options_are = options_are;
  link_is = link_is;
  time_is = time_is;
  frags_are = frags_are;
  table_is = table_is;
  items_are = items_are;
  none_fresh = λ none. no_runs;
  fresh_is = λ step is. absurd (not_nil step.before step.last (sym is));
}

pub stands_ended : (old new : Traffic) (h : History) → StandsFor old h → h.ended ≡ false
    → new.has_failed ≡ false → new.options ≡ old.options → new.link ≡ old.link → new.time ≡ old.time → new.frags ≡ old.frags → new.connections.table.streams.kept ≡ 0
    → items_in new.connections.items ≡ items_in old.connections.items ++ map (removed_at (now h.records)) (live_at h.options.buffer (segments h.options h.records) (now h.records))
    → new.connections.news ≡ old.connections.news → StandsFor new (record h { ended = true })
unfolding items_at_end
stands_ended old new h stands goes_on works options_are link_is time_is frags_are none_kept items_are news_are = record {
  works = works;
  options_are = options_are ∙ stands.options_are;
  link_is = link_is ∙ stands.link_is;
  time_is = time_is ∙ stands.time_is;
  frags_are = subst (λ f. frags.StandsFor f (fragments h.options h.records)) (sym frags_are) stands.frags_are;
  table_is = none_kept;
  items_are = ap (λ l. h.given ++ l) items_are ∙ sym (append_assoc h.given (items_in old.connections.items) (items_at_end h.options h.records))
      ∙ ap (λ l. l ++ items_at_end h.options h.records) (stands.items_are ∙ ap (items_of h.options h.records) goes_on) ∙ sym (items_ended h.options h.records);
  none_fresh = λ none. ap runs_of news_are ∙ stands.none_fresh none;
  fresh_is = λ step is. ap runs_of news_are ∙ stands.fresh_is step is;
}
