use Rattle.std.proofs.Common.{◌≡◌, ◌+◌, ◌<◌, List, ℕ, ◌++◌, length, drop, refl, sym, ap, subst, ◌∙◌, arith}
use Rattle.zk_reasm.specs.Histories.{content, gap_of, run_of}
use Rattle.zk_reasm.specs.Standing.{StandsFor}
use Rattle.std.specs.declared.vec.Vec.{Vec}
use Rattle.zk_traffic.specs.declared.news.Gap.{Gap as Code}
use Rattle.zk_traffic.specs.Moves.{stretch}
use Rattle.zk_traffic.proofs.PlaceLemmas.{content_behind, gap-passed, length-content, stretch-front, stretch-some}
use Rattle.zk_traffic.proofs.ReadLemmas.{gets_more, stretch-places}
use Rattle.zk_traffic.proofs.StreamLemmas.{adds_first}
use Rattle.zk_units.specs.Cuts.{byte_places, gap_places}
use Rattle.zk_traffic.specs.Reading.{Gets}
use Rattle.zk_traffic.proofs.streams.take_run.Goals as goal

gaps_kept : {Z : Type 0} (more new : List Code) (between old : Vec Code Z) → between ≡ old → new ≡ between.items ++ more → new ≡ old.items ++ more
gaps_kept more new between old same is = cc

pub returns-then-next-place-clause-taken : goal.returns-then-next-place-clause-taken
returns-then-next-place-clause-taken c = λ base limit told stands within.
    let places = content base limit told c.args.place in
    let front = c.front.ensures base limit c.args.place told stands in
    let run = c.run-run.ensures.bytes base limit c.args.place told stands in
    let n = length c.run-run.result.now in
    let taken = c.take.ensures.taken base limit c.args.place told stands in
    let gap : c.gap-gap.result ≡ gap_of places = c.gap-gap.ensures.places base limit (c.args.place + n) told taken
    ∙ ap gap_of (content_behind base limit told c.args.place n) ∙ ap (λ (b : List ℕ). gap_of (drop (length b) places)) run ∙ gap-passed places in
    let len : n ≡ length (run_of places) = ap length run in
    let parts : stretch places ≡ length (run_of places) + gap_of places = refl in
    let some : 0 < length places = omega (arith, length-content base limit told c.args.place, front) in
    absurd (omega (arith, gap, len, parts, stretch-some places some, front))

pub returns-else-next-place-clause-taken : goal.returns-else-next-place-clause-taken
returns-else-next-place-clause-taken c = λ base limit told stands within.
    let places = content base limit told c.args.place in
    let front = c.front.ensures base limit c.args.place told stands in
    let run = c.run-run.ensures.bytes base limit c.args.place told stands in
    let n = length c.run-run.result.now in
    let taken = c.take.ensures.taken base limit c.args.place told stands in
    let gap : c.gap-gap.result ≡ gap_of places = c.gap-gap.ensures.places base limit (c.args.place + n) told taken
    ∙ ap gap_of (content_behind base limit told c.args.place n) ∙ ap (λ (b : List ℕ). gap_of (drop (length b) places)) run ∙ gap-passed places in
    let len : n ≡ length (run_of places) = ap length run in
    let parts : stretch places ≡ length (run_of places) + gap_of places = refl in
    let up_to = stretch-front base limit told c.args.place within in
    let end : c.saturating_add-end.result ≡ c.args.place + n = omega (arith, gap, len, parts, up_to, front) in
    let next : c.saturating_add-next.result ≡ c.args.place + stretch places = omega (arith, gap, len, parts, up_to, front) in
    let skipped = c.skip.ensures base limit (c.args.place + n) told taken in (
      next,
      omega (arith, next, up_to),
      subst (StandsFor c.skip.new.self base limit told) (let same : c.args.place + n + c.gap-gap.result ≡ c.saturating_add-next.result = omega (arith, next, gap, len, parts) in same) skipped,
      adds_first c.args.conn c.args.side base limit told c.args.place c.run-run.result.now c.gap-gap.result c.saturating_add-end.result c.args.news.now c.add_gap.new.self
          run gap end (c.in_ok-add_gap.ensures.runs ∙ c.in_ok-add_run.ensures.runs)
          (gaps_kept _ _ c.add_run.new.self.gaps c.args.news.now.gaps c.in_ok-add_run.ensures.gaps c.in_ok-add_gap.ensures.gaps)
          (c.in_ok-add_gap.ensures.units ∙ c.in_ok-add_run.ensures.units),
      subst (λ l. Gets c.args.side l c.args.readers.now c.add_gap-2.new.self)
          (ap (λ b. byte_places b ++ gap_places c.gap-gap.result) run ∙ ap (λ n. byte_places (run_of places) ++ gap_places n) gap ∙ sym (stretch-places places))
          (gets_more c.args.side (byte_places c.run-run.result.now) (gap_places c.gap-gap.result) c.args.readers.now c.add_bytes.new.self c.add_gap-2.new.self c.in_ok-add_bytes.ensures c.in_ok-add_gap-2.ensures),
    )
