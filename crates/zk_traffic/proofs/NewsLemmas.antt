-- Runs of bytes among the bytes that are kept.
use Rattle.std.proofs.Common.{◌≡◌, ℕ, ◌<◌, ◌≤◌, get_or, sym, None, Some, List, [], ◌∷◌, ◌++◌, length, map, refl, ap, ◌∙◌, arith}
use Rattle.std.specs.Prelude.{All, slice_get, slice_range}
use Rattle.std.specs.Option.{option_map}
use Rattle.std.proofs.lemmas.Grind.{common_steps}
use Rattle.std.proofs.lemmas.List.Elements.{All-head, All-tail}
use Rattle.std.proofs.lemmas.List.{map-append}
use Rattle.std.proofs.lemmas.Option.{slice_get-get_or, slice_get-map, slice_get_past}
use Rattle.zk_traffic.specs.declared.news.Run.{Run}
use Rattle.zk_traffic.specs.News.{run_in}

range_extended : (bytes more : List ℕ) (start end : ℕ) → end ≤ length bytes → slice_range (bytes ++ more) start end ≡ slice_range bytes start end
range_extended bytes more start end within = grind (arith, common_steps)

range_behind : (bytes more : List ℕ) → slice_range (bytes ++ more) (length bytes) (length (bytes ++ more)) ≡ more
range_behind bytes more = grind (arith, common_steps)

-- bytes behind those of the runs change none of them
pub runs_extended : (bytes more : List ℕ) (runs : List Run) (n : ℕ) → n ≡ length bytes → All (λ (run : Run). run.end ≤ n) runs
    → map (run_in (bytes ++ more)) runs ≡ map (run_in bytes) runs
runs_extended bytes more [] n is within = refl
runs_extended bytes more (run ∷ runs) n is within =
    ap (λ b. record { conn = run.conn; side = run.side; from = run.from; bytes = b } ∷ map (run_in (bytes ++ more)) runs)
    (range_extended bytes more run.start run.end (omega (arith, is, All-head (λ (r : Run). r.end ≤ n) run runs within)))
    ∙ ap (λ l. run_in bytes run ∷ l) (runs_extended bytes more runs n is (All-tail (λ (r : Run). r.end ≤ n) run runs within))

-- a run of bytes that are added behind the others
pub run_added : (bytes more : List ℕ) (runs : List Run) (run : Run) (n : ℕ) → n ≡ length bytes → All (λ (r : Run). r.end ≤ n) runs → run.start ≡ length bytes
    → run.end ≡ length (bytes ++ more)
    → map (run_in (bytes ++ more)) (runs ++ run ∷ []) ≡ map (run_in bytes) runs ++ record { conn = run.conn; side = run.side; from = run.from; bytes = more } ∷ []
run_added bytes more runs run n is within start end =
    map-append (run_in (bytes ++ more)) runs (run ∷ [])
    ∙ ap (λ l. l ++ map (run_in (bytes ++ more)) (run ∷ [])) (runs_extended bytes more runs n is within)
    ∙ ap (λ (b : List ℕ). map (run_in bytes) runs ++ record { conn = run.conn; side = run.side; from = run.from; bytes = b } ∷ [])
    (ap (λ s. slice_range (bytes ++ more) s run.end) start ∙ ap (slice_range (bytes ++ more) (length bytes)) end ∙ range_behind bytes more)

-- the run at a place of the list, with its bytes lent
pub run_lent : (bytes lent : List ℕ) (runs : List Run) (k : ℕ) (r : Run) → k < length runs → r ≡ get_or runs k r → lent ≡ slice_range bytes r.start r.end
    → Some (record { conn = r.conn; side = r.side; from = r.from; bytes = lent }) ≡ slice_get (map (run_in bytes) runs) k
run_lent bytes lent runs k r within is same =
    ap (λ b. Some (record { conn = r.conn; side = r.side; from = r.from; bytes = b })) same
    ∙ ap (λ x. Some (run_in bytes x)) is
    ∙ sym (slice_get-map (run_in bytes) runs k ∙ ap (option_map (run_in bytes)) (slice_get-get_or runs k r within))

pub none_lent : (bytes : List ℕ) (runs : List Run) (k : ℕ) → length runs ≤ k → None ≡ slice_get (map (run_in bytes) runs) k
none_lent bytes runs k past = sym (slice_get-map (run_in bytes) runs k ∙ ap (option_map (run_in bytes)) (slice_get_past runs k past))
