-- What a stream stands for after one more entry.
use Rattle.std.proofs.Common.{◌≡◌, ℕ, ◌+◌, ◌<◌, ◌≤◌, max, min, Bool, true, false, cond, ◌&&◌, ◌||◌, ltb, leb, List, [], ◌∷◌, ◌++◌, map, Option, None, Some, IsSome, refl, sym, ap, subst, ◌∙◌, ⊎_elim, arith}
use Rattle.std.specs.Prelude.{is_some, unwrap_or}
use Rattle.std.specs.List.{list_any}
use Rattle.std.specs.Option.{option_or}
use Rattle.std.proofs.lemmas.Bool.{cases_lt, true≢false}
use Rattle.zk_reasm.specs.declared.held.Held.{Held}
use Rattle.zk_reasm.specs.declared.place.TheConstants.{PLACES}
use Rattle.zk_reasm.specs.declared.stream.Stream.{Stream}
use Rattle.zk_reasm.specs.Between.{held_between}
use Rattle.zk_reasm.specs.Direction.{moves, reach_then, reach, byte_put, byte_at, run_end, up_to_fin, front, above}
use Rattle.zk_reasm.specs.Held.{byte_kept, taken_of}
use Rattle.zk_reasm.specs.Histories.{is_stop, is_reached, is_over, counted, over_of, front_of, byte_of_stream}
use Rattle.zk_reasm.specs.Judging.{Finishes}
use Rattle.zk_reasm.specs.Place.{distance}
use Rattle.zk_reasm.specs.Parts.{IsFirstFree}
use Rattle.zk_reasm.specs.Standing.{byte_of_kept, StandsFor}
use Rattle.zk_reasm.specs.Told.{Told, Fin, Stop, greatest, payload_places, acknowledged, fin_named, payload_end, fin_place, acked, top}
use Rattle.zk_reasm.proofs.AdvanceLemmas.{Moving, moved_front, moved_covered, moved_order}
use Rattle.zk_reasm.proofs.ContentLemmas.{kept_below, kept_live, kept_over, held_between-bounded, run_facts}
use Rattle.zk_reasm.proofs.HistoryLemmas.{counted_live, counted_more, counted_over}
use Rattle.zk_reasm.proofs.PieceLemmas.{option_or_none, option_or_held}
use Rattle.zk_reasm.proofs.ToldLemmas.{step_of, reach-append, front-append, byte_at-append, fin_place-append, acked-append, payload_end-append, list_any-one}

-- none of the three ways of being over
pub record IsLive (base limit : ℕ) (told : List Told) : Type 0 where
  pub no_stop : list_any is_stop told ≡ false
  pub short : is_reached (fin_place base told) (front base told) ≡ false
  pub within : ltb limit (above base told) ≡ false

pub live_parts : (base limit : ℕ) (told : List Told) → is_over base limit told ≡ false → IsLive base limit told
unfolding is_over
live_parts base limit told live = parts (list_any is_stop told) (is_reached (fin_place base told) (front base told)) (ltb limit (above base told)) refl refl refl live
  where
    parts : (a b c : Bool) → list_any is_stop told ≡ a → is_reached (fin_place base told) (front base told) ≡ b → ltb limit (above base told) ≡ c
        → (a || (b || c)) ≡ false → IsLive base limit told
    parts false false false p q r is = record { no_stop = p; short = q; within = r }
    parts false false true p q r is = absurd (true≢false is)
    parts false true c p q r is = absurd (true≢false is)
    parts true b c p q r is = absurd (true≢false is)

-- a stream that was told so much, before it is seen whether it is over
pub record Reached (mid : Stream) (base limit : ℕ) (told : List Told) (taken : ℕ) : Type 0 where
  pub base_is : mid.base ≡ base
  pub limit_is : mid.limit ≡ limit
  pub fin_is : mid.fin ≡ fin_place base told
  pub live : mid.is_over ≡ false
  pub counts : counted base limit told ≡ told
  pub front_is : mid.held.front ≡ front base told
  pub acked_is : mid.acked ≡ acked base told
  pub payload_is : mid.payload_end ≡ payload_end base told
  pub taken_is : taken_of mid.held ≡ taken
  pub low : taken ≤ mid.held.front
  pub bytes_are : (at : ℕ) → taken ≤ at → byte_kept mid.held at ≡ byte_at base told at
  pub end : payload_end base told ≤ PLACES
  pub behind : (at : ℕ) → payload_end base told ≤ at → byte_at base told at ≡ None
  pub order : is_reached (fin_place base told) (front base told) ≡ false → reach base told ≤ front base told
  pub covered : (at : ℕ) → reach base told ≤ at → at < front base told → IsSome (byte_at base told at)

pub reached_above : (mid : Stream) (base limit : ℕ) (told : List Told) (taken : ℕ) → Reached mid base limit told taken → mid.held.above ≡ above base told
unfolding above byte_kept
reached_above mid base limit told taken reached =
    mid.held.above_counts
    ∙ ap (λ n. held_between (byte_kept mid.held) n PLACES) reached.front_is
    ∙ held_between-bounded (byte_at base told) (byte_kept mid.held) (front base told) (payload_end base told) reached.«end»
    (λ at low. reached.bytes_are at (omega (arith, low, reached.low, reached.front_is))) reached.behind

-- whether it is over now
pub reached_over : (mid : Stream) (base limit : ℕ) (told : List Told) (taken : ℕ) → Reached mid base limit told taken → list_any is_stop told ≡ false
    → over_of base limit told ≡ (is_reached mid.fin mid.held.front || ltb mid.limit mid.held.above)
unfolding is_over
reached_over mid base limit told taken reached no_stop =
    ap (is_over base limit) reached.counts
    ∙ ap (λ b. b || (is_reached (fin_place base told) (front base told) || ltb limit (above base told))) no_stop
    ∙ ap (λ o. is_reached o (front base told) || ltb limit (above base told)) (sym reached.fin_is)
    ∙ ap (λ n. is_reached mid.fin n || ltb limit (above base told)) (sym reached.front_is)
    ∙ ap (λ n. is_reached mid.fin mid.held.front || ltb n (above base told)) (sym reached.limit_is)
    ∙ ap (λ n. is_reached mid.fin mid.held.front || ltb mid.limit n) (sym (reached_above mid base limit told taken reached))

-- the stream once that was seen
pub stands_judged : (mid new : Stream) (base limit : ℕ) (told : List Told) (taken : ℕ) (over : Bool) → Reached mid base limit told taken
    → over_of base limit told ≡ over → Finishes mid new over → new.is_over ≡ over → StandsFor new base limit told taken
stands_judged mid new base limit told taken over reached is finishes new_over = record {
  base_is = finishes.base ∙ reached.base_is;
  limit_is = finishes.limit ∙ reached.limit_is;
  fin_is = finishes.fin ∙ reached.fin_is ∙ ap (fin_place base) (sym reached.counts);
  over_is = new_over ∙ sym is;
  front_is = finishes.front ∙ reached.front_is ∙ front_same;
  acked_is = λ live. finishes.acked ∙ reached.acked_is;
  payload_is = λ live. finishes.payload_end ∙ reached.payload_is;
  taken_is = finishes.taken ∙ reached.taken_is;
  bytes_are = λ at low. bytes over is finishes at low;
  together = record {
    end = subst (λ xs. payload_end base xs ≤ PLACES) (sym reached.counts) reached.«end»;
    behind = λ at past. ap (λ xs. byte_at base xs at) reached.counts ∙ reached.behind at (subst (λ xs. payload_end base xs ≤ at) reached.counts past);
    order = λ live. reached.order (live_parts base limit told (ap (is_over base limit) (sym reached.counts) ∙ live)).short;
    covered = λ live. reached.covered;
  };
}
  where
    front_same : front base told ≡ front_of base limit told
    front_same = ap (front base) (sym reached.counts)

    same : (at : ℕ) → byte_at base told at ≡ byte_of_stream base limit told at
    same at = ap (λ xs. byte_at base xs at) (sym reached.counts)

    bytes : (b : Bool) → over_of base limit told ≡ b → Finishes mid new b → (at : ℕ) → taken ≤ at → byte_kept new.held at ≡ byte_of_kept base limit told at
    bytes true now ends at low = ⊎_elim
        (λ below. ends.below at below ∙ reached.bytes_are at low ∙ same at
        ∙ sym (kept_below base limit told at (omega (arith, below, reached.front_is, front_same))))
        (λ past. ends.above refl at past ∙ sym (kept_over base limit told at now (omega (arith, past, reached.front_is, front_same))))
        (cases_lt at mid.held.front)
    bytes false now ends at low = ends.kept (λ f. true≢false (sym f)) at ∙ reached.bytes_are at low ∙ same at ∙ sym (kept_live base limit told at now)

-- A stream that isn't over, and of which so much was taken, is told an entry that moves the front; then so much is taken.
pub record Moved (old mid : Stream) (base : ℕ) (told : List Told) (entry : Told) (was taken : ℕ) (bytes : ℕ → Option ℕ) (known most : ℕ) : Type 0 where
  pub base_is : mid.base ≡ old.base
  pub limit_is : mid.limit ≡ old.limit
  pub fin_is : mid.fin ≡ old.fin
  pub live : mid.is_over ≡ false
  pub moves_is : moves entry ≡ true
  pub no_fin : fin_named base entry ≡ None
  pub no_stop : is_stop entry ≡ false
  pub acked_is : mid.acked ≡ acked base (told ++ entry ∷ [])
  pub payload_is : mid.payload_end ≡ payload_end base (told ++ entry ∷ [])
  pub taken_is : taken_of mid.held ≡ taken
  pub more : was ≤ taken
  pub low : taken ≤ max was mid.held.front
  pub held : (at : ℕ) → taken ≤ at → byte_kept mid.held at ≡ bytes at
  pub bytes_are : (at : ℕ) → was ≤ at → bytes at ≡ byte_at base (told ++ entry ∷ []) at
  pub known_is : known ≡ min mid.acked (max mid.payload_end (unwrap_or mid.fin 0))
  pub most_is : most ≡ max old.held.front (min PLACES (unwrap_or mid.fin PLACES))
  pub front_moves : (free : ℕ) → IsFirstFree bytes (max old.held.front known) free → mid.held.front ≡ min free most
  pub end : payload_end base (told ++ entry ∷ []) ≤ PLACES
  pub behind : (at : ℕ) → payload_end base (told ++ entry ∷ []) ≤ at → byte_at base (told ++ entry ∷ []) at ≡ None

pub reached_moved : (old mid : Stream) (base limit : ℕ) (told : List Told) (entry : Told) (was taken : ℕ) (bytes : ℕ → Option ℕ) (known most : ℕ)
    → StandsFor old base limit told was → old.is_over ≡ false → Moved old mid base told entry was taken bytes known most
    → Reached mid base limit (told ++ entry ∷ []) taken
reached_moved old mid base limit told entry was taken bytes known most stands on moved = record {
  base_is = moved.base_is ∙ stands.base_is;
  limit_is = moved.limit_is ∙ stands.limit_is;
  fin_is = sym mid_fin;
  live = moved.live;
  counts = counted_more base limit told entry over_false;
  front_is = now;
  acked_is = moved.acked_is;
  payload_is = moved.payload_is;
  taken_is = moved.taken_is;
  low = omega (arith, now, moving.front_is, moved.low, was_low);
  bytes_are = λ at low. moved.held at low ∙ moved.bytes_are at (omega (arith, low, moved.more));
  end = moved.«end»;
  behind = moved.behind;
  order = λ short. moved_order bytes base (told ++ entry ∷ []) old.held.front (reach base told) known mid.fin moving
      (ap (λ o. is_reached o (front base (told ++ entry ∷ []))) (sym mid_fin) ∙ short);
  covered = moved_covered bytes base (told ++ entry ∷ []) old.held.front (reach base told) known mid.fin moving;
}
  where
    over_false : over_of base limit told ≡ false
    over_false = sym stands.over_is ∙ on

    counts : counted base limit told ≡ told
    counts = counted_live base limit told over_false

    parts : IsLive base limit told
    parts = live_parts base limit told (ap (is_over base limit) (sym counts) ∙ over_false)

    old_front : old.held.front ≡ front base told
    old_front = stands.front_is ∙ ap (front base) counts

    was_low : was ≤ old.held.front
    was_low = let facts = run_facts old base limit told was stands in omega (arith, facts.low, facts.high, stands.front_is)

    fin_same : fin_place base (told ++ entry ∷ []) ≡ fin_place base told
    fin_same = fin_place-append base told entry ∙ ap (option_or (fin_place base told)) moved.no_fin ∙ option_or_none (fin_place base told)

    old_fin : old.fin ≡ fin_place base told
    old_fin = stands.fin_is ∙ ap (fin_place base) counts

    mid_fin : fin_place base (told ++ entry ∷ []) ≡ mid.fin
    mid_fin = fin_same ∙ sym old_fin ∙ sym moved.fin_is

    known_same : reach_then base (step_of told entry) ≡ known
    known_same =
        ap (λ b. cond b (min (acked base (told ++ entry ∷ [])) (top base (told ++ entry ∷ []))) 0) moved.moves_is
        ∙ ap (λ n. min n (top base (told ++ entry ∷ []))) (sym moved.acked_is)
        ∙ ap (λ n. min mid.acked (max n (unwrap_or (fin_place base (told ++ entry ∷ [])) 0))) (sym moved.payload_is)
        ∙ ap (λ o. min mid.acked (max mid.payload_end (unwrap_or o 0))) mid_fin
        ∙ sym moved.known_is

    moving : Moving bytes base (told ++ entry ∷ []) old.held.front (reach base told) known mid.fin
    moving = record {
      reach_is = reach-append base told entry ∙ ap (max (reach base told)) known_same;
      front_is = front-append base told entry
          ∙ ap (λ b. max (front base told) (cond b (up_to_fin (run_end base (told ++ entry ∷ [])) (fin_place base (told ++ entry ∷ []))) 0)) moved.moves_is
          ∙ ap (λ o. max (front base told) (up_to_fin (run_end base (told ++ entry ∷ [])) o)) mid_fin
          ∙ ap (λ n. max n (up_to_fin (run_end base (told ++ entry ∷ [])) mid.fin)) (sym old_front);
      order = omega (arith, stands.together.order over_false, old_front);
      front_within = old.held.front_within;
      known_within = omega (arith, moved.known_is, mid.acked_within);
      end = moved.«end»;
      covered = λ at low high.
          let held = stands.together.covered over_false at low (omega (arith, high, old_front)) in
          ap is_some (byte_at-append base told entry at ∙ option_or_held (byte_at base told at) (byte_put base (step_of told entry) at) held) ∙ held;
      behind = moved.behind;
      same = λ at low. moved.bytes_are at (omega (arith, low, was_low));
      short = ap (λ o. is_reached o old.held.front) (moved.fin_is ∙ old_fin) ∙ ap (is_reached (fin_place base told)) old_front ∙ parts.short;
    }

    now : mid.held.front ≡ front base (told ++ entry ∷ [])
    now = moved_front bytes base (told ++ entry ∷ []) old.held.front (reach base told) known most mid.held.front mid.fin moving moved.most_is moved.front_moves

-- a stream that is over is told one more entry, of which nothing is kept
pub stands_over : (old new : Stream) (base limit : ℕ) (told : List Told) (entry : Told) (taken : ℕ) → StandsFor old base limit told taken → old.is_over ≡ true
    → new.base ≡ old.base → new.limit ≡ old.limit → new.is_over ≡ true → new.held ≡ old.held → new.fin ≡ old.fin
    → StandsFor new base limit (told ++ entry ∷ []) taken
stands_over old new base limit told entry taken stands over base_is limit_is over_is held fin = record {
  base_is = base_is ∙ stands.base_is;
  limit_is = limit_is ∙ stands.limit_is;
  fin_is = fin ∙ stands.fin_is ∙ ap (fin_place base) (sym same);
  over_is = over_is ∙ sym now;
  front_is = ap (λ (h : Held). h.front) held ∙ stands.front_is ∙ ap (front base) (sym same);
  acked_is = λ live. absurd (true≢false (sym over_is ∙ live));
  payload_is = λ live. absurd (true≢false (sym over_is ∙ live));
  taken_is = ap taken_of held ∙ stands.taken_is;
  bytes_are = λ at low. ap (λ h. byte_kept h at) held ∙ stands.bytes_are at low
      ∙ ap (λ xs. cond (is_over base limit xs && leb (front base xs) at) None (byte_at base xs at)) (sym same);
  together = record {
    end = subst (λ xs. payload_end base xs ≤ PLACES) (sym same) stands.together.«end»;
    behind = λ at past. ap (λ xs. byte_at base xs at) same ∙ stands.together.behind at (subst (λ xs. payload_end base xs ≤ at) same past);
    order = λ live. absurd (true≢false (sym now ∙ live));
    covered = λ live. absurd (true≢false (sym now ∙ live));
  };
}
  where
    was : over_of base limit told ≡ true
    was = sym stands.over_is ∙ over

    same : counted base limit (told ++ entry ∷ []) ≡ counted base limit told
    same = counted_over base limit told entry was

    now : over_of base limit (told ++ entry ∷ []) ≡ true
    now = ap (is_over base limit) same ∙ was

-- no entry stopped it
pub no_stop_yet : (old : Stream) (base limit : ℕ) (told : List Told) (entry : Told) (taken : ℕ) → StandsFor old base limit told taken → old.is_over ≡ false → is_stop entry ≡ false
    → list_any is_stop (told ++ entry ∷ []) ≡ false
no_stop_yet old base limit told entry taken stands on no_stop =
    let over_false : over_of base limit told ≡ false = sym stands.over_is ∙ on in
    let parts = live_parts base limit told (ap (is_over base limit) (sym (counted_live base limit told over_false)) ∙ over_false) in
    list_any-one is_stop told entry ∙ ap (λ b. b || is_stop entry) parts.no_stop ∙ no_stop

-- a stream that was told an entry that moves the front, and was judged
pub stands_moved : (old mid new : Stream) (base limit : ℕ) (told : List Told) (entry : Told) (was taken : ℕ) (bytes : ℕ → Option ℕ) (known most : ℕ)
    → Finishes mid new (is_reached mid.fin mid.held.front || ltb mid.limit mid.held.above)
    → new.is_over ≡ (mid.is_over || (is_reached mid.fin mid.held.front || ltb mid.limit mid.held.above))
    → StandsFor old base limit told was → old.is_over ≡ false → Moved old mid base told entry was taken bytes known most
    → StandsFor new base limit (told ++ entry ∷ []) taken
stands_moved old mid new base limit told entry was taken bytes known most finishes over stands on moved =
    let reached = reached_moved old mid base limit told entry was taken bytes known most stands on moved in
    let now = is_reached mid.fin mid.held.front || ltb mid.limit mid.held.above in
    stands_judged mid new base limit (told ++ entry ∷ []) taken now reached (reached_over mid base limit (told ++ entry ∷ []) taken reached (no_stop_yet old base limit told entry was stands on moved.no_stop)) finishes
    (over ∙ ap (λ b. b || now) reached.live)

-- an entry that moves no front and puts no byte
pub record IsStill (base : ℕ) (told : List Told) (entry : Told) : Type 0 where
  pub moves_not : moves entry ≡ false
  pub no_ack : unwrap_or (acknowledged base entry) 0 ≡ 0
  pub no_place : payload_places base entry ≡ []
  pub no_byte : (at : ℕ) → byte_put base (step_of told entry) at ≡ None

-- A stream that isn't over is told such an entry.
pub reached_still : (old mid : Stream) (base limit : ℕ) (told : List Told) (entry : Told) (taken : ℕ) → StandsFor old base limit told taken → old.is_over ≡ false
    → IsStill base told entry → mid.base ≡ old.base → mid.limit ≡ old.limit → mid.is_over ≡ old.is_over → mid.acked ≡ old.acked → mid.payload_end ≡ old.payload_end
    → mid.held ≡ old.held → mid.fin ≡ option_or old.fin (fin_named base entry) → Reached mid base limit (told ++ entry ∷ []) taken
reached_still old mid base limit told entry taken stands on still base_is limit_is over_is acked_is payload_is held fin = record {
  base_is = base_is ∙ stands.base_is;
  limit_is = limit_is ∙ stands.limit_is;
  fin_is = fin ∙ ap (λ o. option_or o (fin_named base entry)) (stands.fin_is ∙ ap (fin_place base) counts) ∙ sym (fin_place-append base told entry);
  live = over_is ∙ on;
  counts = counted_more base limit told entry over_false;
  front_is = ap (λ (h : Held). h.front) held ∙ stands.front_is ∙ ap (front base) counts ∙ sym front_same;
  acked_is = acked_is ∙ stands.acked_is on ∙ sym (acked-append base told entry ∙ ap (max (acked base told)) still.no_ack ∙ (let e : max (acked base told) 0 ≡ acked base told = omega arith in e));
  payload_is = payload_is ∙ stands.payload_is on ∙ sym payload_same;
  taken_is = ap taken_of held ∙ stands.taken_is;
  low = let facts = run_facts old base limit told taken stands in
      let same = ap (λ (h : Held). h.front) held in omega (arith, facts.low, facts.high, stands.front_is, same);
  bytes_are = λ at low. ap (λ h. byte_kept h at) held ∙ stands.bytes_are at low ∙ kept_live base limit told at over_false ∙ ap (λ xs. byte_at base xs at) counts ∙ sym (byte_same at);
  end = subst (λ n. n ≤ PLACES) (ap (payload_end base) counts ∙ sym payload_same) stands.together.«end»;
  behind = λ at past. byte_same at ∙ ap (λ xs. byte_at base xs at) (sym counts) ∙ stands.together.behind at (subst (λ n. n ≤ at) (payload_same ∙ ap (payload_end base) (sym counts)) past);
  order = λ short. omega (arith, reach_same, front_same, stands.together.order over_false);
  covered = λ at low high. ap is_some (byte_same at) ∙ stands.together.covered over_false at (omega (arith, low, reach_same)) (omega (arith, high, front_same));
}
  where
    over_false : over_of base limit told ≡ false
    over_false = sym stands.over_is ∙ on

    counts : counted base limit told ≡ told
    counts = counted_live base limit told over_false

    front_same : front base (told ++ entry ∷ []) ≡ front base told
    front_same = front-append base told entry
        ∙ ap (λ b. max (front base told) (cond b (up_to_fin (run_end base (told ++ entry ∷ [])) (fin_place base (told ++ entry ∷ []))) 0)) still.moves_not
        ∙ (let e : max (front base told) 0 ≡ front base told = omega arith in e)

    reach_same : reach base (told ++ entry ∷ []) ≡ reach base told
    reach_same = reach-append base told entry
        ∙ ap (λ b. max (reach base told) (cond b (min (acked base (told ++ entry ∷ [])) (top base (told ++ entry ∷ []))) 0)) still.moves_not
        ∙ (let e : max (reach base told) 0 ≡ reach base told = omega arith in e)

    payload_same : payload_end base (told ++ entry ∷ []) ≡ payload_end base told
    payload_same = payload_end-append base told entry ∙ ap (λ xs. max (payload_end base told) (greatest (map (λ at. at + 1) xs))) still.no_place
        ∙ (let e : max (payload_end base told) 0 ≡ payload_end base told = omega arith in e)

    byte_same : (at : ℕ) → byte_at base (told ++ entry ∷ []) at ≡ byte_at base told at
    byte_same at = byte_at-append base told entry at ∙ ap (option_or (byte_at base told at)) (still.no_byte at) ∙ option_or_none (byte_at base told at)

-- a FIN was told, and the stream was judged
pub stands_fin : (old mid new : Stream) (base limit : ℕ) (told : List Told) (seq taken : ℕ)
    → Finishes mid new (is_reached mid.fin mid.held.front || ltb mid.limit mid.held.above)
    → new.is_over ≡ (mid.is_over || (is_reached mid.fin mid.held.front || ltb mid.limit mid.held.above))
    → StandsFor old base limit told taken → old.is_over ≡ false
    → mid.base ≡ old.base → mid.limit ≡ old.limit → mid.is_over ≡ old.is_over → mid.acked ≡ old.acked → mid.payload_end ≡ old.payload_end
    → mid.held ≡ old.held → mid.fin ≡ option_or old.fin (Some (distance old.base seq)) → StandsFor new base limit (told ++ Fin seq ∷ []) taken
stands_fin old mid new base limit told seq taken finishes over stands on base_is limit_is over_is acked_is payload_is held fin =
    let reached = reached_still old mid base limit told (Fin seq) taken stands on (record { moves_not = refl; no_ack = refl; no_place = refl; no_byte = λ at. refl })
    base_is limit_is over_is acked_is payload_is held (fin ∙ ap (λ b. option_or old.fin (Some (distance b seq))) stands.base_is) in
    let now = is_reached mid.fin mid.held.front || ltb mid.limit mid.held.above in
    stands_judged mid new base limit (told ++ Fin seq ∷ []) taken now reached
    (reached_over mid base limit (told ++ Fin seq ∷ []) taken reached (no_stop_yet old base limit told (Fin seq) taken stands on refl)) finishes
    (over ∙ ap (λ b. b || now) reached.live)

-- the stream was stopped
pub stands_stopped : (old new : Stream) (base limit : ℕ) (told : List Told) (taken : ℕ) → Finishes old new true → new.is_over ≡ true
    → StandsFor old base limit told taken → old.is_over ≡ false → StandsFor new base limit (told ++ Stop ∷ []) taken
unfolding is_over
stands_stopped old new base limit told taken finishes over stands on =
    let reached = reached_still old old base limit told Stop taken stands on (record { moves_not = refl; no_ack = refl; no_place = refl; no_byte = λ at. refl })
    refl refl refl refl refl refl (sym (option_or_none old.fin)) in
    stands_judged old new base limit (told ++ Stop ∷ []) taken true reached
    (ap (is_over base limit) reached.counts
    ∙ ap (λ b. b || (is_reached (fin_place base (told ++ Stop ∷ [])) (front base (told ++ Stop ∷ [])) || ltb limit (above base (told ++ Stop ∷ []))))
    (list_any-one is_stop told Stop ∙ or_true (list_any is_stop told)))
    finishes over
  where
    or_true : (b : Bool) → (b || true) ≡ true
    or_true true = refl
    or_true false = refl
