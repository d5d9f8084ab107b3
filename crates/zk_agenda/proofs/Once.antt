-- Of the events that were scheduled each is dispatched once, or waits still.
use Rattle.std.proofs.Common.{◌≡◌, ℕ, ◌+◌, ◌≤◌, ◌==◌, Bool, true, false, cond, not, List, [], ◌∷◌, ◌++◌, length, map, filter, Option, Some, None, ◌⊎◌, inl, inr, refl, sym, ap, subst, ◌∙◌, arith}
use Rattle.std.specs.Prelude.{nat_lt, if◌then◌else◌, is_some}
use Rattle.std.specs.List.{count_by}
use Rattle.std.proofs.lemmas.Bool.Decides.{nat_tests}
use Rattle.std.proofs.lemmas.List.Sums.{sum_by-append}
use Rattle.zk_base.specs.declared.time.Moment.{Moment}
use Rattle.zk_tree.specs.Table.{Table, first_due}
use Rattle.zk_typed.specs.Program.{Program, Global}
use Rattle.zk_typed.specs.Does.{named}
use Rattle.zk_typed.specs.Running.{Due, EntryDue, EventDue, Turn, due_entries, earlier, entry_turns, event_turns, first_turn, happens, is_before, next_turn, not_waiting, table_behind}
use Rattle.zk_typed.specs.State.{World, with_time}
use Rattle.zk_typed.specs.World.{Scheduled}
use Rattle.zk_agenda.specs.Laws.{waits}
use Rattle.zk_agenda.specs.Onward.{AreScheduled, Onward}
use Rattle.zk_agenda.specs.Trace.{Came, Dispatched, Waited, is_scheduled}
use Rattle.zk_agenda.proofs.Walk.{Follows}
use Rattle.zk_agenda.proofs.Worlds.{dispatch-onward, expire_of-onward}
use Rattle.std.specs.Prelude.{slice_get}

count-cons : {X : Type 0} (p : X → Bool) (x : X) (xs : List X) → count_by p (x ∷ xs) ≡ cond (p x) 1 0 + count_by p xs
count-cons p x xs =
    let parts : count_by p (x ∷ xs) ≡ 0 + cond (p x) 1 0 + count_by p xs = sum_by-append (λ y. cond (p y) 1 0) (x ∷ []) xs in
    omega (arith, parts)

abbrev unless : Bool → ℕ → ℕ
unless test n = if test then 0 else n

unless-none : (test : Bool) → 0 ≡ unless test 0
unless-none true = refl
unless-none false = refl

dropped : (a b k n f m : ℕ) → (b == a) ≡ true → f ≡ unless (a == k) n → m ≡ cond (b == k) 1 0 + n → f ≡ unless (a == k) m
dropped a b k n f m same rest whole = grind (arith, nat_tests)

stays : (a b k n f g m : ℕ) → (b == a) ≡ false → f ≡ unless (a == k) n → g ≡ cond (b == k) 1 0 + f → m ≡ cond (b == k) 1 0 + n → g ≡ unless (a == k) m
stays a b k n f g m other rest more whole = grind (arith, nat_tests)

fewer : (a k w g f : ℕ) → f ≡ unless (a == k) w → w ≤ g → f ≤ g
fewer a k w g f kept most = grind (arith, nat_tests)

taken : (a k w g f : ℕ) → f ≡ unless (a == k) w → w ≤ g → g ≤ 1 → ((a == k) ≡ true → 1 ≤ w) → 0 + cond (a == k) 1 0 + f + g ≡ w + g
taken a k w g f kept most one least = by_test (a == k) refl
  where
    by_test : (test : Bool) → (a == k) ≡ test → 0 + cond (a == k) 1 0 + f + g ≡ w + g
    by_test true is = let some = least is in grind (arith, nat_tests)
    by_test false is = grind (arith, nat_tests)

module _ (order : ℕ) where
  abbrev counted : List Scheduled → ℕ
  counted list = count_by (λ one. one.order == order) list

  -- 1 where so many numbers were given out that this one is among them
  abbrev pub given : World → ℕ
  given world = cond (nat_lt order world.schedulings) 1 0

  abbrev below : ℕ → ℕ
  below n = cond (nat_lt order n) 1 0

  pub record Conserves (before : World) (trace : List Dispatched) (after : World) : Type 0 where
    pub most : waits order before ≤ given before → waits order after ≤ given after
    pub count : waits order before ≤ given before → count_by (is_scheduled order) trace + waits order after + given before ≡ waits order before + given after

  -- Numbers ----------------------------------------------------------------------------------------------------------

  at_most_one : (n : ℕ) → below n ≤ 1
  at_most_one n = grind (arith, nat_tests)

  next-number : (n : ℕ) → cond (n == order) 1 0 + below n ≡ below (n + 1)
  next-number n = grind (arith, nat_tests)

  new-numbers : (now : Moment) (n : ℕ) (more : List Scheduled) → AreScheduled now n more → counted more + below n ≡ below (n + length more)
  new-numbers now n [] are =
      let same : below n ≡ below (n + 0) = ap below (let e : n ≡ n + 0 = omega arith in e) in
      let whole : 0 + below n ≡ below (n + 0) = omega (arith, same) in
      whole
  new-numbers now n (one ∷ more) are =
      let rest = new-numbers now (n + 1) more are.2 in
      let here : cond (one.order == order) 1 0 + below n ≡ below (n + 1) = subst (λ m. cond (m == order) 1 0 + below n ≡ below (n + 1)) (sym are.0) (next-number n) in
      let last : n + 1 + length more ≡ n + length (one ∷ more) = omega arith in
      let whole : counted more + below (n + 1) ≡ below (n + length (one ∷ more)) = rest ∙ ap below last in
      let first : counted (one ∷ more) ≡ cond (one.order == order) 1 0 + counted more = count-cons (λ (e : Scheduled). e.order == order) one more in
      omega (arith, here, whole, first)

  pub onward-conserves : (before after : World) → Onward before after → Conserves before [] after
  onward-conserves before after goes =
      let more = new-numbers before.time before.schedulings goes.more goes.are_scheduled in
      let now : waits order after ≡ waits order before + counted goes.more = ap counted goes.scheduled ∙ sum_by-append _ before.scheduled goes.more in
      let past : given after ≡ below (before.schedulings + length goes.more) = ap below goes.schedulings in
      record {
        most = λ most. omega (arith, most, more, now, past);
        count = λ most. omega (arith, most, more, now, past);
      }

  waited-conserves : (before after : World) (event : _) → Onward before after → Conserves before (record { time = before.time; what = Waited event } ∷ []) after
  waited-conserves before after event goes =
      let quiet = onward-conserves before after goes in
      record { most = quiet.most; count = quiet.count }

  both-conserve : (a b c : World) (first second : List Dispatched) → Conserves a first b → Conserves b second c → Conserves a (first ++ second) c
  both-conserve a b c first second one other = record {
    most = λ most. other.most (one.most most);
    count = λ most.
        let parts = sum_by-append (λ d. cond (is_scheduled order d) 1 0) first second in
        omega (arith, one.count most, other.count (one.most most), parts);
  }

  pub follows : (program : Program) → Follows program Conserves
  follows program = record {
    onward = λ before after passes. onward-conserves before after passes.moves.onward;
    waited = λ before after event passes. waited-conserves before after event passes.moves.onward;
    both = both-conserve;
  }

  -- Turns --------------------------------------------------------------------------------------------------------------

  abbrev one_if : Bool → ℕ
  one_if test = cond test 1 0

  abbrev is_event : Due → Bool
  is_event (EntryDue table number) = false
  is_event (EventDue event) = event.order == order

  abbrev turns_of : List Turn → ℕ
  turns_of list = count_by (λ turn. is_event turn.what) list

  by-first : (turn : Turn) (others : List Turn) (one : Turn) → is_event one.what ≡ true → (turn ≡ one) ⊎ (1 ≤ turns_of others) → 1 ≤ turns_of (turn ∷ others)
  by-first turn others one met (inl same) =
      let counts : one_if (is_event turn.what) ≡ 1 = ap one_if (ap (λ (t : Turn). is_event t.what) same ∙ met) in
      omega (arith, counts, count-cons (λ (t : Turn). is_event t.what) turn others)
  by-first turn others one met (inr behind) = omega (arith, behind, count-cons (λ (t : Turn). is_event t.what) turn others)

  of-earlier : (turn other one : Turn) (before : Bool) → is_before other turn ≡ before → earlier turn (Some other) ≡ one → (turn ≡ one) ⊎ (other ≡ one)
  of-earlier turn other one true is same = inr (sym (ap (λ b. if b then other else turn) is) ∙ same)
  of-earlier turn other one false is same = inl (sym (ap (λ b. if b then other else turn) is) ∙ same)

  first-counted : (list : List Turn) (one : Turn) → first_turn list ≡ Some one → is_event one.what ≡ true → 1 ≤ turns_of list
  first-counted [] one is met = absurd (let no : ⊥ = cc in no)
  first-counted (turn ∷ others) one is met = by-first turn others one met (by_first (first_turn others) refl (λ other there. first-counted others other there))
    where
      by_first : (first : Option Turn) → first_turn others ≡ first → ((other : Turn) → first_turn others ≡ Some other → is_event other.what ≡ true → 1 ≤ turns_of others)
          → (turn ≡ one) ⊎ (1 ≤ turns_of others)
      by_first None none behind = inl (let e : turn ≡ one = cc in e)
      by_first (Some other) there behind =
          let same : earlier turn (Some other) ≡ one = cc in
          elim (of-earlier turn other one (is_before other turn) refl same) [
            | inl here ↦ inl here
            | inr last ↦ inr (behind other there (ap (λ (t : Turn). is_event t.what) last ∙ met))
          ]

  dues-counted : (number : ℕ) (first : Option (Moment × ℕ)) (table : Table) → first_due table.entries ≡ first → turns_of (due_entries number (Some table)) ≡ 0
  dues-counted number None table is = rw is refl
  dues-counted number (Some first) table is = rw is refl

  one-counted : (number : ℕ) (table : Option Table) → turns_of (due_entries number table) ≡ 0
  one-counted number None = refl
  one-counted number (Some table) = dues-counted number (first_due table.entries) table refl

  if-counted : (expires : Bool) (list : List Turn) → turns_of list ≡ 0 → turns_of (if expires then list else []) ≡ 0
  if-counted true list none = none
  if-counted false list none = refl

  entries-counted : (world : World) (number : ℕ) (globals : List Global) → turns_of (entry_turns world number globals) ≡ 0
  entries-counted world number [] = refl
  entries-counted world number (one ∷ others) =
      let here = if-counted (is_some one.expiry) (due_entries number (table_behind world (named world.globals number)))
      (one-counted number (table_behind world (named world.globals number))) in
      let rest = entries-counted world (number + 1) others in
      let parts = sum_by-append (λ (t : Turn). cond (is_event t.what) 1 0) (if is_some one.expiry then due_entries number (table_behind world (named world.globals number)) else []) (entry_turns world (number + 1) others) in
      omega (arith, here, rest, parts)

  events-counted : (list : List Scheduled) → turns_of (map (λ one. record { at = one.due; what = EventDue one }) list) ≡ counted list
  events-counted [] = refl
  events-counted (one ∷ others) =
      let here : turns_of (map (λ one. record { at = one.due; what = EventDue one }) (one ∷ others)) ≡ one_if (one.order == order) + turns_of (map (λ one. record { at = one.due; what = EventDue one }) others) =
      count-cons (λ (t : Turn). is_event t.what) (record { at = one.due; what = EventDue one }) (map (λ one. record { at = one.due; what = EventDue one }) others) in
      here ∙ (ap (λ n. one_if (one.order == order) + n) (events-counted others) ∙ sym (count-cons (λ (e : Scheduled). e.order == order) one others))

  -- an event that comes next waits
  event-waits : (program : Program) (world : World) (one : Turn) → next_turn program world ≡ Some one → is_event one.what ≡ true → 1 ≤ waits order world
  event-waits program world one next met =
      let entries = if world.is_ending then [] else entry_turns world 0 program.globals in
      let there = first-counted (entries ++ event_turns world) one next met in
      let parts = sum_by-append (λ (t : Turn). cond (is_event t.what) 1 0) entries (event_turns world) in
      let none = by_ending world.is_ending in
      omega (arith, there, parts, none, events-counted world.scheduled)
    where
      by_ending : (ending : Bool) → turns_of (if ending then [] else entry_turns world 0 program.globals) ≡ 0
      by_ending true = refl
      by_ending false = entries-counted world 0 program.globals

  -- the others of those that wait
  kept-counted : (one : Scheduled) (list : List Scheduled) → counted (filter (λ other. not (other.order == one.order)) list) ≡ unless (one.order == order) (counted list)
  kept-counted one [] = unless-none (one.order == order)
  kept-counted one (other ∷ others) =
      by_kept (other.order == one.order) refl (kept-counted one others) (count-cons (λ (e : Scheduled). e.order == order) other others)
    where
      kept : List Scheduled
      kept = filter (λ other. not (other.order == one.order)) others

      by_kept : (same : Bool) → (other.order == one.order) ≡ same → counted (filter (λ other. not (other.order == one.order)) others) ≡ unless (one.order == order) (counted others)
          → counted (other ∷ others) ≡ cond (other.order == order) 1 0 + counted others
          → counted (filter (λ other. not (other.order == one.order)) (other ∷ others)) ≡ unless (one.order == order) (counted (other ∷ others))
      by_kept true same rest whole = rw same (dropped one.order other.order order (counted others) _ _ same rest whole)
      by_kept false same rest whole = rw same (stays one.order other.order order (counted others) _ _ _ same rest
          (count-cons (λ (e : Scheduled). e.order == order) other (filter (λ other. not (other.order == one.order)) others)) whole)

  event-conserves : (program : Program) (budget : ℕ) (at : Moment → Moment) (world : World) (moment : Moment) (one : Scheduled)
      → next_turn program world ≡ Some (record { at = moment; what = EventDue one })
      → Conserves world (record { time = at moment; what = Came (record { at = moment; what = EventDue one }) } ∷ []) (not_waiting one (with_time (at moment) world))
  event-conserves program budget at world moment one next =
      let kept = kept-counted one world.scheduled in
      let least = λ (met : (one.order == order) ≡ true). event-waits program world (record { at = moment; what = EventDue one }) next met in
      record {
        most = λ most. fewer one.order order (waits order world) (given world) _ kept most;
        count = λ most. taken one.order order (waits order world) (given world) _ kept most (at_most_one world.schedulings) least;
      }

  -- what comes of a turn
  pub turn-conserves : (program : Program) (budget : ℕ) (at : Moment → Moment) (world : World) (one : Turn) → next_turn program world ≡ Some one
      → Conserves world (record { time = at one.at; what = Came one } ∷ []) (happens program budget (with_time (at one.at) world) one.what)
  turn-conserves program budget at world one next = by_what one.at one.what next
    where
      by_what : (moment : Moment) (what : Due) → next_turn program world ≡ Some (record { at = moment; what = what })
          → Conserves world (record { time = at moment; what = Came (record { at = moment; what = what }) } ∷ []) (happens program budget (with_time (at moment) world) what)
      by_what moment (EntryDue table number) next =
          let quiet = onward-conserves (with_time (at moment) world) _ (expire_of-onward program budget table number (with_time (at moment) world) (slice_get program.globals table)) in
          record { most = quiet.most; count = quiet.count }
      by_what moment (EventDue event) next =
          let waiting = not_waiting event (with_time (at moment) world) in
          both-conserve world waiting _ (record { time = at moment; what = Came (record { at = moment; what = EventDue event }) } ∷ []) []
          (event-conserves program budget at world moment event next) (onward-conserves waiting _ (dispatch-onward program budget waiting event.what))
