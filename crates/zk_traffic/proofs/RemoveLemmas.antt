-- The removal of a live conversation.
use Rattle.std.proofs.Common.{◌≡◌, ◌≢◌, ℕ, ◌+◌, ◌≤◌, List, [], ◌∷◌, ◌++◌, None, Some, refl, sym, subst, ◌∙◌}
use Rattle.std.specs.Prelude.{Bool}
use Rattle.zk_base.specs.declared.time.Moment.{Moment}
use Rattle.zk_conn.specs.declared.conns.Removed.{Removed}
use Rattle.zk_conn.specs.declared.key.Key.{Key}
use Rattle.zk_conn.specs.Histories as conn
use Rattle.zk_conn.specs.Standing as conns
use Rattle.zk_conn.specs.Told.{Told, Removal, Ending}
use Rattle.zk_traffic.specs.declared.stream_table.StreamTable.{StreamTable}
use Rattle.zk_traffic.specs.declared.table.Table.{Table}
use Rattle.zk_traffic.specs.Conversation.{Conversation}
use Rattle.zk_traffic.specs.Instances.{removal}
use Rattle.zk_traffic.specs.Kept.{held_in}
use Rattle.zk_traffic.specs.Segments.{Segment}
use Rattle.zk_traffic.specs.StreamTable.{HasStreams, entry_at}
use Rattle.zk_traffic.specs.Table.{Holds, IsFirst, IsLeast, Removes}
use Rattle.zk_traffic.proofs.HoldsLemmas.{facts_known, from_live, holds_removed, is_live, removal_known}

same_Some : {A : Type 0} {a b : A} → Some a ≡ Some b → a ≡ b
same_Some e = cc

-- the table of streams forgets those of a number
pub record Forgets (old new : StreamTable) (number : ℕ) : Type 0 where
  pub limit_is : new.limit ≡ old.limit
  pub entry : entry_at new number ≡ None
  pub others : (n : ℕ) → n ≢ number → entry_at new n ≡ entry_at old n
  pub kept : (c : Conversation) → HasStreams old.limit (entry_at old number) c → held_in old.limit c ≤ old.kept → new.kept + held_in old.limit c ≡ old.kept

pub removed_due : (old new : Table) (t : Moment) (removed : Removed) (limit : ℕ) (segments : List Segment) (gone : Key → Bool) (told : List Told) → Holds old limit segments gone told
    → conn.IsRemoval told t removed → ((key : Key) → conn.IsLive told key removed.conn.0 → conns.StandsFor new.conns (told ++ Removal key removed.at ∷ []))
    → Forgets old.streams new.streams removed.conn.0
    → (found : Removes limit segments gone removed (λ key. Removal key removed.at) told new) × IsFirst limit segments gone removed t found.c
removed_due old new t removed limit segments gone told holds is taken forgets =
    let found = from_live old limit segments gone told is.key removed.conn.0 holds is.first.due.live in (
      record {
        key = is.key;
        c = found.0;
        live = found.1;
        facts_are = same_Some (is.facts ∙ facts_known old limit segments gone told is.key removed.conn.0 found.0 holds found.1);
        holds = holds_removed old new limit segments gone told is.key removed.conn.0 found.0 (Removal is.key removed.at) holds found.1 refl (λ l. refl) (λ l. refl) refl
            (taken is.key is.first.due.live) forgets.limit_is forgets.entry forgets.others
            (subst (λ l. HasStreams l (entry_at old.streams removed.conn.0) found.0 → held_in l found.0 ≤ old.streams.kept → new.streams.kept + held_in l found.0 ≡ old.streams.kept) holds.limit_is (forgets.kept found.0));
      },
      record {
        at_is = same_Some (sym (removal_known old limit segments gone told is.key removed.conn.0 found.0 holds found.1) ∙ is.first.due.at_is);
        due = is.due;
        first = λ key number d live. is.first.first key number (removal d) (record {
          live = is_live old limit segments gone told key number d holds live;
          at_is = removal_known old limit segments gone told key number d holds live;
        });
      },
    )

pub removed_at_end : (old new : Table) (last : Moment) (removed : Removed) (limit : ℕ) (segments : List Segment) (gone : Key → Bool) (told : List Told) → Holds old limit segments gone told
    → conn.IsEnding told last removed → ((key : Key) → conn.IsLive told key removed.conn.0 → conns.StandsFor new.conns (told ++ Ending key last ∷ []))
    → Forgets old.streams new.streams removed.conn.0
    → Removes limit segments gone removed (λ key. Ending key last) told new × IsLeast limit segments gone removed last
removed_at_end old new last removed limit segments gone told holds is taken forgets =
    let found = from_live old limit segments gone told is.key removed.conn.0 holds is.live in (
      record {
        key = is.key;
        c = found.0;
        live = found.1;
        facts_are = same_Some (is.facts ∙ facts_known old limit segments gone told is.key removed.conn.0 found.0 holds found.1);
        holds = holds_removed old new limit segments gone told is.key removed.conn.0 found.0 (Ending is.key last) holds found.1 refl (λ l. refl) (λ l. refl) refl
            (taken is.key is.live) forgets.limit_is forgets.entry forgets.others
            (subst (λ l. HasStreams l (entry_at old.streams removed.conn.0) found.0 → held_in l found.0 ≤ old.streams.kept → new.streams.kept + held_in l found.0 ≡ old.streams.kept) holds.limit_is (forgets.kept found.0));
      },
      record {
        at_is = is.at_last;
        least = λ key number d live. is.least key number (is_live old limit segments gone told key number d holds live);
      },
    )
