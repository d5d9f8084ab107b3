-- A table of groups after its group of one key changed.
use Rattle.std.proofs.Common.{◌≡◌, Bool, true, false, cond, List, [], Option, None, Some, sym, ap, subst, ◌∙◌}
use Rattle.std.specs.Map.{lookup}
use Rattle.std.proofs.lemmas.Bool.{true≢false}
use Rattle.zk_frag.specs.declared.group.Group.{Group}
use Rattle.zk_frag.specs.declared.groups.Groups.{Groups}
use Rattle.zk_frag.specs.declared.joined.Added.TheVariants.{Held, Whole}
use Rattle.zk_frag.specs.Fragment.{Fragment}
use Rattle.zk_frag.specs.Group.{is_covered, datagram, tag_of}
use Rattle.zk_frag.specs.Histories.{left_of}
use Rattle.zk_frag.specs.Table.{group_at, Keeps, IsGroup, Takes, Stays}

module _ {K T : Type 0} (same : K → K → Bool) (old new : Groups K T) (key : K) where
  -- a table is the same at each other key
  abbrev pub SameElsewhere : Type 0
  SameElsewhere = (other : K) → same key other ≡ false → group_at same new other ≡ group_at same old other

  pub takes_held : (group : Group T) (fragments : List (Fragment K T)) → group_at same new key ≡ Some group → SameElsewhere
      → is_covered fragments ≡ false → IsGroup group fragments → new.whole.bytes.items ≡ old.whole.bytes.items → Takes same old new key Held fragments
  takes_held group fragments held others not_yet is_group stays = record {
    answer = sym (ap (λ b. cond b (Whole (tag_of fragments)) Held) not_yet);
    here = subst (λ o. Keeps o (left_of fragments)) (sym held)
        (subst (IsGroup group) (sym (ap (λ b. cond b [] fragments) not_yet)) is_group);
    others = others;
    whole = λ covered. absurd (true≢false (sym covered ∙ not_yet));
    stays = λ _. stays;
  }

  pub takes_whole : (fragments : List (Fragment K T)) (tag : Option T) → tag_of fragments ≡ tag → group_at same new key ≡ None → SameElsewhere
      → is_covered fragments ≡ true → new.whole.bytes.items ≡ datagram fragments → Takes same old new key (Whole tag) fragments
  takes_whole fragments tag tag_is gone others covered whole = record {
    answer = sym (ap (λ b. cond b (Whole (tag_of fragments)) Held) covered ∙ ap Whole tag_is);
    here = subst (λ o. Keeps o (left_of fragments)) (sym gone) (ap (λ b. cond b [] fragments) covered);
    others = others;
    whole = λ _. whole;
    stays = λ not_yet. absurd (true≢false (sym covered ∙ not_yet));
  }

  pub stays_changed : (was is : Group T) → group_at same old key ≡ Some was → group_at same new key ≡ Some is → SameElsewhere
      → ((fragments : List (Fragment K T)) → IsGroup was fragments → IsGroup is fragments) → new.whole.bytes.items ≡ old.whole.bytes.items → Stays same old new key
  stays_changed was is held becomes others keeps whole = record {
    here = λ fragments kept. subst (λ o. Keeps o fragments) (sym becomes) (keeps fragments (subst (λ o. Keeps o fragments) held kept));
    others = others;
    whole = whole;
  }

  pub stays_same : new.groups.entries ≡ old.groups.entries → new.whole.bytes.items ≡ old.whole.bytes.items → Stays same old new key
  unfolding group_at
  stays_same entries whole = record {
    here = λ fragments kept. subst (λ o. Keeps o fragments) (sym (at key)) kept;
    others = λ other _. at other;
    whole = whole;
  }
    where
      at : (q : K) → group_at same new q ≡ group_at same old q
      at q = ap (lookup (same q)) entries
