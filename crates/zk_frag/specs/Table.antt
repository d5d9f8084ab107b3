-- The open groups in their table, and how one fragment changes them. `same` tells whether two keys are equal.
use Rattle.std.specs.Prelude.{◌≡◌, Bool, true, false, List, [], Option, None, Some, if◌then◌else◌}
use Rattle.std.specs.Map.{lookup}
use Rattle.zk_frag.specs.declared.group.Group.{Group}
use Rattle.zk_frag.specs.declared.groups.Groups.{Groups}
use Rattle.zk_frag.specs.declared.joined.Added.{Added}
use Rattle.zk_frag.specs.declared.joined.Added.TheVariants.{Held, Whole}
use Rattle.zk_frag.specs.Assembly.{Holds}
use Rattle.zk_frag.specs.Fragment.{Fragment}
use Rattle.zk_frag.specs.Group.{byte_at, first_moment, is_covered, datagram, named_end, tag_of}
use Rattle.zk_frag.specs.Histories.{left_of}

-- the open group of a table and the fragments that it was given
pub record IsGroup {K T : Type 0} (group : Group T) (fragments : List (Fragment K T)) : Type 0 where
  pub since : first_moment fragments ≡ Some group.since
  pub tag : tag_of fragments ≡ group.tag
  pub holds : Holds group.assembly (byte_at fragments) (named_end fragments)

-- what a table has for the group of a key, which is empty where none is open
abbrev pub Keeps : {K T : Type 0} → Option (Group T) → List (Fragment K T) → Type 0
Keeps None fragments = fragments ≡ []
Keeps (Some group) fragments = IsGroup group fragments

-- what a table has at a key
unfoldable pub group_at : {K T : Type 0} → (K → K → Bool) → Groups K T → K → Option (Group T)
group_at same groups key = lookup (same key) groups.groups.entries

-- a key's group has become these fragments with one that was taken, and the groups of other keys stay
pub record Takes {K T : Type 0} (same : K → K → Bool) (old new : Groups K T) (key : K) (added : Added T) (fragments : List (Fragment K T)) : Type 0 where
  pub answer : added ≡ (if is_covered fragments then Whole (tag_of fragments) else Held)
  pub here : Keeps (group_at same new key) (left_of fragments)
  pub others : (other : K) → same key other ≡ false → group_at same new other ≡ group_at same old other
  pub whole : is_covered fragments ≡ true → new.whole.bytes.items ≡ datagram fragments
  pub stays : is_covered fragments ≡ false → new.whole.bytes.items ≡ old.whole.bytes.items

-- a key's group has the same fragments as before, and the groups of other keys stay
pub record Stays {K T : Type 0} (same : K → K → Bool) (old new : Groups K T) (key : K) : Type 0 where
  pub here : (fragments : List (Fragment K T)) → Keeps (group_at same old key) fragments → Keeps (group_at same new key) fragments
  pub others : (other : K) → same key other ≡ false → group_at same new other ≡ group_at same old other
  pub whole : new.whole.bytes.items ≡ old.whole.bytes.items
