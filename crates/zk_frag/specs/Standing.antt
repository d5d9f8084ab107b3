-- What a value of `Groups` stands for.
use Rattle.std.specs.Prelude.{◌≡◌, ℕ, Bool, List, [], ◌∷◌, ◌++◌}
use Rattle.zk_frag.specs.declared.groups.Groups.{Groups}
use Rattle.zk_frag.specs.declared.joined.Joined.TheVariants.{Whole}
use Rattle.zk_frag.specs.Fragment.{Fragment}
use Rattle.zk_frag.specs.Histories.{open_group, joined_of, datagram_of}
use Rattle.zk_frag.specs.Table.{group_at, Keeps}

-- the bytes of the datagram that was last made whole
unfoldable pub whole_of : {K T : Type 0} → Groups K T → List ℕ
whole_of groups = groups.whole.bytes.items

-- The value goes on as one that was given exactly these fragments: of each key it keeps the open group, and behind a
-- fragment that made a datagram whole it has the bytes of the datagram.
pub record StandsFor {K T : Type 0} (same : K → K → Bool) (groups : Groups K T) (given : List (Fragment K T)) : Type 0 where
  pub open_groups : (key : K) → Keeps (group_at same groups key) (open_group same key given)
  pub whole : (earlier : List (Fragment K T)) (last : Fragment K T) → given ≡ earlier ++ last ∷ [] → joined_of same earlier last ≡ Whole
      → groups.whole.bytes.items ≡ datagram_of same earlier last
