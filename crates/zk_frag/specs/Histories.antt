-- What fragments make, by the list of all that were given so far. `same` tells whether two keys are equal.
use Rattle.std.specs.Prelude.{ℕ, Bool, not, ◌&&◌, List, [], filter, fold, if◌then◌else◌}
use Rattle.zk_frag.specs.declared.joined.Added.{Added}
use Rattle.zk_frag.specs.declared.joined.Added.TheVariants.{Held, Ignored, Whole}
use Rattle.zk_frag.specs.declared.joined.Joined.{Joined}
use Rattle.zk_frag.specs.declared.joined.Joined.TheVariants as joined
use Rattle.zk_frag.specs.Fragment.{Fragment, is_ignored}
use Rattle.zk_frag.specs.Group.{is_covered, datagram, joined_by, tag_of}

-- what a fragment did, whatever its datagram's tag
abbrev pub without_tag : {T : Type 0} → Added T → Joined
without_tag Held = joined.Held
without_tag Ignored = joined.Ignored
without_tag (Whole tag) = joined.Whole

module _ {K T : Type 0} where
  -- what is left of a group: nothing once its datagram is whole
  abbrev pub left_of : List (Fragment K T) → List (Fragment K T)
  left_of group = if is_covered group then [] else group

  -- the group that is not yet whole, of the fragments of one key that count
  abbrev pub open_of : List (Fragment K T) → List (Fragment K T)
  open_of fragments = fold (λ group fragment. left_of (joined_by group fragment)) [] fragments

  module _ (same : K → K → Bool) where
    -- the fragments of one key that count, in their order
    abbrev pub fragments_of : K → List (Fragment K T) → List (Fragment K T)
    fragments_of key given = filter (λ fragment. same fragment.key key && not (is_ignored fragment)) given

    -- the group of a key that is not yet whole
    abbrev pub open_group : K → List (Fragment K T) → List (Fragment K T)
    open_group key given = open_of (fragments_of key given)

    -- the group that one more fragment belongs to
    abbrev pub group_of : List (Fragment K T) → Fragment K T → List (Fragment K T)
    group_of given fragment = joined_by (open_group fragment.key given) fragment

    -- what one more fragment does
    unfoldable pub added_of : List (Fragment K T) → Fragment K T → Added T
    added_of given fragment =
        if is_ignored fragment then Ignored
        else if is_covered (group_of given fragment) then Whole (tag_of (group_of given fragment)) else Held

    -- the same, whatever the tag
    abbrev pub joined_of : List (Fragment K T) → Fragment K T → Joined
    joined_of given fragment = without_tag (added_of given fragment)

    -- the bytes of the datagram that it makes whole
    unfoldable pub datagram_of : List (Fragment K T) → Fragment K T → List ℕ
    datagram_of given fragment = datagram (group_of given fragment)
