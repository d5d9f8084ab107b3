-- Fragments that show what the definitions of `Histories` say.
use Rattle.std.proofs.Common.{◌≡◌, ℕ, pos, List, [], ◌∷◌, Bool, true, false, Some, None, nat_eq, refl}
use Rattle.std.specs.Prelude.{codes}
use Rattle.zk_base.specs.declared.network.Addr.TheVariants.{V4}
use Rattle.zk_frag.specs.declared.key.Key.{Key}
use Rattle.zk_frag.specs.declared.joined.Added.TheVariants as added
use Rattle.zk_frag.specs.declared.joined.Joined.TheVariants.{Held, Ignored, Whole}
use Rattle.zk_frag.specs.Fragment.{Fragment}
use Rattle.zk_frag.specs.Histories.{added_of}
use Rattle.zk_frag.specs.Histories as histories
use Rattle.zk_frag.specs.Ip4Fragments.{Ip4Fragment, joined_of, datagram_of}

one_key : Key
one_key = record { source = V4 0x0a000001; destination = V4 0x0a000002; protocol = 17; identification = 7 }

-- a fragment that comes some microseconds after the first
fragment : ℕ → ℕ → Bool → List ℕ → Ip4Fragment
fragment microseconds place more payload = record {
  moment = record { 0 = pos microseconds };
  key = one_key;
  tag = record {};
  place = place;
  more = more;
  was_cut = false;
  payload = payload;
}

last : Ip4Fragment
last = fragment 0 16 false (codes "CCCCCCCC")

middle : ℕ → Ip4Fragment
middle microseconds = fragment microseconds 8 true (codes "bbbbbbbbXXXXXXXX")

first : ℕ → Ip4Fragment
first microseconds = fragment microseconds 0 true (codes "aaaaaaaaYYYYYYYY")

last_held : joined_of [] last ≡ Held
unfolding last fragment one_key added_of
last_held = refl

middle_held : joined_of (last ∷ []) (middle 0) ≡ Held
unfolding last middle fragment one_key added_of
middle_held = refl

first_whole : joined_of (last ∷ middle 0 ∷ []) (first 0) ≡ Whole
unfolding last middle first fragment one_key added_of
first_whole = refl

first_copies : datagram_of (last ∷ middle 0 ∷ []) (first 0) ≡ codes "aaaaaaaabbbbbbbbCCCCCCCC"
unfolding last middle first fragment one_key histories.datagram_of
first_copies = refl

-- 30 seconds after the group's first fragment
in_time-middle_held : joined_of (last ∷ []) (middle 30000000) ≡ Held
unfolding last middle fragment one_key added_of
in_time-middle_held = refl

in_time-first_whole : joined_of (last ∷ middle 30000000 ∷ []) (first 30000000) ≡ Whole
unfolding last middle first fragment one_key added_of
in_time-first_whole = refl

-- 31 seconds after it
late-middle_held : joined_of (last ∷ []) (middle 31000000) ≡ Held
unfolding last middle fragment one_key added_of
late-middle_held = refl

late-first_held : joined_of (last ∷ middle 31000000 ∷ []) (first 31000000) ≡ Held
unfolding last middle first fragment one_key added_of
late-first_held = refl

-- once it is whole, its group is gone
whole_is_gone : joined_of (last ∷ middle 0 ∷ first 0 ∷ []) last ≡ Held
unfolding last middle first fragment one_key added_of
whole_is_gone = refl

-- 65,535 bytes, and one more
longest_held : joined_of [] (fragment 0 65528 false (codes "1234567")) ≡ Held
unfolding fragment one_key added_of
longest_held = refl

too_long_ignored : joined_of [] (fragment 0 65528 false (codes "12345678")) ≡ Ignored
unfolding fragment one_key added_of
too_long_ignored = refl

-- a fragment of one key with a tag
tagged : ℕ → ℕ → Bool → List ℕ → Fragment ℕ ℕ
tagged tag place more payload = record {
  moment = record { 0 = pos 0 };
  key = 7;
  tag = tag;
  place = place;
  more = more;
  was_cut = false;
  payload = payload;
}

-- the tag isn't that of the fragment that makes the datagram whole, nor of a second one that has byte 0, nor of one at place 0 that has no byte
tag_of_first : added_of nat_eq (tagged 9 0 true [] ∷ tagged 1 0 true (codes "aaaaaaaa") ∷ tagged 2 0 true (codes "aaaaaaaa") ∷ []) (tagged 3 8 false (codes "b"))
    ≡ added.Whole (Some 1)
unfolding tagged added_of
tag_of_first = refl

-- a datagram without bytes has no tag
no_tag : added_of nat_eq [] (tagged 9 0 false []) ≡ added.Whole None
unfolding tagged added_of
no_tag = refl
