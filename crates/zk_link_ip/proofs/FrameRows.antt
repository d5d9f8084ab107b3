-- Frames that show what the definitions of `Frame` say.
use Rattle.std.proofs.Common.{◌≡◌, ℕ, List, [], ◌∷◌, ◌++◌, Some, None, refl}
use Rattle.zk_link_ip.specs.Frame.{content_of, content_place, ip_part_of}

addresses : List ℕ
addresses = 0 ∷ 0 ∷ 0 ∷ 0 ∷ 0 ∷ 2 ∷ 0 ∷ 0 ∷ 0 ∷ 0 ∷ 0 ∷ 1 ∷ []

plain : content_of 1 (addresses ++ 0x08 ∷ 0x00 ∷ 0x45 ∷ 0x06 ∷ []) ≡ Some (0x0800, 0x45 ∷ 0x06 ∷ [])
unfolding addresses
plain = refl

plain-place : content_place 1 (addresses ++ 0x08 ∷ 0x00 ∷ 0x45 ∷ 0x06 ∷ []) ≡ 14
unfolding addresses
plain-place = refl

-- a service tag, a customer tag, and behind them the type
two_tags : content_of 1 (addresses ++ 0x88 ∷ 0xa8 ∷ 0 ∷ 7 ∷ 0x81 ∷ 0x00 ∷ 0 ∷ 9 ∷ 0x86 ∷ 0xdd ∷ 0x60 ∷ []) ≡ Some (0x86dd, 0x60 ∷ [])
unfolding addresses
two_tags = refl

two_tags-place : content_place 1 (addresses ++ 0x88 ∷ 0xa8 ∷ 0 ∷ 7 ∷ 0x81 ∷ 0x00 ∷ 0 ∷ 9 ∷ 0x86 ∷ 0xdd ∷ 0x60 ∷ []) ≡ 22
unfolding addresses
two_tags-place = refl

three_tags : content_of 1 (addresses ++ 0x81 ∷ 0x00 ∷ 0 ∷ 7 ∷ 0x81 ∷ 0x00 ∷ 0 ∷ 9 ∷ 0x81 ∷ 0x00 ∷ 0 ∷ 5 ∷ 0x08 ∷ 0x00 ∷ 0x45 ∷ []) ≡ None
unfolding addresses
three_tags = refl

-- the frame ends before the type that its tag announces
cut_tag : content_of 1 (addresses ++ 0x81 ∷ 0x00 ∷ 0 ∷ 7 ∷ 0x08 ∷ []) ≡ None
unfolding addresses
cut_tag = refl

cut_type : content_of 1 (addresses ++ 0x08 ∷ []) ≡ None
unfolding addresses
cut_type = refl

raw_four : content_of 101 (0x45 ∷ 0x00 ∷ []) ≡ Some (0x0800, 0x45 ∷ 0x00 ∷ [])
raw_four = refl

raw_four-place : content_place 101 (0x45 ∷ 0x00 ∷ []) ≡ 0
raw_four-place = refl

raw_six : content_of 101 (0x60 ∷ []) ≡ Some (0x86dd, 0x60 ∷ [])
raw_six = refl

raw_other : content_of 101 (0x50 ∷ []) ≡ None
raw_other = refl

raw_empty : content_of 101 [] ≡ None
raw_empty = refl

other_link : content_of 113 (0x45 ∷ []) ≡ None
other_link = refl

-- an ARP message is no IPv4 packet
arp : ip_part_of 1 (addresses ++ 0x08 ∷ 0x06 ∷ 0x00 ∷ 0x01 ∷ []) ≡ None
unfolding addresses
arp = refl
