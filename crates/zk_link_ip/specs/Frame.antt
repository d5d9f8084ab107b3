-- What a captured frame holds, by places (IEEE 802.3 3.2; IEEE 802.1Q 9.5 and 9.6 for tags; the list of link types
-- of the capture format).
use Rattle.std.specs.Prelude.{ℕ, ◌+◌, ◌/◌, Bool, ◌==◌, ◌&&◌, ◌||◌, not, nat_le, if◌then◌else◌, List, length, drop, slice_index, Option, Some, None, option_and_then}
use Rattle.byteorder.specs.Endian.{big_number}
use Rattle.zk_base.specs.declared.network.TheConstants.{LINKTYPE_ETHERNET, LINKTYPE_RAW}

-- the type field at a place
abbrev pub type_at : List ℕ → ℕ → ℕ
type_at frame place = big_number 2 (drop place frame)

-- a type field that begins a tag of four bytes, of the customer or of the service
abbrev pub is_tag : ℕ → Bool
is_tag type = (type == 0x8100) || (type == 0x88a8)

-- where the type stands: behind the two addresses, and behind each tag there, of which two are passed
abbrev pub type_place : List ℕ → ℕ
type_place frame =
    if is_tag (type_at frame 12) then (if is_tag (type_at frame 16) then 20 else 16) else 12

-- the type at a place and the content behind it; none where the frame ends before it or it is a tag
abbrev pub content_at : List ℕ → ℕ → Option (ℕ × List ℕ)
content_at frame place =
    if nat_le (place + 2) (length frame) && not (is_tag (type_at frame place))
    then Some (type_at frame place, drop (place + 2) frame)
    else None

abbrev pub ethernet_content : List ℕ → Option (ℕ × List ℕ)
ethernet_content frame = content_at frame (type_place frame)

-- a raw frame is a packet of the version that its first four bits say
abbrev pub raw_content : List ℕ → Option (ℕ × List ℕ)
raw_content frame =
    if slice_index frame 0 / 16 == 4 then Some (0x0800, frame)
    else if slice_index frame 0 / 16 == 6 then Some (0x86dd, frame)
    else None

-- the type and content of a frame, by its link type
abbrev pub content_of : ℕ → List ℕ → Option (ℕ × List ℕ)
content_of link frame =
    if link == LINKTYPE_ETHERNET then ethernet_content frame
    else if link == LINKTYPE_RAW then raw_content frame
    else None

-- how many bytes stand before the content: to the end of the type, and none in a raw frame
abbrev pub content_place : ℕ → List ℕ → ℕ
content_place link frame = if link == LINKTYPE_ETHERNET then type_place frame + 2 else 0

-- the IPv4 packet that a frame holds, and what follows it there
abbrev pub ip_part_of : ℕ → List ℕ → Option (List ℕ)
ip_part_of link frame =
    option_and_then (λ found. if found.0 == 0x0800 then Some found.1 else None) (content_of link frame)
