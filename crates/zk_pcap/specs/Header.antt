-- The header of a capture (draft-ietf-opsawg-pcap, section 4): in its 24 bytes stand the magic number,
-- the two numbers of the version, the zone, the accuracy, the snaplen and the link type.
use Rattle.std.specs.Prelude.{◌≡◌, ◌≤◌, ◌⊎◌, ℕ, ◌%◌, ◌^◌, Bool, true, false, not, ◌&&◌, ◌||◌, ◌==◌, nat_lt, if◌then◌else◌, List, length, take, drop, Option, Some, None, Result, Ok, Err}
use Rattle.byteorder.specs.Endian.{big_number, little_number}
use Rattle.zk_base.specs.declared.network.TheConstants.{LINKTYPE_ETHERNET, LINKTYPE_RAW}
use Rattle.zk_pcap.specs.declared.headers.Header.{Header}
use Rattle.zk_pcap.specs.declared.headers.Form.{Form}
use Rattle.zk_pcap.specs.declared.faults.CaptureFault.{CaptureFault}
use Rattle.zk_pcap.specs.declared.faults.CaptureFault.TheVariants.{Short, Magic, Version, Link}

-- The bytes of a file that count.
abbrev pub counted : List ℕ → List ℕ
counted bytes = take (2 ^ 40) bytes

-- the number in the first bytes, in the order of the file
abbrev pub number_of : Bool → ℕ → List ℕ → ℕ
number_of true = big_number
number_of false = little_number

-- whether a magic number names nanoseconds; else it names microseconds
abbrev pub nano_of : ℕ → Option Bool
nano_of magic =
    if magic == 0xa1b2c3d4 then Some false else (if magic == 0xa1b23c4d then Some true else None)

-- The numbers of a file stand in the byte order in which its first four bytes are a magic number. Which of the two it is
-- tells the unit of the fractions.
abbrev pub form_after : Option Bool → Option Bool → Option Form
form_after (Some nano) big = Some (record { big = false; nano = nano })
form_after None (Some nano) = Some (record { big = true; nano = nano })
form_after None None = None

-- the form by the first four bytes as a number in either byte order
abbrev pub form_by : ℕ → ℕ → Option Form
form_by little big = form_after (nano_of little) (nano_of big)

abbrev pub form_of : List ℕ → Option Form
form_of bytes = form_by (little_number 4 bytes) (big_number 4 bytes)

abbrev pub is_version_2_4 : (ℕ → List ℕ → ℕ) → List ℕ → Bool
is_version_2_4 number bytes = (number 2 (drop 4 bytes) == 2) && (number 2 (drop 6 bytes) == 4)

-- the low 16 bits of their field
abbrev pub link_of : (ℕ → List ℕ → ℕ) → List ℕ → ℕ
link_of number bytes = number 4 (drop 20 bytes) % 2 ^ 16

-- Ethernet and raw IP
abbrev pub is_link : ℕ → Bool
is_link link = (link == LINKTYPE_ETHERNET) || (link == LINKTYPE_RAW)

-- what stands behind the magic number
abbrev pub header_by : (ℕ → List ℕ → ℕ) → Form → List ℕ → Result Header CaptureFault
header_by number form bytes =
    if nat_lt (length bytes) 8 then Err (Short (length bytes))
    else (if not (is_version_2_4 number bytes) then Err Version
    else (if nat_lt (length bytes) 24 then Err (Short (length bytes))
    else (if not (is_link (link_of number bytes)) then Err Link
    else Ok (record {
      big = form.big;
      nano = form.nano;
      snaplen = number 4 (drop 16 bytes);
      link = link_of number bytes;
    }))))

abbrev pub header_after : Option Form → List ℕ → Result Header CaptureFault
header_after None bytes = Err Magic
header_after (Some form) bytes = header_by (number_of form.big) form bytes

-- the header of a file, or what is wrong with it first
abbrev pub header_of : List ℕ → Result Header CaptureFault
header_of bytes =
    if nat_lt (length bytes) 4 then Err (Short (length bytes)) else header_after (form_of bytes) bytes

-- a file begins with this header
pub record HasHeader (bytes : List ℕ) (header : Header) : Type 0 where
  pub whole : 24 ≤ length bytes
  pub magic : number_of header.big 4 bytes ≡ (if header.nano then 0xa1b23c4d else 0xa1b2c3d4)
  pub major : number_of header.big 2 (drop 4 bytes) ≡ 2
  pub minor : number_of header.big 2 (drop 6 bytes) ≡ 4
  pub snaplen : number_of header.big 4 (drop 16 bytes) ≡ header.snaplen
  pub link : number_of header.big 4 (drop 20 bytes) % 2 ^ 16 ≡ header.link
  pub known : (header.link ≡ LINKTYPE_ETHERNET) ⊎ (header.link ≡ LINKTYPE_RAW)
