-- A packet in bytes, all numbers high byte first:
-- kind (1 byte), flags (1), count (2), from (8), to (8), place (8), upto (8), edge (8), the text's bytes, check (4) over all before it.
use Rattle.std.specs.Prelude.{◌≡◌, ℕ, ◌+◌, ◌-◌, ◌*◌, ◌/◌, ◌%◌, ◌<◌, ◌≤◌, Bool, true, false, cond, not, ◌&&◌, ◌||◌, List, ◌∷◌, ◌++◌, length, take, drop, Some, None, Ok, Err, Option, Result, ◌==◌, nat_le, nat_lt, slice_index}
use Rattle.hold.specs.Packet as m
use Rattle.crc32c.specs.Crc.{crc_of}
use Rattle.packet.specs.Packets.{kind_of}
use Rattle.packet.specs.Kinds.{kind_in, kind_number}
use Rattle.packet.specs.Places.{most_edge, most_place}
use Rattle.packet.specs.Sizes.{text_size}
use Rattle.packet.specs.declared.packet.Kind.{Kind}
use Rattle.wire.specs.Numbers.{number16, number32, number64, bytes2, bytes4, bytes8}
use Rattle.wire.specs.declared.fault.Fault.{Fault}
use Rattle.wire.specs.declared.fault.Fault.TheVariants.{Shape, Check, Zero, Range}
use Rattle.wire.specs.declared.fault.WriteError.{WriteError}
use Rattle.wire.specs.declared.fault.WriteError.TheVariants.{LongText, Refused, ShortRoom}

abbrev pub fault_number : Fault → ℕ
fault_number Shape = 1
fault_number Check = 2
fault_number Zero = 3
fault_number Range = 4

-- bytes of a packet without its text: the fields before it and the check
abbrev pub frame : ℕ
frame = 48

-- last is bit 0, all is bit 1
abbrev pub flags_of : Bool → Bool → ℕ
flags_of last all = cond last 1 0 + 2 * cond all 1 0

abbrev pub is_text : m.Kind → Bool
is_text m.Ask = false
is_text m.Yes = false
is_text m.Text = true
is_text m.Bye = false

abbrev pub is_ask : m.Kind → Bool
is_ask m.Ask = true
is_ask m.Yes = false
is_ask m.Text = false
is_ask m.Bye = false

-- asks, yeses and byes have nothing but their tags
abbrev pub stray_field : m.Packet → Bool
stray_field p = not (is_text p.kind) && (p.last || p.all || not (length p.text == 0) || not (p.place == 0) || not (p.upto == 0) || not (p.edge == 0))

-- all have tags that are not 0, but an ask's receiver has none yet
abbrev pub tag_fault : m.Kind → ℕ → ℕ → Bool
tag_fault k from to = from == 0 || cond (is_ask k) (not (to == 0)) (to == 0)

abbrev pub range_fault : ℕ → ℕ → ℕ → Bool
range_fault place upto edge = nat_lt most_place place || nat_lt most_place upto || nat_lt most_edge edge

-- the first fault of a packet's fields
abbrev pub fault_in : m.Packet → Option Fault
fault_in p = cond (stray_field p) (Some Zero) (cond (tag_fault p.kind p.from p.to) (Some Zero) (cond (range_fault p.place p.upto p.edge) (Some Range) None))

abbrev pub is_none : Option Fault → Bool
is_none None = true
is_none (Some f) = false

abbrev pub unless : Option Fault → m.Packet → Result m.Packet Fault
unless None p = Ok p
unless (Some f) p = Err f

-- the fields as they stand
abbrev pub fields_of : Kind → List ℕ → m.Packet
fields_of k s = record {
  kind = kind_of k;
  from = number64 s 4;
  to = number64 s 12;
  place = number64 s 20;
  text = take (number16 s 2) (drop 44 s);
  last = (slice_index s 1 % 2 == 1);
  upto = number64 s 28;
  all = (slice_index s 1 / 2 % 2 == 1);
  edge = number64 s 36;
}

abbrev pub length_fits : List ℕ → Bool
length_fits s = nat_le (number16 s 2) text_size && length s == frame + number16 s 2

abbrev pub check_fits : List ℕ → Bool
check_fits s = number32 s (length s - 4) == crc_of (take (length s - 4) s)

-- flags, and whatever fault the fields have
abbrev pub decode_fields : Kind → List ℕ → Result m.Packet Fault
decode_fields k s = cond (nat_lt 3 (slice_index s 1)) (Err Zero) (unless (fault_in (fields_of k s)) (fields_of k s))

abbrev pub decode_from : Option Kind → List ℕ → Result m.Packet Fault
decode_from None s = Err Shape
decode_from (Some k) s = cond (length_fits s) (cond (check_fits s) (decode_fields k s) (Err Check)) (Err Shape)

-- the packet that bytes are, or their first fault
abbrev pub decode : List ℕ → Result m.Packet Fault
decode s = decode_from (kind_in (slice_index s 0)) s

-- all before the text
abbrev pub header_of : m.Packet → List ℕ
header_of p =
    kind_number p.kind ∷ flags_of p.last p.all ∷ bytes2 (length p.text)
    ++ (bytes8 p.from ++ (bytes8 p.to ++ (bytes8 p.place ++ (bytes8 p.upto ++ bytes8 p.edge))))

-- what the check is of
abbrev pub covered : m.Packet → List ℕ
covered p = header_of p ++ p.text

-- the bytes of a packet
abbrev pub encode : m.Packet → List ℕ
encode p = covered p ++ bytes4 (crc_of (covered p))

-- a packet that the reader takes
abbrev pub sound : m.Packet → Bool
sound p = nat_le (length p.text) text_size && is_none (fault_in p)

-- why a packet is not written where there is room for so many bytes
abbrev pub Unwritten : m.Packet → ℕ → WriteError → Type 0
Unwritten p room LongText = text_size < length p.text
Unwritten p room (Refused f) = (length p.text ≤ text_size) × (Some f ≡ fault_in p)
Unwritten p room ShortRoom = (sound p ≡ true) × (room < frame + length p.text)

-- what a write to the front of some bytes leaves there, and answers
abbrev pub Written : m.Packet → List ℕ → List ℕ → Result ℕ WriteError → Type 0
Written p before after (Err e) = (after ≡ before) × (sound p && nat_le (frame + length p.text) (length before) ≡ false) × Unwritten p (length before) e
Written p before after (Ok n) = (sound p ≡ true) × (n ≡ frame + length p.text) × (after ≡ encode p ++ drop n before)
