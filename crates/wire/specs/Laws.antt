-- What holds of packets and their bytes.
use Rattle.std.specs.Prelude.{◌≡◌, ℕ, ◌-◌, ◌*◌, ◌^◌, ◌<◌, ◌≤◌, true, List, ◌++◌, length, take, drop, Ok, Err, Result, ◌≢◌, bit_xor}
use Rattle.hold.specs.Packet as m
use Rattle.wire.specs.declared.fault.Fault.{Fault}
use Rattle.wire.specs.declared.fault.Fault.TheVariants.{Shape}
use Rattle.wire.specs.declared.fault.WriteError.{WriteError}
use Rattle.crc32c.specs.Crc.{Bytes}
use Rattle.crc32c.specs.Distance.{OneRun, bits_apart, number_of}
use Rattle.wire.specs.Format.{decode, encode, sound}

-- a packet whose tags are numbers of 64 bits, and whose text is bytes
pub record Fits (p : m.Packet) : Type 0 where
  pub from : p.from < 2 ^ 64
  pub to : p.to < 2 ^ 64
  pub text : Bytes p.text

-- what was written to the front of some bytes is read back
abbrev pub ReadsBack : m.Packet → List ℕ → Result ℕ WriteError → Type 0
ReadsBack p after (Err e) = Unit
ReadsBack p after (Ok n) = decode (take n after) ≡ Ok p

-- bytes that were read were written so
abbrev pub WasWritten : List ℕ → Result m.Packet Fault → Type 0
WasWritten s (Ok p) = s ≡ encode p
WasWritten s (Err f) = Unit

-- what is written is read back as it was
abbrev pub WrittenIsRead : Type 0
WrittenIsRead = (p : m.Packet) → Fits p → sound p ≡ true → decode (encode p) ≡ Ok p

-- what is read was written so: there is one way to write a packet
abbrev pub ReadIsWritten : Type 0
ReadIsWritten = (s : List ℕ) (p : m.Packet) → Bytes s → decode s ≡ Ok p → s ≡ encode p

-- different bytes are never the same packet
abbrev pub OneWay : Type 0
OneWay = (s t : List ℕ) (p : m.Packet) → Bytes s → Bytes t → decode s ≡ Ok p → decode t ≡ Ok p → s ≡ t

-- a packet that is cut anywhere is refused
abbrev pub CutIsRefused : Type 0
CutIsRefused = (s : List ℕ) (p : m.Packet) (n : ℕ) → decode s ≡ Ok p → n < length s → decode (take n s) ≡ Err Shape

-- and so is one with bytes behind it
abbrev pub LongerIsRefused : Type 0
LongerIsRefused = (s t : List ℕ) (p : m.Packet) → decode s ≡ Ok p → 0 < length t → decode (s ++ t) ≡ Err Shape

abbrev pub Refused : List ℕ → Type 0
Refused s = (f : Fault) × (decode s ≡ Err f)

-- what stands before the check, and the check
abbrev pub body : List ℕ → List ℕ
body s = take (length s - 4) s

abbrev pub check_of : List ℕ → List ℕ
check_of s = drop (length s - 4) s

-- A packet of which a run of up to 32 bits before the check is changed is refused. Bits are counted as the check takes them, the lowest of each
-- byte first.
abbrev pub RunIsRefused : Type 0
RunIsRefused = (s t : List ℕ) (p : m.Packet) → Bytes s → Bytes t → length s ≡ length t → decode s ≡ Ok p → check_of s ≡ check_of t → OneRun (body s) (body t) → Refused t

-- and so is one of which only the check is changed
abbrev pub OtherCheckIsRefused : Type 0
OtherCheckIsRefused = (s t : List ℕ) (p : m.Packet) → Bytes s → Bytes t → length s ≡ length t → decode s ≡ Ok p → body s ≡ body t → (check_of s ≢ check_of t) → Refused t

-- and one of which up to three bits are changed, anywhere
abbrev pub FewBitsAreRefused : Type 0
FewBitsAreRefused = (s t : List ℕ) (p : m.Packet) → Bytes s → Bytes t → length s ≡ length t → decode s ≡ Ok p → 0 < bits_apart s t → bits_apart s t ≤ 3 → Refused t

-- and one of which a run of up to 30 bits is changed, anywhere
abbrev pub ShortRunIsRefused : Type 0
ShortRunIsRefused = (s t : List ℕ) (p : m.Packet) → Bytes s → Bytes t → length s ≡ length t → decode s ≡ Ok p
    → (first run : ℕ) → 0 < run → run < 2 ^ 30 → bit_xor (number_of s) (number_of t) ≡ run * 2 ^ first → Refused t

-- It does not hold of 32 bits: the check is written high byte first, though its low byte would follow the body's bits, and so a run of 32 bits
-- over the seam between them can make one packet of another.
pub record OpenSeam : Type 0 where
  pub s : List ℕ
  pub t : List ℕ
  pub p : m.Packet
  pub q : m.Packet
  pub was : decode s ≡ Ok p
  pub became : decode t ≡ Ok q
  pub run : OneRun s t
