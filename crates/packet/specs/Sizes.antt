-- The sizes that the code's arrays have.
use Rattle.std.specs.Prelude.{ℕ}

-- bytes of a ring
abbrev pub capacity : ℕ
capacity = 65536

-- most bytes of one text
abbrev pub text_size : ℕ
text_size = 1024
