-- The model's settings that settings of the code are.
use Rattle.std.specs.Prelude.{◌≡◌, ℕ, ◌<◌, ◌≤◌, Some, None, Option}
use Rattle.hold.specs.Packet as m
use Rattle.packet.specs.Sizes.{capacity, text_size}
use Rattle.packet.specs.declared.settings.Settings.{Settings}

abbrev pub cfg_of : Settings → m.Settings
cfg_of s = record { room = s.room; size = s.size }

-- settings with this room and size, or none, exactly where they do not fit
abbrev pub Made : ℕ → ℕ → Option Settings → Type 0
Made room size None = (0 < room → room ≤ capacity → size ≤ text_size → ⊥)
Made room size (Some s) = (s.room ≡ room) × (s.size ≡ size)
