-- The greatest and smallest numbers that the rules allow.
use Rattle.std.specs.Prelude.{ℕ}

abbrev pub most_places : ℕ
most_places = 96

abbrev pub most_cues : ℕ
most_cues = 256

abbrev pub most_arcs : ℕ
most_arcs = 2048

abbrev pub most_moves : ℕ
most_moves = most_arcs

abbrev pub most_threads : ℕ
most_threads = 12

-- of a thread
abbrev pub fewest_states : ℕ
fewest_states = 2

abbrev pub most_states : ℕ
most_states = 8

abbrev pub most_conditions : ℕ
most_conditions = 16

-- of a condition
abbrev pub most_rows : ℕ
most_rows = 4

-- of an arc, taken or given
abbrev pub most_weight : ℕ
most_weight = 255

-- on a place, in a start or a running show
abbrev pub most_tokens : ℕ
most_tokens = 65535

-- bytes of a block of a certificate file
abbrev pub block_size : ℕ
block_size = 512

-- of a certificate file
abbrev pub most_blocks : ℕ
most_blocks = 128

-- bytes of a block that records may take
abbrev pub most_used : ℕ
most_used = 504
