-- What a block of a certificate file carries. Numbers are little-endian.
use Rattle.std.specs.Prelude.{ℕ, ◌+◌, ◌*◌, ◌/◌, List, length, min, take, slice_index}
use Rattle.std.specs.List.{between}
use Rattle.std.specs.Simd.{first_chunks}
use Rattle.rules.specs.Limits.{block_size, most_used}

abbrev pub word : ℕ → ℕ → ℕ
word low high = low + 256 * high

-- the number in the two bytes at i
abbrev pub word_at : List ℕ → ℕ → ℕ
word_at bs i = word (slice_index bs i) (slice_index bs (i + 1))

-- block k of a file, and where it begins
abbrev pub begins : ℕ → ℕ
begins k = block_size * k

abbrev pub blocks : List ℕ → ℕ
blocks file = length file / block_size

abbrev pub block : ℕ → List ℕ → List ℕ
block k file = between (begins k) (begins (k + 1)) file

-- all blocks of a file
abbrev pub blocks_of : List ℕ → List (List ℕ)
blocks_of file = first_chunks block_size (blocks file) file

-- where the payload begins in a block, and the sum behind it
abbrev pub payload_at : ℕ
payload_at = 4

abbrev pub sum_at : ℕ
sum_at = payload_at + most_used

abbrev pub number_in : List ℕ → ℕ
number_in b = word_at b 0

abbrev pub used_in : List ℕ → ℕ
used_in b = word_at b 2

abbrev pub sum_in : List ℕ → ℕ
sum_in b = word_at b sum_at + 65536 * word_at b (sum_at + 2)

-- the payload that no record takes
abbrev pub unused : List ℕ → List ℕ
unused b = between (payload_at + used_in b) sum_at b

-- the bytes that its records take, as far as the payload goes
abbrev pub used_bytes : List ℕ → List ℕ
used_bytes b = between payload_at (payload_at + min (used_in b) most_used) b

-- the bytes that are summed
abbrev pub summed : List ℕ → List ℕ
summed b = take sum_at b

-- where the used bytes of block k begin and end in the file, and what they are
abbrev pub used_from : ℕ → ℕ
used_from k = begins k + payload_at

abbrev pub used_to : ℕ → List ℕ → ℕ
used_to k file = used_from k + used_in (block k file)

abbrev pub used : ℕ → List ℕ → List ℕ
used k file = between (used_from k) (used_to k file) file
