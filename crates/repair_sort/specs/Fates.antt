-- Document 02, R-10: "A report names each entry's number and its fate". A fate is a number of 16 bits. The fate of a kept entry is its new
-- number, below 2,559. Each reason for dropping one has a number above that.
use Rattle.std.specs.Prelude.{ℕ}

-- "fields not allowed"
abbrev pub bad_fields : ℕ
bad_fields = 3_001

-- "block outside the input"
abbrev pub block_outside : ℕ
block_outside = 3_002

-- "a coefficient not finite"
abbrev pub not_finite : ℕ
not_finite = 3_003

-- "one that overlaps the last kept of its body"
abbrev pub overlapping : ℕ
overlapping = 3_004

-- "one for which the output has no room"
abbrev pub no_room : ℕ
no_room = 3_005

-- no fate yet: none of the first three reasons applies, so the entry goes on to be put in order
abbrev pub goes_on : ℕ
goes_on = 3_000
