-- The limits of the design file, in one place.
use Rattle.std.specs.Prelude.{ℕ, ◌+◌, ◌*◌, Bool, cond, ◌&&◌, leb, eqb}

-- bytes of a file, and of a piece (document 02, R-4); of a trailer
abbrev pub max_bytes : ℕ
max_bytes = 16384

abbrev pub trailer_bytes : ℕ
trailer_bytes = 16

-- versions are 1 and 2, and the second has a constraint (document 02, R-1)
abbrev pub last_version : ℕ
last_version = 2

abbrev pub constrained : ℕ → Bool
constrained version = eqb version 2

-- "Version 2 has a u16 before the trailer": the bytes behind the items
abbrev pub offset_bytes : ℕ
offset_bytes = 2

abbrev pub tail_bytes : ℕ → ℕ
tail_bytes version = cond (constrained version) (offset_bytes + trailer_bytes) trailer_bytes

-- counts
abbrev pub max_variables : ℕ
max_variables = 32

abbrev pub max_matrices : ℕ
max_matrices = 8

abbrev pub max_cells : ℕ
max_cells = 256

abbrev pub max_statuses : ℕ
max_statuses = 16

abbrev pub max_events : ℕ
max_events = 16

abbrev pub max_movers : ℕ
max_movers = 64

-- the depth of an expression, a leaf being 1, and how deep ifs nest
abbrev pub max_depth : ℕ
max_depth = 16

abbrev pub max_nest : ℕ
max_nest = 4

-- the first 16 events of a matrix have their places in a table
abbrev pub event_places : ℕ
event_places = max_matrices * max_events

-- slots of a state, the mark among them (document 02, R-5), and their bits where every variable is an integer; slots and bits of two states
abbrev pub max_slots : ℕ
max_slots = max_variables + max_matrices + 1

abbrev pub pair_slots : ℕ
pair_slots = 2 * max_slots

abbrev pub max_bits : ℕ
max_bits = 16 * max_variables + 4 * max_matrices + 1

abbrev pub pair_bits : ℕ
pair_bits = 2 * max_bits

-- the tests of a file's length and version, of the trailer's counts, and of the number of movers
abbrev pub length_right : ℕ → Bool
length_right bytes = leb trailer_bytes bytes && leb bytes max_bytes

abbrev pub version_right : ℕ → Bool
version_right version = leb 1 version && leb version last_version

abbrev pub counts_right : ℕ → ℕ → ℕ → Bool
counts_right variables matrices cells = leb variables max_variables && (leb 1 matrices && leb matrices max_matrices) && leb cells max_cells

abbrev pub movers_right : ℕ → Bool
movers_right movers = leb 1 movers && leb movers max_movers
