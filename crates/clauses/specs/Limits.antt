-- Limits of the gates and sizes of the formula of an accepted file and piece, from the file's own (design/specs/Limits). The greatest property and bound of a
-- call stand in step/specs/Limits, what a cursor is below in Writing.
use Rattle.std.specs.Prelude.{ℕ, ◌+◌, ◌-◌, ◌*◌, ◌/◌, true}
use Rattle.design.specs.Limits.{max_bytes, trailer_bytes, max_variables, max_cells, max_movers, max_bits}
use Rattle.step.specs.Limits.{max_bound}
use Rattle.clauses.specs.Cost.{add_costs, gates_in, product_cost, product_mark_cost}

-- "19 when n exceeds 2^31-1" (document 02, R-2): the greatest variable that a clause may name
abbrev pub last_variable : ℕ
last_variable = 2147483647

-- Gates by bytes. A product has three bytes of its own, its operator and its constant, for 1,280 gates, and where it marks 162 more (document 02, R-5); no byte of an expression
-- has more. Of an action, an if has three bytes too, its operator and two counts, for a mux for each state bit, which are fewer. The length of an event is one byte. Events do not mark; one number serves all.
abbrev pub gates_of_byte : ℕ
gates_of_byte = gates_in (add_costs product_cost (product_mark_cost true)) / 3 + 1

abbrev pub gates_of_event : ℕ
gates_of_event = gates_of_byte * 255

-- of a text, be it an expression or an action
abbrev pub text_gates : ℕ
text_gates = gates_of_byte * max_bytes

-- P + G, the gates of a frame: all bytes before the trailer, those of a piece (document 02, R-4), the event of each cell, the muxes of each external, and the and that a
-- property ends in (document 02, R-5)
abbrev pub most_gates : ℕ
most_gates = gates_of_byte * (max_bytes - trailer_bytes) + text_gates + gates_of_event * max_cells + max_bits * max_variables + 1

-- F
abbrev pub frame_limit : ℕ
frame_limit = max_bits + most_gates + max_movers

-- No n is greater, of any accepted file, piece and bound: 4,764,315,579. That is more than `last_variable`, so n is tested; the machine numbers of the sizes hold it.
abbrev pub most_variables : ℕ
most_variables = 1 + max_bound * frame_limit + max_bits + most_gates

-- Sizes are sums of products of a count, of movers or frames, and a size: counts up to 2^10 and sizes up to 2^40 fit a machine number.
abbrev pub count_limit : ℕ
count_limit = 1024

abbrev pub size_limit : ℕ
size_limit = 1099511627776
