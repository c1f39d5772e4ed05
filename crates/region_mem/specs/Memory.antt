-- The memory of a run, and what loads, stores and fetches do with it.
use Rattle.std.specs.Prelude.{◌≡◌, ◌⊎◌, ℕ, Bool, ◌&&◌, nat_le, nat_lt, List, [], ◌∷◌, filter, slice_set, slice_index_or, Option, Some, None, is_some, if◌then◌else◌}
use Rattle.std.specs.List.{position_or_len}
use Rattle.region_mem.specs.Words.{Arg, Passed, Right, Read, Write, Fetch, BUFFERS, BUFFERS_END}
use Rattle.region_mem.specs.Parameter.{Argument}
use Rattle.region_mem.specs.Areas.{Area, nothing, holds, overlaid_area, window_in, with_part, byte_at, is_open_from, number_at, with_number}

-- The areas stand in the order of their first addresses; what was passed stands by place.
pub record Memory : Type 0 where
  pub areas : List Area
  pub passed : List Passed

-- the byte at an address, whatever the rights, where an area holds it
unfoldable pub byte_of : ℕ → Memory → Option ℕ
byte_of address memory = byte_at address memory.areas

-- Each byte of the access lies in an area with the right, and none past the last address.
unfoldable pub is_permitted : Right → ℕ → ℕ → Memory → Bool
is_permitted right address size memory = is_open_from right address size memory.areas

-- A load, a store and a fetch are of one, two or four bytes.
abbrev pub IsAccessSize : ℕ → Type 0
IsAccessSize n = (n ≡ 1) ⊎ (n ≡ 2) ⊎ (n ≡ 4)

-- what a load of n bytes gives, the lowest byte first
unfoldable pub load_of : ℕ → ℕ → Memory → Option ℕ
load_of address n memory =
    if is_permitted Read address n memory then Some (number_at address n memory.areas) else None

-- what a store of the n lowest bytes of a value leaves
unfoldable pub store_of : ℕ → ℕ → ℕ → Memory → Option Memory
store_of address n value memory =
    if is_permitted Write address n memory
    then Some (record memory { areas = with_number address n value memory.areas }) else None

-- the word that a fetch gives
unfoldable pub fetch_of : ℕ → Memory → Option ℕ
fetch_of pc memory =
    if is_permitted Fetch pc 4 memory then Some (number_at pc 4 memory.areas) else None

-- the n bytes from an address on, where one area has them all and they may be read
unfoldable pub window_of : ℕ → ℕ → Memory → Option (List ℕ)
window_of address n memory = window_in Read address n memory.areas

-- One area has all of the n bytes from an address on, and they may be written.
unfoldable pub has_window : ℕ → ℕ → Memory → Bool
has_window address n memory = is_some (window_in Write address n memory.areas)

-- the memory with these bytes from an address on, where one area has room for them all and
-- they may be written
unfoldable pub with_window : ℕ → List ℕ → Memory → Memory
with_window address bytes memory = record memory { areas = with_part address bytes memory.areas }

-- the memory with these bytes over those from an address on, in the area that holds it, and none
-- past its end; over a window as long as they are this is `with_window`
abbrev pub overlaid_window : ℕ → Memory → List ℕ → Memory
overlaid_window address memory bytes =
    let place = position_or_len (holds address) memory.areas in
    record memory {
      areas = slice_set memory.areas place
          (overlaid_area address (slice_index_or memory.areas place nothing) bytes);
    }

-- the area is a buffer's: buffers alone lie here
unfoldable pub is_buffer_area : Area → Bool
is_buffer_area area = nat_le BUFFERS area.first && nat_lt area.first BUFFERS_END

-- what a place gets of the buffers that are left, and the buffers that are left after it
unfoldable pub arg_with : Passed → List Area → Argument
arg_with Passed.None buffers = Arg.None
arg_with (Passed.Scalar value) buffers = Arg.Scalar value
arg_with Passed.Buffer [] = Arg.None
arg_with Passed.Buffer (buffer ∷ buffers) = Arg.Buffer buffer.bytes

unfoldable pub left_after : Passed → List Area → List Area
left_after Passed.None buffers = buffers
left_after (Passed.Scalar value) buffers = buffers
left_after Passed.Buffer [] = []
left_after Passed.Buffer (buffer ∷ buffers) = buffers

-- The buffers stand in the order of their places.
unfoldable pub args_with : List Passed → List Area → List Argument
args_with [] buffers = []
args_with (place ∷ places) buffers =
    arg_with place buffers ∷ args_with places (left_after place buffers)

-- the arguments as they stand: the buffers' bytes, and all else as it was passed
unfoldable pub args_of : Memory → List Argument
args_of memory = args_with memory.passed (filter is_buffer_area memory.areas)
