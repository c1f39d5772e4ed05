-- The memory that a run starts with.
use Rattle.std.specs.Prelude.{ℕ, ◌+◌, ◌-◌, Bool, true, false, nat_lt, List, [], ◌∷◌, ◌++◌, length, map, replicate, unwrap_or, if◌then◌else◌}
use Rattle.std.specs.List.{slice_get}
use Rattle.elf_image.specs.Image.{SegmentView, ImageView}
use Rattle.region_mem.specs.Words.{Param, Arg, Passed, ReadWrite, STACK, STACK_SIZE}
use Rattle.region_mem.specs.Parameter.{Argument, address_of}
use Rattle.region_mem.specs.Areas.{Area}
use Rattle.region_mem.specs.Memory.{Memory}

unfoldable pub zeros : ℕ → List ℕ
zeros n = replicate n 0

-- A segment's bytes from the file, then zeros, with the rights of its flags.
unfoldable pub segment_area : SegmentView → Area
segment_area segment = record {
  first = segment.address;
  bytes = segment.bytes ++ zeros (segment.memory_size - length segment.bytes);
  read = segment.read;
  write = segment.write;
  fetch = segment.execute;
}

-- The stack: zeros.
unfoldable pub stack_area : Area
stack_area = record {
  first = STACK;
  bytes = zeros STACK_SIZE;
  read = true;
  write = true;
  fetch = false;
}

-- The place has a buffer that may be written.
unfoldable pub is_writable : Param → Bool
is_writable (Param.Buffer ReadWrite size) = true
is_writable other = false

-- the area of a buffer at a place
unfoldable pub buffer_area : List Param → ℕ → List ℕ → Area
buffer_area params place bytes = record {
  first = unwrap_or (address_of place params) 0;
  bytes = bytes;
  read = true;
  write = is_writable (unwrap_or (slice_get params place) Param.None);
  fetch = false;
}

-- the areas of the buffers at the places from one on
unfoldable pub buffer_areas : List Param → ℕ → List Argument → List Area
buffer_areas params place [] = []
buffer_areas params place (Arg.None ∷ args) = buffer_areas params (place + 1) args
buffer_areas params place (Arg.Scalar value ∷ args) = buffer_areas params (place + 1) args
buffer_areas params place (Arg.Buffer bytes ∷ args) =
    buffer_area params place bytes ∷ buffer_areas params (place + 1) args

-- the areas with one more, in front of those that begin above it
unfoldable pub insert_area : Area → List Area → List Area
insert_area area [] = area ∷ []
insert_area area (other ∷ areas) =
    if nat_lt area.first other.first then area ∷ other ∷ areas else other ∷ insert_area area areas

-- the areas of the second list with those of the first
unfoldable pub insert_areas : List Area → List Area → List Area
insert_areas [] areas = areas
insert_areas (area ∷ others) areas = insert_areas others (insert_area area areas)

-- segments, stack and buffers, in the order of their first addresses
unfoldable pub start_areas : ImageView → List Param → List Argument → List Area
start_areas image params args =
    insert_areas (buffer_areas params 0 args)
    (insert_area stack_area (insert_areas (map segment_area image.segments) []))

-- what a place was passed, without a buffer's bytes
unfoldable pub passed_of : Argument → Passed
passed_of Arg.None = Passed.None
passed_of (Arg.Scalar value) = Passed.Scalar value
passed_of (Arg.Buffer bytes) = Passed.Buffer

-- the memory at the start of a run of an image with these parameters and arguments
unfoldable pub start_memory : ImageView → List Param → List Argument → Memory
start_memory image params args = record {
  areas = start_areas image params args;
  passed = map passed_of args;
}
